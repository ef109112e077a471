use Rattle.std.proofs.Common.{◌≡◌, ◌<◌, length, arith}
use Rattle.std.proofs.lemmas.Grind.{common_steps}
use Rattle.std.proofs.lemmas.Result.{on_ok_weaker}
use Rattle.html_render_layout_tagged.proofs.Taking.{Takes-empty, Takes-text}
use Rattle.html_render_layout_tagged.proofs.grouping.Progress.push_text.Goals as goal

pub returns-then-is_empty : goal.returns-then-is_empty
returns-then-is_empty g c =
    let none : length c.args.text.now ≡ 0 = grind (arith, common_steps) in
    λ names. Takes-empty g.A.PartialEq.eq c.args.stacks.now names c.args.self.now c.args.text.now c.args.tag none

pub returns : goal.returns
returns g c =
    let some : 0 < length c.args.text.now = grind (arith, common_steps) in
    on_ok_weaker c.push_str.result
    (λ h names. Takes-text g.A.PartialEq.eq c.args.stacks.now names g.met.A.Eq.laws c.args.self.now c.push_str.new.self c.args.text.now
    c.args.tag c.utf8.text some h)
    c.push_str.ensures
