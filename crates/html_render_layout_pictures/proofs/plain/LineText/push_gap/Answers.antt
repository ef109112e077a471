use Rattle.std.proofs.Common.{◌≡◌, ◌-◌, ◌++◌, cond, replicate, ap, ◌∙◌, subst, arith, OnOk}
use Rattle.std.specs.Str.{chars}
use Rattle.html_render_layout_pictures.specs.declared.borders.TheConstants.{BORDERS}
use Rattle.html_render_layout_pictures.proofs.PlainLines.{gap-parted}
use Rattle.html_render_layout_pictures.proofs.plain.LineText.push_gap.Goals as goal

pub returns : goal.returns
returns c =
    let few = c.min-few.result in
    let all = ap (λ cs. cs ++ chars c.end_of_gap.result.now) c.in_ok-push_spaces.ensures
    ∙ ap (λ cs. (c.args.self.now ++ replicate (c.args.missing - few) 0x20) ++ cs) c.end_of_gap.ensures
    ∙ gap-parted c.args.self.now c.args.missing few (cond c.args.borders BORDERS.separator 0x20) (omega arith) in
    subst (λ cs. OnOk c.push_str.result (c.push_str.new.self ≡ cs)) all c.push_str.ensures
