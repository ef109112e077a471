use Rattle.std.proofs.Common.{OnOk, sym, subst}
use Rattle.std.proofs.lemmas.Result.{on_ok_weaker}
use Rattle.html_render_layout_buffer.specs.Parts.{part_elements}
use Rattle.html_render_layout_tagged.specs.Progress.{Takes}
use Rattle.html_render_layout_tagged.proofs.grouping.Progress.push_part.Goals as goal

pub returns-in-Text : goal.returns-in-Text
returns-in-Text g c =
    subst (λ p. OnOk c.push_text.result (Takes g.A.PartialEq.eq c.args.stacks.now c.args.names.now c.args.self.now (part_elements p) c.push_text.new.self))
    (sym c.in-Text.is) (on_ok_weaker c.push_text.result (λ takes. takes c.args.names.now) c.push_text.ensures)

pub returns-in-Mark : goal.returns-in-Mark
returns-in-Mark g c =
    subst (λ p. OnOk c.push_mark.result (Takes g.A.PartialEq.eq c.args.stacks.now c.args.names.now c.args.self.now (part_elements p) c.push_mark.new.self))
    (sym c.in-Mark.is) c.push_mark.ensures
