use Rattle.std.proofs.Common.{◌≡◌, ◌++◌, replicate, ap, ◌∙◌}
use Rattle.std.specs.Prelude.{Some}
use Rattle.html_render_layout_buffer.proofs.TagLists.{longer}
use Rattle.html_render_layout_buffer.proofs.runs.TagRuns.push.Goals as goal

pub invariant_of-self : goal.invariant_of-self
invariant_of-self g c =
    let own : c.self.inside.tag ≡ Some c.args.tag = c.if-is_tag.ensures in
    (longer _ _ c.args.tag _ _ c.args.count _ c.self.invariant own c.in_ok-self-inside.ensures).0

pub returns-then-is_tag-clause-ok : goal.returns-then-is_tag-clause-ok
returns-then-is_tag-clause-ok g c =
    let own : c.self.inside.tag ≡ Some c.args.tag = c.if-is_tag.ensures in
    (longer _ _ c.args.tag _ _ c.args.count _ c.self.invariant own c.in_ok-self-inside.ensures).1 ∙ ap (λ y. y ++ replicate c.args.count c.args.tag) c.self.view_is
