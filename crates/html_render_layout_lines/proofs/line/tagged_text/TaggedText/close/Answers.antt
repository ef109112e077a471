use Rattle.std.proofs.Common.{ap, length}
use Rattle.html_render_layout_lines.specs.TaggedText.{Content}
use Rattle.html_render_layout_lines.proofs.TaggedTexts.{all-closed, is-closed}
use Rattle.html_render_layout_lines.proofs.line.tagged_text.TaggedText.close.Goals as goal

pub invariant_of-self-2 : goal.invariant_of-self-2
invariant_of-self-2 g c =
    let end = ap length c.as_str-text.ensures in
    rw c.in_ok-push_closed.ensures.ok (is-closed _ _ _ _ _ c.self.invariant end)

pub returns-clause-ok : goal.returns-clause-ok
returns-clause-ok g c =
    let end = ap length c.as_str-text.ensures in
    let same = all-closed c.self.inside.runs.items c.self.inside.tag c.self.inside.start _
    c.self.inside.text c.self.invariant end in
    let elements = ap (λ (t : Content g.row.T.Denot g.row.M.Denot). t.elements) c.self.view_is in
    rw c.in_ok-push_closed.ensures.ok (cc)
