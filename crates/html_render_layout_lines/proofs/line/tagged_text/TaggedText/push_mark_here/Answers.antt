use Rattle.std.proofs.Common.{ap, ◌∙◌}
use Rattle.html_render_layout_lines.specs.TaggedText.{Content}
use Rattle.html_render_layout_lines.proofs.TaggedTexts.{all-marked, is-marked}
use Rattle.html_render_layout_lines.proofs.line.tagged_text.TaggedText.push_mark_here.Goals as goal

pub invariant_of-self-2 : goal.invariant_of-self-2
invariant_of-self-2 g c = rw c.in_ok-push.ensures.items (is-marked _ _ _ _ _ c.self.invariant)

pub returns-clause-ok : goal.returns-clause-ok
returns-clause-ok g c =
    let tag = ap (λ (t : Content g.row.T.Denot g.row.M.Denot). t.tag) c.self.view_is ∙ c.requires in
    let same = all-marked c.self.inside.runs.items c.self.inside.tag c.args.mark c.self.inside.start
    c.self.inside.text c.self.invariant tag in
    let elements = ap (λ (t : Content g.row.T.Denot g.row.M.Denot). t.elements) c.self.view_is in
    let items = c.in_ok-push.ensures.items in
    rw items (cc)
