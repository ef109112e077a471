use Rattle.std.proofs.Common.{ap, ◌∙◌}
use Rattle.html_render_layout_lines.specs.TaggedText.{Content}
use Rattle.html_render_layout_lines.proofs.TaggedTexts.{all-longer, is-longer}
use Rattle.html_render_layout_lines.proofs.line.tagged_text.TaggedText.push_here.Goals as goal

pub invariant_of-self-2 : goal.invariant_of-self-2
invariant_of-self-2 g c =
    let tag = ap (λ (t : Content g.row.T.Denot g.row.M.Denot). t.tag) c.self.view_is ∙ c.requires in
    rw c.in_ok-push_str.ensures.ok (is-longer _ _ c.args.tag _ _ _ c.self.invariant tag c.utf8.text)

pub returns-clause-ok : goal.returns-clause-ok
returns-clause-ok g c =
    let tag = ap (λ (t : Content g.row.T.Denot g.row.M.Denot). t.tag) c.self.view_is ∙ c.requires in
    let same = all-longer c.self.inside.runs.items c.self.inside.tag c.args.tag c.self.inside.start
    c.self.inside.text c.args.text.now c.self.invariant tag in
    let elements = ap (λ (t : Content g.row.T.Denot g.row.M.Denot). t.elements) c.self.view_is in
    rw c.in_ok-push_str.ensures.ok (cc)
