use Rattle.std.proofs.Common.{ap, ◌∙◌}
use Rattle.html_render_layout_lines.specs.TaggedText.{Content}
use Rattle.html_render_layout_lines.proofs.TaggedTexts.{all-opened}
use Rattle.html_render_layout_lines.proofs.line.tagged_text.TaggedText.open.Goals as goal

pub returns : goal.returns
returns g c =
    let tag = ap (λ (t : Content g.row.T.Denot g.row.M.Denot). t.tag) c.self.view_is ∙ c.requires in
    let same = all-opened c.self.inside.runs.items c.self.inside.tag c.args.tag c.self.inside.start
    c.self.inside.text c.self.invariant tag in
    let elements = ap (λ (t : Content g.row.T.Denot g.row.M.Denot). t.elements) c.self.view_is in
    cc
