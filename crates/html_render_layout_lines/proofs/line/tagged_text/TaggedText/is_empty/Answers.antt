use Rattle.std.proofs.Common.{◌≡◌, ◌==◌, sym, ap, ◌∙◌, length, true, false}
use Rattle.html_render_layout_lines.specs.TaggedText.{Content}
use Rattle.html_render_layout_lines.proofs.TaggedTexts.{some-bytes, no-bytes}
use Rattle.html_render_layout_lines.proofs.line.tagged_text.TaggedText.is_empty.Goals as goal

pub returns-then-is_empty : goal.returns-then-is_empty
returns-then-is_empty g c =
    let text : (length c.self.inside.text == 0) ≡ true =
    sym (c.is_empty.ensures ∙ ap (λ bs. length bs == 0) c.as_str.ensures) ∙ c.if-is_empty.true in
    let same = no-bytes c.self.inside.runs.items c.self.inside.tag c.self.inside.start
    c.self.inside.text c.self.invariant text in
    let elements = ap (λ (t : Content g.row.T.Denot g.row.M.Denot). length t.elements == 0) c.self.view_is in
    c.is_empty-then-is_empty.ensures ∙ ap (λ rs. length rs == 0) c.as_slice.ensures.value ∙ same ∙ elements

pub returns-else-is_empty : goal.returns-else-is_empty
returns-else-is_empty g c =
    let text : (length c.self.inside.text == 0) ≡ false =
    sym (c.is_empty.ensures ∙ ap (λ bs. length bs == 0) c.as_str.ensures) ∙ c.if-is_empty.false in
    let same = some-bytes c.self.inside.runs.items c.self.inside.tag c.self.inside.start
    c.self.inside.text c.self.invariant text in
    let elements = ap (λ (t : Content g.row.T.Denot g.row.M.Denot). length t.elements == 0) c.self.view_is in
    c.if-is_empty.false ∙ sym same ∙ elements
