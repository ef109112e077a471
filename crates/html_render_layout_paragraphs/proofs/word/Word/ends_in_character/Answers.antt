use Rattle.html_render_layout_paragraphs.proofs.WholeWords.{ends-parts}
use Rattle.html_render_layout_paragraphs.proofs.word.Word.ends_in_character.Goals as goal

pub returns : goal.returns
returns g c =
    ends-parts c.args.self.now c.parts-parts.result.closed.now c.parts-parts.result.tag c.parts-parts.result.closed_text.now
    c.parts-parts.result.open_text.now c.self.inside.text.elements c.is_empty.result c.self.view_is c.parts-parts.ensures.has_tag
    c.parts-parts.ensures.utf8 c.parts-parts.ensures.elements c.is_empty.ensures
