use Rattle.std.proofs.lemmas.Bool.{OnTrue_at}
use Rattle.html_render_layout_paragraphs.proofs.paragraph.Paragraph.whole_width.Goals as goal

pub returns-then-ends_in_character-clause-whole : goal.returns-then-ends_in_character-clause-whole
returns-then-ends_in_character-clause-whole g c =
    let whole = OnTrue_at c.if-ends_in_character.true c.ends_in_character.ensures in
    rw (← c.self.view_is) whole
