use Rattle.std.proofs.Common.{sym, ap, ◌∙◌}
use Rattle.html_render_layout_paragraphs.specs.Feeding.{is_stretch_kind}
use Rattle.html_render_layout_paragraphs.proofs.Stretches.{first-stretch, stretch-kinds}
use Rattle.html_render_layout_paragraphs.proofs.paragraph.feeding.first_stretch.Goals as goal

pub returns-in-Letter : goal.returns-in-Letter
returns-in-Letter c =
    first-stretch c.args.mode c.args.text.now c.split_first_character-c.result.1.now c.split_first_character-c.result.0
    c.class_of-class.result.width
    c.utf8.text c.split_first_character-c.ensures.text c.split_first_character-c.ensures.bytes
    (ap is_stretch_kind (sym c.class_of-class.ensures.kind) ∙ stretch-kinds c.class_of-class.result.kind c.in-Letter.is)
    c.class_of-class.ensures.width
