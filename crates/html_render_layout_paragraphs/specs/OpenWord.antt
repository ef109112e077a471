-- The open word: whether there is one, and whether white space is preserved in its text.
use Rattle.std.specs.Prelude.{Bool, true, false, Option, Some, None}
use Rattle.html_render_layout_paragraphs.specs.declared.paragraph.OpenWord.{OpenWord}
use Rattle.html_render_layout_paragraphs.specs.declared.paragraph.OpenWord.TheVariants.{Closed, Collapsed, Preserved}

-- Whether white space is preserved in the open word's text. None if no word is open.
abbrev pub open_word_of : OpenWord → Option Bool
open_word_of Closed = None
open_word_of Collapsed = Some false
open_word_of Preserved = Some true
