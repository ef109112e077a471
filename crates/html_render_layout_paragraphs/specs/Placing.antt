-- Steps of placing: a word, and the end of a line.
use Rattle.std.specs.Prelude.{false, List, [], ◌∷◌, ◌++◌, Option}
use Rattle.html_render_layout_lines.specs.declared.character.Character.{Character}
use Rattle.html_render_layout_lines.specs.declared.character.Item.{Item}
use Rattle.html_render_layout_paragraphs.specs.Paragraph.{Setting, LineBuffer, page_for_word, put_items}

-- Line buffer whose open line is ended, even if it is empty. The next line isn't a continuation line.
abbrev pub with_line_break : {T M : Type 0} → LineBuffer T M → LineBuffer T M
with_line_break page = record page { lines = page.lines ++ page.line ∷ []; line = []; continues = false }

-- Line buffer with a word. A word that is wider than a line is cut where lines are full. None, with overflow off, if one of
-- its characters is wider than a line.
abbrev pub put_word : {T M : Type 0} → Setting → LineBuffer T M → Option (Character T) → List (Item T M) → Option (LineBuffer T M)
put_word setting page pending word = put_items setting (page_for_word setting page pending word) word
