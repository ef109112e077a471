-- Words that fit on a line are appended as a whole.
use Rattle.std.proofs.Common.{◌≡◌, ◌+◌, ◌≤◌, leb, List, [], ◌∷◌, Some, refl, ap, ◌∙◌, option_and_then, arith}
use Rattle.std.proofs.lemmas.Bool.{le-leb}
use Rattle.html_render_layout_lines.specs.declared.character.Item.{Item}
use Rattle.html_render_layout_lines.specs.declared.character.Item.TheVariants as item
use Rattle.html_render_layout_lines.specs.Character.{width_of, tag_on}
use Rattle.html_render_layout_lines.specs.Line.{columns, word_columns}
use Rattle.html_render_layout_lines.specs.laws.Cases.{if_true}
use Rattle.html_render_layout_lines.specs.laws.Columns.{columns-push, word_columns-cons}
use Rattle.html_render_layout_paragraphs.specs.Paragraph.{LineBuffer, Setting, with_character, with_waiting_mark, put_items}
use Rattle.html_render_layout_paragraphs.specs.Word.{with_word}

pub put_items-whole : {T M : Type 0} (s : Setting) (page : LineBuffer T M) (xs : List (Item T M)) → columns page.line + word_columns xs ≤ s.width →
    put_items s page xs ≡ Some (with_word page xs)
put_items-whole s page [] h = refl
put_items-whole {T} {M} s page (item.Character c ∷ xs) h =
    let front = word_columns-cons {M = M} (item.Character c) xs in
    let here : columns page.line + width_of c.code ≤ s.width = omega arith in
    let pushed : columns (with_character page c).line ≡ columns page.line + width_of c.code =
    columns-push page.line page.waiting c.code (tag_on page.continues c) in
    ap (option_and_then (λ (p : LineBuffer T M). put_items s p xs))
    (if_true (leb (columns page.line + width_of c.code) s.width) (Some (with_character page c)) _ (le-leb _ _ here))
    ∙ put_items-whole s (with_character page c) xs (omega arith)
put_items-whole s page (item.Mark m ∷ xs) h = put_items-whole s (with_waiting_mark page m) xs h
