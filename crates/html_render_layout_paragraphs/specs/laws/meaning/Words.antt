-- Words on a line: the columns of the line with them, and that words that fit are placed whole.
use Rattle.std.proofs.Common.{◌≡◌, ◌+◌, ◌≤◌, Bool, true, false, cond, ◌||◌, List, [], ◌∷◌, ◌++◌, Some, None, refl, ap, ◌∙◌}
use Rattle.std.proofs.Common.{leb, arith, option_and_then}
use Rattle.html_render_layout_lines.specs.declared.character.Character.{Character}
use Rattle.html_render_layout_lines.specs.declared.character.Item.{Item}
use Rattle.html_render_layout_lines.specs.declared.character.Item.TheVariants as item
use Rattle.html_render_layout_lines.specs.declared.line.Element.TheVariants as element
use Rattle.html_render_layout_lines.specs.Character.{width_of, tag_on}
use Rattle.html_render_layout_lines.specs.Line.{Line, columns, word_columns, marks_line}
use Rattle.html_render_layout_paragraphs.specs.Paragraph.{LineBuffer, Setting, put_character, put_items}
use Rattle.html_render_layout_paragraphs.specs.Word.{line_with_word, marks_behind_word}
use Rattle.html_render_layout_paragraphs.specs.laws.Words.{put_items-whole}
use Rattle.html_render_layout_lines.specs.laws.Columns.{columns-push, word_columns-cons}
use Rattle.html_render_layout_paragraphs.specs.Meaning.{character_count, characters_on, with_letter}

-- a line buffer of finished lines, an open line, whether that continues another, and waiting marks
abbrev pub page_of : {T M : Type 0} → List (Line T M) → Line T M → Bool → List M → LineBuffer T M
page_of lines line b ms = record { lines = lines; line = line; continues = b; waiting = ms }

-- a line buffer with a word on its open line
abbrev pub page_with_word : {T M : Type 0} → List (Line T M) → Line T M → Bool → List M → List (Item T M) → LineBuffer T M
page_with_word lines line b ms word = page_of lines (line_with_word b line ms word) b (marks_behind_word ms word)

-- ---- columns and characters

pub word_columns-one : {T : Type 0} (M : Type 0) (c : Character T) → word_columns {M = M} (item.Character c ∷ []) ≡ width_of c.code
word_columns-one M c = word_columns-cons {M = M} (item.Character c) [] ∙ omega arith

pub columns-with_letter : {T M : Type 0} (b : Bool) (line : Line T M) (ms : List M) (c : Character T) →
    columns (with_letter b line ms c) ≡ columns line + width_of c.code
columns-with_letter b line ms c = columns-push line ms c.code (tag_on b c)

pub columns-with_word : {T M : Type 0} (b : Bool) (line : Line T M) (ms : List M) (word : List (Item T M)) →
    columns (line_with_word b line ms word) ≡ columns line + word_columns word
columns-with_word b line ms [] = omega arith
columns-with_word {T} {M} b line ms (item.Character c ∷ word) =
    let e = columns-with_word b (with_letter b line ms c) [] word in
    let f = columns-with_letter b line ms c in
    let g = word_columns-cons {M = M} (item.Character c) word in
    omega (arith, e, f, g)
columns-with_word b line ms (item.Mark m ∷ word) = columns-with_word b line (ms ++ m ∷ []) word

pub count-append : {T M : Type 0} (v w : List (Item T M)) → character_count (v ++ w) ≡ character_count v + character_count w
count-append [] w = omega arith
count-append (item.Character c ∷ v) w = let e = count-append v w in omega (arith, e)
count-append (item.Mark m ∷ v) w = count-append v w

characters_on-append : {T M : Type 0} (k l : Line T M) → characters_on (k ++ l) ≡ characters_on k + characters_on l
characters_on-append [] l = omega arith
characters_on-append (element.Character c tag ∷ k) l = let e = characters_on-append k l in omega (arith, e)
characters_on-append (element.Mark m ∷ k) l = characters_on-append k l

characters_on-marks : (T : Type 0) {M : Type 0} (ms : List M) → characters_on (marks_line {T = T} ms) ≡ 0
characters_on-marks T [] = refl
characters_on-marks T (m ∷ ms) = characters_on-marks T ms

pub characters_on-word : {T M : Type 0} (b : Bool) (line : Line T M) (ms : List M) (word : List (Item T M)) →
    characters_on (line_with_word b line ms word) ≡ characters_on line + character_count word
characters_on-word b line ms [] = omega arith
characters_on-word {T} {M} b line ms (item.Character c ∷ word) =
    let one : Line T M = element.Character c.code (tag_on b c) ∷ [] in
    let e = characters_on-word b (with_letter b line ms c) [] word in
    let f = characters_on-append line (marks_line ms ++ one) in
    let g = characters_on-append (marks_line ms) one in
    let h = characters_on-marks T ms in
    let single : characters_on one ≡ 1 = omega arith in
    omega (arith, e, f, g, h, single)
characters_on-word b line ms (item.Mark m ∷ word) = characters_on-word b line (ms ++ m ∷ []) word

-- a word that leaves a line empty has no characters
pub no-characters : {T M : Type 0} (b : Bool) (ms : List M) (word : List (Item T M)) → line_with_word b [] ms word ≡ [] →
    character_count word ≡ 0
no-characters b ms word e = omega (arith, characters_on-word b [] ms word, ap characters_on e)

-- ---- words of several items

pub page-append : {T M : Type 0} (lines : List (Line T M)) (line : Line T M) (b : Bool) (ms : List M) (v w : List (Item T M)) →
    page_with_word lines line b ms (v ++ w) ≡ page_with_word lines (line_with_word b line ms v) b (marks_behind_word ms v) w
page-append lines line b ms [] w = refl
page-append lines line b ms (item.Character c ∷ v) w = page-append lines (with_letter b line ms c) b [] v w
page-append lines line b ms (item.Mark m ∷ v) w = page-append lines line b (ms ++ m ∷ []) v w

-- ---- words that are placed whole

-- a word that fits is placed whole
pub put_items-fitting : {T M : Type 0} (s : Setting) (lines : List (Line T M)) (line : Line T M) (b : Bool) (ms : List M)
    (word : List (Item T M)) → columns (line_with_word b line ms word) ≤ s.width →
    put_items s (page_of lines line b ms) word ≡ Some (page_with_word lines line b ms word)
put_items-fitting s lines line b ms word h =
    put_items-whole s (page_of lines line b ms) word (omega (arith, columns-with_word b line ms word, h))

-- marks alone are placed whole
put_items-marks : {T M : Type 0} (s : Setting) (lines : List (Line T M)) (line : Line T M) (b : Bool) (ms : List M)
    (word : List (Item T M)) → character_count word ≡ 0 →
    put_items s (page_of lines line b ms) word ≡ Some (page_with_word lines line b ms word)
put_items-marks s lines line b ms [] h = refl
put_items-marks s lines line b ms (item.Character c ∷ word) h = absurd (omega (arith, h))
put_items-marks s lines line b ms (item.Mark m ∷ word) h = put_items-marks s lines line b (ms ++ m ∷ []) word h

overflowing : {X : Type 0} (x : X) (a c : Bool) → cond a (Some x) (cond (c || true) (Some x) None) ≡ Some x
overflowing x true c = refl
overflowing x false true = refl
overflowing x false false = refl

-- a single character on an empty line is placed whole with overflow on
pub put_items-alone : {T M : Type 0} (s : Setting) (lines : List (Line T M)) (b : Bool) (ms : List M) (word : List (Item T M)) →
    s.overflow ≡ true → character_count word ≡ 1 → put_items s (page_of lines [] b ms) word ≡ Some (page_with_word lines [] b ms word)
put_items-alone s lines b ms [] o h = absurd (omega (arith, h))
put_items-alone {T} {M} s lines b ms (item.Character c ∷ word) o h =
    let put : put_character s (page_of lines [] b ms) c ≡ Some (page_of lines (with_letter b [] ms c) b []) =
    rw o (overflowing (page_of lines (with_letter b [] ms c) b []) (leb (columns {T = T} {M = M} [] + width_of c.code) s.width)
    (leb (width_of c.code) s.width)) in
    ap (option_and_then (λ (p : LineBuffer T M). put_items s p word)) put
    ∙ put_items-marks s lines (with_letter b [] ms c) b [] word (omega (arith, h))
put_items-alone s lines b ms (item.Mark m ∷ word) o h = put_items-alone s lines b (ms ++ m ∷ []) word o h
