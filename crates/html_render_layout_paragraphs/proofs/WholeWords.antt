-- A word that ends with a character is appended to a line unchanged.
use Rattle.std.specs.Bool.{OnTrue}
use Rattle.std.proofs.Common.{◌≡◌, ℕ, ◌<◌, ◌==◌, not, Bool, true, false, List, [], ◌∷◌, ◌++◌, Option, Some, None, map, length, refl, ap, sym, ◌∙◌, subst, arith}
use Rattle.std.proofs.Common.{append_assoc, ◌≤◌, ◌||◌, nat_le, option_and_then, if◌then◌else◌}
use Rattle.std.proofs.lemmas.Str.{chars-nil}
use Rattle.std.specs.Str.{chars, IsUtf8}
use Rattle.html_render_layout_lines.specs.declared.character.TextStyle.{TextStyle}
use Rattle.html_render_layout_lines.specs.declared.line.tagged_text.Run.{Run}
use Rattle.html_render_layout_lines.specs.Character.{character_of, tag_on, width_of}
use Rattle.html_render_layout_paragraphs.specs.Stream.{styled}
use Rattle.html_render_layout_lines.specs.TaggedText.{under, items_of, elements_of, open_elements, HasTag, style_tag, text_columns}
use Rattle.html_render_layout_paragraphs.proofs.Stretches.{some-chars}
use Rattle.html_render_layout_paragraphs.proofs.WordColumns.{items-append, items-under, word_columns-styled}
use Rattle.std.proofs.lemmas.List.{map-append}
use Rattle.html_render_layout_lines.specs.declared.character.Character.{Character}
use Rattle.html_render_layout_lines.specs.declared.character.Item.{Item}
use Rattle.html_render_layout_lines.specs.declared.character.Item.TheVariants as item
use Rattle.html_render_layout_lines.specs.declared.line.Element.TheVariants as element
use Rattle.html_render_layout_lines.specs.Line.{Line, element_of, word_columns}
use Rattle.html_render_layout_paragraphs.specs.Paragraph.{LineBuffer, Setting, put_character, put_items, fits, continued, with_character}
use Rattle.html_render_layout_paragraphs.specs.Word.{line_with_word, marks_behind_word, with_word, EndsInCharacter}
use Rattle.std.proofs.lemmas.Bool.{leb-true, le-leb}
use Rattle.html_render_layout_lines.specs.laws.Cases.{if_true, if_false}
use Rattle.html_render_layout_paragraphs.specs.laws.Beside.{columns-continued}
use Rattle.html_render_layout_paragraphs.specs.laws.Words.{put_items-whole}

line_with_word-by : {T M : Type 0} (b : Bool) (line : Line T M) (ms : List M) (front : List (Item T M)) (c : Character T) →
    line_with_word b line ms (front ++ item.Character c ∷ [])
    ≡ line ++ (map (λ (m : M). element.Mark m) ms ++ map (element_of b) (front ++ item.Character c ∷ []))
line_with_word-by b line ms [] c = refl
line_with_word-by {T} {M} b line ms (item.Character d ∷ xs) c =
    let marks : Line T M = map (λ (m : M). element.Mark m) ms in
    let one : Line T M = element.Character d.code (tag_on b d) ∷ [] in
    let rest : Line T M = map (element_of b) (xs ++ item.Character c ∷ []) in
    line_with_word-by b (line ++ (marks ++ one)) [] xs c
    ∙ append_assoc line (marks ++ one) rest
    ∙ ap (λ x. line ++ x) (append_assoc marks one rest)
line_with_word-by {T} {M} b line ms (item.Mark m ∷ xs) c =
    let marks : Line T M = map (λ (m : M). element.Mark m) ms in
    let rest : Line T M = map (element_of b) (xs ++ item.Character c ∷ []) in
    line_with_word-by b line (ms ++ m ∷ []) xs c
    ∙ ap (λ x. line ++ (x ++ rest)) (map-append (λ (m : M). element.Mark m) ms (m ∷ []))
    ∙ ap (λ x. line ++ x) (append_assoc marks (element.Mark m ∷ []) rest)

marks_behind_word-by : {T M : Type 0} (ms : List M) (front : List (Item T M)) (c : Character T) →
    marks_behind_word ms (front ++ item.Character c ∷ []) ≡ []
marks_behind_word-by ms [] c = refl
marks_behind_word-by ms (item.Character d ∷ xs) c = marks_behind_word-by [] xs c
marks_behind_word-by ms (item.Mark m ∷ xs) c = marks_behind_word-by (ms ++ m ∷ []) xs c

pub line_with_word-whole : {T M : Type 0} (b : Bool) (line : Line T M) (ms : List M) (word : List (Item T M)) → EndsInCharacter word →
    line_with_word b line ms word ≡ line ++ (map (λ (m : M). element.Mark m) ms ++ map (element_of b) word)
line_with_word-whole {T} {M} b line ms word h =
    ap (line_with_word b line ms) h.2 ∙ line_with_word-by b line ms h.0 h.1
    ∙ ap (λ w. line ++ (map (λ (m : M). element.Mark m) ms ++ map (element_of b) w)) (sym h.2)

pub marks_behind_word-whole : {T M : Type 0} (ms : List M) (word : List (Item T M)) → EndsInCharacter word → marks_behind_word ms word ≡ []
marks_behind_word-whole ms word h = ap (marks_behind_word ms) h.2 ∙ marks_behind_word-by ms h.0 h.1

-- ---- Words that end with a character

pub ends-behind : {T M : Type 0} (xs ys : List (Item T M)) → EndsInCharacter ys → EndsInCharacter (xs ++ ys)
ends-behind xs ys h = (xs ++ h.0, h.1, ap (λ zs. xs ++ zs) h.2 ∙ sym (append_assoc xs h.0 (item.Character h.1 ∷ [])))

pub ends-styled : {T : Type 0} (M : Type 0) (style : TextStyle T) (cs : List ℕ) → 0 < length cs → EndsInCharacter {M = M} (styled style cs)
ends-styled M style [] h = absurd (omega arith)
ends-styled M style (c ∷ []) h = ([], character_of style c, refl)
ends-styled {T} M style (c ∷ d ∷ ds) h =
    let more : EndsInCharacter {M = M} (styled style (d ∷ ds)) = ends-styled M style (d ∷ ds) (omega arith) in
    let one : List (Item T M) = item.Character (character_of style c) ∷ [] in
    ends-behind one (styled style (d ∷ ds)) more

-- A word whose text ends with an open run ends with a character.
pub ends-open : {T M : Type 0} (rs : List (Run (TextStyle T) M)) (tag : Option (TextStyle T)) (closed behind : List ℕ)
    (text : Line (TextStyle T) M) →
    HasTag tag behind → 0 < length (chars behind) → elements_of rs closed ++ open_elements tag behind ≡ text →
    EndsInCharacter (items_of text)
ends-open rs None closed behind text none h e = absurd (omega (arith, ap length (ap chars none ∙ chars-nil)))
ends-open {T} {M} rs (Some style) closed behind text none h e =
    let last : EndsInCharacter {M = M} (styled style (chars behind)) = ends-styled M style (chars behind) h in
    let whole : items_of (elements_of rs closed) ++ styled style (chars behind) ≡ items_of text =
    ap (λ xs. items_of (elements_of rs closed) ++ xs) (sym (items-under M style (chars behind)))
    ∙ sym (items-append (elements_of rs closed) (open_elements (Some style) behind)) ∙ ap items_of e in
    subst EndsInCharacter whole (ends-behind (items_of (elements_of rs closed)) (styled style (chars behind)) last)

pub ends-parts : {T M : Type 0} (word : List (Item T M)) (rs : List (Run (TextStyle T) M)) (tag : Option (TextStyle T))
    (closed behind : List ℕ)
    (text : Line (TextStyle T) M) (empty : Bool) → items_of text ≡ word → HasTag tag behind → IsUtf8 behind →
    elements_of rs closed ++ open_elements tag behind ≡ text → empty ≡ (length behind == 0) → OnTrue (not empty) (EndsInCharacter word)
ends-parts word rs tag closed behind text true same none u e f = tt
ends-parts word rs tag closed [] text false same none u e f = cc
ends-parts word rs tag closed (b ∷ bs) text false same none u e f =
    subst EndsInCharacter same (ends-open rs tag closed (b ∷ bs) text none (some-chars (b ∷ bs) u (omega arith)) e)

-- A text placed as a word is its characters under one tag.
placed_text : {T : Type 0} (M : Type 0) (b : Bool) (style : TextStyle T) (cs : List ℕ) →
    map (element_of {M = M} b) (styled style cs) ≡ under (style_tag b style) cs
placed_text M b style [] = refl
placed_text {T} M b style (c ∷ cs) = ap (λ (es : Line T M). element.Character c (style_tag b style) ∷ es) (placed_text M b style cs)

pub with_text : {T M : Type 0} (page : LineBuffer T M) (style : TextStyle T) (cs : List ℕ) → 0 < length cs → with_word page (styled style cs)
    ≡ record page {
      line = (page.line ++ map (λ (m : M). element.Mark m) page.waiting) ++ under (style_tag page.continues style) cs;
      waiting = [];
    }
with_text {T} {M} page style cs h =
    let ends : EndsInCharacter {M = M} (styled style cs) = ends-styled M style cs h in
    let marks : Line T M = map (λ (m : M). element.Mark m) page.waiting in
    let line : line_with_word page.continues page.line page.waiting (styled style cs)
    ≡ (page.line ++ marks) ++ under (style_tag page.continues style) cs =
    line_with_word-whole page.continues page.line page.waiting (styled style cs) ends
    ∙ ap (λ es. page.line ++ (marks ++ es)) (placed_text M page.continues style cs)
    ∙ sym (append_assoc page.line marks (under (style_tag page.continues style) cs)) in
    let waiting : marks_behind_word page.waiting (styled {M = M} style cs) ≡ [] =
    marks_behind_word-whole page.waiting (styled style cs) ends in
    ap (λ l. record page { line = l; waiting = marks_behind_word page.waiting (styled {M = M} style cs) }) line
    ∙ ap (λ w. record page { line = (page.line ++ marks) ++ under (style_tag page.continues style) cs; waiting = w }) waiting

pub ruleset whole = (line_with_word-whole, marks_behind_word-whole, append_assoc)

-- ---- words that fit on a line are appended as a whole

-- A word that fits on the open line is appended to it as a whole.
pub put_items-here : {T M : Type 0} (s : Setting) (page : LineBuffer T M) (word : List (Item T M)) → fits s page (word_columns word) ≡ true →
    put_items s page word ≡ Some (with_word page word)
put_items-here s page word e = put_items-whole s page word (leb-true _ _ e)

pub put_items-text : {T M : Type 0} (s : Setting) (page : LineBuffer T M) (style : TextStyle T) (cs : List ℕ) →
    fits s page (text_columns cs) ≡ true → 0 < length cs → put_items s page (styled style cs)
    ≡ Some (record page {
      line = (page.line ++ map (λ (m : M). element.Mark m) page.waiting) ++ under (style_tag page.continues style) cs;
      waiting = [];
    })
put_items-text {T} {M} s page style cs e some =
    let same : fits s page (word_columns {M = M} (styled style cs)) ≡ true = ap (fits s page) (word_columns-styled M style cs) ∙ e in
    put_items-here s page (styled style cs) same ∙ ap (λ (p : LineBuffer T M). Some p) (with_text page style cs some)

-- A character that doesn't fit on the open line, but on an empty one, is placed on a continuation line.
pub put_items-continued : {T M : Type 0} (s : Setting) (page : LineBuffer T M) (style : TextStyle T) (c : ℕ) (cs : List ℕ) →
    fits s page (width_of c) ≡ false → width_of c ≤ s.width
    → put_items s page (styled style (c ∷ cs)) ≡ put_items s (continued page) (styled style (c ∷ cs))
put_items-continued {T} {M} s page style c cs full wide =
    let put : Option (LineBuffer T M) → Option (LineBuffer T M) = option_and_then (λ (p : LineBuffer T M). put_items s p (styled style cs)) in
    let next : Option (LineBuffer T M) = Some (with_character (continued page) (character_of style c)) in
    let place : Option (LineBuffer T M) = if nat_le (width_of c) s.width || s.overflow then next else None in
    let here : put_character s page (character_of style c) ≡ next =
    if_false (fits s page (width_of c)) (Some (with_character page (character_of style c))) place full
    ∙ if_true (nat_le (width_of c) s.width || s.overflow) next None (ap (λ b. b || s.overflow) (le-leb _ _ wide)) in
    let there : put_character s (continued page) (character_of style c) ≡ next =
    if_true (fits s (continued page) (width_of c)) next _ (le-leb _ _ (omega (arith, wide, columns-continued page))) in
    ap put (here ∙ sym there)

pub ruleset next_lines = (put_items-continued)

pub ruleset whole_words = (put_items-here)

pub ruleset text_words = (put_items-text, some-chars)
