-- Parts that are on a line are laid there.
use Rattle.std.proofs.Common.{◌≡◌, ◌+◌, ◌≤◌, ◌<◌, Bool, true, cond, List, [], ◌∷◌, ◌++◌, Option, Some, None, refl, sym, ap, ◌∙◌}
use Rattle.std.proofs.Common.{arith, option_and_then, append_assoc}
use Rattle.std.proofs.lemmas.Bool.{le-leb, lt-leb}
use Rattle.html_render_layout_lines.specs.declared.character.Character.{Character}
use Rattle.html_render_layout_lines.specs.declared.character.Item.{Item}
use Rattle.html_render_layout_lines.specs.declared.character.Kind.TheVariants.{Preserved}
use Rattle.html_render_layout_lines.specs.Character.{width_of}
use Rattle.html_render_layout_lines.specs.Line.{Line, columns, word_columns}
use Rattle.html_render_layout_paragraphs.specs.Paragraph.{LineBuffer, Setting, continued, page_for_word, page_for_single, put_items, put_fitting}
use Rattle.html_render_layout_paragraphs.specs.Placing.{put_word}
use Rattle.html_render_layout_paragraphs.specs.Paragraph.{with_due_space, fits}
use Rattle.html_render_layout_lines.specs.laws.Cases.{if_true, if_false, is_empty-cons}
use Rattle.html_render_layout_paragraphs.specs.Meaning.{Part, Whole, Between, Soft, Marked, spaced, with_whole, with_letter, character_count, StandOn}
use Rattle.html_render_layout_paragraphs.specs.Meaning.{nothing, whole, alone, between, no_between, soft, no_soft, marked}
use Rattle.html_render_layout_paragraphs.specs.laws.meaning.Words.{page_of, page_with_word, columns-with_word, columns-with_letter, put_items-fitting, put_items-alone}
use Rattle.html_render_layout_paragraphs.specs.laws.meaning.Laying.{lay, same}

-- ---- the space before a word

spaced-page : {T M : Type 0} (lines : List (Line T M)) (line : Line T M) (b : Bool) (ms : List M) (space : Option (Character T)) →
    with_due_space (page_of lines line b ms) space ≡ page_of lines (spaced b line space) b ms
spaced-page lines line b ms None = refl
spaced-page lines [] b ms (Some c) = refl
spaced-page lines (x ∷ xs) b ms (Some c) = rw (is_empty-cons x xs) refl

-- the line buffer for a word that fits is that with the space before it
page_for_word-fitting : {T M : Type 0} (s : Setting) (lines : List (Line T M)) (line : Line T M) (b : Bool) (ms : List M)
    (space : Option (Character T)) (word : List (Item T M)) → columns (with_whole b line ms space word) ≤ s.width →
    page_for_word s (page_of lines line b ms) space word ≡ page_of lines (spaced b line space) b ms
page_for_word-fitting {T} {M} s lines line b ms space word h =
    let e = columns-with_word b (spaced b line space) ms word in
    ap (λ (p : LineBuffer T M). cond (fits s p (word_columns word)) p (continued (page_of lines line b ms))) (spaced-page lines line b ms space)
    ∙ if_true _ _ _ (le-leb (columns (spaced b line space) + word_columns word) s.width (omega (arith, e, h)))

-- the line buffer for a word that doesn't fit has begun the next line
pub page_for_word-full : {T M : Type 0} (s : Setting) (lines : List (Line T M)) (line : Line T M) (b : Bool) (ms : List M)
    (space : Option (Character T)) (word : List (Item T M)) → s.width < columns (with_whole b line ms space word) →
    page_for_word s (page_of lines line b ms) space word ≡ continued (page_of lines line b ms)
page_for_word-full {T} {M} s lines line b ms space word h =
    let e = columns-with_word b (spaced b line space) ms word in
    ap (λ (p : LineBuffer T M). cond (fits s p (word_columns word)) p (continued (page_of lines line b ms))) (spaced-page lines line b ms space)
    ∙ if_false _ _ _ (lt-leb (columns (spaced b line space) + word_columns word) s.width (omega (arith, e, h)))

-- the line buffer for a word that begins a line is unchanged
pub page_for_word-start : {T M : Type 0} (s : Setting) (lines : List (Line T M)) (b : Bool) (ms : List M)
    (space : Option (Character T)) (word : List (Item T M)) → page_for_word s (page_of lines [] b ms) space word ≡ page_of lines [] b ms
page_for_word-start s lines b ms None word = same (fits s (page_of lines [] b ms) (word_columns word)) _
page_for_word-start s lines b ms (Some c) word = same (fits s (page_of lines [] b ms) (word_columns word)) _

-- ---- words

pub put_word-fitting : {T M : Type 0} (s : Setting) (lines : List (Line T M)) (line : Line T M) (b : Bool) (ms : List M)
    (space : Option (Character T)) (word : List (Item T M)) → columns (with_whole b line ms space word) ≤ s.width →
    put_word s (page_of lines line b ms) space word ≡ Some (page_with_word lines (spaced b line space) b ms word)
put_word-fitting s lines line b ms space word h =
    ap (λ p. put_items s p word) (page_for_word-fitting s lines line b ms space word h)
    ∙ put_items-fitting s lines (spaced b line space) b ms word h

-- a line doesn't begin with a space
pub spaced-start : {T : Type 0} (M : Type 0) (b : Bool) (space : Option (Character T)) → spaced {M = M} b [] space ≡ []
spaced-start M b None = refl
spaced-start M b (Some c) = refl

put_word-alone : {T M : Type 0} (s : Setting) (lines : List (Line T M)) (b : Bool) (ms : List M)
    (space : Option (Character T)) (word : List (Item T M)) → s.overflow ≡ true → character_count word ≡ 1 →
    put_word s (page_of lines [] b ms) space word ≡ Some (page_with_word lines (spaced b [] space) b ms word)
put_word-alone {T} {M} s lines b ms space word o h =
    ap (λ p. put_items s p word) (page_for_word-start s lines b ms space word) ∙ put_items-alone s lines b ms word o h
    ∙ ap (λ (l : Line T M). Some (page_with_word lines l b ms word)) (sym (spaced-start M b space))

-- ---- white space

pub space-fitting : {T M : Type 0} (s : Setting) (lines : List (Line T M)) (line : Line T M) (b : Bool) (ms : List M) (c : Character T) →
    columns (spaced b line (Some c)) ≤ s.width →
    page_for_single s (page_of lines line b ms) (Some c) Preserved ≡ page_of lines (spaced b line (Some c)) b ms
space-fitting {T} {M} s lines line b ms c h =
    ap (λ (p : LineBuffer T M). cond (fits s p 0) p (page_of lines line b ms)) (spaced-page lines line b ms (Some c))
    ∙ if_true _ _ _ (le-leb (columns (spaced b line (Some c)) + 0) s.width (omega (arith, h)))

pub space-full : {T M : Type 0} (s : Setting) (lines : List (Line T M)) (line : Line T M) (b : Bool) (ms : List M) (c : Character T) →
    s.width < columns (spaced b line (Some c)) → page_for_single s (page_of lines line b ms) (Some c) Preserved ≡ page_of lines line b ms
space-full {T} {M} s lines line b ms c h =
    ap (λ (p : LineBuffer T M). cond (fits s p 0) p (page_of lines line b ms)) (spaced-page lines line b ms (Some c))
    ∙ if_false _ _ _ (lt-leb (columns (spaced b line (Some c)) + 0) s.width (omega (arith, h)))

pub soft-fitting : {T M : Type 0} (s : Setting) (lines : List (Line T M)) (line : Line T M) (b : Bool) (ms : List M) (c : Character T) →
    columns (with_letter b line ms c) ≤ s.width → put_fitting s (page_of lines line b ms) c ≡ page_of lines (with_letter b line ms c) b []
soft-fitting s lines line b ms c h =
    let e = columns-with_letter b line ms c in
    if_true _ _ _ (le-leb (columns line + width_of c.code) s.width (omega (arith, e, h)))

pub soft-full : {T M : Type 0} (s : Setting) (lines : List (Line T M)) (line : Line T M) (b : Bool) (ms : List M) (c : Character T) →
    s.width < columns (with_letter b line ms c) → put_fitting s (page_of lines line b ms) c ≡ page_of lines line b ms
soft-full s lines line b ms c h =
    let e = columns-with_letter b line ms c in
    if_false _ _ _ (lt-leb (columns line + width_of c.code) s.width (omega (arith, e, h)))

-- ---- the parts of a line

-- one more part is laid
grown : {T M : Type 0} (s : Setting) (page next : LineBuffer T M) (ps : List (Part T M)) (p : Part T M) (rest : List (Part T M)) →
    lay s page (ps ++ p ∷ rest) ≡ lay s next rest → lay s page ((ps ++ p ∷ []) ++ rest) ≡ lay s next rest
grown s page next ps p rest e = ap (lay s page) (append_assoc ps (p ∷ []) rest) ∙ e

-- parts that are on a line are laid there, whichever parts follow
pub standing : {T M : Type 0} {s : Setting} {b : Bool} {before : List M} {ps : List (Part T M)} {line : Line T M} {ms : List M} →
    StandOn s b before ps line ms → (lines : List (Line T M)) (rest : List (Part T M)) →
    lay s (page_of lines [] b before) (ps ++ rest) ≡ lay s (page_of lines line b ms) rest
standing nothing lines rest = refl
standing {T} {M} {s} {b} (whole {ps = ps} {line = line} {marks = ms} space word h f) lines rest =
    grown s _ (page_with_word lines (spaced b line space) b ms word) ps (Whole space word) rest
    (standing h lines (Whole space word ∷ rest)
    ∙ ap (option_and_then (λ (p : LineBuffer T M). lay s p rest)) (put_word-fitting s lines line b ms space word f))
standing {T} {M} {s} {b} (alone {ps = ps} {marks = ms} space word h one o) lines rest =
    grown s _ (page_with_word lines (spaced b [] space) b ms word) ps (Whole space word) rest
    (standing h lines (Whole space word ∷ rest)
    ∙ ap (option_and_then (λ (p : LineBuffer T M). lay s p rest)) (put_word-alone s lines b ms space word o one))
standing {T} {M} {s} {b} (between {ps = ps} {line = line} {marks = ms} c h f) lines rest =
    grown s _ (page_of lines (spaced b line (Some c)) b ms) ps (Between c) rest
    (standing h lines (Between c ∷ rest) ∙ ap (λ p. lay s p rest) (space-fitting s lines line b ms c f))
standing {T} {M} {s} {b} (no_between {ps = ps} {line = line} {marks = ms} c h f) lines rest =
    grown s _ (page_of lines line b ms) ps (Between c) rest
    (standing h lines (Between c ∷ rest) ∙ ap (λ p. lay s p rest) (space-full s lines line b ms c f))
standing {T} {M} {s} {b} (soft {ps = ps} {line = line} {marks = ms} c h f) lines rest =
    grown s _ (page_of lines (with_letter b line ms c) b []) ps (Soft c) rest
    (standing h lines (Soft c ∷ rest) ∙ ap (λ p. lay s p rest) (soft-fitting s lines line b ms c f))
standing {T} {M} {s} {b} (no_soft {ps = ps} {line = line} {marks = ms} c h f) lines rest =
    grown s _ (page_of lines line b ms) ps (Soft c) rest
    (standing h lines (Soft c ∷ rest) ∙ ap (λ p. lay s p rest) (soft-full s lines line b ms c f))
standing {T} {M} {s} {b} (marked {ps = ps} {line = line} {marks = ms} m h) lines rest =
    grown s _ (page_of lines line b (ms ++ m ∷ [])) ps (Marked m) rest (standing h lines (Marked m ∷ rest))
