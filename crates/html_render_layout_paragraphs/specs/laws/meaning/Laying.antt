-- Laying the parts of a text in order gives the line buffer that placing its pieces gives.
use Rattle.std.proofs.Common.{◌≡◌, ℕ, ◌+◌, Bool, true, false, cond, List, [], ◌∷◌, ◌++◌, map, fold, Option, Some, None, refl, sym, ap, ◌∙◌, leb, ◌||◌, ◌<◌}
use Rattle.std.proofs.Common.{option_and_then, arith}
use Rattle.std.proofs.lemmas.Bool.{lt-leb, leb-false}
use Rattle.std.specs.Option.{option_or}
use Rattle.html_render_layout_lines.specs.declared.character.Kind.{Kind}
use Rattle.html_render_layout_lines.specs.declared.character.Kind.TheVariants.{Preserved, Newline}
use Rattle.html_render_layout_lines.specs.declared.character.Character.{Character}
use Rattle.html_render_layout_lines.specs.declared.character.Item.TheVariants as item
use Rattle.html_render_layout_lines.specs.Character.{width_of}
use Rattle.html_render_layout_lines.specs.Line.{Line, columns, is_empty}
use Rattle.html_render_layout_paragraphs.specs.Paragraph.{Piece, Word, Gap, Cut, Single, Loose, LineBuffer, Setting, with_waiting_mark, tab_spaces}
use Rattle.html_render_layout_paragraphs.specs.Placing.{with_line_break, put_word}
use Rattle.html_render_layout_paragraphs.specs.Paragraph.{put_character, put_items, put_single, put_fitting, page_for_single, place, continued}
use Rattle.html_render_layout_paragraphs.specs.Paragraph.{page_for_word, fits, with_character}
use Rattle.html_render_layout_paragraphs.specs.laws.Whole.{then_same}
use Rattle.html_render_layout_lines.specs.laws.Cases.{if_cases, if_false, is_empty-cons}
use Rattle.html_render_layout_paragraphs.specs.laws.meaning.Words.{page_of, word_columns-one}
use Rattle.html_render_layout_paragraphs.specs.Meaning.{Part, Whole, Between, Soft, Break, Stop, SoftStop, Marked, with_single, with_between, parts}

-- a line buffer with the parts laid on it, in order
abbrev pub lay : {T M : Type 0} → Setting → LineBuffer T M → List (Part T M) → Option (LineBuffer T M)
lay s page [] = Some page
lay {T} {M} s page (Whole space word ∷ ps) = option_and_then (λ (p : LineBuffer T M). lay s p ps) (put_word s page space word)
lay s page (Between c ∷ ps) = lay s (page_for_single s page (Some c) Preserved) ps
lay s page (Soft c ∷ ps) = lay s (put_fitting s page c) ps
lay s page (Break ∷ ps) = lay s (with_line_break page) ps
lay {T} {M} s page (Stop c ∷ ps) = option_and_then (λ (p : LineBuffer T M). lay s p ps) (put_items s page (map (λ d. item.Character d) (tab_spaces page c)))
lay s page (SoftStop c ∷ ps) = lay s (fold (put_fitting s) page (tab_spaces page c)) ps
lay s page (Marked m ∷ ps) = lay s (with_waiting_mark page m) ps

-- ---- the parts of a text

pub same : {X : Type 0} (a : Bool) (x : X) → cond a x x ≡ x
same true x = refl
same false x = refl

lay-between : {T M : Type 0} (s : Setting) (page : LineBuffer T M) (space : Option (Character T)) (k : Kind) (ps : List (Part T M)) →
    lay s page (with_between space k ps) ≡ lay s (page_for_single s page space k) ps
lay-between s page None Newline ps = refl
lay-between s page None k ps = ap (λ p. lay s p ps) (sym (same (fits s page 0) page))
lay-between s page (Some c) Newline ps = refl
lay-between s page (Some c) k ps = refl

-- ---- a character is placed like a word of its own

pub then-Some : {A : Type 0} (o : Option A) → option_and_then (λ (x : A). Some x) o ≡ o
then-Some None = refl
then-Some (Some x) = refl

or_none : {X : Type 0} (x : X) (a b : Bool) → cond (a || b) (Some x) None ≡ cond a (Some x) (cond (a || b) (Some x) None)
or_none x true b = refl
or_none x false b = refl

next_by : {X : Type 0} (s : Setting) (w n : ℕ) (x : X) → n ≡ w →
    cond (leb w s.width || s.overflow) (Some x) None ≡ cond (leb n s.width) (Some x) (cond (leb w s.width || s.overflow) (Some x) None)
next_by s w n x e = rw e (or_none x (leb w s.width) s.overflow)

-- a character that doesn't fit is placed on the next line
pub put_character-next : {T M : Type 0} (s : Setting) (lines : List (Line T M)) (line : Line T M) (continues : Bool) (marks : List M)
    (c : Character T) → s.width < columns line + width_of c.code →
    put_character s (page_of lines line continues marks) c ≡ put_character s (continued (page_of lines line continues marks)) c
put_character-next s lines [] continues marks c e = refl
put_character-next {T} {M} s lines (x ∷ xs) continues marks c e =
    let next : LineBuffer T M = page_of (lines ++ (x ∷ xs) ∷ []) [] true marks in
    let full : continued (page_of lines (x ∷ xs) continues marks) ≡ next = if_false (is_empty (x ∷ xs)) _ _ (is_empty-cons x xs) in
    if_false _ _ _ (lt-leb _ _ e)
    ∙ ap (λ (p : LineBuffer T M). cond (leb (width_of c.code) s.width || s.overflow) (Some (with_character p c)) None) full
    ∙ next_by s (width_of c.code) (columns next.line + width_of c.code) (with_character next c) (omega arith)
    ∙ ap (λ (p : LineBuffer T M). put_character s p c) (sym full)

page_for_letter : {T M : Type 0} (s : Setting) (page : LineBuffer T M) (c : Character T) →
    page_for_word s page None (item.Character c ∷ []) ≡ cond (leb (columns page.line + width_of c.code) s.width) page (continued page)
page_for_letter {T} {M} s page c = ap (λ n. cond (leb (columns page.line + n) s.width) page (continued page)) (word_columns-one M c)

pub put_letter : {T M : Type 0} (s : Setting) (page : LineBuffer T M) (c : Character T) →
    put_word s page None (item.Character c ∷ []) ≡ put_character s page c
put_letter {T} {M} s page c =
    ap (λ p. put_items s p (item.Character c ∷ [])) (page_for_letter s page c)
    ∙ if_cases (λ (p : LineBuffer T M). put_items s p (item.Character c ∷ []) ≡ put_character s page c)
    (leb (columns page.line + width_of c.code) s.width) _ _
    (λ e. then-Some (put_character s page c))
    (λ e. then-Some (put_character s (continued page) c)
    ∙ sym (put_character-next s page.lines page.line page.continues page.waiting c (leb-false _ _ e)))

-- ---- the text

lay-single : {T M : Type 0} (s : Setting) (page : LineBuffer T M) (k : Kind) (c : Character T) (ps : List (Part T M)) →
    lay s page (with_single k c ps) ≡ option_and_then (λ (p : LineBuffer T M). lay s p ps) (put_single s page k c)
lay-single {T} {M} s page Preserved c ps = ap (option_and_then (λ (p : LineBuffer T M). lay s p ps)) (put_letter s page c)
lay-single s page k c ps = refl

-- laying the parts of pieces gives the line buffer of the placed pieces
pub lay-parts : {T M : Type 0} (s : Setting) (page : LineBuffer T M) (space : Option (Character T)) (ps : List (Piece T M)) →
    place s page space ps ≡ lay s page (parts space ps)
lay-parts s page space [] = refl
lay-parts {T} {M} s page space (Word k word ∷ ps) =
    then_same _ _ (put_word s page space word) (λ p. lay-parts s p None ps)
lay-parts s page space (Gap c ∷ ps) = lay-parts s page (option_or space (Some c)) ps
lay-parts s page space (Cut ∷ ps) = lay-parts s page space ps
lay-parts {T} {M} s page space (Single k c ∷ ps) =
    then_same _ _ (put_single s (page_for_single s page space k) k c) (λ p. lay-parts s p None ps)
    ∙ sym (lay-single s (page_for_single s page space k) k c (parts None ps))
    ∙ sym (lay-between s page space k (with_single k c (parts None ps)))
lay-parts s page space (Loose m ∷ ps) = lay-parts s (with_waiting_mark page m) space ps
