-- The lines of a text's parts are the laid ones.
use Rattle.std.proofs.Common.{◌≡◌, ◌<◌, Bool, true, cond, List, [], ◌∷◌, ◌++◌, map, fold, Option, Some, None, refl, sym, ap, ◌∙◌}
use Rattle.std.proofs.Common.{arith, option_and_then, option_map, append_assoc, append-nil}
use Rattle.std.proofs.lemmas.Option.{same_Some}
use Rattle.html_render_layout_lines.specs.declared.character.Character.{Character}
use Rattle.html_render_layout_lines.specs.declared.character.Item.{Item}
use Rattle.html_render_layout_lines.specs.declared.character.Item.TheVariants as item
use Rattle.html_render_layout_lines.specs.Line.{Line, columns, is_empty}
use Rattle.html_render_layout_paragraphs.specs.Paragraph.{LineBuffer, Setting, all_lines, continued, pieces, paragraph, empty_buffer, put_character, put_items}
use Rattle.html_render_layout_paragraphs.specs.Paragraph.{put_fitting}
use Rattle.html_render_layout_paragraphs.specs.Placing.{put_word}
use Rattle.html_render_layout_paragraphs.specs.laws.Whole.{then_assoc, then_same, put_items-append}
use Rattle.html_render_layout_lines.specs.laws.Cases.{is_empty-cons}
use Rattle.html_render_layout_paragraphs.specs.Meaning.{Part, Whole, Soft, Break, Stop, SoftStop, letter, with_whole, with_letter, IsNotEmpty}
use Rattle.html_render_layout_paragraphs.specs.Meaning.{AreBrokenInto, none, last, broken, full, cut, stop, soft_stop, spaces_behind, IsParagraph}
use Rattle.html_render_layout_paragraphs.specs.laws.meaning.Words.{page_of, columns-with_letter}
use Rattle.html_render_layout_paragraphs.specs.laws.meaning.Laying.{lay, then-Some, put_character-next, put_letter, lay-parts}
use Rattle.html_render_layout_paragraphs.specs.laws.meaning.Standing.{page_for_word-full, page_for_word-start, standing}

-- ---- words

pub continued-full : {T M : Type 0} (lines : List (Line T M)) (line : Line T M) (b : Bool) (ms : List M) → IsNotEmpty line →
    continued (page_of lines line b ms) ≡ page_of (lines ++ line ∷ []) [] true ms
continued-full lines [] b ms h = absurd h
continued-full lines (x ∷ xs) b ms h = rw (is_empty-cons x xs) refl

-- a word that doesn't fit begins the next line
pub put_word-full : {T M : Type 0} (s : Setting) (lines : List (Line T M)) (line : Line T M) (b : Bool) (ms : List M)
    (space : Option (Character T)) (word : List (Item T M)) → IsNotEmpty line → s.width < columns (with_whole b line ms space word) →
    put_word s (page_of lines line b ms) space word ≡ put_word s (page_of (lines ++ line ∷ []) [] true ms) space word
put_word-full s lines line b ms space word e h =
    ap (λ p. put_items s p word) (page_for_word-full s lines line b ms space word h ∙ continued-full lines line b ms e
    ∙ sym (page_for_word-start s (lines ++ line ∷ []) true ms space word))

-- the rest of a word that is cut begins the next line
put_word-cut : {T M : Type 0} (s : Setting) (lines : List (Line T M)) (waiting : List M) (line : Line T M) (b : Bool) (ms : List M)
    (space : Option (Character T)) (front : List (Item T M)) (c : Character T) (back : List (Item T M)) →
    put_word s (page_of lines [] b waiting) space front ≡ Some (page_of lines line b ms) → IsNotEmpty line →
    s.width < columns (with_letter b line ms c) → put_word s (page_of lines [] b waiting) space (front ++ item.Character c ∷ back)
    ≡ put_word s (page_of (lines ++ line ∷ []) [] true ms) None (item.Character c ∷ back)
put_word-cut {T} {M} s lines waiting line b ms space front c back h e f =
    let start : LineBuffer T M = page_of lines [] b waiting in
    let next : LineBuffer T M = page_of (lines ++ line ∷ []) [] true ms in
    let behind : List (Item T M) = item.Character c ∷ back in
    let wide = columns-with_letter b line ms c in
    ap (λ p. put_items s p (front ++ behind)) (page_for_word-start s lines b waiting space (front ++ behind))
    ∙ put_items-append s start front behind
    ∙ ap (option_and_then (λ (p : LineBuffer T M). put_items s p behind))
    (sym (ap (λ p. put_items s p front) (page_for_word-start s lines b waiting space front)) ∙ h)
    ∙ ap (option_and_then (λ (p : LineBuffer T M). put_items s p back)) (put_character-next s lines line b ms c (omega (arith, wide, f)))
    ∙ ap (λ p. put_items s p behind) (continued-full lines line b ms e
    ∙ sym (page_for_word-start s (lines ++ line ∷ []) true ms None behind))

-- ---- tabs

pub lay-letters : {T M : Type 0} (s : Setting) (page : LineBuffer T M) (cs : List (Character T)) (rest : List (Part T M)) →
    lay s page (map letter cs ++ rest) ≡ option_and_then (λ (p : LineBuffer T M). lay s p rest) (put_items s page (map (λ d. item.Character d) cs))
lay-letters s page [] rest = refl
lay-letters {T} {M} s page (c ∷ cs) rest =
    ap (option_and_then (λ (p : LineBuffer T M). lay s p (map letter cs ++ rest))) (put_letter s page c)
    ∙ then_same _ _ (put_character s page c) (λ p. lay-letters s p cs rest)
    ∙ sym (then_assoc (λ (p : LineBuffer T M). put_items s p (map (λ d. item.Character d) cs)) (λ (q : LineBuffer T M). lay s q rest) (put_character s page c))

pub lay-soft : {T M : Type 0} (s : Setting) (page : LineBuffer T M) (cs : List (Character T)) (rest : List (Part T M)) →
    lay s page (map Soft cs ++ rest) ≡ lay s (fold (put_fitting s) page cs) rest
lay-soft s page [] rest = refl
lay-soft s page (c ∷ cs) rest = lay-soft s (put_fitting s page c) cs rest

-- ---- the lines

-- the lines of a line buffer, and the waiting marks
abbrev pub lines_and_marks : {T M : Type 0} → LineBuffer T M → List (Line T M) × List M
lines_and_marks page = (all_lines page, page.waiting)

-- a line is added after other lines
begun : {T M : Type 0} (lines : List (Line T M)) (line : Line T M) (ls : List (Line T M)) (left : List M)
    (o : Option (List (Line T M) × List M)) → o ≡ Some ((lines ++ line ∷ []) ++ ls, left) → o ≡ Some (lines ++ line ∷ ls, left)
begun lines line ls left o h = h ∙ ap (λ ks. Some (ks, left)) (append_assoc lines (line ∷ []) ls)

-- the last line, if it isn't empty, follows the other lines
pub last-line : {T M : Type 0} (lines : List (Line T M)) (line : Line T M) → IsNotEmpty line →
    cond (is_empty line) lines (lines ++ line ∷ []) ≡ lines ++ line ∷ []
last-line lines [] i = absurd i
last-line lines (x ∷ xs) i = rw (is_empty-cons x xs) refl

-- the lines of parts are laid after any other lines
pub laid : {T M : Type 0} {s : Setting} {b : Bool} {before : List M} {ps : List (Part T M)} {ls : List (Line T M)} {left : List M} →
    AreBrokenInto s b before ps ls left → (lines : List (Line T M)) →
    option_map lines_and_marks (lay s (page_of lines [] b before) ps) ≡ Some (lines ++ ls, left)
laid {T} {M} {s} (none {continues = b} {before = before} {ps = ps} {marks = ms} h) lines =
    ap (λ qs. option_map lines_and_marks (lay s (page_of lines [] b before) qs)) (sym (append-nil ps))
    ∙ ap (option_map lines_and_marks) (standing h lines [])
    ∙ ap (λ ks. Some (ks, ms)) (sym (append-nil lines))
laid {T} {M} {s} (last {continues = b} {before = before} {ps = ps} {line = line} {marks = ms} h i) lines =
    ap (λ qs. option_map lines_and_marks (lay s (page_of lines [] b before) qs)) (sym (append-nil ps))
    ∙ ap (option_map lines_and_marks) (standing h lines [])
    ∙ ap (λ ks. Some (ks, ms)) (last-line lines line i)
laid (broken {line = line} {rest = rest} {lines = ls} {left = left} h d) lines =
    ap (option_map lines_and_marks) (standing h lines (Break ∷ rest)) ∙ begun lines line ls left _ (laid d (lines ++ line ∷ []))
laid {T} {M} {s} (full {continues = b} {line = line} {marks = ms} {rest = rest} {lines = ls} {left = left} space word h i f d) lines =
    ap (option_map lines_and_marks) (standing h lines (Whole space word ∷ rest)
    ∙ ap (option_and_then (λ (p : LineBuffer T M). lay s p rest)) (put_word-full s lines line b ms space word i f))
    ∙ begun lines line ls left _ (laid d (lines ++ line ∷ []))
laid {T} {M} {s}
    (cut {continues = b} {before = before} {ps = ps} {waiting = waiting} {line = line} {marks = ms} {rest = rest} {lines = ls} {left = left}
    space front c back h k i f d) lines =
    let start : LineBuffer T M = page_of lines [] b before in
    let word : List (Part T M) = Whole space front ∷ [] in
    let whole : put_word s (page_of lines [] b waiting) space front ≡ Some (page_of lines line b ms) =
    sym (then-Some (put_word s (page_of lines [] b waiting) space front))
    ∙ sym (ap (lay s start) (append_assoc ps word []) ∙ standing h lines word) ∙ standing k lines [] in
    ap (option_map lines_and_marks) (standing h lines (Whole space (front ++ item.Character c ∷ back) ∷ rest)
    ∙ ap (option_and_then (λ (p : LineBuffer T M). lay s p rest)) (put_word-cut s lines waiting line b ms space front c back whole i f))
    ∙ begun lines line ls left _ (laid d (lines ++ line ∷ []))
laid {T} {M} {s} (stop {continues = b} {line = line} {marks = ms} c rest h d) lines =
    let spaces : List (Part T M) = map letter (spaces_behind line c) in
    ap (option_map lines_and_marks) (standing h lines (Stop c ∷ rest)
    ∙ sym (lay-letters s (page_of lines line b ms) (spaces_behind line c) rest) ∙ sym (standing h lines (spaces ++ rest)))
    ∙ laid d lines
laid {T} {M} {s} (soft_stop {continues = b} {line = line} {marks = ms} c rest h d) lines =
    let spaces : List (Part T M) = map Soft (spaces_behind line c) in
    ap (option_map lines_and_marks) (standing h lines (SoftStop c ∷ rest)
    ∙ sym (lay-soft s (page_of lines line b ms) (spaces_behind line c) rest) ∙ sym (standing h lines (spaces ++ rest)))
    ∙ laid d lines

of_page : {T M : Type 0} (o : Option (LineBuffer T M)) (ls : List (Line T M)) (left : List M) → option_map lines_and_marks o ≡ Some (ls, left) →
    (page : LineBuffer T M) × (o ≡ Some page) × (all_lines page ≡ ls) × (page.waiting ≡ left)
of_page None ls left e = cc
of_page {T} {M} (Some page) ls left e =
    let same : lines_and_marks page ≡ (ls, left) = same_Some _ _ e in
    (page, refl, ap (λ (x : List (Line T M) × List M). x.0) same, ap (λ (x : List (Line T M) × List M). x.1) same)

-- the lines of a paragraph are the placed ones
pub paragraph_placed : {T M : Type 0} (s : Setting) (marks : List M) (xs : List (Item T M)) (ls : List (Line T M)) (left : List M) →
    IsParagraph s marks xs ls left → (page : LineBuffer T M) × (paragraph s marks xs ≡ Some page) × (all_lines page ≡ ls) × (page.waiting ≡ left)
paragraph_placed s marks xs ls left h =
    of_page (paragraph s marks xs) ls left (ap (option_map lines_and_marks) (lay-parts s (empty_buffer marks) None (pieces xs)) ∙ laid h [])

-- the lines of a paragraph are unique
pub paragraph_unique : {T M : Type 0} (s : Setting) (marks : List M) (xs : List (Item T M)) (ls ks : List (Line T M)) (left behind : List M) →
    IsParagraph s marks xs ls left → IsParagraph s marks xs ks behind → (ls ≡ ks) × (left ≡ behind)
paragraph_unique {T} {M} s marks xs ls ks left behind h k =
    let p = paragraph_placed s marks xs ls left h in
    let q = paragraph_placed s marks xs ks behind k in
    let same : p.0 ≡ q.0 = same_Some _ _ (sym p.1 ∙ q.1) in
    (sym p.2 ∙ ap (λ (page : LineBuffer T M). all_lines page) same ∙ q.2, sym p.3 ∙ ap (λ (page : LineBuffer T M). page.waiting) same ∙ q.3)
