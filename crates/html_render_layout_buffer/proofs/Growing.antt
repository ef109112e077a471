-- Buffers of lines that grow line by line.
use Rattle.std.proofs.Common.{◌≡◌, ℕ, zero, suc, ◌+◌, ◌-◌, ◌<◌, ◌≤◌, List, [], ◌∷◌, ◌++◌, map, take, drop, length, get_or, refl, sym, ap, ◌∙◌, arith, append_assoc, append-nil}
use Rattle.std.specs.Prelude.{replicate}
use Rattle.std.specs.Str.{chars, IsUtf8, IsCharBoundary, IsAscii}
use Rattle.std.proofs.lemmas.List.{take-map, map_more, map-append, take_more, drop-append-le, length-take-le, take-replicate, replicate-append-replicate, length-replicate, nil_from_length}
use Rattle.std.proofs.lemmas.List.Sums.{sum_by-cons}
use Rattle.std.proofs.lemmas.Str.{chars-IsAscii, chars_past_char, IsUtf8-past_char, IsCharBoundary-from_ascii, chars-nil}
use Rattle.html_render_layout_lines.specs.declared.line.Element.{Element}
use Rattle.html_render_layout_lines.specs.declared.line.Element.TheVariants as element
use Rattle.html_render_layout_lines.specs.Character.{width_of}
use Rattle.html_render_layout_lines.specs.Line.{Line, columns, text_bytes, marks_line}
use Rattle.html_render_layout_lines.specs.TaggedText.{under, text_columns}
use Rattle.html_render_layout_lines.specs.laws.Columns.{columns-cons, width-space}
use Rattle.html_render_layout_buffer.specs.Lines.{BufferedLines, with_spaces}
use Rattle.html_render_layout_buffer.specs.Marked.{marked_before, marked_behind}
use Rattle.html_render_layout_buffer.specs.Padding.{repeated, filled_line}
use Rattle.html_render_layout_buffer.specs.Pieces.{with_front}

-- ---- line by line

pub one-more : {T M : Type 0} (f : Line T M → Line T M) (old p0 p1 : BufferedLines T M) (n : ℕ) (ls : List (Line T M)) →
    p0 ≡ record { lines = old.lines ++ take n (map f ls); line = [] } →
    p1 ≡ record { lines = p0.lines ++ (p0.line ++ f (get_or ls n [])) ∷ []; line = [] } → n < length ls →
    p1 ≡ record { lines = old.lines ++ take (n + 1) (map f ls); line = [] }
one-more {T} {M} f old p0 p1 n ls e0 e1 h =
    let more : take (n + 1) (map f ls) ≡ take n (map f ls) ++ f (get_or ls n []) ∷ [] =
    take-map f (n + 1) ls ∙ map_more f ls n [] h ∙ ap (λ y. y ++ f (get_or ls n []) ∷ []) (sym (take-map f n ls)) in
    rw (e1, e0, more)
    (ap (λ (y : List (Line T M)). record { lines = y; line = [] }) (append_assoc old.lines (take n (map f ls)) (f (get_or ls n []) ∷ [])))

pub part-more : {X : Type 0} (xs : List X) (from n : ℕ) (d : X) → from ≤ n → n < length xs →
    drop from (take (n + 1) xs) ≡ drop from (take n xs) ++ get_or xs n d ∷ []
part-more xs from n d p h =
    ap (drop from) (take_more xs n d h)
    ∙ drop-append-le from (take n xs) (get_or xs n d ∷ []) (omega (arith, p, h, length-take-le n xs (omega (arith, h))))

pub one-later : {T M : Type 0} (f : Line T M → Line T M) (old p0 p1 : BufferedLines T M) (from n : ℕ) (ls : List (Line T M)) →
    p0 ≡ record { lines = old.lines ++ map f (drop from (take n ls)); line = [] } →
    p1 ≡ record { lines = p0.lines ++ (p0.line ++ f (get_or ls n [])) ∷ []; line = [] } → from ≤ n → n < length ls →
    p1 ≡ record { lines = old.lines ++ map f (drop from (take (n + 1) ls)); line = [] }
one-later {T} {M} f old p0 p1 from n ls e0 e1 p h =
    let more : map f (drop from (take (n + 1) ls)) ≡ map f (drop from (take n ls)) ++ f (get_or ls n []) ∷ [] =
    ap (map f) (part-more ls from n [] p h) ∙ map-append f (drop from (take n ls)) (get_or ls n [] ∷ []) in
    rw (e1, e0, more)
    (ap (λ (y : List (Line T M)). record { lines = y; line = [] }) (append_assoc old.lines (map f (drop from (take n ls))) (f (get_or ls n []) ∷ [])))

pub one-copied : {T M : Type 0} (old p0 p1 : BufferedLines T M) (n : ℕ) (ls : List (Line T M)) →
    p0 ≡ record { lines = old.lines ++ drop 1 (take n ls); line = [] } →
    p1 ≡ record { lines = p0.lines ++ (p0.line ++ get_or ls n []) ∷ []; line = [] } → 0 < n → n < length ls →
    p1 ≡ record { lines = old.lines ++ drop 1 (take (n + 1) ls); line = [] }
one-copied {T} {M} old p0 p1 n ls e0 e1 p h =
    rw (e1, e0, part-more ls 1 n [] p h)
    (ap (λ (y : List (Line T M)). record { lines = y; line = [] }) (append_assoc old.lines (drop 1 (take n ls)) (get_or ls n [] ∷ [])))

pub line-filled : {T M : Type 0} (old a b c : BufferedLines T M) (l : Line T M) (tag : T) (width missing : ℕ) →
    a ≡ record { lines = old.lines; line = old.line ++ l } → b ≡ record { lines = a.lines; line = a.line ++ repeated tag 32 missing } →
    c ≡ record { lines = b.lines ++ b.line ∷ []; line = [] } → missing ≡ width - columns l →
    c ≡ record { lines = old.lines ++ (old.line ++ filled_line tag width l) ∷ []; line = [] }
line-filled {T} {M} old a b c l tag width missing e f g h =
    rw (g, f, e, h) (ap (λ (y : Line T M). record { lines = old.lines ++ y ∷ []; line = [] }) (append_assoc old.line l (repeated tag 32 (width - columns l))))

-- ---- spaces

pub under-spaces : {T : Type 0} (M : Type 0) (tag : T) (n : ℕ) → under {M = M} tag (replicate n 32) ≡ repeated tag 32 n
under-spaces M tag zero = refl
under-spaces {T} M tag (suc n) =
    let one : Element T M = element.Character 32 tag in
    ap (λ y. one ∷ y) (under-spaces M tag n)

pub spaces_width : (n : ℕ) → text_columns (replicate n 32) ≡ n
spaces_width zero = refl
spaces_width (suc n) = omega (arith, sum_by-cons width_of 32 (replicate n 32), width-space, spaces_width n)

-- some of them, and the ones that are left, are all of them
pub spaces_parted : {T M : Type 0} (b : BufferedLines T M) (tag : T) (next left : ℕ) → next ≤ left →
    with_spaces (with_spaces b tag next) tag (left - next) ≡ with_spaces b tag left
spaces_parted {T} {M} b tag next left h =
    let one : Element T M = element.Character 32 tag in
    let sum : next + (left - next) ≡ left = omega (arith, h) in
    let all : repeated {M = M} tag 32 next ++ repeated tag 32 (left - next) ≡ repeated tag 32 left =
    replicate-append-replicate next (left - next) one ∙ ap (λ n. replicate n one) sum in
    ap (λ (y : Line T M). record { lines = b.lines; line = y }) (append_assoc b.line (repeated tag 32 next) (repeated tag 32 (left - next)) ∙ ap (λ y. b.line ++ y) all)

-- none is left
pub spaces_done : {T M : Type 0} (b : BufferedLines T M) (tag : T) → with_spaces b tag 0 ≡ b
spaces_done {T} {M} b tag = ap (λ (y : Line T M). record { lines = b.lines; line = y }) (append-nil b.line)

ascii-spaces : (n : ℕ) → IsAscii (replicate n 32)
ascii-spaces n = ascii n
  where
    ascii : (n i : ℕ) → get_or (replicate n 32) i 0 < 128
    ascii zero i = omega arith
    ascii (suc n) zero = omega arith
    ascii (suc n) (suc i) = ascii n i

pub spaces-boundary : (text : List ℕ) (count all : ℕ) → text ≡ replicate all 32 → count ≤ all → IsCharBoundary text count
spaces-boundary text count all e h =
    rw e (IsCharBoundary-from_ascii (replicate all 32) count (ascii-spaces all) (omega (arith, h, length-replicate {A = ℕ} all 32)))

pub spaces-chars : (text : List ℕ) (count all : ℕ) → text ≡ replicate all 32 → count ≤ all → chars (take (count - 0) text) ≡ replicate count 32
spaces-chars text count all e h =
    let same : count - 0 ≡ count = omega arith in
    rw (e, same) (ap chars (take-replicate count all 32 h) ∙ chars-IsAscii (replicate count 32) (ascii-spaces count))

-- ---- tab stops

pub columns-text : {T M : Type 0} (l : Line T M) → IsUtf8 (text_bytes l) → text_columns (chars (text_bytes l)) ≡ columns l
columns-text [] utf8 = ap text_columns chars-nil
columns-text (element.Mark m ∷ l) utf8 = columns-text l utf8
columns-text {T} {M} (element.Character c tag ∷ l) utf8 =
    let one : Element T M = element.Character c tag in
    let bs : List ℕ = text_bytes (one ∷ l) in
    let rest : IsUtf8 (text_bytes l) = IsUtf8-past_char bs (text_bytes l) c utf8 refl in
    let first : chars bs ≡ c ∷ chars (text_bytes l) = chars_past_char bs (text_bytes l) c utf8 refl in
    omega (arith, ap text_columns first, sum_by-cons width_of c (chars (text_bytes l)), columns-text l rest, columns-cons one l)

pub ruleset few_put = (spaces_width, under-spaces)

pub ruleset spaces_left = (spaces_parted, spaces_done)

-- ---- a buffer without lines

pub none-is : {T M : Type 0} (b : BufferedLines T M) → length b.lines ≡ 0 → b.line ≡ [] → b ≡ record { lines = []; line = [] }
none-is {T} {M} b e f =
    ap (λ (ls : List (Line T M)). record { lines = ls; line = b.line }) (nil_from_length b.lines e)
    ∙ ap (λ (l : Line T M). record { lines = []; line = l }) f

-- ---- marks

pub marked-last : {T M : Type 0} (ms : List M) (ls : List (Line T M)) (l : Line T M) → marked_behind ms (ls ++ l ∷ []) ≡ ls ++ (l ++ marks_line ms) ∷ []
marked-last ms [] l = refl
marked-last ms (x ∷ []) l = refl
marked-last ms (x ∷ y ∷ ls) l = ap (λ r. x ∷ r) (marked-last ms (y ∷ ls) l)

pub last-marked : {T M : Type 0} (old p1 p2 p3 : BufferedLines T M) (ms : List M) → old ≡ record { lines = p1.lines ++ p1.line ∷ []; line = [] } →
    p2 ≡ record { lines = p1.lines; line = p1.line ++ marks_line ms } → p3 ≡ record { lines = p2.lines ++ p2.line ∷ []; line = [] } →
    p3 ≡ record { lines = marked_behind ms old.lines; line = [] }
last-marked {T} {M} old p1 p2 p3 ms e0 e1 e2 =
    rw (e2, e1, e0) (ap (λ (y : List (Line T M)). record { lines = y; line = [] }) (sym (marked-last ms p1.lines p1.line)))

-- a line whose front is on the open line, and the later lines
pub front-copied : {T M : Type 0} (old p1 p2 p3 : BufferedLines T M) (f : Line T M) (ls : List (Line T M)) → 0 < length ls →
    p1 ≡ record { lines = old.lines; line = old.line ++ f } → old.line ≡ [] →
    p2 ≡ record { lines = p1.lines ++ (p1.line ++ get_or ls 0 []) ∷ []; line = [] } → p3 ≡ record { lines = p2.lines ++ drop 1 ls; line = [] } →
    p3 ≡ record { lines = old.lines ++ with_front f ls; line = [] }
front-copied old p1 p2 p3 f [] h e1 n e2 e3 = absurd (omega arith)
front-copied {T} {M} old p1 p2 p3 f (x ∷ ls) h e1 n e2 e3 =
    rw (e3, e2, e1, n) (ap (λ (y : List (Line T M)). record { lines = y; line = [] }) (append_assoc old.lines ((f ++ x) ∷ []) ls))

pub no-marks : {T M : Type 0} (b : BufferedLines T M) (ms : List M) → length b.lines ≡ 0 → b.line ≡ [] → b ≡ record { lines = marked_behind ms b.lines; line = [] }
no-marks {T} {M} b ms e f =
    let none : b ≡ record { lines = []; line = [] } = none-is b e f in
    none ∙ sym (ap (λ (c : BufferedLines T M). record { lines = marked_behind ms c.lines; line = [] }) none)

pub no-marks-first : {T M : Type 0} (b : BufferedLines T M) (ms : List M) → length b.lines ≡ 0 → b.line ≡ [] → b ≡ record { lines = marked_before ms b.lines; line = [] }
no-marks-first {T} {M} b ms e f =
    let none : b ≡ record { lines = []; line = [] } = none-is b e f in
    none ∙ sym (ap (λ (c : BufferedLines T M). record { lines = marked_before ms c.lines; line = [] }) none)

pub ruleset no_marks = (no-marks, no-marks-first)
