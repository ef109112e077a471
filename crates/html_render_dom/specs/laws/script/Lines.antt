-- Texts are cut at a byte, and scripts into lines.
use Rattle.std.specs.Prelude.{◌≡◌, ◌==◌, ℕ, ◌<◌, List, [], ◌∷◌, ◌++◌, length}
use Rattle.std.specs.List.{after_first, before_first, position_or_len, slice_split}
use Rattle.std.specs.Str.Lines.{lines, lines_of_parts, strip_carriage_return}
use Rattle.std.proofs.Common.{refl, ap, ◌∙◌, arith, get_or}
use Rattle.std.proofs.lemmas.Bool.{eqb-true, ne_eqb}
use Rattle.std.proofs.lemmas.List.{get_or-take, length-append, length-take-le}
use Rattle.std.proofs.lemmas.List.Splits.{slice_split_first, slice_split_none, length-slice_split}
use Rattle.std.proofs.lemmas.List.Sums.{fails_before_first, passes_at_first, split_at_first}
use Rattle.html_render_dom.specs.script.Plain.{Lacks}

-- ---- a byte

-- there is no such byte before the first one
pub Lacks-before_first : (byte : ℕ) (bs : List ℕ) → position_or_len (λ b. b == byte) bs < length bs → Lacks byte (before_first (λ b. b == byte) bs)
Lacks-before_first byte bs found = λ k d at.
    let n : ℕ = position_or_len (λ b. b == byte) bs in
    let short : k < n = omega (arith, at, length-take-le n bs (omega (arith, found))) in
    ap (λ (x : ℕ). x == byte) (get_or-take n bs k d short) ∙ fails_before_first (λ b. b == byte) bs k d short

-- without such a byte all bytes are others
pub Lacks-none : (byte : ℕ) (bs : List ℕ) → position_or_len (λ b. b == byte) bs ≡ length bs → Lacks byte bs
Lacks-none byte bs none = λ k d at. fails_before_first (λ b. b == byte) bs k d (omega arith)

-- a text is the part before the first such byte, that byte, and the part after it
pub cut_at_first : (byte : ℕ) (bs : List ℕ) → position_or_len (λ b. b == byte) bs < length bs →
    bs ≡ before_first (λ b. b == byte) bs ++ byte ∷ after_first (λ b. b == byte) bs
cut_at_first byte bs found =
    split_at_first (λ b. b == byte) bs 0 found
    ∙ ap (λ (x : ℕ). before_first (λ b. b == byte) bs ++ x ∷ after_first (λ b. b == byte) bs)
    (eqb-true (get_or bs (position_or_len (λ b. b == byte) bs) 0) byte (passes_at_first (λ b. b == byte) bs 0 found))

-- parts that are the ones around the first such byte make up the text
pub cut_parts : (byte : ℕ) (bs front back : List ℕ) →
    (position_or_len (λ b. b == byte) bs < length bs) × (front ≡ before_first (λ b. b == byte) bs) × (back ≡ after_first (λ b. b == byte) bs) →
    (bs ≡ front ++ byte ∷ back) × Lacks byte front × (length back < length bs)
cut_parts byte bs front back cut =
    let whole : bs ≡ front ++ byte ∷ back = rw (cut.1, cut.2) (cut_at_first byte bs cut.0) in (
      whole,
      rw cut.1 (Lacks-before_first byte bs cut.0),
      omega (arith, ap length whole ∙ length-append front (byte ∷ back)),
    )

-- ---- lines

parts-more : (x : List ℕ) (parts : List (List ℕ)) → 0 < length parts → lines_of_parts (x ∷ parts) ≡ strip_carriage_return x ∷ lines_of_parts parts
parts-more x [] some = absurd (omega arith)
parts-more x (y ∷ more) some = refl

-- the first line ends at the first line feed
pub lines-first : (bs : List ℕ) → position_or_len (λ b. b == 10) bs < length bs →
    lines bs ≡ strip_carriage_return (before_first (λ b. b == 10) bs) ∷ lines (after_first (λ b. b == 10) bs)
lines-first bs found =
    ap lines_of_parts (slice_split_first (λ b. b == 10) bs 0 found)
    ∙ parts-more (before_first (λ b. b == 10) bs) (slice_split (λ b. b == 10) (after_first (λ b. b == 10) bs))
    (omega (arith, length-slice_split (λ b. b == 10) (after_first (λ b. b == 10) bs)))

-- without a line feed, a script is one line
pub lines-last : (bs : List ℕ) → 0 < length bs → position_or_len (λ b. b == 10) bs ≡ length bs → lines bs ≡ bs ∷ []
lines-last bs some none =
    let one : lines_of_parts (bs ∷ []) ≡ bs ∷ [] = rw (ne_eqb (length bs) 0 (λ e. omega (arith, e, some))) refl in
    ap lines_of_parts (slice_split_none (λ b. b == 10) bs (Lacks-none 10 bs none)) ∙ one
