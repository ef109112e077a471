-- The runs of a line.
use Rattle.std.proofs.Common.{◌≡◌, ℕ, zero, suc, ◌+◌, ◌-◌, ◌<◌, ◌≤◌, List, [], ◌∷◌, ◌++◌, take, drop, length, refl, sym, ap, ◌∙◌, subst, arith, length-append}
use Rattle.std.specs.Prelude.{replicate, encode_utf8}
use Rattle.std.specs.Str.{chars, IsUtf8}
use Rattle.std.specs.Prelude.{min}
use Rattle.std.proofs.Math.Seq.{take-append-add, drop-append-add}
use Rattle.std.proofs.lemmas.List.{drop-drop, drop-take, take-take, take-replicate, length-take-le, length-drop, length-replicate, nil_from_length}
use Rattle.std.proofs.lemmas.Str.{chars_past_char, IsUtf8-past_char, chars-nil, length-encode, len_utf8_bounds}
use Rattle.html_render_layout_lines.specs.declared.line.Element.TheVariants as element
use Rattle.html_render_layout_lines.specs.Line.{Line, text_bytes}
use Rattle.html_render_layout_lines.specs.TaggedText.{under}
use Rattle.html_render_layout_buffer.specs.declared.slot.Slot.{Slot}
use Rattle.html_render_layout_buffer.specs.declared.slot.Slot.TheVariants as slot
use Rattle.html_render_layout_buffer.specs.Fields.{line_slots, elements_read}
use Rattle.html_render_layout_buffer.specs.declared.runs.TagRun.{TagRun}
use Rattle.html_render_layout_buffer.specs.Parts.{elements_left, IsLeft, IsTagged, reach}
use Rattle.html_render_layout_buffer.proofs.Stored.{line-read}

-- ---- what is left of a line

pub left-is : {T M : Type 0} (bs : List ℕ) (ss : List (Slot T M)) (from to : ℕ) (m : Line T M) → bs ≡ text_bytes m → drop from (take to ss) ≡ line_slots m →
    IsUtf8 bs → elements_left bs ss from to ≡ m
left-is {T} {M} bs ss from to m e f utf8 =
    ap (λ (y : List (Slot T M)). elements_read 0 (chars bs) y) f ∙ ap (λ y. elements_read 0 (chars y) (line_slots m)) e
    ∙ line-read m (subst IsUtf8 e utf8)

pub left-made : {T M : Type 0} (bs : List ℕ) (ss : List (Slot T M)) (from to : ℕ) (m : Line T M) → bs ≡ text_bytes m → drop from (take to ss) ≡ line_slots m →
    IsUtf8 bs → from ≤ to → to ≤ length ss → IsLeft bs ss from to
left-made {T} {M} bs ss from to m e f utf8 h k =
    let same : elements_left bs ss from to ≡ m = left-is bs ss from to m e f utf8 in
    record {
      text = e ∙ ap (λ (l : Line T M). text_bytes l) (sym same);
      slots = f ∙ ap (λ (l : Line T M). line_slots l) (sym same);
      utf8 = utf8;
      ordered = h;
      within = k;
    }

-- the slots from one place to another, and those of a run from the first place on
part-of-run : {X : Type 0} (xs : List X) (x : X) (from to end limit : ℕ) → from + limit ≤ to → from + limit ≤ end →
    drop from (take end xs) ≡ replicate (end - from) x → take limit (drop from (take to xs)) ≡ replicate limit x
part-of-run xs x from to end limit h k e =
    sym (drop-take from limit (take to xs))
    ∙ ap (λ y. drop from y) (take-take (from + limit) to xs h ∙ sym (take-take (from + limit) end xs k))
    ∙ drop-take from limit (take end xs) ∙ ap (λ y. take limit y) e
    ∙ take-replicate limit (end - from) x (omega (arith, k))

pub tagged-left : {T M : Type 0} (bs : List ℕ) (ss : List (Slot T M)) (run : TagRun (Slot T M)) (tag : T) (from to limit : ℕ) (l : Line T M) →
    IsLeft bs ss from to → elements_left bs ss from to ≡ l → limit ≡ min run.end to - from → from < to → from < run.end →
    drop from (take run.end ss) ≡ replicate (run.end - from) run.tag → run.tag ≡ slot.Byte tag → IsTagged l tag limit
tagged-left {T} {M} bs ss run tag from to limit l is o e h k f s =
    ap (λ (y : Line T M). take limit (line_slots y)) (sym o) ∙ ap (λ (y : List (Slot T M)). take limit y) (sym is.slots)
    ∙ part-of-run ss run.tag from to run.end limit (omega (arith, e, h, k)) (omega (arith, e, h, k)) f ∙ ap (λ y. replicate limit y) s

-- ---- a mark

marked : {T M : Type 0} (l : Line T M) (m : M) → take 1 (line_slots l) ≡ slot.Mark m ∷ [] → l ≡ element.Mark m ∷ drop 1 l
marked [] m e = cc
marked {T} {M} (element.Mark k ∷ l) m e =
    let same : k ≡ m = cc in
    ap (λ (x : M). element.Mark x ∷ l) same
marked {T} {M} (element.Character c tag ∷ l) m e = by (length (encode_utf8 c)) refl
  where
    by : (n : ℕ) → length (encode_utf8 c) ≡ n → element.Character c tag ∷ l ≡ element.Mark m ∷ l
    by zero f = absurd (omega (arith, f, length-encode c, (len_utf8_bounds c).0))
    by (suc n) f =
        let first : take 1 (replicate (suc n) (slot.Byte tag) ++ line_slots l) ≡ slot.Mark m ∷ [] =
        ap (λ k. take 1 (replicate k (slot.Byte tag) ++ line_slots l)) (sym f) ∙ e in
        cc

pub mark-left : {T M : Type 0} (bs : List ℕ) (ss : List (Slot T M)) (run : TagRun (Slot T M)) (m : M) (from to : ℕ) (l : Line T M) →
    IsLeft bs ss from to → elements_left bs ss from to ≡ l → from < to → from < run.end →
    drop from (take run.end ss) ≡ replicate (run.end - from) run.tag → run.tag ≡ slot.Mark m →
    IsLeft bs ss (from + 1) to × (l ≡ element.Mark m ∷ elements_left bs ss (from + 1) to)
mark-left {T} {M} bs ss run m from to l is o h k f s =
    let own : drop from (take to ss) ≡ line_slots l = is.slots ∙ ap (λ (y : Line T M). line_slots y) o in
    let first : take 1 (line_slots l) ≡ slot.Mark m ∷ [] =
    ap (λ (y : List (Slot T M)). take 1 y) (sym own) ∙ part-of-run ss run.tag from to run.end 1 (omega (arith, h)) (omega (arith, k)) f
    ∙ ap (λ y. y ∷ []) s in
    let whole : l ≡ element.Mark m ∷ drop 1 l = marked l m first in
    let text : bs ≡ text_bytes (drop 1 l) = is.text ∙ ap (λ (y : Line T M). text_bytes y) (o ∙ whole) in
    let slots : drop (from + 1) (take to ss) ≡ line_slots (drop 1 l) =
    sym (drop-drop 1 from (take to ss)) ∙ ap (λ (y : List (Slot T M)). drop 1 y) (own ∙ ap (λ (y : Line T M). line_slots y) whole) in (
      left-made bs ss (from + 1) to (drop 1 l) text slots is.utf8 (omega (arith, h)) is.within,
      whole ∙ ap (λ (y : Line T M). element.Mark m ∷ y) (sym (left-is bs ss (from + 1) to (drop 1 l) text slots is.utf8)),
    )

-- ---- characters

pub reach-next : (limit n size c : ℕ) (cs : List ℕ) → n < limit → length (encode_utf8 c) ≡ size →
    reach (limit - n) (c ∷ cs) ≡ size + reach (limit - (n + size)) cs
reach-next limit n size c cs h e = by (limit - n) refl
  where
    by : (k : ℕ) → limit - n ≡ k → reach k (c ∷ cs) ≡ size + reach (limit - (n + size)) cs
    by zero f = absurd (omega (arith, h, f))
    by (suc k) f =
        let left : suc k - length (encode_utf8 c) ≡ limit - (n + size) = omega (arith, f, e) in
        ap (λ i. length (encode_utf8 c) + reach i cs) left ∙ ap (λ i. i + reach (limit - (n + size)) cs) e

pub reach-nil : (limit : ℕ) (bs : List ℕ) → length bs ≡ 0 → reach limit (chars bs) ≡ 0
reach-nil limit bs e = ap (λ y. reach limit (chars y)) (nil_from_length bs e) ∙ ap (λ cs. reach limit cs) chars-nil ∙ by limit
  where
    by : (k : ℕ) → reach k [] ≡ 0
    by zero = refl
    by (suc k) = refl

drop-past-replicate : {X : Type 0} (size : ℕ) (x : X) (ys : List X) (n : ℕ) → drop (size + n) (replicate size x ++ ys) ≡ drop n ys
drop-past-replicate size x ys n =
    ap (λ k. drop (k + n) (replicate size x ++ ys)) (sym (length-replicate size x)) ∙ drop-append-add (replicate size x) ys n

abbrev rest_after : {T M : Type 0} → ℕ → Line T M → Line T M
rest_after zero l = l
rest_after (suc k) [] = []
rest_after (suc k) (element.Mark m ∷ l) = element.Mark m ∷ l
rest_after (suc k) (element.Character c tag ∷ l) = rest_after (suc k - length (encode_utf8 c)) l

-- a line begins with characters of so many bytes under a tag
record IsSplit {T M : Type 0} (l : Line T M) (tag : T) (n : ℕ) (m : Line T M) : Type 0 where
  whole : l ≡ under tag (chars (take n (text_bytes l))) ++ m
  text : drop n (text_bytes l) ≡ text_bytes m
  slots : drop n (line_slots l) ≡ line_slots m
  within : n ≤ length (line_slots l)

rest-tagged : {X : Type 0} (x y : X) (n k : ℕ) (xs : List X) → take k (replicate n x ++ xs) ≡ replicate k y → take (k - n) xs ≡ replicate (k - n) y
rest-tagged x y zero k xs e =
    let same : k - 0 ≡ k = omega arith in
    rw same e
rest-tagged x y (suc n) zero xs e =
    let none : 0 - suc n ≡ 0 = omega arith in
    rw none refl
rest-tagged x y (suc n) (suc k) xs e =
    let same : suc k - suc n ≡ k - n = omega arith in
    let rest : take k (replicate n x ++ xs) ≡ replicate k y = ap (λ (r : List _). drop 1 r) e in
    rw same (rest-tagged x y n k xs rest)

split : {T M : Type 0} (limit : ℕ) (l : Line T M) (tag : T) (n : ℕ) → n ≡ reach limit (chars (text_bytes l)) → IsUtf8 (text_bytes l) →
    IsUtf8 (take n (text_bytes l)) → take limit (line_slots l) ≡ replicate limit (slot.Byte tag) → IsSplit l tag n (rest_after limit l)
split zero l tag n e utf8 front tagged = rw e (record {
  whole = ap (λ (cs : List ℕ). under tag cs ++ l) (sym chars-nil);
  text = refl;
  slots = refl;
  within = omega arith;
})
split (suc k) [] tag n e utf8 front tagged = cc
split (suc k) (element.Mark m ∷ l) tag n e utf8 front tagged = cc
split {T} {M} (suc k) (element.Character c own ∷ l) tag n e utf8 front tagged =
    by (length (encode_utf8 c)) refl (λ next a b f t. split (suc k - length (encode_utf8 c)) l tag next a b f t)
  where
    by : (size : ℕ) → length (encode_utf8 c) ≡ size →
        ((next : ℕ) → next ≡ reach (suc k - length (encode_utf8 c)) (chars (text_bytes l)) → IsUtf8 (text_bytes l) → IsUtf8 (take next (text_bytes l)) →
        take (suc k - length (encode_utf8 c)) (line_slots l) ≡ replicate (suc k - length (encode_utf8 c)) (slot.Byte tag) →
        IsSplit l tag next (rest_after (suc k - length (encode_utf8 c)) l)) →
        IsSplit (element.Character c own ∷ l) tag n (rest_after (suc k) (element.Character c own ∷ l))
    by zero f later = absurd (omega (arith, f, length-encode c, (len_utf8_bounds c).0))
    by (suc j) f later =
        let size = length (encode_utf8 c) in
        let B : List ℕ = text_bytes l in
        let S : List (Slot T M) = line_slots l in
        let slots_here : take (suc k) (replicate (suc j) (slot.Byte own) ++ S) ≡ replicate (suc k) (slot.Byte tag) =
        ap (λ i. take (suc k) (replicate i (slot.Byte own) ++ S)) (sym f) ∙ tagged in
        let same : own ≡ tag = cc in
        let rest_utf8 : IsUtf8 B = IsUtf8-past_char (encode_utf8 c ++ B) B c utf8 refl in
        let sum : n ≡ size + reach (suc k - size) (chars B) = e ∙ ap (λ cs. reach (suc k) cs) (chars_past_char (encode_utf8 c ++ B) B c utf8 refl) in
        let next : ℕ = reach (suc k - size) (chars B) in
        let taken : take n (encode_utf8 c ++ B) ≡ encode_utf8 c ++ take next B = ap (λ i. take i (encode_utf8 c ++ B)) sum ∙ take-append-add (encode_utf8 c) B next in
        let front_here : IsUtf8 (encode_utf8 c ++ take next B) = subst IsUtf8 taken front in
        let front_rest : IsUtf8 (take next B) = IsUtf8-past_char (encode_utf8 c ++ take next B) (take next B) c front_here refl in
        let tagged_rest : take (suc k - size) S ≡ replicate (suc k - size) (slot.Byte tag) = rest-tagged (slot.Byte own) (slot.Byte tag) size (suc k) S tagged in
        let rest = later next refl rest_utf8 front_rest tagged_rest in
        let characters : chars (take n (encode_utf8 c ++ B)) ≡ c ∷ chars (take next B) =
        ap chars taken ∙ chars_past_char (encode_utf8 c ++ take next B) (take next B) c front_here refl in
        record {
          whole = ap (λ (t : T). element.Character c t ∷ l) same
              ∙ ap (λ (y : Line T M). element.Character c tag ∷ y) rest.whole
              ∙ ap (λ (cs : List ℕ). under tag cs ++ rest_after (suc k - size) l) (sym characters);
          text = ap (λ i. drop i (encode_utf8 c ++ B)) sum ∙ drop-append-add (encode_utf8 c) B next ∙ rest.text;
          slots = ap (λ i. drop i (replicate size (slot.Byte own) ++ S)) sum ∙ drop-past-replicate size (slot.Byte own) S next ∙ rest.slots;
          within = omega (arith, sum, rest.within, length-append (replicate size (slot.Byte own)) S, length-replicate {A = Slot T M} size (slot.Byte own));
        }

-- ---- characters are fewer afterwards

rest-le : {T M : Type 0} (n : ℕ) (l : Line T M) → length (rest_after n l) ≤ length l
rest-le zero l = omega arith
rest-le (suc k) [] = omega arith
rest-le (suc k) (element.Mark m ∷ l) = omega arith
rest-le (suc k) (element.Character c tag ∷ l) = omega (arith, rest-le (suc k - length (encode_utf8 c)) l)

rest-shorter : {T M : Type 0} (limit : ℕ) (l : Line T M) (tag : T) → 0 < limit → take limit (line_slots l) ≡ replicate limit (slot.Byte tag) →
    length (rest_after limit l) < length l
rest-shorter zero l tag h e = absurd (omega (arith, h))
rest-shorter (suc k) [] tag h e = cc
rest-shorter (suc k) (element.Mark m ∷ l) tag h e = cc
rest-shorter (suc k) (element.Character c own ∷ l) tag h e = omega (arith, rest-le (suc k - length (encode_utf8 c)) l)

-- a line's characters of `n` bytes under a tag, and what is left behind them
pub record AreTaken {T M : Type 0} (l : Line T M) (tag : T) (cs : List ℕ) (rest : List ℕ) (ss : List (Slot T M)) (from to : ℕ) : Type 0 where
  pub left : IsLeft rest ss from to
  pub whole : l ≡ under tag cs ++ elements_left rest ss from to
  pub shorter : length (elements_left rest ss from to) < length l

pub characters-left : {T M : Type 0} (bs own rest : List ℕ) (ss : List (Slot T M)) (from to limit n : ℕ) (tag : T) (l : Line T M) → IsLeft bs ss from to →
    elements_left bs ss from to ≡ l → n ≡ reach limit (chars bs) → IsUtf8 (take n bs) → IsTagged l tag limit → 0 < limit →
    own ≡ take (n - 0) bs → rest ≡ drop n bs → IsUtf8 rest → AreTaken l tag (chars own) rest ss (from + n) to
characters-left {T} {M} bs own rest ss from to limit n tag l is o r front tagged some a behind utf8 =
    let all : n - 0 ≡ n = omega arith in
    let taken : take n (text_bytes l) ≡ own = sym (a ∙ ap (λ k. take k bs) all ∙ ap (λ y. take n y) (is.text ∙ ap (λ (y : Line T M). text_bytes y) o)) in
    let text : bs ≡ text_bytes l = is.text ∙ ap (λ (y : Line T M). text_bytes y) o in
    let slots : drop from (take to ss) ≡ line_slots l = is.slots ∙ ap (λ (y : Line T M). line_slots y) o in
    let parts = split limit l tag n (r ∙ ap (λ y. reach limit (chars y)) text) (subst IsUtf8 text is.utf8)
    (subst (λ y. IsUtf8 (take n y)) text front) tagged in
    let count : length (line_slots l) ≡ to - from =
    omega (arith, ap length slots, length-drop from (take to ss), length-take-le to ss is.within) in
    let after : Line T M = rest_after limit l in
    let text_after : rest ≡ text_bytes after = behind ∙ ap (λ y. drop n y) text ∙ parts.text in
    let slots_after : drop (from + n) (take to ss) ≡ line_slots after =
    sym (drop-drop n from (take to ss)) ∙ ap (λ (y : List (Slot T M)). drop n y) slots ∙ parts.slots in
    let same : elements_left rest ss (from + n) to ≡ after = left-is rest ss (from + n) to after text_after slots_after utf8 in
    record {
      left = left-made rest ss (from + n) to after text_after slots_after utf8 (omega (arith, count, parts.within, is.ordered)) is.within;
      whole = parts.whole ∙ ap (λ y. under tag (chars y) ++ after) taken ∙ ap (λ (y : Line T M). under tag (chars own) ++ y) (sym same);
      shorter = omega (arith, ap length same, rest-shorter limit l tag some tagged);
    }
