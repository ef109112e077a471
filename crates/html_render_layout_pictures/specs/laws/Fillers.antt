-- Texts that repeat one character: their bytes and their columns.
use Rattle.std.proofs.Common.{◌≡◌, ℕ, Bool, cond, suc, zero, ◌+◌, ◌-◌, ◌*◌, ◌<◌, ◌≤◌, true, false, List, ◌&&◌}
use Rattle.std.proofs.Common.{[], ◌∷◌, ◌++◌, take, drop, length, replicate, refl, sym, ap, ◌∙◌, subst, arith, append_assoc, length-append}
use Rattle.std.proofs.Math.Utf8.{encode, encodes, scalar, scalars}
use Rattle.std.proofs.Math.Nat.{sub-zero}
use Rattle.std.proofs.lemmas.List.{take_at, drop_at, replicate-append-replicate}
use Rattle.std.proofs.lemmas.List.Elements.{All-replicate}
use Rattle.std.proofs.lemmas.List.Folds.{sum_by-replicate}
use Rattle.std.proofs.lemmas.List.Sums.{sum_by-append}
use Rattle.std.proofs.lemmas.Str.{chars-IsAscii, chars-encodes, encodes-append, length-encode, IsCharBoundary-at_seam}
use Rattle.std.proofs.lemmas.Str.Ascii.{IsAscii-from_all}
use Rattle.std.specs.Char.{len_utf8}
use Rattle.std.specs.List.{slice_range}
use Rattle.std.specs.Str.{chars, IsCharBoundary}
use Rattle.html_render_layout_pictures.specs.declared.borders.TheConstants.{BORDERS}
use Rattle.html_render_layout_lines.specs.declared.line.Element.TheVariants.{Character}
use Rattle.html_render_layout_lines.specs.Character.{width_of}
use Rattle.html_render_layout_lines.specs.Line.{Line}
use Rattle.html_render_layout_lines.specs.TaggedText.{text_columns, under}
use Rattle.html_render_layout_buffer.specs.Padding.{repeated}
use Rattle.html_render_layout_pictures.specs.Fillers.{character_of}
use Rattle.html_render_layout_pictures.specs.Picture.{joint}
use Rattle.html_render_layout_pictures.specs.declared.gaps.Filler.{Filler}
use Rattle.html_render_layout_pictures.specs.declared.gaps.Filler.TheVariants.{Space, Slash, Dash}
use Rattle.html_render_layout_pictures.specs.laws.Glyphs.{space_width, slash_width, joint_width, separator_width}

-- ---- the first of more are spelt by the first bytes

pub encodes-length : (c n : ℕ) → length (encodes (replicate n c)) ≡ n * len_utf8 c
encodes-length c zero = omega arith
encodes-length c (suc n) = grind (arith, length-append (encode c) (encodes (replicate n c)), length-encode c, encodes-length c n)

scalars-replicate : (c n : ℕ) → scalar c ≡ true → scalars (replicate n c) ≡ true
scalars-replicate c zero s = refl
scalars-replicate c (suc n) s = ap (λ b. b && scalars (replicate n c)) s ∙ scalars-replicate c n s

parted : (c count all : ℕ) → count ≤ all → encodes (replicate all c) ≡ encodes (replicate count c) ++ encodes (replicate (all - count) c)
parted c count all h =
    let whole : all ≡ count + (all - count) = omega (arith, h) in
    ap (λ n. encodes (replicate n c)) whole ∙ ap encodes (sym (replicate-append-replicate count (all - count) c))
    ∙ encodes-append (replicate count c) (replicate (all - count) c)

-- the bytes of a text's first `count` characters
module _ (c count all bytes : ℕ) (text : List ℕ) (s : scalar c ≡ true) (is : text ≡ encodes (replicate all c)) (each : bytes ≡ len_utf8 c)
    (h : count ≤ all) where
  first_length : length (encodes (replicate count c)) ≡ count * bytes
  first_length = encodes-length c count ∙ ap (λ n. count * n) (sym each)

  pub first_boundary : IsCharBoundary text (count * bytes)
  first_boundary = subst (IsCharBoundary text) first_length
      (IsCharBoundary-at_seam text (encodes (replicate count c)) (encodes (replicate (all - count) c)) (is ∙ parted c count all h)
      (replicate (all - count) c, (scalars-replicate c (all - count) s, refl)))

  pub first_chars : chars (slice_range text 0 (count * bytes)) ≡ replicate count c
  first_chars =
      ap (λ n. chars (take n text)) (sub-zero (count * bytes))
      ∙ ap (λ bs. chars (take (count * bytes) bs)) (is ∙ parted c count all h)
      ∙ ap chars (take_at (encodes (replicate count c)) (encodes (replicate (all - count) c)) (count * bytes) first_length)
      ∙ chars-encodes (replicate count c) (scalars-replicate c count s)

-- spaces are the bytes that they are spelt with
pub chars-spaces : (count : ℕ) → chars (replicate count 0x20) ≡ replicate count 0x20
chars-spaces count = chars-IsAscii (replicate count 0x20) (IsAscii-from_all (replicate count 0x20) (All-replicate (λ b. b < 128) count 0x20 (omega arith)))

-- ---- a repeated character, and another one after it

-- the last characters of such a text, in UTF-8
module _ (c end few bytes : ℕ) (text : List ℕ) (s : scalar c ≡ true) (e : scalar end ≡ true) (is : text ≡ encodes (replicate 127 c ++ end ∷ []))
    (each : bytes ≡ len_utf8 c) (h : few < 128) where
  abbrev before : List ℕ
  before = replicate (127 - few) c

  abbrev last : List ℕ
  last = replicate few c ++ end ∷ []

  last-scalars : (n : ℕ) → scalars (replicate n c ++ end ∷ []) ≡ true
  last-scalars zero = ap (λ b. b && true) e
  last-scalars (suc n) = ap (λ b. b && scalars (replicate n c ++ end ∷ [])) s ∙ last-scalars n

  last-parted : text ≡ encodes before ++ encodes last
  last-parted =
      let whole : 127 ≡ (127 - few) + few = omega (arith, h) in
      is ∙ ap (λ n. encodes (replicate n c ++ end ∷ [])) whole
      ∙ ap (λ l. encodes (l ++ end ∷ [])) (sym (replicate-append-replicate (127 - few) few c))
      ∙ ap encodes (append_assoc before (replicate few c) (end ∷ []))
      ∙ encodes-append before last

  before-length : length (encodes before) ≡ (127 - few) * bytes
  before-length = encodes-length c (127 - few) ∙ ap (λ n. (127 - few) * n) (sym each)

  pub last_boundary : IsCharBoundary text ((127 - few) * bytes)
  last_boundary = subst (IsCharBoundary text) before-length
      (IsCharBoundary-at_seam text (encodes before) (encodes last) last-parted (last, (last-scalars few, refl)))

  pub last_chars : chars (drop ((127 - few) * bytes) text) ≡ last
  last_chars =
      ap (λ bs. chars (drop ((127 - few) * bytes) bs)) last-parted
      ∙ ap chars (drop_at (encodes before) (encodes last) ((127 - few) * bytes) before-length)
      ∙ chars-encodes last (last-scalars few)

-- ---- on a line

character_width : (filler : Filler) → width_of (character_of filler) ≡ 1
character_width Space = space_width
character_width Slash = slash_width
character_width Dash = joint_width false false

-- as many columns as characters
pub fillers_width : (filler : Filler) (count : ℕ) → text_columns (replicate count (character_of filler)) ≡ count
fillers_width filler count =
    omega (arith, sum_by-replicate width_of count (character_of filler), ap (λ w. count * w) (character_width filler))

pub under-replicate : {T : Type 0} (M : Type 0) (tag : T) (c count : ℕ) → under {M = M} tag (replicate count c) ≡ repeated tag c count
under-replicate M tag c zero = refl
under-replicate M tag c (suc count) = ap (λ l. Character c tag ∷ l) (under-replicate M tag c count)

pub fillers_under : {T : Type 0} (M : Type 0) (filler : Filler) (tag : T) (count : ℕ) →
    under {M = M} tag (replicate count (character_of filler)) ≡ repeated tag (character_of filler) count
fillers_under M filler tag count = under-replicate M tag (character_of filler) count

-- some of them, and the ones that are left, are all of them
pub fillers_parted : {T M : Type 0} (filler : Filler) (tag : T) (line : Line T M) (next left : ℕ) → next ≤ left →
    (line ++ under tag (replicate next (character_of filler))) ++ repeated tag (character_of filler) (left - next)
    ≡ line ++ repeated tag (character_of filler) left
fillers_parted {T} {M} filler tag line next left h =
    let c = character_of filler in
    let whole : next + (left - next) ≡ left = omega (arith, h) in
    ap (λ l. (line ++ l) ++ repeated tag c (left - next)) (under-replicate M tag c next)
    ∙ append_assoc line (repeated tag c next) (repeated tag c (left - next))
    ∙ ap (λ l. line ++ l) (replicate-append-replicate next (left - next) (Character c tag))
    ∙ ap (λ n. line ++ repeated tag c n) whole

-- spaces before a separator, or one more space
pub gap_width : (borders : Bool) (count : ℕ) → text_columns (replicate count 0x20 ++ cond borders BORDERS.separator 0x20 ∷ []) ≡ count + 1
gap_width borders count =
    let c = cond borders BORDERS.separator 0x20 in
    let one : width_of c ≡ 1 = separator_width borders in
    omega (arith, sum_by-append width_of (replicate count 0x20) (c ∷ []), sum_by-replicate width_of count 0x20, ap (λ w. count * w) space_width, one)

-- horizontal border characters, and the one of the next column
pub joint_columns : (above below : Bool) (count : ℕ) → text_columns (replicate count BORDERS.line ++ joint above below ∷ []) ≡ count + 1
joint_columns above below count =
    let c = joint above below in
    omega (
      arith,
      sum_by-append width_of (replicate count BORDERS.line) (c ∷ []),
      sum_by-replicate width_of count BORDERS.line,
      ap (λ w. count * w) (joint_width false false),
      joint_width above below,
    )

pub one_more : (c count : ℕ) → replicate {A = ℕ} (count + 1) c ≡ replicate count c ++ c ∷ []
one_more c count = sym (replicate-append-replicate {A = ℕ} count 1 c)

under-push : {T : Type 0} (M : Type 0) (tag : T) (b count c : ℕ) →
    under {M = M} tag (replicate count b ++ c ∷ []) ≡ repeated tag b count ++ Character c tag ∷ []
under-push M tag b zero c = refl
under-push M tag b (suc count) c = ap (λ l. Character b tag ∷ l) (under-push M tag b count c)

-- a repeated character, and the last of them with another one after them
last_put : {T M : Type 0} (tag : T) (line : Line T M) (b count few c : ℕ) → few ≤ count →
    (line ++ repeated tag b (count - few)) ++ under tag (replicate few b ++ c ∷ []) ≡ (line ++ repeated tag b count) ++ Character c tag ∷ []
last_put {T} {M} tag line b count few c h =
    let start : Line T M = repeated tag b (count - few) in
    let rest : Line T M = repeated tag b few in
    let whole : (count - few) + few ≡ count = omega (arith, h) in
    ap (λ l. (line ++ start) ++ l) (under-push M tag b few c)
    ∙ sym (append_assoc (line ++ start) rest (Character c tag ∷ []))
    ∙ ap (λ l. l ++ Character c tag ∷ [])
    (append_assoc line start rest
    ∙ ap (λ l. line ++ l) (replicate-append-replicate (count - few) few (Character b tag))
    ∙ ap (λ n. line ++ repeated tag b n) whole)

pub gap_put : {T M : Type 0} (tag : T) (line : Line T M) (count few c : ℕ) → few ≤ count →
    (line ++ repeated tag (character_of Space) (count - few)) ++ under tag (replicate few 0x20 ++ c ∷ [])
    ≡ (line ++ repeated tag 0x20 count) ++ Character c tag ∷ []
gap_put tag line count few c h = last_put tag line 0x20 count few c h

pub joint_put : {T M : Type 0} (tag : T) (line : Line T M) (count few c : ℕ) → few ≤ count →
    (line ++ repeated tag (character_of Dash) (count - few)) ++ under tag (replicate few BORDERS.line ++ c ∷ [])
    ≡ (line ++ repeated tag BORDERS.line count) ++ Character c tag ∷ []
joint_put tag line count few c h = last_put tag line BORDERS.line count few c h
