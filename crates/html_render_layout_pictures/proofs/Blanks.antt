-- The blank text of a row, and a place in it.
use Rattle.std.proofs.Common.{◌≡◌, ℕ, Bool, true, cond, ◌+◌, ◌-◌, ◌≤◌, List, [], ◌∷◌, ◌++◌, ◌&&◌, take, drop, length, replicate, refl, sym, ap, ◌∙◌, subst, arith, append_assoc, length-append}
use Rattle.std.proofs.Math.Utf8.{encodes, encode, scalars, scalar}
use Rattle.std.proofs.lemmas.Bool.{and_parts}
use Rattle.std.proofs.lemmas.List.{take_at, drop_at, take-append-drop, length-take-le, map-append, replicate-append-replicate}
use Rattle.std.proofs.lemmas.Str.{chars-nil, chars-encodes, chars-append, encodes-chars, encodes-append, scalars-chars, IsUtf8-nil, IsUtf8-append, length-encode, len_utf8_bounds, IsUtf8-string_bytes}
use Rattle.std.proofs.lemmas.List.Sums.{sum_by-append}
use Rattle.std.specs.Str.{chars, IsUtf8}
use Rattle.std.specs.Prelude.{String}
use Rattle.std.specs.String.{string_bytes}
use Rattle.html_render_layout_lines.specs.Character.{width_of}
use Rattle.html_render_layout_lines.specs.declared.line.Element.TheVariants.{Character}
use Rattle.html_render_layout_lines.specs.Line.{Line}
use Rattle.html_render_layout_lines.specs.TaggedText.{text_columns, under}
use Rattle.html_render_layout_buffer.specs.Padding.{repeated}
use Rattle.html_render_layout_pictures.specs.declared.borders.TheConstants.{BORDERS}
use Rattle.std.specs.Char.{len_utf8}
use Rattle.html_render_layout_pictures.specs.Blank.{BlankText, IsPlace, blank_at}
use Rattle.html_render_layout_pictures.specs.laws.Fillers.{encodes-length, fillers_width, under-replicate}
use Rattle.html_render_layout_pictures.specs.laws.Glyphs.{separator_width}
use Rattle.html_render_layout_pictures.specs.declared.gaps.Filler.TheVariants.{Space}

-- ---- more of a text

-- texts one behind the other are spelt by their characters one behind the other
text_put : (text more cs : List ℕ) → IsUtf8 text → chars more ≡ cs → chars (text ++ more) ≡ chars text ++ cs
text_put text more cs utf8 is = chars-append text more utf8 ∙ ap (λ l. chars text ++ l) is

pub text_added : {Z : Type 0} (text : String Z) (more cs : List ℕ) → chars more ≡ cs → chars (string_bytes text ++ more) ≡ chars (string_bytes text) ++ cs
text_added text more cs is = text_put (string_bytes text) more cs (IsUtf8-string_bytes text) is

-- some spaces, and the ones that are left, are all of them
pub spaces_added : {Z : Type 0} (text : String Z) (few : List ℕ) (next left : ℕ) → chars few ≡ replicate next 0x20 → next ≤ left →
    chars (string_bytes text ++ few) ++ replicate (left - next) 0x20 ≡ chars (string_bytes text) ++ replicate left 0x20
spaces_added text few next left is h =
    let whole : next + (left - next) ≡ left = omega (arith, h) in
    ap (λ l. l ++ replicate (left - next) 0x20) (text_added text few (replicate next 0x20) is)
    ∙ append_assoc (chars (string_bytes text)) (replicate next 0x20) (replicate (left - next) 0x20)
    ∙ ap (λ l. chars (string_bytes text) ++ l) (replicate-append-replicate next (left - next) 0x20)
    ∙ ap (λ n. chars (string_bytes text) ++ replicate n 0x20) whole

-- a separator and spaces behind a text are a cell behind it
pub cell_added : {Z : Type 0} (text : String Z) (sign : List ℕ) (c width : ℕ) → chars sign ≡ c ∷ [] →
    chars (string_bytes text ++ sign) ++ replicate width 0x20 ≡ chars (string_bytes text) ++ c ∷ replicate width 0x20
cell_added text sign c width is =
    ap (λ l. l ++ replicate width 0x20) (text_added text sign (c ∷ []) is) ∙ append_assoc (chars (string_bytes text)) (c ∷ []) (replicate width 0x20)

pub ruleset texts = (cell_added, chars-nil)

-- ---- a part of a text's characters

scalars-left : (cs ds : List ℕ) → scalars (cs ++ ds) ≡ true → scalars cs ≡ true
scalars-left [] ds e = refl
scalars-left (c ∷ cs) ds e =
    let e2 = and_parts (scalar c) (scalars (cs ++ ds)) e in ap (λ b. b && scalars cs) e2.0 ∙ scalars-left cs ds e2.1

scalars-right : (cs ds : List ℕ) → scalars (cs ++ ds) ≡ true → scalars ds ≡ true
scalars-right [] ds e = e
scalars-right (c ∷ cs) ds e = scalars-right cs ds (and_parts (scalar c) (scalars (cs ++ ds)) e).1

-- characters behind a place, of so many bytes and columns, are passed
module _ (text cs left : List ℕ) (due columns bytes width : ℕ) (place : IsPlace text due columns) (is : chars (drop due text) ≡ cs ++ left)
    (long : bytes ≡ length (encodes cs)) (wide : width ≡ text_columns cs) (narrow : width ≤ bytes) where
  all-scalars : scalars (cs ++ left) ≡ true
  all-scalars = subst (λ l. scalars l ≡ true) is (scalars-chars (drop due text) place.behind)

  rest : drop due text ≡ encodes cs ++ encodes left
  rest = sym (encodes-chars (drop due text) place.behind) ∙ ap encodes is ∙ encodes-append cs left

  parted : text ≡ (take due text ++ encodes cs) ++ encodes left
  parted = sym (take-append-drop due text) ∙ ap (λ l. take due text ++ l) rest ∙ sym (append_assoc (take due text) (encodes cs) (encodes left))

  front-length : length (take due text ++ encodes cs) ≡ due + bytes
  front-length = omega (arith, length-append (take due text) (encodes cs), length-take-le due text place.within, long)

  front : take (due + bytes) text ≡ take due text ++ encodes cs
  front = ap (take (due + bytes)) parted ∙ take_at (take due text ++ encodes cs) (encodes left) (due + bytes) front-length

  back : drop (due + bytes) text ≡ encodes left
  back = ap (drop (due + bytes)) parted ∙ drop_at (take due text ++ encodes cs) (encodes left) (due + bytes) front-length

  pub passed-within : due + bytes ≤ length text
  passed-within = omega (arith, ap length parted, length-append (take due text ++ encodes cs) (encodes left), front-length)

  pub passed-due : chars (take (due + bytes) text) ≡ chars (take due text) ++ cs
  passed-due = ap chars front ∙ text_put (take due text) (encodes cs) cs place.before (chars-encodes cs (scalars-left cs left all-scalars))

  pub passed-after : chars (drop (due + bytes) text) ≡ left
  passed-after = ap chars back ∙ chars-encodes left (scalars-right cs left all-scalars)

  pub passed : IsPlace text (due + bytes) (columns + width)
  passed = record {
    within = passed-within;
    before = subst IsUtf8 (sym front) (IsUtf8-append (take due text) (encodes cs) place.before (cs, (scalars-left cs left all-scalars, refl)));
    behind = subst IsUtf8 (sym back) (left, (scalars-right cs left all-scalars, refl));
    counted = omega (arith, ap text_columns passed-due, sum_by-append width_of (chars (take due text)) cs, place.counted, wide);
    few = omega (arith, place.few, narrow);
  }

abbrev make : List ℕ → List ℕ → BlankText
make due after = record { due = due; after = after }

same : (due due2 after after2 : List ℕ) → due ≡ due2 → after ≡ after2 → make due after ≡ make due2 after2
same due due2 after after2 e e2 = ap (λ d. make d after) e ∙ ap (λ a. make due2 a) e2

-- ---- what is done at a place

module _ (text : List ℕ) (due columns : ℕ) (now : BlankText) (place : IsPlace text due columns) (is : blank_at text due ≡ now) where
  after-is : chars (drop due text) ≡ now.after
  after-is = ap (λ p. p.after) is

  due-is : chars (take due text) ≡ now.due
  due-is = ap (λ p. p.due) is

  -- spaces are passed
  module _ (count : ℕ) (spaces : now.after ≡ replicate count 0x20 ++ drop count now.after) where
    spaces-long : count ≡ length (encodes (replicate count 0x20))
    spaces-long = omega (arith, encodes-length 0x20 count)

    pub spaces-place : IsPlace text (due + count) (columns + count)
    spaces-place = passed text (replicate count 0x20) (drop count now.after) due columns count count place (after-is ∙ spaces) spaces-long
        (sym (fillers_width Space count)) (omega arith)

    pub spaces-passed : blank_at text (due + count) ≡ make (now.due ++ replicate count 0x20) (drop count now.after)
    spaces-passed = same _ _ _ _
        (passed-due text (replicate count 0x20) (drop count now.after) due columns count count place (after-is ∙ spaces) spaces-long
        (sym (fillers_width Space count)) (omega arith) ∙ ap (λ l. l ++ replicate count 0x20) due-is)
        (passed-after text (replicate count 0x20) (drop count now.after) due columns count count place (after-is ∙ spaces) spaces-long
        (sym (fillers_width Space count)) (omega arith))

  -- a separator is passed
  module _ (borders : Bool) (bytes : ℕ) (long : bytes ≡ len_utf8 (cond borders BORDERS.separator 0x20))
      (next : now.after ≡ cond borders BORDERS.separator 0x20 ∷ drop 1 now.after) where
    abbrev sign : List ℕ
    sign = cond borders BORDERS.separator 0x20 ∷ []

    sign-long : bytes ≡ length (encodes sign)
    sign-long = omega (arith, long, length-append (encode (cond borders BORDERS.separator 0x20)) [], length-encode (cond borders BORDERS.separator 0x20))

    sign-wide : 1 ≡ text_columns sign
    sign-wide = omega (arith, separator_width borders)

    sign-narrow : 1 ≤ bytes
    sign-narrow = omega (arith, long, (len_utf8_bounds (cond borders BORDERS.separator 0x20)).0)

    pub separator-place : IsPlace text (due + bytes) (columns + 1)
    separator-place = passed text sign (drop 1 now.after) due columns bytes 1 place (after-is ∙ next) sign-long sign-wide sign-narrow

    pub separator-passed : blank_at text (due + bytes) ≡ make (now.due ++ sign) (drop 1 now.after)
    separator-passed = same _ _ _ _
        (passed-due text sign (drop 1 now.after) due columns bytes 1 place (after-is ∙ next) sign-long sign-wide sign-narrow
        ∙ ap (λ l. l ++ sign) due-is)
        (passed-after text sign (drop 1 now.after) due columns bytes 1 place (after-is ∙ next) sign-long sign-wide sign-narrow)

  -- what is due is let go
  module _ (rest : List ℕ) (left : rest ≡ drop due text) where
    pub left-place : IsPlace rest 0 0
    left-place = record {
      within = omega arith;
      before = IsUtf8-nil;
      behind = subst IsUtf8 (sym left) place.behind;
      counted = ap text_columns (sym chars-nil);
      few = omega arith;
    }

    pub left-over : blank_at rest 0 ≡ make [] now.after
    left-over = same _ _ _ _ chars-nil (ap chars left ∙ after-is)

-- the start of a text
pub start-place : (text : List ℕ) → IsUtf8 text → IsPlace text 0 0
start-place text utf8 = record {
  within = omega arith;
  before = IsUtf8-nil;
  behind = utf8;
  counted = ap text_columns (sym chars-nil);
  few = omega arith;
}

pub start-of : (text : List ℕ) → blank_at text 0 ≡ make [] (chars text)
start-of text = ap (λ d. make d (chars text)) chars-nil

-- ---- on a line

module _ {T M : Type 0} (tag : T) where
  -- spaces are due behind what is due
  pub spaces_due : (line : Line T M) (due : List ℕ) (width : ℕ) →
      line ++ under tag (due ++ replicate width 0x20) ≡ (line ++ under tag due) ++ repeated tag 0x20 width
  spaces_due line due width =
      ap (λ l. line ++ l) (map-append (λ c. Character c tag) due (replicate width 0x20))
      ∙ sym (append_assoc line (under tag due) (under tag (replicate width 0x20)))
      ∙ ap (λ l. (line ++ under {M = M} tag due) ++ l) (under-replicate M tag 0x20 width)
