-- A text in UTF-8 under runs of tags, and its line.
use Rattle.std.specs.Prelude.{◌≡◌, ℕ, zero, suc, ◌≤◌, ◌<◌, ◌^◌, nat_lt, Bool, List, [], ◌∷◌, ◌++◌, Option, Some, None, map, sum_by}
use Rattle.std.specs.Prelude.{take, drop, length, if◌then◌else◌}
use Rattle.std.specs.Str.{chars, IsUtf8}
use Rattle.html_render_layout_lines.specs.declared.character.TextStyle.{TextStyle}
use Rattle.html_render_layout_lines.specs.declared.character.Item.{Item}
use Rattle.html_render_layout_lines.specs.declared.character.Item.TheVariants as item
use Rattle.html_render_layout_lines.specs.declared.line.Element.{Element}
use Rattle.html_render_layout_lines.specs.declared.line.Element.TheVariants as element
use Rattle.html_render_layout_lines.specs.declared.line.tagged_text.Run.{Run}
use Rattle.html_render_layout_lines.specs.declared.line.tagged_text.Run.TheVariants as run
use Rattle.html_render_layout_lines.specs.Character.{width_of, character_of}
use Rattle.html_render_layout_lines.specs.Line.{Line}

-- characters with one tag
abbrev pub under : {T M : Type 0} → T → List ℕ → Line T M
under {T} {M} tag cs = map (λ (c : ℕ). element.Character c tag) cs

-- ---- runs over a text

-- the elements of a text that runs cut up: each run takes its bytes from the text's front
abbrev pub elements_of : {T M : Type 0} → List (Run T M) → List ℕ → Line T M
elements_of [] bs = []
elements_of (run.Text n tag ∷ rs) bs = under tag (chars (take n bs)) ++ elements_of rs (drop n bs)
elements_of (run.Mark m ∷ rs) bs = element.Mark m ∷ elements_of rs bs

-- the runs leave nothing of the text, and each takes one or more whole characters
abbrev pub Cuts : {T M : Type 0} → List (Run T M) → List ℕ → Type 0
Cuts [] bs = bs ≡ []
Cuts (run.Text n tag ∷ rs) bs = (n ≤ length bs) × IsUtf8 (take n bs) × Cuts rs (drop n bs) × (0 < n)
Cuts (run.Mark m ∷ rs) bs = Cuts rs bs

-- the elements of a text that is under one tag, or under none
abbrev pub open_elements : {T M : Type 0} → Option T → List ℕ → Line T M
open_elements None bs = []
open_elements (Some tag) bs = under tag (chars bs)

-- closed runs take the text up to a place, and the open run takes the rest
abbrev pub all_elements : {T M : Type 0} → List (Run T M) → Option T → ℕ → List ℕ → Line T M
all_elements rs tag start bs = elements_of rs (take start bs) ++ open_elements tag (drop start bs)

-- no text follows the closed runs where no run is open
abbrev pub HasTag : {T : Type 0} → Option T → List ℕ → Type 0
HasTag None bs = bs ≡ []
HasTag (Some tag) bs = Unit {0}

-- the runs and the open tag belong to the text
pub record IsCut {T M : Type 0} (rs : List (Run T M)) (tag : Option T) (start : ℕ) (bs : List ℕ) : Type 0 where
  pub within : start ≤ length bs
  pub closed : Cuts rs (take start bs)
  pub ending : IsUtf8 (drop start bs)
  pub has_tag : HasTag tag (drop start bs)

-- the elements of a tagged text, and the tag of its open run
pub record Content (T M : Type 0) : Type 0 where
  pub elements : Line T M
  pub tag : Option T

-- the open run of `n` bytes as a closed one; none where it has no bytes
abbrev pub closed_run : {T M : Type 0} → Option T → ℕ → List (Run T M)
closed_run None n = []
closed_run (Some tag) zero = []
closed_run (Some tag) (suc n) = run.Text (suc n) tag ∷ []

-- ---- columns

-- the columns of a text, character by character
abbrev pub text_columns : List ℕ → ℕ
text_columns cs = sum_by width_of cs

-- a number, where it fits a machine word
abbrev pub counted : ℕ → Option ℕ
counted n = if nat_lt n (2 ^ 64) then Some n else None

-- ---- a word, whose characters have styles for tags

-- what a paragraph is fed for an element of a word
abbrev pub item_of : {T M : Type 0} → Element (TextStyle T) M → Item T M
item_of (element.Character c style) = item.Character (character_of style c)
item_of (element.Mark m) = item.Mark m

abbrev pub items_of : {T M : Type 0} → Line (TextStyle T) M → List (Item T M)
items_of {T} {M} word = map (λ (e : Element (TextStyle T) M). item_of e) word

-- the tag of a style's characters on a line that continues another, or on an ordinary line
abbrev pub style_tag : {T : Type 0} → Bool → TextStyle T → T
style_tag continues style = if continues then style.continuation_tag else style.tag
