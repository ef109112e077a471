-- The runs of a line.
use Rattle.std.specs.Prelude.{◌≡◌, ℕ, zero, suc, ◌+◌, ◌-◌, ◌≤◌, List, [], ◌∷◌, take, drop, length, encode_utf8, replicate}
use Rattle.std.specs.Str.{chars, IsUtf8}
use Rattle.html_render_layout_lines.specs.declared.line.Element.TheVariants as element
use Rattle.html_render_layout_lines.specs.Line.{Line, text_bytes}
use Rattle.html_render_layout_lines.specs.TaggedText.{under}
use Rattle.html_render_layout_buffer.specs.declared.slot.Slot.{Slot}
use Rattle.html_render_layout_buffer.specs.declared.slot.Slot.TheVariants as slot
use Rattle.html_render_layout_buffer.specs.declared.buffer.parts.LinePart.{LinePart}
use Rattle.html_render_layout_buffer.specs.declared.buffer.parts.LinePart.TheVariants as part
use Rattle.html_render_layout_buffer.specs.Fields.{elements_read, line_slots}

-- what a part stands for
abbrev pub part_elements : {T M : Type 0} → LinePart T M → Line T M
part_elements (part.Text text tag) = under tag (chars text.now)
part_elements (part.Mark m) = element.Mark m ∷ []

-- the elements of characters and of the slots from one place to another
abbrev pub elements_left : {T M : Type 0} → List ℕ → List (Slot T M) → (from to : ℕ) → Line T M
elements_left bs ss from to = elements_read 0 (chars bs) (drop from (take to ss))

-- the characters and slots are those of a line
pub record IsLeft {T M : Type 0} (bs : List ℕ) (ss : List (Slot T M)) (from to : ℕ) : Type 0 where
  pub text : bs ≡ text_bytes (elements_left bs ss from to)
  pub slots : drop from (take to ss) ≡ line_slots (elements_left bs ss from to)
  pub utf8 : IsUtf8 bs
  pub ordered : from ≤ to
  pub within : to ≤ length ss

-- the first `limit` slots of a line are those of bytes under a tag
abbrev pub IsTagged : {T M : Type 0} → Line T M → T → (limit : ℕ) → Type 0
IsTagged l tag limit = take limit (line_slots l) ≡ replicate limit (slot.Byte tag)

-- the bytes of the characters that begin before byte `limit`
abbrev pub reach : (limit : ℕ) → List ℕ → ℕ
reach zero cs = 0
reach (suc k) [] = 0
reach (suc k) (c ∷ cs) = length (encode_utf8 c) + reach (suc k - length (encode_utf8 c)) cs
