-- The slots of a word's runs, with the tags of a line that continues another, or of an ordinary line.
use Rattle.std.specs.Prelude.{ℕ, Bool, Option, Some, None, List, [], ◌∷◌, replicate}
use Rattle.html_render_layout_lines.specs.declared.character.TextStyle.{TextStyle}
use Rattle.html_render_layout_lines.specs.declared.line.tagged_text.Run.{Run}
use Rattle.html_render_layout_lines.specs.declared.line.tagged_text.Run.TheVariants as run
use Rattle.html_render_layout_lines.specs.TaggedText.{style_tag}
use Rattle.html_render_layout_buffer.specs.declared.slot.Slot.{Slot}
use Rattle.html_render_layout_buffer.specs.declared.slot.Slot.TheVariants as slot

abbrev pub run_slots : {T M : Type 0} → Bool → Run (TextStyle T) M → List (Slot T M)
run_slots continues (run.Text n style) = replicate n (slot.Byte (style_tag continues style))
run_slots continues (run.Mark m) = slot.Mark m ∷ []

abbrev pub open_slots : {T M : Type 0} → Bool → Option (TextStyle T) → ℕ → List (Slot T M)
open_slots continues None n = []
open_slots continues (Some style) n = replicate n (slot.Byte (style_tag continues style))
