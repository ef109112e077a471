-- Ends of lines that are appended to others.
use Rattle.std.specs.Prelude.{ℕ, ◌+◌}
use Rattle.html_render_layout_buffer.specs.declared.ends.LineEnd.{LineEnd}

-- an end after so many bytes and slots
abbrev pub moved : (text slots : ℕ) → LineEnd → LineEnd
moved text slots e = record { text = text + e.text; slots = slots + e.slots; columns = e.columns }
