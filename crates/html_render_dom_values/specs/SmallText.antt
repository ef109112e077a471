-- The bytes of a text: inline, in an allocation that clones share, or in one of their own.
use Rattle.std.specs.Prelude.{ℕ, List, string_bytes}
use Rattle.std.specs.Arc.{arc_value}
use Rattle.html_render_dom_values.specs.declared.small_text.Bytes.{Bytes}
use Rattle.html_render_dom_values.specs.declared.small_text.Bytes.TheVariants.{Short, Shared, Long}

abbrev pub bytes_in : {n : ℕ} → Bytes n → List ℕ
bytes_in (Short s) = s
bytes_in (Shared s) = arc_value s
bytes_in (Long s) = string_bytes s
