-- The bytes of a local name, inline or in an allocation.
use Rattle.std.specs.Prelude.{ℕ, List, string_bytes}
use Rattle.html_render_dom_nodes.specs.declared.local_name.NameBytes.{NameBytes}
use Rattle.html_render_dom_nodes.specs.declared.local_name.NameBytes.TheVariants.{Short, Long}

abbrev pub bytes_in : NameBytes → List ℕ
bytes_in (Short s) = s
bytes_in (Long s) = string_bytes s.value
