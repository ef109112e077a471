-- What the cells of a table span.
use Rattle.std.specs.Prelude.{ℕ, ◌^◌, nat_lt, max, Bool, ◌&&◌, List, length, reverse, codes}
use Rattle.std.specs.Prelude.{Option, Some, None, option_and_then, unwrap_or, if◌then◌else◌}
use Rattle.std.specs.Str.{all_ascii_digits}
use Rattle.std.specs.Str.Parse.{without_leading_plus, digits_value}
use Rattle.html_render_dom_nodes.specs.Content.{Property}
use Rattle.html_render_dom.specs.Attributes.{first_value}
use Rattle.html_render_tree_convert.specs.declared.tables.CellSpan.{CellSpan}

-- ---- what a cell asks for

-- the number that digits alone write, one or more, where it fits
abbrev pub numeral_of : {N : Type 0} → (digits : List ℕ) → (number : N) → (fits : Bool) → Option N
numeral_of digits number fits = if nat_lt 0 (length digits) && all_ascii_digits digits && fits then Some number else None

-- the number below 2 ^ 64 that a text is: a plus or none, and then digits
abbrev pub size_of : List ℕ → Option ℕ
size_of written = let digits = without_leading_plus written in numeral_of digits (digits_value 10 digits) (nat_lt (digits_value 10 digits) (2 ^ 64))

-- the number of the last attribute of a name, and 1 without such a number
abbrev pub size_or_one : (name : List ℕ) → List Property → ℕ
size_or_one name properties = unwrap_or (option_and_then size_of (first_value name (reverse properties))) 1

-- what a `td` or a `th` asks for: its `colspan`, which may be 0, and its `rowspan`, which is at least 1
abbrev pub span_of : List Property → CellSpan
span_of properties = record { colspan = size_or_one (codes "colspan") properties; rowspan = max 1 (size_or_one (codes "rowspan") properties) }
