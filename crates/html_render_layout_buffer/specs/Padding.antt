-- Lines that are filled with spaces, and characters that stand many times in a row.
use Rattle.std.specs.Prelude.{ℕ, ◌-◌, List, ◌++◌, Option, Some, None, map, replicate}
use Rattle.html_render_layout_lines.specs.declared.line.Element.TheVariants.{Character}
use Rattle.html_render_layout_lines.specs.Line.{Line, columns}

-- one character `count` times, under a tag
abbrev pub repeated : {T M : Type 0} → T → (character count : ℕ) → Line T M
repeated tag character count = replicate count (Character character tag)

-- a line with spaces behind it, under a tag, up to `width` columns
abbrev pub filled_line : {T M : Type 0} → T → (width : ℕ) → Line T M → Line T M
filled_line tag width l = l ++ repeated tag 0x20 (width - columns l)

-- lines, each filled in this way if there is padding
abbrev pub filled : {T M : Type 0} → (padding : Option T) → (width : ℕ) → List (Line T M) → List (Line T M)
filled None width ls = ls
filled {T} {M} (Some tag) width ls = map (λ (l : Line T M). l ++ repeated tag 0x20 (width - columns l)) ls
