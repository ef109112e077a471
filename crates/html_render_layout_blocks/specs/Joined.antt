-- Lines of a block that are appended to those of another, each after a prefix.
use Rattle.std.specs.Prelude.{ℕ, Bool, ◌||◌, nat_le, List, ◌++◌, Option, Some, None, option_map, if◌then◌else◌}
use Rattle.std.specs.List.{list_all}
use Rattle.html_render_layout_lines.specs.Line.{Line, columns, marks_line}
use Rattle.html_render_layout_buffer.specs.Prefixed.{prefixed}

-- The lines. None, with overflow off, if one passes the width.
abbrev pub fitting : {T M : Type 0} → ℕ → Bool → List (Line T M) → Option (List (Line T M))
fitting {T} {M} width overflow lines = if overflow || list_all (λ (l : Line T M). nat_le (columns l) width) lines then Some lines else None

-- Lines `done`, followed by other lines after prefixes. Marks precede the first prefix. None, with overflow off, if one
-- of the other lines passes the width.
abbrev pub moved : {T M : Type 0} → ℕ → Bool → List M → Line T M → Line T M → List (Line T M) → List (Line T M) → Option (List (Line T M))
moved {T} {M} width overflow waiting first later done lines =
    option_map (λ (all : List (Line T M)). done ++ all) (fitting width overflow (prefixed (marks_line waiting ++ first) later lines))
