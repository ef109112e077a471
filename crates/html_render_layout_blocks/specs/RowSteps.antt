-- Parts of a row and of closing lines, as code makes them one by one.
use Rattle.std.specs.Prelude.{ℕ, ◌==◌, List, [], map, Option, option_map, option_to_list, if◌then◌else◌}
use Rattle.std.specs.List.{after_first, before_first}
use Rattle.html_render_layout_blocks.specs.declared.block.rows.RowPlace.{RowPlace}
use Rattle.html_render_layout_pictures.specs.Picture.{KeptCell}

-- Empty cell of a place, unless that is skipped.
abbrev pub empty_cell : {T M : Type 0} → Option ℕ → List (KeptCell T M)
empty_cell width = option_to_list (option_map (λ w. record { width = w; lines = []; marks = [] }) width)

-- Places before the next cell, and those after it.
abbrev pub before_cell : List RowPlace → List RowPlace
before_cell ps = before_first (λ p. p.is_cell) ps

abbrev pub after_cell : List RowPlace → List RowPlace
after_cell ps = after_first (λ p. p.is_cell) ps

-- Text with a space for each newline.
abbrev pub on_one_line : List ℕ → List ℕ
on_one_line cs = map (λ c. if c == 10 then 32 else c) cs
