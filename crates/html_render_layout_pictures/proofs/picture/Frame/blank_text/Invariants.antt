use Rattle.std.proofs.Common.{◌≡◌, ◌++◌, take, replicate}
use Rattle.std.specs.Str.{chars}
use Rattle.std.specs.String.{string_bytes}
use Rattle.html_render_layout_pictures.specs.Blank.{blank_cells}
use Rattle.html_render_layout_pictures.proofs.picture.Frame.blank_text.Given as goal

abbrev pub invariant-loop-cell : goal.invariant-loop-cell
invariant-loop-cell g l =
    chars (string_bytes l.text) ≡ replicate l.first.width 0x20 ++ blank_cells l.self.borders (take l.cell-index l.others)
