-- The characters that pictures are drawn with take one column each.
use Rattle.std.proofs.Common.{◌≡◌, Bool, true, false, cond}
use Rattle.html_render_layout_pictures.specs.declared.borders.TheConstants.{BORDERS}
use Rattle.html_render_layout_pictures.specs.laws.BorderWidths.{width_at}
use Rattle.html_render_layout_lines.specs.Character.{width_of}
use Rattle.html_render_layout_pictures.specs.Picture.{joint}

pub space_width : width_of 0x20 ≡ 1
unfolding width_of
space_width = width_at 0

pub joint_width : (above below : Bool) → width_of (joint above below) ≡ 1
unfolding width_of
joint_width true true = width_at 1
joint_width true false = width_at 2
joint_width false true = width_at 3
joint_width false false = width_at 4

pub separator_width : (borders : Bool) → width_of (cond borders BORDERS.separator 0x20) ≡ 1
unfolding width_of
separator_width true = width_at 5
separator_width false = width_at 0

pub slash_width : width_of BORDERS.slash ≡ 1
unfolding width_of
slash_width = width_at 6
