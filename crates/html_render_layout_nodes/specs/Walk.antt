-- The open nodes of a walk.
use Rattle.std.specs.Prelude.{◌-◌, List, length, Option, option_map, slice_get}
use Rattle.html_render_layout_nodes.specs.declared.frames.Frame.{Frame}

-- what the innermost open node keeps, that of the last frame
abbrev pub innermost : {T : Type 0} → List (Frame T) → Option T
innermost {T} frames = option_map (λ (f : Frame T). f.kept) (slice_get frames (length frames - 1))
