-- The title that an image is shown with.
use Rattle.std.specs.Prelude.{ℕ, ◌==◌, length, List, [], ◌∷◌, Option, Some, None, if◌then◌else◌}
use Rattle.std.specs.List.{after_last}
use Rattle.html_render_layout_estimates.specs.declared.settings.ImageRenderMode.{ImageRenderMode}
use Rattle.html_render_layout_estimates.specs.declared.settings.ImageRenderMode.TheVariants.{IgnoreEmpty, ShowAlways, Replace, Filename}

-- THE TITLE that an image is shown with: its own, or, if that is empty, the one of the mode; none where the image isn't
-- shown. A file name is the part of an address after its last slash, or the whole address without one
abbrev pub shown_title : ImageRenderMode → (source title : List ℕ) → Option (List ℕ)
shown_title mode source (c ∷ cs) = Some (c ∷ cs)
shown_title IgnoreEmpty source [] = None
shown_title ShowAlways source [] = Some []
shown_title (Replace text) source [] = Some text
shown_title Filename source [] = let name = after_last (λ b. b == 47) source in if length name == 0 then None else Some name
