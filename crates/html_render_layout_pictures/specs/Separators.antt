-- Where the separators of a row stand, told by the columns that stand before, between and behind them.
use Rattle.std.specs.Prelude.{ℕ, ◌-◌, ◌^◌, Bool, true, false, List, [], ◌∷◌, ◌++◌, get_or, replicate}
use Rattle.std.specs.List.{flat_map}
use Rattle.html_render_layout_lines.specs.declared.line.Element.{Element}
use Rattle.html_render_layout_lines.specs.declared.line.Element.TheVariants.{Character}
use Rattle.html_render_layout_pictures.specs.declared.picture.Frame.{Frame}
use Rattle.html_render_layout_pictures.specs.Picture.{joint}

-- columns without a separator, and then a separator before so many columns each
abbrev pub separators_from : (blank : ℕ) (others : List ℕ) → List Bool
separators_from blank others = replicate blank false ++ flat_map (λ (w : ℕ). true ∷ replicate w false) others

-- the separators of a row whose cells have these columns
abbrev pub separators_between : (widths : List ℕ) → List Bool
separators_between [] = []
separators_between (w ∷ ws) = separators_from w ws

-- how many columns stand before the next separator; as many as can be where none follows
abbrev pub blank_before : (blank : ℕ) (others : List ℕ) → ℕ
blank_before blank [] = 2 ^ 64 - 1
blank_before blank (w ∷ ws) = blank

-- what a border has at a column
abbrev pub joint_at : {T : Type 0} (M : Type 0) → Frame T → (above below : List Bool) → ℕ → Element T M
joint_at M frame above below x = Character (joint (get_or above x false) (get_or below x false)) frame.tag
