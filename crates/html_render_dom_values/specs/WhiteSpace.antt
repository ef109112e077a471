-- Meaning of the values of `white-space`.
use Rattle.std.specs.Prelude.{Bool, true, false}
use Rattle.html_render_dom_values.specs.declared.white_space.WhiteSpace.{WhiteSpace}
use Rattle.html_render_dom_values.specs.declared.white_space.WhiteSpace.TheVariants.{Normal, Pre, PreWrap}

-- whether white space is preserved
abbrev pub preserves : WhiteSpace → Bool
preserves Normal = false
preserves _ = true

-- whether lines are wrapped between words
abbrev pub wraps : WhiteSpace → Bool
wraps Normal = true
wraps Pre = false
wraps PreWrap = true
