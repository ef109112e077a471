-- Lines with other tags: each tag becomes what a function makes of it.
use Rattle.std.specs.Prelude.{List, map}
use Rattle.html_render_layout_lines.specs.declared.line.Element.{Element}
use Rattle.html_render_layout_lines.specs.declared.line.Element.TheVariants as element
use Rattle.html_render_layout_lines.specs.Line.{Line}

module _ {T U M : Type 0} (f : T → U) where
  abbrev pub element_with : Element T M → Element U M
  element_with (element.Character c t) = element.Character c (f t)
  element_with (element.Mark m) = element.Mark m

  abbrev pub line_with : Line T M → Line U M
  line_with line = map element_with line

  abbrev pub lines_with : List (Line T M) → List (Line U M)
  lines_with lines = map line_with lines
