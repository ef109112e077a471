-- The style of an element: that by the declarations of the rules that select it.
use Rattle.std.specs.Prelude.{ℕ, List, codes, filter}
use Rattle.std.specs.List.{flat_map}
use Rattle.html_render_dom.specs.declared.style.computed.ComputedStyle.{ComputedStyle}
use Rattle.html_render_dom_nodes.specs.Content.{Property}
use Rattle.html_render_dom_styles.specs.Rules.{Rule}
use Rattle.html_render_dom_styles.specs.Selectors.{selects}
use Rattle.html_render_dom.specs.Applying.{applied, style_by}
use Rattle.html_render_dom.specs.Attributes.{first_value}

-- the style of an element with a local name and attributes: for each property the winner among the declarations of the rules that
-- select the element, in the order in which they were added
abbrev pub element_style : List Rule → (name : List ℕ) → List Property → ComputedStyle
element_style rules name properties =
    style_by (flat_map applied (filter (selects name (first_value (codes "id") properties) (first_value (codes "class") properties)) rules))
