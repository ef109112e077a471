-- The values of style rules, with each text as its list of bytes.
use Rattle.std.specs.Prelude.{ℕ, Bool, List, Option, map, option_map, string_bytes}
use Rattle.html_render_dom_values.specs.declared.colours.Colour.{Colour as TheColour}
use Rattle.html_render_dom_styles.specs.declared.origins.StyleOrigin.{StyleOrigin}
use Rattle.html_render_dom_values.specs.declared.white_space.WhiteSpace.{WhiteSpace as TheWhiteSpace}
use Rattle.html_render_dom_styles.specs.declared.rules.Display.{Display as TheDisplay}
use Rattle.html_render_dom_styles.specs.declared.rules.PseudoElement.{PseudoElement}
use Rattle.html_render_dom_styles.specs.declared.rules.Style.{Style}
use Rattle.html_render_dom_styles.specs.declared.rules.Style.TheVariants.{Colour, BgColour, Display, WhiteSpace, Content}
use Rattle.html_render_dom_styles.specs.declared.rules.Declaration.{Declaration}
use Rattle.html_render_dom_styles.specs.declared.rules.StyleRule.{StyleRule}

-- a property and its declared value
pub data StyleValue : Type 0 where
  colour : TheColour → StyleValue
  bg_colour : TheColour → StyleValue
  display : TheDisplay → StyleValue
  white_space : TheWhiteSpace → StyleValue
  content : (text : List ℕ) → StyleValue

-- a declaration
pub record Declared : Type 0 where
  pub important : Bool
  pub style : StyleValue

-- a style rule: its origin, the parts that select elements, and its declarations
pub record Rule : Type 0 where
  pub origin : StyleOrigin
  pub element : Option (List ℕ)
  pub id : Option (List ℕ)
  pub classes : List (List ℕ)
  pub pseudo : Option PseudoElement
  pub declarations : List Declared

abbrev pub style_value_of : Style → StyleValue
style_value_of (Colour c) = colour c
style_value_of (BgColour c) = bg_colour c
style_value_of (Display d) = display d
style_value_of (WhiteSpace w) = white_space w
style_value_of (Content text) = content (string_bytes text)

abbrev pub declared_of : Declaration → Declared
declared_of d = record { important = d.important; style = style_value_of d.style }

abbrev pub rule_of : StyleRule → Rule
rule_of r = record {
  origin = r.origin;
  element = option_map string_bytes r.element;
  id = option_map string_bytes r.id;
  classes = map string_bytes r.classes.items;
  pseudo = r.pseudo;
  declarations = map declared_of r.declarations.items;
}
