-- Declarations of rules, and the styles that they give, one after another.
use Rattle.std.specs.Prelude.{ℕ, false, List, ◌++◌, Option, Some, None, map, option_map, option_to_list}
use Rattle.std.specs.List.{filter_map}
use Rattle.html_render_dom_values.specs.declared.colours.Colour.{Colour}
use Rattle.html_render_dom_values.specs.declared.white_space.WhiteSpace.{WhiteSpace}
use Rattle.html_render_dom_styles.specs.declared.origins.StyleOrigin.{StyleOrigin}
use Rattle.html_render_dom_styles.specs.declared.specificities.Specificity.{Specificity}
use Rattle.html_render_dom_styles.specs.declared.rules.Display.{Display}
use Rattle.html_render_dom_styles.specs.declared.rules.PseudoElement.{PseudoElement}
use Rattle.html_render_dom_styles.specs.declared.rules.PseudoElement.TheVariants.{Before, After}
use Rattle.html_render_dom_styles.specs.declared.updates.Update.{Update}
use Rattle.html_render_dom_styles.specs.Cascade.{winner}
use Rattle.html_render_dom_styles.specs.Rules.{StyleValue, colour, bg_colour, display, white_space, content, Declared, Rule}
use Rattle.html_render_dom_styles.specs.Selectors.{specificity_of}
use Rattle.html_render_dom.specs.declared.style.computed.ComputedStyle.{ComputedStyle}

-- For each property, the value that a declaration gives it, if any. With a pseudo-element only content counts.
abbrev pub colour_in : Option PseudoElement → StyleValue → Option Colour
colour_in None (colour c) = Some c
colour_in _ _ = None

abbrev pub bg_colour_in : Option PseudoElement → StyleValue → Option Colour
bg_colour_in None (bg_colour c) = Some c
bg_colour_in _ _ = None

abbrev pub display_in : Option PseudoElement → StyleValue → Option Display
display_in None (display d) = Some d
display_in _ _ = None

abbrev pub white_space_value : Option PseudoElement → StyleValue → Option WhiteSpace
white_space_value None (white_space w) = Some w
white_space_value _ _ = None

-- the content that a declaration gives a place: the element itself, before its contents, or after them
abbrev pub content_in : (place : Option PseudoElement) → Option PseudoElement → StyleValue → Option (List ℕ)
content_in None None (content text) = Some text
content_in (Some Before) (Some Before) (content text) = Some text
content_in (Some After) (Some After) (content text) = Some text
content_in _ _ _ = None

-- a declaration with the origin, specificity and pseudo-element of its rule
pub record Applied : Type 0 where
  pub origin : StyleOrigin
  pub specificity : Specificity
  pub pseudo : Option PseudoElement
  pub declared : Declared

-- the declarations of a rule, in order
abbrev pub applied : Rule → List Applied
applied rule = map (λ d. record { origin = rule.origin; specificity = specificity_of rule; pseudo = rule.pseudo; declared = d }) rule.declarations

-- the updates of a property by declarations, in order
abbrev pub updates : {T : Type 0} → (Option PseudoElement → StyleValue → Option T) → List Applied → List (Update T)
updates property declarations = filter_map (λ a.
    option_map (λ x. record { important = a.declared.important; origin = a.origin; specificity = a.specificity; value = x })
    (property a.pseudo a.declared.style)) declarations

-- the style that declarations give, in this order: for each property the winner among its updates
abbrev pub style_by : List Applied → ComputedStyle
style_by declarations = record {
  colour = winner (updates colour_in declarations);
  bg_colour = winner (updates bg_colour_in declarations);
  display = winner (updates display_in declarations);
  white_space = winner (updates white_space_value declarations);
  content = winner (updates (content_in None) declarations);
  content_before = winner (updates (content_in (Some Before)) declarations);
  content_after = winner (updates (content_in (Some After)) declarations);
  internal_pre = false;
}

-- the winning update of a property, and the style, after more declarations
abbrev pub with_more : {T : Type 0} → (Option PseudoElement → StyleValue → Option T) → Option (Update T) → List Applied → Option (Update T)
with_more property kept declarations = winner (option_to_list kept ++ updates property declarations)

-- the style with a function applied to each property
abbrev pub each_property : ((T : Type 0) → (Option PseudoElement → StyleValue → Option T) → Option (Update T) → Option (Update T)) → ComputedStyle → ComputedStyle
each_property f s = record {
  colour = f Colour colour_in s.colour;
  bg_colour = f Colour bg_colour_in s.bg_colour;
  display = f Display display_in s.display;
  white_space = f WhiteSpace white_space_value s.white_space;
  content = f (List ℕ) (content_in None) s.content;
  content_before = f (List ℕ) (content_in (Some Before)) s.content_before;
  content_after = f (List ℕ) (content_in (Some After)) s.content_after;
  internal_pre = s.internal_pre;
}

abbrev pub with_declarations : ComputedStyle → List Applied → ComputedStyle
with_declarations s declarations = each_property (λ T property kept. with_more property kept declarations) s
