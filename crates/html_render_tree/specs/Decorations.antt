-- The rules that decorate plain text: texts before and after emphasis, terms, strong text and code.
use Rattle.std.specs.Prelude.{ℕ, false, List, [], ◌∷◌, codes, flat_map, Some, None}
use Rattle.html_render_dom_styles.specs.declared.origins.StyleOrigin.TheVariants as origin
use Rattle.html_render_dom_styles.specs.declared.rules.PseudoElement.{PseudoElement}
use Rattle.html_render_dom_styles.specs.declared.rules.PseudoElement.TheVariants.{Before, After}
use Rattle.html_render_dom_styles.specs.declared.specificities.Specificity.{Specificity}
use Rattle.html_render_dom_styles.specs.Rules.{content, Rule}

-- normal rule of the agent that puts a text before or after the contents of each element of this name
abbrev pub decoration : (name text : List ℕ) → PseudoElement → Rule
decoration name text place = record {
  origin = origin.Agent;
  element = Some name;
  id = None;
  classes = [];
  pseudo = Some place;
  declarations = record { important = false; style = content text } ∷ [];
}

-- specificity of a decoration: it names an element and a pseudo-element
abbrev pub decoration_specificity : Specificity
decoration_specificity = record { inline = false; id = 0; class = 0; typ = 2 }

-- THE DECORATIONS, in the order in which they are added: of each of these names, with its text before the contents and after them
abbrev pub decorations : List Rule
decorations = flat_map (λ (x : List ℕ × List ℕ). decoration x.0 x.1 Before ∷ decoration x.0 x.1 After ∷ [])
    ((codes "em", codes "*") ∷ (codes "dt", codes "*") ∷ (codes "strong", codes "**") ∷ (codes "b", codes "**") ∷ (codes "code", codes "`") ∷ [])
