-- The elements that a rule selects, and its specificity: Selectors Level 3, sections 6.1, 6.2, 6.4, 6.5 and 9.
use Rattle.std.specs.Prelude.{ℕ, ◌+◌, min, Bool, true, false, ◌&&◌, List, [], ◌∷◌, length, Option, Some, filter}
use Rattle.std.specs.List.{list_any, list_all, slice_split}
use Rattle.std.specs.Char.{is_ascii_whitespace}
use Rattle.std.specs.Option.{option_len, option_map_or, unwrap_or}
use Rattle.std.specs.Str.{bytes_eq}
use Rattle.html_render_dom_styles.specs.declared.specificities.Specificity.{Specificity}
use Rattle.html_render_dom_styles.specs.Rules.{Rule}

-- whether a list isn't empty
abbrev pub is_filled : {X : Type 0} → List X → Bool
is_filled [] = false
is_filled (c ∷ cs) = true

-- the words of a text: its parts between space, tab, line feed, form feed and carriage return that aren't empty
abbrev pub words : List ℕ → List (List ℕ)
words text = filter is_filled (slice_split is_ascii_whitespace text)

-- whether a part of a rule isn't stated, or equals the value that the element has
abbrev pub matches_part : (stated : Option (List ℕ)) → (has : Option (List ℕ)) → Bool
matches_part stated has = option_map_or (λ part. option_map_or (bytes_eq part) has false) stated true

-- whether a class is a word of the element's attribute `class`; an empty class never is
abbrev pub has_class : (classes : Option (List ℕ)) → (class : List ℕ) → Bool
has_class classes class = list_any (bytes_eq class) (words (unwrap_or classes []))

-- whether a rule selects an element with a local name, an id and a text of its attribute `class`
abbrev pub selects : (name : List ℕ) → (id classes : Option (List ℕ)) → Rule → Bool
selects name id classes rule = matches_part rule.element (Some name) && matches_part rule.id id && list_all (has_class classes) rule.classes

-- the specificity of a rule: the numbers of ids, of classes (up to 65535), and of element names and pseudo-elements
abbrev pub specificity_of : Rule → Specificity
specificity_of rule = record {
  inline = false;
  id = option_len rule.id;
  class = min (length rule.classes) 65535;
  typ = option_len rule.element + option_len rule.pseudo;
}
