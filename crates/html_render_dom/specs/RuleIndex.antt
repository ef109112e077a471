-- The index of rules by the texts that they state.
use Rattle.std.specs.Prelude.{◌≡◌, ℕ, ◌+◌, ◌*◌, ◌%◌, ◌<◌, Bool, true, ◌||◌, is_some, List, [], ◌∷◌, ◌++◌, length, get_or, Option, Some, None, filter, option_to_list, slice_get, slice_index_or, string_bytes, All}
use Rattle.std.specs.BTreeMap.{get_by_text}
use Rattle.std.specs.List.{Contains, flat_map, list_any}
use Rattle.std.specs.Option.{option_map_or, unwrap_or}
use Rattle.html_render_dom.specs.Applying.{Applied, applied}
use Rattle.html_render_dom.specs.ElementStyle.{element_style}
use Rattle.html_render_dom.specs.declared.style.index.PlainStyle.{PlainStyle}
use Rattle.html_render_dom.specs.declared.style.index.RuleIndex.{RuleIndex}
use Rattle.html_render_dom_styles.specs.Rules.{Rule}
use Rattle.html_render_dom_styles.specs.Selectors.{is_filled, words}

-- the key of a text, a hash of its length and its first byte that is less than 64
abbrev pub text_key : (text : List ℕ) → ℕ
text_key text = (length text % 64 * 3 + slice_index_or text 0 0) % 64

-- whether a rule may be indexed under a text: whether its key is marked
abbrev pub is_told : (keys : List Bool) → (text : List ℕ) → Bool
is_told keys text = slice_index_or keys (text_key text) true

-- the text under which a rule is indexed: its first class, else its id, else its element name
abbrev pub text_stated : (classes : List (List ℕ)) → (id element : Option (List ℕ)) → Option (List ℕ)
text_stated (class ∷ more) id element = Some class
text_stated [] (Some id) element = Some id
text_stated [] None element = element

abbrev pub stated_text : Rule → Option (List ℕ)
stated_text rule = text_stated rule.classes rule.id rule.element

-- the texts of an element: its local name, its id and its classes
abbrev pub texts_of : (name : List ℕ) → (id classes : Option (List ℕ)) → List (List ℕ)
texts_of name id classes = name ∷ option_to_list id ++ words (unwrap_or classes [])

-- the numbers of the rules that are indexed under a text
abbrev pub numbers_under : RuleIndex → (text : List ℕ) → List ℕ
numbers_under index text = option_map_or (λ numbers. numbers.items) (get_by_text index.by_text text) []

-- whether an index has a rule's number: under the text that the rule states, with a marked key, or among those of rules that
-- state none
abbrev pub IsFound : RuleIndex → (number : ℕ) → (stated : Option (List ℕ)) → Type 0
IsFound index number None = Contains index.general.items number
IsFound index number (Some text) = (is_told index.keys.items text ≡ true) × Contains (numbers_under index text) number

-- whether a rule states an id or a class
abbrev pub asks_attributes : Rule → Bool
asks_attributes rule = is_some rule.id || is_filled rule.classes

-- whether an index is that of these rules: it has the number of each, and records whether any states an id or a class
abbrev pub Indexes : RuleIndex → List Rule → Type 0
Indexes index rules = (length index.keys.items ≡ 64) × ((number : ℕ) (rule : Rule) → number < length rules →
    IsFound index number (stated_text (get_or rules number rule))) × (index.asks_attributes ≡ list_any asks_attributes rules)

-- whether a style is that of the elements of its name that have no attributes
abbrev pub IsPlain : List Rule → PlainStyle → Type 0
IsPlain rules p = p.style ≡ element_style rules (string_bytes p.name) []

-- whether an index is that of these rules, with styles of elements without attributes
abbrev pub Finds : RuleIndex → List Rule → Type 0
Finds index rules = Indexes index rules × All (IsPlain rules) index.plain.items

-- the declarations of the rule with a number, if there is one and it selects the element
abbrev pub said_at : (selects : Rule → Bool) → List Rule → (number : ℕ) → List Applied
said_at selects rules number = flat_map applied (filter selects (option_to_list (slice_get rules number)))
