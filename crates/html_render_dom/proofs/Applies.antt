-- A declaration changes its own property, and nothing else.
use Rattle.std.proofs.Common.{◌≡◌, ℕ, ◌+◌, ◌<◌, Bool, true, false, List, [], ◌∷◌, ◌++◌, length, get_or, take, map, filter, Option, Some, option_to_list, String, refl, sym, ap, ◌∙◌, append_assoc, Global}
use Rattle.std.proofs.lemmas.List.{append-nil, flat_map_more, take_more}
use Rattle.std.proofs.lemmas.List.Concat.{flat_map_single}
use Rattle.std.proofs.lemmas.List.Folds.{flat_map-map}
use Rattle.std.proofs.lemmas.List.Elements.{filter-append, filter_map-append}
use Rattle.std.proofs.lemmas.Grind.{flat_map-append}
use Rattle.std.specs.List.{flat_map}
use Rattle.html_render_dom_styles.specs.declared.updates.Update.{Update}
use Rattle.html_render_dom_styles.specs.Cascade.{winner}
use Rattle.html_render_dom_styles.specs.Keeping.{key_of, yields_to}
use Rattle.html_render_dom_styles.specs.declared.rules.PseudoElement.{PseudoElement}
use Rattle.html_render_dom_styles.specs.declared.rules.PseudoElement.TheVariants.{Before, After}
use Rattle.html_render_dom_styles.specs.declared.origins.StyleOrigin.{StyleOrigin}
use Rattle.html_render_dom_styles.specs.declared.specificities.Specificity.{Specificity}
use Rattle.html_render_dom_styles.specs.declared.rules.Style.{Style}
use Rattle.html_render_dom_styles.specs.declared.rules.Style.TheVariants.{Content}
use Rattle.html_render_dom_styles.specs.declared.rules.Declaration.{Declaration}
use Rattle.html_render_dom_styles.specs.declared.rules.StyleRule.{StyleRule}
use Rattle.html_render_dom_styles.specs.Selectors.{selects, specificity_of}
use Rattle.html_render_dom_styles.specs.Rules.{Declared, Rule, StyleValue, declared_of, rule_of, style_value_of}
use Rattle.html_render_dom.specs.declared.style.computed.ComputedStyle.{ComputedStyle}
use Rattle.html_render_dom.specs.Applying.{Applied, applied, updates, each_property, with_more, with_declarations}
use Rattle.html_render_dom_styles.specs.laws.Winners.{winner-one, winner-front}
use Rattle.html_render_dom_styles.specs.laws.Keeps.{winner-left}

-- the clause of `maybe_update`
abbrev Takes : {T : Type 0} → Option (Update T) → Update T → Option (Update T) → Type 0
Takes {T} old u new = (us : List (Update T)) → old ≡ winner us → new ≡ winner (us ++ u ∷ [])

pub taken : {T : Type 0} (old : Option (Update T)) (u : Update T) (new : Option (Update T)) → Takes old u new →
    new ≡ winner (option_to_list old ++ u ∷ [])
taken old u new h = h (option_to_list old) (sym (winner-one old))

pub untouched : {T : Type 0} (kept : Option (Update T)) → kept ≡ winner (option_to_list kept ++ [])
untouched kept = sym (ap winner (append-nil (option_to_list kept)) ∙ winner-one kept)

-- an update that doesn't win changes nothing
pub left : {T : Type 0} (kept : Option (Update T)) (u : Update T) → yields_to kept (key_of u) ≡ false → kept ≡ winner (option_to_list kept ++ u ∷ [])
left kept u y = winner-left kept u (option_to_list kept) y (sym (winner-one kept))

-- applying two lists of declarations in turn is applying their concatenation
with_more-append : {T : Type 0} (property : Option PseudoElement → StyleValue → Option T) (kept : Option (Update T))
    (front behind : List Applied) → with_more property (with_more property kept front) behind ≡ with_more property kept (front ++ behind)
with_more-append property kept front behind =
    winner-front (option_to_list kept ++ updates property front) (updates property behind)
    ∙ ap winner (append_assoc (option_to_list kept) (updates property front) (updates property behind))
    ∙ ap (λ us. winner (option_to_list kept ++ us)) (sym (filter_map-append _ front behind))

pub with_declarations-append : (s : ComputedStyle) (front behind : List Applied) →
    with_declarations (with_declarations s front) behind ≡ with_declarations s (front ++ behind)
with_declarations-append s front behind = λ i. each_property (λ T property kept. with_more-append property kept front behind i) s

-- no declarations leave the style unchanged
pub still : (s : ComputedStyle) → s ≡ with_declarations s []
still s = λ i. each_property (λ T property kept. untouched kept i) s

-- declarations of a pseudo-element that aren't content leave the style unchanged
pub other_beside : (s : ComputedStyle) (important : Bool) (origin : StyleOrigin) (specificity : Specificity) (place : PseudoElement) (style : Style) →
    ((text : String Global) → style ≡ Content text → ⊥) →
    s ≡ with_declarations s (record {
      origin = origin;
      specificity = specificity;
      pseudo = Some place;
      declared = record { important = important; style = style_value_of style };
    } ∷ [])
other_beside s important origin specificity place (Content text) h = absurd (h text refl)
other_beside s important origin specificity Before style h = still s
other_beside s important origin specificity After style h = still s

-- the declarations of i items of a list, and then those of the next one, are those of i + 1 items
pub with_declarations-more : {X : Type 0} (f : X → List Applied) (s : ComputedStyle) (xs : List X) (i : ℕ) (x : X) → i < length xs →
    x ≡ get_or xs i x → with_declarations (with_declarations s (flat_map f (take i xs))) (f x)
    ≡ with_declarations s (flat_map f (take (i + 1) xs))
with_declarations-more f s xs i x lt e =
    let one_more : take (i + 1) xs ≡ take i xs ++ x ∷ [] = take_more xs i x lt ∙ ap (λ z. take i xs ++ z ∷ []) (sym e) in
    with_declarations-append s (flat_map f (take i xs)) (f x)
    ∙ ap (with_declarations s) (flat_map_more f [] (take i xs) x ∙ ap (flat_map f) (sym one_more))

-- a declaration with the origin, specificity and pseudo-element of its rule, as a list of one
abbrev pub said_by : StyleOrigin → Specificity → Option PseudoElement → Declaration → List Applied
said_by origin specificity pseudo d = record { origin = origin; specificity = specificity; pseudo = pseudo; declared = declared_of d } ∷ []

pub said_by-all : (rule : StyleRule) →
    flat_map (said_by rule.origin (specificity_of (rule_of rule)) rule.pseudo) rule.declarations.items ≡ applied (rule_of rule)
said_by-all rule =
    let said : Declared → Applied =
    λ d. record { origin = rule.origin; specificity = specificity_of (rule_of rule); pseudo = rule.pseudo; declared = d } in
    sym (flat_map-map (λ d. said d ∷ []) declared_of rule.declarations.items) ∙ flat_map_single said (map declared_of rule.declarations.items)

-- the declarations of a rule if it is selected, otherwise none
abbrev pub said_to : (selects : Rule → Bool) → Rule → List Applied
said_to selects rule = flat_map applied (filter selects (rule ∷ []))

pub said_to-all : (selects : Rule → Bool) (rules : List Rule) → flat_map (said_to selects) rules ≡ flat_map applied (filter selects rules)
said_to-all selects [] = refl
said_to-all selects (r ∷ rules) =
    ap (λ ds. said_to selects r ++ ds) (said_to-all selects rules)
    ∙ sym (flat_map-append applied (filter selects (r ∷ [])) (filter selects rules))
    ∙ ap (flat_map applied) (sym (filter-append selects (r ∷ []) rules))

pub said_to-selected : (selects : Rule → Bool) (rule : Rule) → selects rule ≡ true → applied rule ≡ said_to selects rule
said_to-selected selects rule e = rw e (sym (append-nil (applied rule)))

pub said_to-other : (selects : Rule → Bool) (rule : Rule) (s : ComputedStyle) → selects rule ≡ false → s ≡ with_declarations s (said_to selects rule)
said_to-other selects rule s e = rw e (still s)

pub ruleset contents = (taken, left)
