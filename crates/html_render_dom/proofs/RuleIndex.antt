-- An index has each rule that is added to it, and finds each rule that selects an element.
use Rattle.std.proofs.Common.{◌≡◌, ◌⊎◌, ℕ, suc, ◌+◌, ◌-◌, ◌<◌, ◌≤◌, Bool, true, false, ◌&&◌, ◌||◌, if◌then◌else◌, List, [], ◌∷◌, ◌++◌, length, get_or, set, take, find, string_bytes, Option, Some, None, is_some, codes, cond, map, filter, option_to_list, slice_get, refl, sym, ap, subst, ◌∙◌, inl, inr, arith, Bor}
use Rattle.std.proofs.lemmas.Bool.{and_parts, cases_Bool, cases_lt, or_parts}
use Rattle.std.proofs.lemmas.List.{get_or-set_same}
use Rattle.std.proofs.lemmas.List.Elements.{All-nil, All-cons, All-head, All-tail, All-map, All-contains, Contains-append_left, Contains-append_right, Contains-push}
use Rattle.std.proofs.lemmas.List.Kept.{AllPairs-from_increasing}
use Rattle.std.proofs.lemmas.Map.Views.{Contains-from_any}
use Rattle.std.proofs.lemmas.Option.{get_or_from_slice_get, same_Some, slice_get_cases, slice_get_within}
use Rattle.std.proofs.lemmas.Grind.{common_steps}
use Rattle.std.proofs.lemmas.Slice.Eq.{bytes_eq-Decides}
use Rattle.std.proofs.lemmas.List.Folds.{list_any_more}
use Rattle.std.specs.List.{All, AllPairs, Contains, flat_map, list_all, list_any}
use Rattle.std.specs.List.Sorted.{IsStrictlyIncreasing}
use Rattle.std.specs.Option.{unwrap_or}
use Rattle.std.specs.Str.{bytes_eq}
use Rattle.html_render_dom.specs.declared.style.index.PlainStyle.{PlainStyle}
use Rattle.html_render_dom.specs.declared.style.index.RuleIndex.{RuleIndex}
use Rattle.html_render_dom.proofs.Applies.{said_to-all}
use Rattle.html_render_dom.specs.laws.Members.{All-unfiltered, Contains-cons_cases, Contains-head, Contains-tail}
use Rattle.html_render_dom.specs.Applying.{applied, style_by}
use Rattle.html_render_dom.specs.ElementStyle.{element_style}
use Rattle.html_render_dom.specs.RuleIndex.{asks_attributes, Finds, Indexes, IsFound, IsPlain, is_told, said_at, text_key, numbers_under, stated_text, text_stated, texts_of}
use Rattle.html_render_dom_nodes.specs.declared.names.Attribute.{Attribute}
use Rattle.html_render_dom_nodes.specs.Content.{property_of}
use Rattle.html_render_dom_styles.specs.Rules.{Rule}
use Rattle.html_render_dom.specs.Attributes.{first_value}
use Rattle.html_render_dom_styles.specs.Selectors.{has_class, is_filled, matches_part, selects, words}

-- ---- adding rules

-- whether an index is that of the first `count` of these rules, without styles of elements
abbrev pub HasFirst : RuleIndex → List Rule → (count : ℕ) → Type 0
HasFirst index rules count = (length index.keys.items ≡ 64)
    × ((n : ℕ) (d : Rule) → n < count → IsFound index n (stated_text (get_or rules n d)))
    × (index.asks_attributes ≡ list_any asks_attributes (take count rules))

pub HasFirst-more : (old new : RuleIndex) (rules : List Rule) (i : ℕ) (rule : Rule) → HasFirst old rules i → slice_get rules i ≡ Some rule →
    length new.keys.items ≡ length old.keys.items → new.asks_attributes ≡ (old.asks_attributes || asks_attributes rule) →
    (stated : Option (List ℕ)) → stated ≡ stated_text rule →
    ((n : ℕ) (stated : Option (List ℕ)) → IsFound old n stated → IsFound new n stated) × IsFound new i stated → HasFirst new rules (i + 1)
HasFirst-more old new rules i rule has is long asks stated states found = (
  long ∙ has.0,
  λ n d lt. elim (cases_lt n i) [
    | inl before ↦ found.0 n (stated_text (get_or rules n d)) (has.1 n d before)
    | inr ge ↦ (
        let last : i ≡ n = omega (arith, ge, lt) in
        subst (λ k. IsFound new k (stated_text (get_or rules k d))) last
        (subst (λ r. IsFound new i (stated_text r)) (sym (get_or_from_slice_get rules i rule d is)) (subst (IsFound new i) states found.1))
        )
  ],
  asks ∙ ap (λ b. b || asks_attributes rule) has.2 ∙ sym (list_any_more asks_attributes rules i rule (slice_get_within rules i rule is)
      ∙ ap (λ r. list_any asks_attributes (take i rules) || asks_attributes r) (get_or_from_slice_get rules i rule rule is)),
)

-- after a number is added under a text, an index has each number that it had, and this one
pub put-found : (old new : RuleIndex) (text : List ℕ) (number : ℕ) → length old.keys.items ≡ 64 →
    new.keys.items ≡ set old.keys.items (text_key text) true → new.general.items ≡ old.general.items →
    ((t : List ℕ) → numbers_under new t ≡ (if bytes_eq t text then numbers_under old t ++ number ∷ [] else numbers_under old t)) →
    ((n : ℕ) (stated : Option (List ℕ)) → IsFound old n stated → IsFound new n stated) × IsFound new number (Some text)
put-found old new text number long keys general numbers = (
  kept,
  (
    ap (λ ks. is_told ks text) keys ∙ get_or-set_same old.keys.items (text_key text) true true (omega (arith, long)),
    subst (λ ns. Contains ns number) (sym (numbers text)) (rw ((bytes_eq-Decides text text).1 refl) (Contains-push (numbers_under old text) number)),
  ),
)
  where
    still : (t : List ℕ) → is_told old.keys.items t ≡ true → is_told (set old.keys.items (text_key text) true) t ≡ true
    still t told = grind (arith, common_steps)

    kept : (n : ℕ) (stated : Option (List ℕ)) → IsFound old n stated → IsFound new n stated
    kept n None found = subst (λ ns. Contains ns n) (sym general) found
    kept n (Some t) found = (
      ap (λ ks. is_told ks t) keys ∙ still t found.0,
      subst (λ ns. Contains ns n) (sym (numbers t)) (elim (cases_Bool (bytes_eq t text)) [
        | inl e ↦ rw e (Contains-append_left (numbers_under old t) (number ∷ []) n found.1)
        | inr e ↦ rw e found.1
      ]),
    )

-- after the number of a rule that states no text is added, an index has each number that it had, and this one
pub general-found : (old new : RuleIndex) (number : ℕ) → new.keys.items ≡ old.keys.items → new.by_text ≡ old.by_text →
    new.general.items ≡ old.general.items ++ number ∷ [] →
    ((n : ℕ) (stated : Option (List ℕ)) → IsFound old n stated → IsFound new n stated) × IsFound new number None
general-found old new number keys texts general = (kept, rw general (Contains-push old.general.items number))
  where
    kept : (n : ℕ) (stated : Option (List ℕ)) → IsFound old n stated → IsFound new n stated
    kept n None found = rw general (Contains-append_left old.general.items (number ∷ []) n found)
    kept n (Some t) found = rw (keys, texts) found

-- ---- lookup for an element

-- an element that a rule selects has the text that the rule states
pub has_stated : (name : List ℕ) (id classes : Option (List ℕ)) (rule : Rule) (text : List ℕ) → selects name id classes rule ≡ true →
    stated_text rule ≡ Some text → Contains (texts_of name id classes) text
has_stated name id classes rule text asked states =
    let first = and_parts (matches_part rule.element (Some name) && matches_part rule.id id) (list_all (has_class classes) rule.classes) asked in
    let both = and_parts (matches_part rule.element (Some name)) (matches_part rule.id id) first.0 in
    had rule.classes rule.id rule.element id first.1 both.1 both.0 states
  where
    same : (a b : List ℕ) → bytes_eq a b ≡ true → a ≡ b
    same a b e = (bytes_eq-Decides a b).0 e

    had : (cs : List (List ℕ)) (i e of_it : Option (List ℕ)) → list_all (has_class classes) cs ≡ true → matches_part i of_it ≡ true →
        matches_part e (Some name) ≡ true → text_stated cs i e ≡ Some text → Contains (texts_of name of_it classes) text
    had (c ∷ cs) i e of_it classed identified named is =
        let own = and_parts (has_class classes c) (list_all (has_class classes) cs) classed in
        let found = Contains-from_any same c (words (unwrap_or classes [])) own.0 in
        subst (Contains (texts_of name of_it classes)) (same_Some c text is)
        (Contains-append_right (name ∷ option_to_list of_it) (words (unwrap_or classes [])) c found)
    had [] (Some i) e (Some v) classed identified named is =
        subst (Contains (texts_of name (Some v) classes)) (sym (same i v identified) ∙ same_Some i text is)
        (Contains-tail name (v ∷ words (unwrap_or classes [])) v (Contains-head v (words (unwrap_or classes []))))
    had [] (Some i) e None classed identified named is = absurd (cc)
    had [] None (Some e) of_it classed identified named is =
        subst (Contains (texts_of name of_it classes)) (sym (same e name named) ∙ same_Some e text is)
        (Contains-head name (option_to_list of_it ++ words (unwrap_or classes [])))
    had [] None None of_it classed identified named is = absurd (cc)

-- ---- applying rules by their numbers, in order

-- strictly ascending numbers from `from` on begin with it, or are all above it
first : (from : ℕ) (ns : List ℕ) → AllPairs (λ m n. m < n) ns → All (λ n. from ≤ n) ns →
    All (λ n. from < n) ns ⊎ ((ms : List ℕ) × (ns ≡ from ∷ ms) × AllPairs (λ m n. m < n) ms × All (λ n. from < n) ms)
first from [] rise low = inl (All-nil (λ n. from < n))
first from (m ∷ ms) rise low =
    let over : from ≤ m = All-head (λ n. from ≤ n) m ms low in
    let above : All (λ n. from < n) ms = λ k d lt. omega (arith, over, rise 0 (suc k) d (omega arith) (omega (arith, lt))) in
    elim (cases_lt from m) [
      | inl lt ↦ inl (All-cons (λ n. from < n) m ms lt above)
      | inr ge ↦ (
          let same : m ≡ from = omega (arith, over, ge) in
          inr (ms, ap (λ n. n ∷ ms) same, λ i j d lt fits. rise (suc i) (suc j) d (omega (arith, lt)) (omega (arith, fits)), above)
          )
    ]

-- if `g` gives of each item's number what `h` gives of the item, strictly ascending numbers with each number where `g` isn't
-- empty give what all items give
gathered : {X Y : Type 0} (h : Option X → List Y) (g : ℕ → List Y) (xs : List X) (from : ℕ) (ns : List ℕ) → h None ≡ [] →
    ((k : ℕ) → g (from + k) ≡ h (slice_get xs k)) → AllPairs (λ m n. m < n) ns → All (λ n. from ≤ n) ns →
    ((n : ℕ) → from ≤ n → (g n ≡ []) ⊎ Contains ns n) → flat_map g ns ≡ flat_map (λ x. h (Some x)) xs
gathered h g [] from [] nil is rise low has = refl
gathered h g [] from (m ∷ ms) nil is rise low has =
    let at : m ≡ from + (m - from) = omega (arith, All-head (λ n. from ≤ n) m ms low) in
    ap (λ ys. ys ++ flat_map g ms) (ap g at ∙ is (m - from) ∙ nil)
    ∙ gathered h g [] from ms nil is (λ i j d lt fits. rise (suc i) (suc j) d (omega (arith, lt)) (omega (arith, fits)))
    (All-tail (λ n. from ≤ n) m ms low) (λ n le. inl (ap g (omega (arith, le)) ∙ is (n - from) ∙ nil))
gathered h g (x ∷ xs) from ns nil is rise low has =
    let here : g from ≡ h (Some x) = ap g (omega arith) ∙ is 0 in
    let rest = λ (ms : List ℕ). gathered h g xs (suc from) ms nil (λ k. ap g (omega arith) ∙ is (suc k)) in
    elim (first from ns rise low) [
      | inl above ↦
          rest ns rise above (λ n le. has n (omega (arith, le)))
          ∙ ap (λ ys. ys ++ flat_map (λ x. h (Some x)) xs) (elim (has from (omega arith)) [
            | inl e ↦ sym e ∙ here
            | inr c ↦ absurd (omega (arith, All-contains (λ n. from < n) ns from above c))
          ])
      | inr (ms, split, rise_on, above) ↦
          ap (flat_map g) split
          ∙ ap (λ ys. ys ++ flat_map g ms) here
          ∙ ap (λ ys. h (Some x) ++ ys) (rest ms rise_on above (λ n le. elim (has n (omega (arith, le))) [
            | inl e ↦ inl e
            | inr c ↦ elim (Contains-cons_cases from ms n (subst (λ ns. Contains ns n) split c)) [ inl q ↦ absurd (omega (arith, le, q)) | inr t ↦ inr t ]
          ]))
    ]

-- the rules under those texts of an element whose keys are marked, with those without a text, give it what all rules give it
pub offered : (index : RuleIndex) (rules : List Rule) (name : List ℕ) (id classes : Option (List ℕ)) (texts : List (Bor (List ℕ)))
    (numbers : List ℕ) → Indexes index rules → map (λ t. t.now) texts ≡ filter (is_told index.keys.items) (texts_of name id classes) →
    All (λ text. All (Contains numbers) (numbers_under index text.now)) texts → All (Contains numbers) index.general.items →
    IsStrictlyIncreasing numbers →
    flat_map (said_at (selects name id classes) rules) numbers ≡ flat_map applied (filter (selects name id classes) rules)
offered index rules name id classes texts numbers finds told under general rise =
    gathered (λ rule. flat_map applied (filter asked (option_to_list rule))) (said_at asked rules) rules 0 numbers refl
    (λ k. ap (said_at asked rules) (omega arith)) (AllPairs-from_increasing numbers rise) (λ k d lt. omega arith)
    (λ n le. elim (slice_get_cases rules n).1 [
      | inl (rule, lt, e, is) ↦ elim (cases_Bool (asked rule)) [
        | inl s ↦ inr (has n rule (stated_text rule) s refl (subst (λ r. IsFound index n (stated_text r)) is (finds.1 n rule lt)))
        | inr s ↦ inl (rw (e, s) refl)
      ]
      | inr (past, e) ↦ inl (rw e refl)
    ])
    ∙ said_to-all asked rules
  where
    asked : Rule → Bool
    asked = selects name id classes

    Has : List ℕ → Type 0
    Has text = All (Contains numbers) (numbers_under index text)

    has : (n : ℕ) (rule : Rule) (stated : Option (List ℕ)) → asked rule ≡ true → stated_text rule ≡ stated → IsFound index n stated → Contains numbers n
    has n rule None selected e found = All-contains (Contains numbers) index.general.items n general found
    has n rule (Some text) selected e found =
        let told_has = All-unfiltered (is_told index.keys.items) Has (texts_of name id classes) (subst (All Has) told (All-map Has (λ t. t.now) texts under)) in
        All-contains (Contains numbers) (numbers_under index text) n
        (All-contains (λ t. is_told index.keys.items t ≡ true → Has t) (texts_of name id classes) text told_has
        (has_stated name id classes rule text selected e) found.0) found.1

-- an id and classes don't matter to rules that state neither
alike : (name : List ℕ) (id classes : Option (List ℕ)) (rules : List Rule) → list_any asks_attributes rules ≡ false →
    filter (selects name id classes) rules ≡ filter (selects name None None) rules
alike name id classes [] none = refl
alike name id classes (r ∷ rules) none =
    let parts = or_parts (asks_attributes r) (list_any asks_attributes rules) none in
    ap (λ b. cond b (r ∷ filter (selects name id classes) rules) (filter (selects name id classes) rules)) (same r.id r.classes parts.0)
    ∙ ap (λ rs. cond (selects name None None r) (r ∷ rs) rs) (alike name id classes rules parts.1)
  where
    same : (i : Option (List ℕ)) (cs : List (List ℕ)) → (is_some i || is_filled cs) ≡ false →
        (matches_part r.element (Some name) && matches_part i id && list_all (has_class classes) cs)
        ≡ (matches_part r.element (Some name) && matches_part i None && list_all (has_class None) cs)
    same None [] none = refl
    same None (c ∷ cs) none = absurd (cc)
    same (Some x) cs none = absurd (cc)

-- no rule selects an element if:
-- * the key of its name isn't marked;
-- * each rule states a text;
-- * no rule states an id or a class, or the element has no attributes.
pub none_selects : (index : RuleIndex) (name : List ℕ) (attrs : List Attribute) →
    (is_told index.keys.items name || is_filled index.general.items || index.asks_attributes && is_filled attrs) ≡ false →
    (rules : List Rule) → Finds index rules → element_style rules name (map property_of attrs) ≡ style_by []
none_selects index name attrs none rules finds =
    let parts = or_parts (is_told index.keys.items name || is_filled index.general.items) (index.asks_attributes && is_filled attrs) none in
    let untold = or_parts (is_told index.keys.items name) (is_filled index.general.items) parts.0 in
    ap style_by (alone index.asks_attributes attrs finds.0.2 parts.1 ∙ sym (offered index rules name None None [] [] finds.0 (rw untold.0 refl)
    (All-nil (λ text. All (Contains []) (numbers_under index text.now))) (empty index.general.items untold.1) (λ k lt. absurd (omega (arith, lt)))))
  where
    alone : (asks : Bool) (ps : List Attribute) → asks ≡ list_any asks_attributes rules → asks && is_filled ps ≡ false →
        flat_map applied (filter (selects name (first_value (codes "id") (map property_of ps)) (first_value (codes "class") (map property_of ps))) rules)
        ≡ flat_map applied (filter (selects name None None) rules)
    alone false ps states none =
        ap (flat_map applied)
        (alike name (first_value (codes "id") (map property_of ps)) (first_value (codes "class") (map property_of ps)) rules (sym states))
    alone true [] states none = refl
    alone true (p ∷ ps) states none = absurd (cc)

    empty : (ns : List ℕ) → is_filled ns ≡ false → All (Contains []) ns
    empty [] none = All-nil (Contains [])
    empty (n ∷ ns) none = absurd (cc)

-- ---- styles of elements without attributes

-- a style that is found is that of its name
pub plain-found : (rules : List Rule) (name : List ℕ) (ps : List PlainStyle) (p : PlainStyle) → All (IsPlain rules) ps →
    find (λ (q : PlainStyle). bytes_eq (string_bytes q.name) name) ps ≡ Some p → p.style ≡ element_style rules name []
plain-found rules name [] p all is = cc
plain-found rules name (q ∷ qs) p all is = elim (cases_Bool (bytes_eq (string_bytes q.name) name)) [
  | inl h ↦ (
      let same : string_bytes q.name ≡ name = (bytes_eq-Decides (string_bytes q.name) name).0 h in
      let found : q ≡ p = cc in
      subst (λ (x : PlainStyle). x.style ≡ element_style rules name []) found
      (All-head (IsPlain rules) q qs all ∙ ap (λ n. element_style rules n []) same)
      )
  | inr h ↦ plain-found rules name qs p (All-tail (IsPlain rules) q qs all) (rw h at is)
]
