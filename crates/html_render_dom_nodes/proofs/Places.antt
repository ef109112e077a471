-- The places of attributes in a concatenated list. A search for a name can begin at the first attribute with its local name.
use Rattle.std.proofs.Common.{◌≡◌, ℕ, suc, ◌+◌, ◌-◌, ◌<◌, ◌≤◌, Bool, true, false, ◌||◌, if◌then◌else◌, List, [], ◌∷◌, ◌++◌, length, get_or, take, drop, map}
use Rattle.std.proofs.Common.{Option, Some, None, refl, sym, ap, ◌∙◌, inl, inr, arith}
use Rattle.std.proofs.lemmas.Bool.{and_parts, cases_Bool}
use Rattle.std.proofs.lemmas.List.{take_more}
use Rattle.std.proofs.lemmas.Slice.Eq.{bytes_eq-Decides}
use Rattle.std.specs.Str.{bytes_eq}
use Rattle.html_render_dom_nodes.specs.declared.names.Attribute.{Attribute}
use Rattle.html_render_dom_nodes.specs.Content.{Name, name_of, property_of}
use Rattle.html_render_dom_nodes.specs.Elements.{has_name}
use Rattle.html_render_dom_nodes.specs.Names.{name_eq, space_eq}
use Rattle.html_render_dom_nodes.specs.Places.{first_of, place_of}

pub first_of-assoc : (a b c : Option ℕ) → first_of (first_of a b) c ≡ first_of a (first_of b c)
first_of-assoc (Some x) b c = refl
first_of-assoc None b c = refl

pub place_of-append : (local : List ℕ) (start : ℕ) (xs ys : List Attribute) →
    place_of local start (xs ++ ys) ≡ first_of (place_of local start xs) (place_of local (start + length xs) ys)
place_of-append local start [] ys = let same : start ≡ start + 0 = omega arith in ap (λ n. place_of local n ys) same
place_of-append local start (x ∷ xs) ys = elim (cases_Bool (bytes_eq local x.name.local)) [
  | inl e ↦ rw e refl
  | inr e ↦ (
      let rest = place_of-append local (start + 1) xs ys in
      let sum : start + 1 + length xs ≡ start + suc (length xs) = omega arith in
      rw e (rest ∙ ap (λ n. first_of (place_of local (start + 1) xs) (place_of local n ys)) sum)
      )
]

-- the place after one more attribute is recorded
pub place_of-more : (local : List ℕ) (start : ℕ) (attrs : List Attribute) (i : ℕ) (a : Attribute) (before : Option ℕ) → i < length attrs →
    a ≡ get_or attrs i a → length (take i attrs) ≡ i →
    first_of (first_of before (place_of local start (take i attrs))) (if bytes_eq local a.name.local then Some (start + i) else None)
    ≡ first_of before (place_of local start (take (i + 1) attrs))
place_of-more local start attrs i a before lt is long =
    first_of-assoc before (place_of local start (take i attrs)) _
    ∙ ap (λ n. first_of before (first_of (place_of local start (take i attrs)) (place_of local (start + n) (a ∷ [])))) (sym long)
    ∙ ap (first_of before) (sym (place_of-append local start (take i attrs) (a ∷ [])))
    ∙ ap (λ xs. first_of before (place_of local start xs)) (sym (take_more attrs i a lt ∙ ap (λ x. take i attrs ++ x ∷ []) (sym is)))

-- names with different local names differ
other : (name : Name) (a : Attribute) → bytes_eq name.local a.name.local ≡ false → name_eq (name_of a.name) name ≡ false
other name a e = by (name_eq (name_of a.name) name) refl
  where
    by : (b : Bool) → name_eq (name_of a.name) name ≡ b → name_eq (name_of a.name) name ≡ false
    by false q = q
    by true q =
        let both = and_parts (space_eq (name_of a.name).space name.space) (bytes_eq a.name.local name.local) q in
        let same = (bytes_eq-Decides a.name.local name.local).0 both.1 in
        let yes = (bytes_eq-Decides name.local a.name.local).1 (sym same) in
        let no : true ≡ false = sym yes ∙ e in absurd (cc)

pub none_named : (name : Name) (start : ℕ) (attrs : List Attribute) → place_of name.local start attrs ≡ None →
    has_name (map property_of attrs) name ≡ false
none_named name start [] none = refl
none_named name start (a ∷ attrs) none = elim (cases_Bool (bytes_eq name.local a.name.local)) [
  | inl e ↦ (let found : Some start ≡ None = rw e at none in absurd (cc))
  | inr e ↦ (
      let no = other name a e in
      let rest : place_of name.local (start + 1) attrs ≡ None = rw e at none in
      rw no (none_named name (start + 1) attrs rest)
      )
]

pub place_within : (local : List ℕ) (start : ℕ) (attrs : List Attribute) (p : ℕ) → place_of local start attrs ≡ Some p →
    (start ≤ p) × (p < start + length attrs)
place_within local start [] p is = absurd (cc)
place_within local start (a ∷ attrs) p is = elim (cases_Bool (bytes_eq local a.name.local)) [
  | inl e ↦ (
      let found : Some start ≡ Some p = rw e at is in
      let same : start ≡ p = cc in
      (omega (arith, same), omega (arith, same))
      )
  | inr e ↦ (
      let rest : place_of local (start + 1) attrs ≡ Some p = rw e at is in
      let within = place_within local (start + 1) attrs p rest in
      (omega (arith, within.0), omega (arith, within.1))
      )
]

pub named_from : (name : Name) (start : ℕ) (attrs : List Attribute) (p : ℕ) → place_of name.local start attrs ≡ Some p →
    has_name (map property_of (drop (p - start) attrs)) name ≡ has_name (map property_of attrs) name
named_from name start [] p is = absurd (cc)
named_from name start (a ∷ attrs) p is = elim (cases_Bool (bytes_eq name.local a.name.local)) [
  | inl e ↦ (
      let found : Some start ≡ Some p = rw e at is in
      let same : start ≡ p = cc in
      let none : p - start ≡ 0 = omega (arith, same) in
      ap (λ n. has_name (map property_of (drop n (a ∷ attrs))) name) none
      )
  | inr e ↦ (
      let rest : place_of name.local (start + 1) attrs ≡ Some p = rw e at is in
      let within = place_within name.local (start + 1) attrs p rest in
      let no = other name a e in
      let one_more : p - start ≡ suc (p - (start + 1)) = omega (arith, within.0) in
      ap (λ n. has_name (map property_of (drop n (a ∷ attrs))) name) one_more
      ∙ named_from name (start + 1) attrs p rest
      ∙ ap (λ b. b || has_name (map property_of attrs) name) (sym no)
      )
]
