-- Namespaces, names and attributes are equal exactly if their values are.
use Rattle.std.specs.Prelude.{◌≡◌, true}
use Rattle.std.specs.Bool.{Decides}
use Rattle.std.specs.Cmp.{IsEquivalence, decided}
use Rattle.std.specs.Str.{bytes_eq}
use Rattle.std.proofs.Common.{refl, ap, subst}
use Rattle.std.proofs.lemmas.Bool.{false≢true}
use Rattle.std.proofs.lemmas.Bool.Decides.{Decides-and}
use Rattle.std.proofs.lemmas.Slice.Eq.{bytes_eq-Decides}
use Rattle.html_render_dom_nodes.specs.Content.{Space, no_space, html, svg, mathml, other, Name, Property}
use Rattle.html_render_dom_nodes.specs.Names.{space_eq, name_eq, property_eq}

space_eq-true : (a b : Space) → space_eq a b ≡ true → a ≡ b
space_eq-true no_space no_space e = refl
space_eq-true html html e = refl
space_eq-true svg svg e = refl
space_eq-true mathml mathml e = refl
space_eq-true (other a) (other b) e = ap other ((bytes_eq-Decides a b).0 e)
space_eq-true _ _ e = absurd (false≢true e)

space_eq-itself : (a : Space) → space_eq a a ≡ true
space_eq-itself (other a) = (bytes_eq-Decides a a).1 refl
space_eq-itself a = refl

-- the tests decide whether the values are equal
pub space_eq-Decides : (a b : Space) → Decides (space_eq a b) (a ≡ b)
space_eq-Decides a b = (space_eq-true a b, λ e. subst (λ c. space_eq a c ≡ true) e (space_eq-itself a))

pub name_eq-Decides : (a b : Name) → Decides (name_eq a b) (a ≡ b)
name_eq-Decides a b =
    let both = Decides-and (space_eq a.space b.space) (bytes_eq a.local b.local) (space_eq-Decides a.space b.space)
    (bytes_eq-Decides a.local b.local) in
    (λ t. joined (both.0 t), λ e. both.1 (ap (λ n. n.space) e, ap (λ n. n.local) e))
  where
    joined : (a.space ≡ b.space) × (a.local ≡ b.local) → a ≡ b
    joined p = λ i. record { space = p.0 i; local = p.1 i }

pub property_eq-Decides : (a b : Property) → Decides (property_eq a b) (a ≡ b)
property_eq-Decides a b =
    let both = Decides-and (name_eq a.name b.name) (bytes_eq a.value b.value) (name_eq-Decides a.name b.name)
    (bytes_eq-Decides a.value b.value) in
    (λ t. joined (both.0 t), λ e. both.1 (ap (λ n. n.name) e, ap (λ n. n.value) e))
  where
    joined : (a.name ≡ b.name) × (a.value ≡ b.value) → a ≡ b
    joined p = λ i. record { name = p.0 i; value = p.1 i }

pub space_eq_equiv : IsEquivalence space_eq
space_eq_equiv = decided space_eq space_eq-Decides

pub name_eq_equiv : IsEquivalence name_eq
name_eq_equiv = decided name_eq name_eq-Decides

pub property_eq_equiv : IsEquivalence property_eq
property_eq_equiv = decided property_eq property_eq-Decides
