-- The edges are 0 and the ends of the grid's places.
use Rattle.std.proofs.Common.{◌≡◌, ℕ, ◌<◌, List, [], ◌∷◌, length, get_or, map, Any, Contains, refl, sym, subst, arith, inl, inr, ◌⊎◌, suc, zero}
use Rattle.std.proofs.lemmas.List.Elements.{Contains-append_cases, Contains-append_left, Contains-append_right}
use Rattle.html_render_parts.specs.declared.table.PlacedCell.{PlacedCell}
use Rattle.html_render_parts.specs.declared.table.placement.Place.{Place}
use Rattle.html_render_parts.specs.Grid.{edges_of, numbered}
use Rattle.html_render_parts.specs.Positions.{ends}
use Rattle.html_render_parts.proofs.EdgeRanks.{Contains-cons, Contains-from_rising, Contains-here, Contains-rising, Contains-there}

Any-head : {X : Type 0} (P : X → Type 0) (x : X) (xs : List X) → P x → Any P (x ∷ xs)
Any-head P x xs h = (0, x, omega arith, refl, h)

Any-tail : {X : Type 0} (P : X → Type 0) (x : X) (xs : List X) → Any P xs → Any P (x ∷ xs)
Any-tail P x xs h = (suc h.0, h.1, let inside = h.2 in omega arith, h.3, h.4)

Any-nil : {X : Type 0} (P : X → Type 0) → Any P [] → ⊥
Any-nil P h = let inside = h.2 in omega arith

Any-cons : {X : Type 0} (P : X → Type 0) (x : X) (xs : List X) → Any P (x ∷ xs) → P x ⊎ Any P xs
Any-cons {X} P x xs h = by h.0 h.1 h.2 h.3 h.4
  where
    by : (k : ℕ) (y : X) → k < length (x ∷ xs) → get_or (x ∷ xs) k y ≡ y → P y → P x ⊎ Any P xs
    by zero y inside e p = inl (subst P (sym e) p)
    by (suc k) y inside e p = inr (k, y, omega arith, e, p)

abbrev EndsAt : ℕ → PlacedCell → Type 0
EndsAt e c = c.end ≡ e

in-row : (es : List ℕ) (e : ℕ) (ps : List Place) → Contains (map (λ p. p.end) ps) e → Any (EndsAt e) (map (numbered es) ps)
in-row es e [] h = absurd (let inside = h.1 in omega arith)
in-row es e (p ∷ ps) h = elim (Contains-cons p.end e (map (λ q. q.end) ps) h) [
  | inl f ↦ Any-head (EndsAt e) (numbered es p) (map (numbered es) ps) f
  | inr g ↦ Any-tail (EndsAt e) (numbered es p) (map (numbered es) ps) (in-row es e ps g)
]

from-row : (es : List ℕ) (e : ℕ) (ps : List Place) → Any (EndsAt e) (map (numbered es) ps) → Contains (map (λ p. p.end) ps) e
from-row es e [] h = absurd (Any-nil (EndsAt e) h)
from-row es e (p ∷ ps) h = elim (Any-cons (EndsAt e) (numbered es p) (map (numbered es) ps) h) [
  | inl f ↦ subst (λ x. Contains (p.end ∷ map (λ q. q.end) ps) x) f (Contains-here p.end (map (λ q. q.end) ps))
  | inr g ↦ Contains-there p.end e (map (λ q. q.end) ps) (from-row es e ps g)
]

in-rows : (es : List ℕ) (e : ℕ) (rows : List (List Place)) → Contains (ends rows) e → Any (Any (EndsAt e)) (map (map (numbered es)) rows)
in-rows es e [] h = absurd (let inside = h.1 in omega arith)
in-rows es e (r ∷ rows) h = elim (Contains-append_cases (map (λ p. p.end) r) (ends rows) e h) [
  | inl f ↦ Any-head (Any (EndsAt e)) (map (numbered es) r) (map (map (numbered es)) rows) (in-row es e r f)
  | inr g ↦ Any-tail (Any (EndsAt e)) (map (numbered es) r) (map (map (numbered es)) rows) (in-rows es e rows g)
]

from-rows : (es : List ℕ) (e : ℕ) (rows : List (List Place)) → Any (Any (EndsAt e)) (map (map (numbered es)) rows) → Contains (ends rows) e
from-rows es e [] h = absurd (Any-nil (Any (EndsAt e)) h)
from-rows es e (r ∷ rows) h = elim (Any-cons (Any (EndsAt e)) (map (numbered es) r) (map (map (numbered es)) rows) h) [
  | inl f ↦ Contains-append_left (map (λ p. p.end) r) (ends rows) e (from-row es e r f)
  | inr g ↦ Contains-append_right (map (λ p. p.end) r) (ends rows) e (from-rows es e rows g)
]

pub edge-is : (es : List ℕ) (rows : List (List Place)) (e : ℕ) → Contains (edges_of rows) e →
    (e ≡ 0) ⊎ Any (Any (EndsAt e)) (map (map (numbered es)) rows)
edge-is es rows e h = elim
    (Contains-cons 0 e (ends rows) (Contains-from_rising e (0 ∷ ends rows) h)) [ inl f ↦ inl (sym f) | inr g ↦ inr (in-rows es e rows g) ]

pub is-edge : (es : List ℕ) (rows : List (List Place)) (e : ℕ) → (e ≡ 0) ⊎ Any (Any (EndsAt e)) (map (map (numbered es)) rows) →
    Contains (edges_of rows) e
is-edge es rows e h = Contains-rising e (0 ∷ ends rows) (elim h [
  | inl f ↦ subst (λ x. Contains (0 ∷ ends rows) x) (sym f) (Contains-here 0 (ends rows))
  | inr g ↦ Contains-there 0 e (ends rows) (from-rows es e rows g)
])
