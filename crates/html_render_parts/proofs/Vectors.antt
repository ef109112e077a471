-- Lists of the elements of vectors.
use Rattle.std.proofs.Common.{◌≡◌, ℕ, ◌+◌, ◌<◌, List, ◌∷◌, All, length, get_or, drop, map, sym, ap, ◌∙◌, subst}
use Rattle.std.specs.Global.{Vec}
use Rattle.std.proofs.lemmas.List.{drop_more, get_or-map, length-map}
use Rattle.html_render_parts.specs.Placement.{lists}

-- a property of all images is one of all elements, composed with the function
pub All-unmap : {X Y : Type 0} (P : Y → Type 0) (f : X → Y) (xs : List X) → All P (map f xs) → All (λ x. P (f x)) xs
All-unmap P f xs h = λ k d inside.
    subst P (get_or-map f xs k d (f d) inside) (h k (f d) (subst (λ n. k < n) (sym (length-map xs f)) inside))

-- a property of the elements of all vectors is one of a vector at an index
pub at-vector : {X : Type 0} (P : List X → Type 0) (vs : List (Vec X)) (i : ℕ) (v : Vec X) → All P (lists vs) → i < length vs →
    v ≡ get_or vs i v → P v.items
at-vector {X} P vs i v h inside is = subst (λ (w : Vec X). P w.items) (sym is) (All-unmap P (λ (w : Vec X). w.items) vs h i v inside)

-- elements of the vectors from an index on
pub lists-drop : {X : Type 0} (vs : List (Vec X)) (i : ℕ) (v : Vec X) → i < length vs → v ≡ get_or vs i v →
    lists (drop i vs) ≡ v.items ∷ lists (drop (i + 1) vs)
lists-drop {X} vs i v inside is =
    ap (λ (ws : List (Vec X)). lists ws) (drop_more vs i v inside) ∙ ap (λ (w : Vec X). w.items ∷ lists (drop (i + 1) vs)) (sym is)
