-- The first attribute with a name, in a mapped list.
use Rattle.std.proofs.Common.{◌≡◌, Bool, List, [], ◌∷◌, map, option_map, find, refl, inl, inr}
use Rattle.std.proofs.lemmas.Bool.{cases_Bool}

pub find-map : {X Y : Type 0} (f : X → Y) (test : Y → Bool) (xs : List X) → find test (map f xs) ≡ option_map f (find (λ x. test (f x)) xs)
find-map f test [] = refl
find-map f test (x ∷ xs) = elim (cases_Bool (test (f x))) [ inl e ↦ rw e refl | inr e ↦ rw e (find-map f test xs) ]

pub ruleset finds = (find-map)
