-- Relations of two partial results.
use Rattle.std.proofs.Common.{Option, Some, None, option_and_then, option_map}

-- Relation of two partial results: R if both exist, N if neither does, M if only the second does. It never holds if
-- only the first does.
abbrev pub Both : {X Y : Type 0} → (N M : Type 0) → (X → Y → Type 0) → Option X → Option Y → Type 0
Both N M R None None = N
Both N M R None (Some y) = M
Both N M R (Some x) None = ⊥
Both N M R (Some x) (Some y) = R x y

-- Relation of two partial results, each followed by a step.
pub Both-then : {X Y Z E : Type 0} (N M : Type 0) → (M → N) → (R : X → Y → Type 0) (Q : Z → E → Type 0) (f : X → Option Z) (g : Y → Option E)
    (a : Option X) (b : Option Y) → Both N M R a b → ((x : X) (y : Y) → R x y → Both N M Q (f x) (g y)) →
    Both N M Q (option_and_then f a) (option_and_then g b)
Both-then N M weak R Q f g None None h next = h
Both-then {X} {Y} {Z} {E} N M weak R Q f g None (Some y) h next = by (g y)
  where
    by : (c : Option E) → Both N M Q None c
    by None = weak h
    by (Some z) = h
Both-then N M weak R Q f g (Some x) None h next = absurd h
Both-then N M weak R Q f g (Some x) (Some y) h next = next x y h

-- Relation of two partial results, each mapped.
pub Both-map : {X Y Z E : Type 0} (N M : Type 0) (R : X → Y → Type 0) (Q : Z → E → Type 0) (f : X → Z) (g : Y → E) (a : Option X) (b : Option Y) →
    Both N M R a b → ((x : X) (y : Y) → R x y → Q (f x) (g y)) → Both N M Q (option_map f a) (option_map g b)
Both-map N M R Q f g None None h next = h
Both-map N M R Q f g None (Some y) h next = h
Both-map N M R Q f g (Some x) None h next = absurd h
Both-map N M R Q f g (Some x) (Some y) h next = next x y h

-- Relation of two partial results, under a weaker relation of values.
pub Both-weaken : {X Y : Type 0} (N M : Type 0) (R Q : X → Y → Type 0) (a : Option X) (b : Option Y) → Both N M R a b →
    ((x : X) (y : Y) → R x y → Q x y) → Both N M Q a b
Both-weaken N M R Q None None h so = h
Both-weaken N M R Q None (Some y) h so = h
Both-weaken N M R Q (Some x) None h so = absurd h
Both-weaken N M R Q (Some x) (Some y) h so = so x y h
