-- The order in which columns give units is a strict order, and total on columns at different places.
use Rattle.std.proofs.Common.{◌≢◌, ℕ, ◌⊎◌, arith}
use Rattle.html_render_parts_widths.specs.Cuts.{GivesBefore}

pub gives-never_itself : (s w p : ℕ) → GivesBefore s w p s w p → ⊥
gives-never_itself s w p h = grind arith

pub gives-transitive : (s w p s' w' p' s'' w'' p'' : ℕ) → GivesBefore s w p s' w' p' → GivesBefore s' w' p' s'' w'' p'' →
    GivesBefore s w p s'' w'' p''
gives-transitive s w p s' w' p' s'' w'' p'' h k = grind arith

pub gives-one_way : (s w p s' w' p' : ℕ) → GivesBefore s w p s' w' p' → GivesBefore s' w' p' s w p → ⊥
gives-one_way s w p s' w' p' h k = gives-never_itself s w p (gives-transitive s w p s' w' p' s w p h k)

pub gives-some_way : (s w p s' w' p' : ℕ) → p ≢ p' → GivesBefore s w p s' w' p' ⊎ GivesBefore s' w' p' s w p
gives-some_way s w p s' w' p' ne = grind arith
