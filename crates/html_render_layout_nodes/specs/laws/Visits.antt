-- Bounds on the nodes that a run visits, and on those open at once.
use Rattle.std.specs.Prelude.{ℕ, ◌+◌, ◌≤◌, ◌≡◌, true, List, [], length, Option, Some, None, refl}
use Rattle.std.specs.Option.{option_map_or}
use Rattle.std.proofs.Common.{arith, length-append}
use Rattle.html_render_dom_values.specs.Forest.{Forest, none, node, count, depth}
use Rattle.html_render_layout_nodes.specs.Visits.{Visit, Leaf, Visits, Places, bare, placed, through_visit, inside, run_at, nodes_at, visited, open_at, most_open}

-- a visit from an optional state; without a state the visit isn't possible
abbrev pub from_state : {S : Type 0} → Option S → (S → Visit S) → Visit S
from_state o visit = option_map_or visit o (Leaf None)

-- the nodes that are visited from an optional state, and counts from one; nothing without a state
abbrev pub from : {K S : Type 0} → (S → List K) → Option S → List K
from nodes o = option_map_or nodes o []

abbrev pub count_from : {S : Type 0} → (S → ℕ) → Option S → ℕ
count_from count o = option_map_or count o 0

pub length-from : {K S : Type 0} (nodes : S → List K) (o : Option S) → length (from nodes o) ≡ count_from (λ s. length (nodes s)) o
length-from nodes None = refl
length-from nodes (Some s) = refl

count_from-at_most : {S : Type 0} (count : S → ℕ) (n : ℕ) (o : Option S) → ((s : S) → count s ≤ n) → count_from count o ≤ n
count_from-at_most count n None h = omega arith
count_from-at_most count n (Some s) h = h s

module _ {K S : Type 0} (visits : Visits K S) where
  -- each node is visited at most once
  nodes-at_most : (t : Forest K) (places : Places S) (number : ℕ) (s : S) → length (nodes_at true visits places number t s) ≤ count t
  nodes-at_most none places number s = omega arith
  nodes-at_most (node k children beside) places number s =
      let visit = placed (places number s) (visits k children) s in
      let nodes : Places S × S → List K = λ x. nodes_at true visits x.0 0 children x.1 in
      let next : S → List K = λ t. nodes_at true visits places (number + 1) beside t in
      let behind = through_visit visit (λ places q. run_at visits places 0 children q) in
      omega (
        arith,
        length-append (from nodes (inside visit)) (from next behind),
        length-from nodes (inside visit),
        length-from next behind,
        count_from-at_most (λ x. length (nodes x)) (count children) (inside visit) (λ x. nodes-at_most children x.0 0 x.1),
        count_from-at_most (λ t. length (next t)) (count beside) behind (λ t. nodes-at_most beside places (number + 1) t),
      )

  pub visited-at_most : (t : Forest K) (s : S) → length (visited visits t s) ≤ count t
  visited-at_most t s = nodes-at_most t bare 0 s

  -- the number of nodes open at once is at most the forest's depth
  open-at_most : (t : Forest K) (places : Places S) (number : ℕ) (s : S) → open_at visits places number t s ≤ depth t
  open-at_most none places number s = omega arith
  open-at_most (node k children beside) places number s =
      let visit = placed (places number s) (visits k children) s in
      omega (
        arith,
        count_from-at_most (λ x. 1 + open_at visits x.0 0 children x.1) (1 + depth children) (inside visit)
            (λ x. omega (arith, open-at_most children x.0 0 x.1)),
        count_from-at_most (λ t. open_at visits places (number + 1) beside t) (depth beside)
            (through_visit visit (λ places q. run_at visits places 0 children q)) (λ t. open-at_most beside places (number + 1) t),
      )

  pub most_open-at_most : (t : Forest K) (s : S) → most_open visits t s ≤ depth t
  most_open-at_most t s = open-at_most t bare 0 s
