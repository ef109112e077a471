-- The visits of the nodes of a forest: the state after them, and the nodes that are visited.
use Rattle.std.specs.Prelude.{◌≡◌, ℕ, ◌+◌, max, Bool, true, false, not, ◌||◌, List, [], ◌∷◌, ◌++◌, Option, Some, None, option_and_then, option_map}
use Rattle.std.specs.Prelude.{if◌then◌else◌}
use Rattle.std.specs.Option.{option_map_or}
use Rattle.html_render_dom_values.specs.Forest.{Forest, none, node}
use Rattle.html_render_dom_values.specs.Outcome.{◌>>=◌, Refuses}
use Rattle.html_render_dom_values.specs.declared.errors.Error.{Error}
use Rattle.html_render_dom_values.specs.declared.errors.Error.TheVariants.{OutOfMemory}

-- THE PLACE of a node among its siblings, in a state. `Bare`: the node as it is. `Skipped`: no visit, with the state after
-- the node. `Within`: steps around the node, with the state before it, `None` if the visit isn't possible, and the step after
-- it.
pub data NodePlace (S : Type 0) : Type 0 where
  Bare : NodePlace S
  Skipped : S → NodePlace S
  Within : Option S → (after : S → Option S) → NodePlace S

-- the places of a node's children, by their numbers from 0 and the state
abbrev pub Places : Type 0 → Type 0
Places S = ℕ → S → NodePlace S

-- places that leave each node as it is
abbrev pub bare : {S : Type 0} → Places S
bare number s = Bare

-- A VISIT of a node in a state. `Leaf`: the state after the node, whose children aren't visited. `Inner`: the state before
-- its children, their places, and the step after them. `None` if the visit isn't possible.
pub data Visit (S : Type 0) : Type 0 where
  Leaf : Option S → Visit S
  Inner : Option S → Places S → (after : S → Option S) → Visit S

-- the visit of each node, by the node, its children and the state
abbrev pub Visits : Type 0 → Type 0 → Type 0
Visits K S = K → Forest K → S → Visit S

-- the state after a visit, where `children` runs the children in their places from a state
abbrev pub through_visit : {S : Type 0} → Visit S → (children : Places S → S → Option S) → Option S
through_visit (Leaf behind) children = behind
through_visit (Inner before places after) children = before >>= λ q. children places q >>= λ r. after r

-- the places and the state from which the children are visited; `None` if they aren't, or if the visit isn't possible
abbrev pub inside : {S : Type 0} → Visit S → Option (Places S × S)
inside (Leaf behind) = None
inside (Inner before places after) = option_map (λ q. (places, q)) before

-- a visit with one more step after it
abbrev pub followed : {S : Type 0} → Visit S → (S → Option S) → Visit S
followed (Leaf behind) next = Leaf (option_and_then next behind)
followed (Inner before places after) next = Inner before places (λ r. option_and_then next (after r))

-- the visit of a node in its place
abbrev pub placed : {S : Type 0} → NodePlace S → (S → Visit S) → S → Visit S
placed Bare visit s = visit s
placed (Skipped t) visit s = Leaf (Some t)
placed (Within before after) visit s = option_map_or (λ q. followed (visit q) after) before (Leaf None)

-- THE STATE after a forest, with its nodes in these places, the first of this number; `None` if the visit isn't possible
abbrev pub run_at : {K S : Type 0} → Visits K S → Places S → (number : ℕ) → Forest K → S → Option S
run_at visits places number none s = Some s
run_at visits places number (node k children beside) s = do
  t ← through_visit (placed (places number s) (visits k children) s) (λ below q. run_at visits below 0 children q)
  run_at visits places (number + 1) beside t

abbrev pub run : {K S : Type 0} → Visits K S → Forest K → S → Option S
run visits trees s = run_at visits bare 0 trees s

-- ---- the visited nodes

-- whether a node in this place is skipped
abbrev pub is_skipped : {S : Type 0} → NodePlace S → Bool
is_skipped (Skipped t) = true
is_skipped _ = false

-- THE NODES that a run reaches, in order, with the skipped ones or without them: a node, then its descendants if they are
-- visited, then its siblings from the state after it
abbrev pub nodes_at : {K S : Type 0} → (with_skipped : Bool) → Visits K S → Places S → (number : ℕ) → Forest K → S → List K
nodes_at with_skipped visits places number none s = []
nodes_at with_skipped visits places number (node k children beside) s =
    let visit = placed (places number s) (visits k children) s in
    (if with_skipped || not (is_skipped (places number s)) then k ∷ [] else [])
    ++ (option_map_or (λ x. nodes_at with_skipped visits x.0 0 children x.1) (inside visit) []
    ++ option_map_or (λ t. nodes_at with_skipped visits places (number + 1) beside t)
    (through_visit visit (λ below q. run_at visits below 0 children q)) [])

abbrev pub visited : {K S : Type 0} → Visits K S → Forest K → S → List K
visited visits trees s = nodes_at true visits bare 0 trees s

-- THE GREATEST NUMBER of nodes that are open at once; a node is open while its children are visited
abbrev pub open_at : {K S : Type 0} → Visits K S → Places S → (number : ℕ) → Forest K → S → ℕ
open_at visits places number none s = 0
open_at visits places number (node k children beside) s =
    let visit = placed (places number s) (visits k children) s in
    max (option_map_or (λ x. 1 + open_at visits x.0 0 children x.1) (inside visit) 0)
    (option_map_or (λ t. open_at visits places (number + 1) beside t) (through_visit visit (λ below q. run_at visits below 0 children q)) 0)

abbrev pub most_open : {K S : Type 0} → Visits K S → Forest K → S → ℕ
most_open visits trees s = open_at visits bare 0 trees s

-- ---- the actions of a walk

-- a way of opening a node: `Into` it, with the state before its children and what the node keeps; or `Past` it and its
-- children, with the state after them
pub data Way (S T : Type 0) : Type 0 where
  Into : S → T → Way S T
  Past : S → Way S T

-- the way for a state and a result of the code's `open`
abbrev pub way : {S T : Type 0} → S → Option T → Way S T
way s (Some kept) = Into s kept
way s None = Past s

-- the way past a node to a state, if there is one
abbrev pub past : {S T : Type 0} → Option S → Option (Way S T)
past o = option_map (λ t. Past t) o

-- the way in which a node with this visit is opened if it keeps `kept`
abbrev pub opened_with : {S T : Type 0} → Visit S → (kept : T) → Option (Way S T)
opened_with (Leaf behind) kept = past behind
opened_with (Inner before places after) kept = option_map (λ q. Into q kept) before

-- the places of the innermost open node's children, from what it keeps; `bare` if no node is open
abbrev pub places_in : {S T : Type 0} → (below : T → Places S) → Option T → Places S
places_in below None = bare
places_in below (Some kept) = below kept

-- the state after a node that is opened in this way
abbrev pub through : {S T : Type 0} → (below : T → Places S) → (closed : T → S → Option S) → (children : Places S → S → Option S) →
    Way S T → Option S
through below closed children (Into q kept) = children (below kept) q >>= λ r. closed kept r
through below closed children (Past t) = Some t

-- the places and the state for the children of a node that is opened in this way; `None` if they aren't visited
abbrev pub into : {S T : Type 0} → (below : T → Places S) → Way S T → Option (Places S × S)
into below (Into q kept) = Some (below kept, q)
into below (Past t) = None

-- Whether opening and closing a node is its visit. The state after it is equal, and its children are visited in equal places
-- from an equal state.
pub record IsOpened {S T : Type 0} (below : T → Places S) (closed : T → S → Option S) (visit : Visit S) (opened : Option (Way S T)) : Type 0 where
  pub told : (children : Places S → S → Option S) → through_visit visit children ≡ option_and_then (through below closed children) opened
  pub asked : inside visit ≡ option_and_then (λ w. into below w) opened

-- ---- pairs of a node and its only child

-- the state after a node that keeps `kept`, by the way of its only child; no pair if the child has children that are visited
abbrev pub passed_in : {S T : Type 0} → (closed : T → S → Option S) → (kept : T) → Option (Way S T) → Option (Option S)
passed_in closed kept None = Some None
passed_in closed kept (Some (Past r)) = Some (closed kept r)
passed_in closed kept (Some (Into q inner)) = None

-- the state after a node by its way and its only child; no pair if the child isn't visited
abbrev pub pair_in : {K S T : Type 0} → (opened : Option T → ℕ → K → Forest K → S → Option (Way S T)) → (closed : T → S → Option S) → (child : K) →
    Option (Way S T) → Option (Option S)
pair_in opened closed child (Some (Into q kept)) = passed_in closed kept (opened (Some kept) 0 child none q)
pair_in opened closed child _ = None

-- THE STATE AFTER A PAIR: a node with one child, which has no children, both visited; `None` for any other node, and `Some None`
-- if the visit isn't possible
abbrev pub pair_at : {K S T : Type 0} → (opened : Option T → ℕ → K → Forest K → S → Option (Way S T)) → (closed : T → S → Option S) →
    (parent : Option T) → (number : ℕ) → K → Forest K → S → Option (Option S)
pair_at opened closed parent number k (node child none none) s = pair_in opened closed child (opened parent number k (node child none none) s)
pair_at opened closed parent number k _ s = None

-- relation of an error to the state after a pair: without a pair it is `OutOfMemory`
abbrev pub RefusesPair : {S : Type 0} → Error → Option (Option S) → Type 0
RefusesPair e None = e ≡ OutOfMemory
RefusesPair e (Some after) = Refuses e after
