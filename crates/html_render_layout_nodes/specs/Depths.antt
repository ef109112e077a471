-- The depth of a node in pre-order: the number of subtrees that are open at its place, found from their ends.
use Rattle.std.specs.Prelude.{ℕ, ◌+◌, ◌-◌, ◌^◌, ◌==◌, ◌≡◌, List, [], ◌∷◌, ◌++◌, length, min, reverse, nat_lt, if◌then◌else◌}
use Rattle.html_render_layout_nodes.specs.declared.tree.Entry.{Entry}

-- the end of the subtree of `size` nodes at a place, at most the largest number of 64 bits
abbrev pub end_of : (at size : ℕ) → ℕ
end_of at size = min (at + size) (2 ^ 64 - 1)

-- the ends of open subtrees, the innermost first, with that of the subtree of `size` nodes at `at`, if it ends after `place`
abbrev pub with_part : (place at size : ℕ) → (ends : List ℕ) → List ℕ
with_part place at size ends = if nat_lt place (end_of at size) then end_of at size ∷ ends else ends

-- the ends of the subtrees of nodes from `at` on that end after `place`, the innermost first
abbrev pub open_from : {K : Type 0} → (place at : ℕ) → List (Entry K) → List ℕ
open_from place at [] = []
open_from place at (e ∷ es) = open_from place (at + 1) es ++ with_part place at e.subtree_len []

-- the ends of the subtrees that are open at a place, the innermost first, from the nodes before it
abbrev pub open_at : {K : Type 0} → (place : ℕ) → (before : List (Entry K)) → List ℕ
open_at place before = open_from place 0 before

-- whether the innermost open subtree ends at a place; `ends` are the ends of the open subtrees, the innermost first
abbrev pub EndsAt : (place : ℕ) → (ends : List ℕ) → Type 0
EndsAt place [] = ⊥
EndsAt place (e ∷ es) = e ≡ place

-- the ends of the subtrees that stay open at a place, without those that end there
abbrev pub ends_open_at : (place : ℕ) → (ends : List ℕ) → List ℕ
ends_open_at place [] = []
ends_open_at place (e ∷ es) = if e == place then ends_open_at place es else e ∷ es

-- whether `depth` is the number of open subtrees, and `kept` are the ends of the innermost ones, the innermost last: at
-- least one end, if a subtree is open
pub record Keeps (depth : ℕ) (kept ends : List ℕ) : Type 0 where
  pub outer : List ℕ
  pub is : ends ≡ reverse kept ++ outer
  pub depth_is : depth ≡ length ends
  pub some_kept : length kept ≡ 0 → length ends ≡ 0
