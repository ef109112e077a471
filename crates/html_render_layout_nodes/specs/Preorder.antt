-- A forest as one list of its nodes in pre-order.
use Rattle.std.specs.Prelude.{ℕ, ◌+◌, ◌-◌, List, [], ◌∷◌, ◌++◌, length, take, drop}
use Rattle.std.proofs.Common.{suc, zero}
use Rattle.html_render_dom_values.specs.Forest.{Forest, none, node}
use Rattle.html_render_layout_nodes.specs.declared.tree.Entry.{Entry}

-- the nodes of a forest in pre-order, each with the size of its subtree
abbrev pub flatten : {K : Type 0} → Forest K → List (Entry K)
flatten none = []
flatten (node k children beside) = record { node = k; subtree_len = length (flatten children) + 1 } ∷ (flatten children ++ flatten beside)

-- the forest of nodes in pre-order, of which there are at most `n`
abbrev pub forest_within : {K : Type 0} → ℕ → List (Entry K) → Forest K
forest_within zero es = none
forest_within (suc n) [] = none
forest_within (suc n) (e ∷ es) = node e.node (forest_within n (take (e.subtree_len - 1) es)) (forest_within n (drop (e.subtree_len - 1) es))

-- the forest of nodes in pre-order
abbrev pub forest_of : {K : Type 0} → List (Entry K) → Forest K
forest_of es = forest_within (length es) es
