-- The nodes of a render tree that a layout visits.
use Rattle.std.specs.Prelude.{◌≡◌, ℕ, ◌+◌, Bool, true, false, ◌||◌, List, [], ◌∷◌, ◌++◌, length, All, map, flat_map, sum_by, is_some, if◌then◌else◌}
use Rattle.std.specs.Option.{option_map_or}
use Rattle.html_render_dom_values.specs.Forest.{Forest, none, node, count}
use Rattle.html_render_layout_nodes.specs.declared.tree.NodeKind.{NodeKind}
use Rattle.html_render_layout_nodes.specs.declared.tree.NodeKind.TheVariants.{Superscript, TableCell}
use Rattle.html_render_layout_nodes.specs.declared.tree.RenderNode.{RenderNode}
use Rattle.html_render_layout_nodes.specs.Visits.{Visits, Places, bare, placed, through_visit, inside, run_at, is_skipped, visited}
use Rattle.html_render_layout.specs.Layout.{digits_of}

-- nodes of trees in pre-order
abbrev pub all_nodes : {K : Type 0} → Forest K → List K
all_nodes none = []
all_nodes (node k children beside) = k ∷ (all_nodes children ++ all_nodes beside)

-- visited node, with the trees below it, and whether its place has it skipped
pub record VisitedNode (K : Type 0) : Type 0 where
  pub node : K
  pub below : Forest K
  pub skipped : Bool

-- nodes that a run visits, in order
abbrev pub visits_at : {K S : Type 0} → Visits K S → Places S → (number : ℕ) → Forest K → S → List (VisitedNode K)
visits_at visits places number none s = []
visits_at visits places number (node k children beside) s =
    let visit = placed (places number s) (visits k children) s in
    record { node = k; below = children; skipped = is_skipped (places number s) }
    ∷ (option_map_or (λ x. visits_at visits x.0 0 children x.1) (inside visit) []
    ++ option_map_or (λ t. visits_at visits places (number + 1) beside t)
    (through_visit visit (λ below q. run_at visits below 0 children q)) [])

-- whether a node is a superscript that is written in digits: over one text of ASCII digits alone
abbrev pub is_raised : NodeKind → Forest RenderNode → Bool
is_raised Superscript below = is_some (digits_of below)
is_raised kind below = false

-- whether the nodes below a visited node are left out
abbrev pub leaves_out : VisitedNode RenderNode → Bool
leaves_out v = v.skipped || is_raised v.node.kind v.below

-- a visited node, and the nodes below it if they are left out
abbrev pub with_left_out : VisitedNode RenderNode → List RenderNode
with_left_out v = v.node ∷ (if leaves_out v then all_nodes v.below else [])

-- number of nodes that are left out below a visited node
abbrev pub left_out : VisitedNode RenderNode → ℕ
left_out v = if leaves_out v then count v.below else 0

-- whether ALL NODES of the trees are visited, once and in pre-order, except those below a skipped cell or below a
-- superscript that is written in digits
pub record VisitsAll {S : Type 0} (visits : Visits RenderNode S) (trees : Forest RenderNode) (s : S) (nodes : List (VisitedNode RenderNode)) : Type 0 where
  pub are : visited visits trees s ≡ map (λ v. v.node) nodes
  pub all : all_nodes trees ≡ flat_map with_left_out nodes
  pub number : length (visited visits trees s) + sum_by left_out nodes ≡ count trees
  pub cells : All (λ v. v.skipped ≡ true → v.node.kind ≡ TableCell) nodes

-- whether all nodes of the trees are visited from a state, except those that are left out
abbrev pub VisitsAllBut : {S : Type 0} → Visits RenderNode S → Forest RenderNode → S → Type 0
VisitsAllBut visits trees s = VisitsAll visits trees s (visits_at visits bare 0 trees s)
