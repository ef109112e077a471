-- All nodes of a good tree are visited, except those that a layout leaves out.
use Rattle.std.proofs.Common.{◌≡◌, ℕ, ◌+◌, Bool, true, false, ◌||◌, ◌&&◌, ◌==◌, List, [], ◌∷◌, ◌++◌, length, Option, Some, None, option_and_then}
use Rattle.std.proofs.Common.{IfSome, All, map, refl, sym, ap, ◌∙◌, subst, arith, length-append, inl, inr}
use Rattle.std.specs.Prelude.{◌⊎◌, flat_map, sum_by, is_some, if◌then◌else◌}
use Rattle.std.proofs.lemmas.Bool.{and_parts}
use Rattle.std.proofs.lemmas.List.{append_assoc, append-nil, map-append, length-map}
use Rattle.std.proofs.lemmas.List.Concat.{flat_map-append, flat_map-cons}
use Rattle.std.proofs.lemmas.List.Elements.{All-append, All-cons, All-nil}
use Rattle.std.proofs.lemmas.List.Sums.{sum_by-cons}
use Rattle.std.proofs.lemmas.Option.{IfSome_then}
use Rattle.html_render_dom_values.specs.Forest.{Forest, none, node, count, depth}
use Rattle.html_render_layout_lines.specs.laws.Cases.{bind_some, map_if, if_cases}
use Rattle.html_render_layout_nodes.specs.declared.tree.Estimate.{Estimate}
use Rattle.html_render_layout_nodes.specs.declared.tree.NodeKind.{NodeKind}
use Rattle.html_render_layout_nodes.specs.declared.tree.NodeKind.TheVariants.{Text, Break, Superscript, Image, Svg, FragmentStart, Table, TableRow, TableCell}
use Rattle.html_render_layout_nodes.specs.declared.tree.RenderNode.{RenderNode}
use Rattle.html_render_layout_nodes.specs.Visits.{NodePlace, Bare, Skipped, Within, is_skipped, Places, bare, Visit, Leaf, Inner, Visits, through_visit, inside, followed}
use Rattle.html_render_layout_nodes.specs.Visits.{placed, run_at, run, nodes_at}
use Rattle.html_render_layout_nodes.specs.laws.Visits.{from, from_state}
use Rattle.html_render_layout.specs.Layout.{OwnBlock}
use Rattle.html_render_layout.specs.Layout.{Shared, Prefixed, Indented}
use Rattle.html_render_layout.specs.declared.state.LayoutState.{LayoutState}
use Rattle.html_render_layout_blocks.specs.declared.block.BlockSetting.{BlockSetting}
use Rattle.html_render_layout_estimates.specs.Estimates.{measured_kind, measured}
use Rattle.html_render_layout_estimates.specs.Words.{shapes, with_words, worded, worded_kind}
use Rattle.html_render_layout_estimates.specs.declared.words.WordShape.{WordShape}
use Rattle.html_render_layout_estimates.specs.declared.settings.LayoutSettings.{LayoutSettings}
use Rattle.html_render_parts.specs.Decoration.{Decoration}
use Rattle.html_render_layout.specs.Layout.{Algebra, Write, Shape, Steps, Around, Items, Cells, digits_of, raised, block_of, shape_of, style_steps}
use Rattle.html_render_layout.specs.Layout.{on_block, perform_all, place_in, block_place, shape_layout, kind_layout, layout_of}
use Rattle.html_render_layout.specs.Layout.{by_stacks, empty_state, estimated, layout_lines}
use Rattle.html_render_layout.specs.laws.Opening.{superscript}
use Rattle.html_render_tree.specs.GoodTrees.{TreePlace, Anywhere, InTable, InRow, places_around, are_good}
use Rattle.html_render_tree.specs.laws.GoodPlaces.{are_good_below, is_leaf}
use Rattle.html_render_tree.specs.Visited.{all_nodes, VisitedNode, visits_at, is_raised, leaves_out, with_left_out, left_out, VisitsAllBut}

-- ---- trees whose leaves have no children

abbrev pub LeavesBare : Forest RenderNode → Type 0
LeavesBare none = Unit {0}
LeavesBare (node n children beside) = (is_leaf n.kind ≡ true → children ≡ none) × (LeavesBare children × LeavesBare beside)

nothing-below : (t : Forest RenderNode) → are_good (InRow []) t ≡ true → t ≡ none
nothing-below none h = refl
nothing-below (node n children beside) h = cc

abbrev is_row_kind : NodeKind → Bool
is_row_kind TableRow = true
is_row_kind kind = false

abbrev is_row_place : TreePlace → Bool
is_row_place (InRow cells) = true
is_row_place p = false

-- places in which a node's children and its later siblings are good
record Places_of (p : TreePlace) (kind : NodeKind) (children others : Forest RenderNode) : Type 0 where
  below : TreePlace
  beside : TreePlace
  children_good : are_good below children ≡ true
  others_good : are_good beside others ≡ true
  leaf : is_leaf kind ≡ true → below ≡ InRow []
  row_below : is_row_kind kind ≡ true → is_row_place below ≡ true
  row_beside : is_row_place p ≡ true → is_row_place beside ≡ true

places-good : (p : TreePlace) (kind : NodeKind) (children others : Forest RenderNode) →
    are_good_below (λ q. are_good q children) (λ q. are_good q others) (places_around p kind) ≡ true → Places_of p kind children others
places-good Anywhere (Table grid) children others h =
    let both = and_parts (are_good (InTable grid.cells.rows) children) (are_good Anywhere others) h in
    record { below = InTable grid.cells.rows; beside = Anywhere; children_good = both.0; others_good = both.1; leaf = λ l. cc; row_below = λ e. cc; row_beside = λ e. cc }
places-good Anywhere TableRow children others h = cc
places-good Anywhere TableCell children others h = cc
places-good Anywhere kind children others h =
    let below = if is_leaf kind then InRow [] else Anywhere in
    let both = and_parts (are_good below children) (are_good Anywhere others) h in record {
      below = below;
      beside = Anywhere;
      children_good = both.0;
      others_good = both.1;
      leaf = λ l. ap (λ b. if b then InRow [] else Anywhere) l;
      row_below = λ e. cc;
      row_beside = λ e. cc;
    }
places-good (InTable (c ∷ cs)) TableRow children others h =
    let both = and_parts (are_good (InRow c) children) (are_good (InTable cs) others) h in
    record { below = InRow c; beside = InTable cs; children_good = both.0; others_good = both.1; leaf = λ l. cc; row_below = λ e. refl; row_beside = λ e. cc }
places-good (InRow (c ∷ cs)) TableCell children others h =
    let both = and_parts (are_good Anywhere children) (are_good (InRow cs) others) h in
    record { below = Anywhere; beside = InRow cs; children_good = both.0; others_good = both.1; leaf = λ l. cc; row_below = λ e. cc; row_beside = λ e. refl }
places-good p kind children others h = cc

pub good-bare : (p : TreePlace) (t : Forest RenderNode) → are_good p t ≡ true → LeavesBare t
good-bare p none h = tt
good-bare p (node n children others) h =
    let g = places-good p n.kind children others h in (
      λ l. nothing-below children (subst (λ q. are_good q children ≡ true) (g.leaf l) g.children_good),
      (good-bare g.below children g.children_good, good-bare g.beside others g.others_good),
    )

-- ---- visited nodes

-- a claim that holds anyway holds of an option
always : {X : Type 0} (P : Type 0) (o : Option X) → P → IfSome o (λ x. P)
always P None h = tt
always P (Some x) h = h

from-same : {K S : Type 0} (f g : S → List K) (o : Option S) → ((s : S) → f s ≡ g s) → from f o ≡ from g o
from-same f g None h = refl
from-same f g (Some s) h = h s

map-from : {X K S : Type 0} (h : X → K) (nodes : S → List X) (o : Option S) → from (λ s. map h (nodes s)) o ≡ map h (from nodes o)
map-from h nodes None = refl
map-from h nodes (Some s) = refl

-- visited nodes are those that are counted
module _ {K S : Type 0} (visits : Visits K S) where
  nodes-are : (t : Forest K) (places : Places S) (number : ℕ) (s : S) →
      nodes_at true visits places number t s ≡ map (λ v. v.node) (visits_at visits places number t s)
  nodes-are none places number s = refl
  nodes-are (node k children beside) places number s =
      let visit = placed (places number s) (visits k children) s in
      let next = through_visit visit (λ below q. run_at visits below 0 children q) in
      let inner : Places S × S → List (VisitedNode K) = λ x. visits_at visits x.0 0 children x.1 in
      let later : S → List (VisitedNode K) = λ t. visits_at visits places (number + 1) beside t in
      let below =
      from-same (λ x. nodes_at true visits x.0 0 children x.1) (λ x. map (λ v. v.node) (inner x)) (inside visit) (λ x. nodes-are children x.0 0 x.1)
      ∙ map-from (λ v. v.node) inner (inside visit) in
      let after =
      from-same (λ t. nodes_at true visits places (number + 1) beside t) (λ t. map (λ v. v.node) (later t)) next
      (λ t. nodes-are beside places (number + 1) t)
      ∙ map-from (λ v. v.node) later next in
      ap (λ l. k ∷ (l ++ from (λ t. nodes_at true visits places (number + 1) beside t) next)) below
      ∙ ap (λ l. k ∷ (map (λ v. v.node) (from inner (inside visit)) ++ l)) after
      ∙ ap (λ l. k ∷ l) (sym (map-append (λ v. v.node) (from inner (inside visit)) (from later next)))

-- number of all nodes
all-count : {K : Type 0} (t : Forest K) → length (all_nodes t) ≡ count t
all-count none = refl
all-count (node k children beside) =
    omega (arith, length-append (all_nodes children) (all_nodes beside), all-count children, all-count beside)

one-count : (v : VisitedNode RenderNode) → length (with_left_out v) ≡ 1 + left_out v
one-count v = by (leaves_out v)
  where
    by : (b : Bool) → length (v.node ∷ (if b then all_nodes v.below else [])) ≡ 1 + (if b then count v.below else 0)
    by true = omega (arith, all-count v.below)
    by false = refl

left-count : (vs : List (VisitedNode RenderNode)) → length (flat_map with_left_out vs) ≡ length vs + sum_by left_out vs
left-count [] = refl
left-count (v ∷ vs) =
    let whole = ap length (flat_map-cons with_left_out v vs) in
    omega (arith, whole, length-append (with_left_out v) (flat_map with_left_out vs), one-count v, left-count vs, sum_by-cons left_out v vs)

-- ---- nodes that a layout leaves out

module _ {S A K T B : Type 0} (m : Algebra S A K T B) where
  abbrev State : Type 0
  State = LayoutState S K T B

  -- whether a visit past the children has P, and one of the children their places Q
  abbrev OnVisit : (P : Type 0) (Q : Places State → Type 0) → Visit State → Type 0
  OnVisit P Q (Leaf behind) = IfSome behind (λ s. P)
  OnVisit P Q (Inner before places after) = Q places

  module _ (P : Type 0) (Q : Places State → Type 0) where
    followed-has : (v : Visit State) (next : State → Option State) → OnVisit P Q v → OnVisit P Q (followed v next)
    followed-has (Leaf behind) next h = bind_some (λ s. P) (λ s. P) next behind h (λ x k. always P (next x) k)
    followed-has (Inner before places after) next h = h

    within-has : (s : State) (before : Option State) (after : State → Option State) (visit : State → Visit State) →
        ((q : State) → OnVisit P Q (visit q)) → OnVisit P Q (placed (Within before after) visit s)
    within-has s None after visit h = tt
    within-has s (Some q) after visit h = followed-has (visit q) after (h q)

    reached-has : (s : State) (o : Option State) (before : State → Option State) (after : State → State → Option State) (visit : State → Visit State) →
        ((q : State) → OnVisit P Q (visit q)) → OnVisit P Q (placed (place_in m (λ q. Within (before q) (after q)) o) visit s)
    reached-has s None before after visit h = tt
    reached-has s (Some q) before after visit h = within-has s (before q) (after q) visit h

    block-has : (b : OwnBlock) (s : State) (visit : State → Visit State) → ((q : State) → OnVisit P Q (visit q)) →
        OnVisit P Q (placed (block_place m b s) visit s)
    block-has Shared s visit h = h s
    block-has (Prefixed prefix min_width) s visit h = reached-has s (on_block m.operations.start_block s) _ _ visit h
    block-has (Indented prefix columns min_width) s visit h = reached-has s (on_block m.operations.new_line s) _ _ visit h

    node-has : (n : RenderNode) (children : Forest RenderNode) (s : State) →
        ((q : State) → OnVisit P Q (kind_layout m n.kind n.estimate children q)) → OnVisit P Q (layout_of m n children s)
    node-has n children s h = by (perform_all m s (style_steps m.decoration n.style) s)
      where
        by : (o : Option State) →
            OnVisit P Q (from_state o (λ q. followed (kind_layout m n.kind n.estimate children q) (λ r. Some (record r { text = s.text }))))
        by None = tt
        by (Some q) = followed-has (kind_layout m n.kind n.estimate children q) _ (h q)

  -- whether children are left out, or there are none
  abbrev NoneIn : (leaves : Bool) → Forest RenderNode → Type 0
  NoneIn leaves children = (leaves ≡ true) ⊎ (children ≡ none)

  -- whether a visit agrees with `leaves`: if it goes past the children, they are left out or there are none; otherwise none
  -- is left out
  abbrev Enters : (leaves : Bool) → Forest RenderNode → Visit State → Type 0
  Enters leaves children v = OnVisit (NoneIn leaves children) (λ places. leaves ≡ false) v

  shape-enters : (children : Forest RenderNode) (x : Shape S A) (s : State) → children ≡ none → Enters false children (shape_layout m x s)
  shape-enters children (Steps xs) s h = always (NoneIn false children) (perform_all m s xs s) (inr h)
  shape-enters children (Around xs ys) s h = refl
  shape-enters children x s h = refl

  raised-enters : (children : Forest RenderNode) (o : Option (List ℕ)) (s : State) →
      Enters (is_some o) children (shape_layout m (superscript m.decoration o) s)
  raised-enters children None s = refl
  raised-enters children (Some digits) s =
      always (NoneIn true children) (perform_all m s (Write (λ x. map raised digits) ∷ []) s) (inl refl)

  kind-enters : (kind : NodeKind) (e : Estimate) (children : Forest RenderNode) (s : State) → (is_leaf kind ≡ true → children ≡ none) →
      Enters (is_raised kind children) children (kind_layout m kind e children s)
  kind-enters (Text t) e children s h = shape-enters children (shape_of m.decoration s.settings (Text t) e children) s (h refl)
  kind-enters Break e children s h = shape-enters children (shape_of m.decoration s.settings Break e children) s (h refl)
  kind-enters (Image i) e children s h = shape-enters children (shape_of m.decoration s.settings (Image i) e children) s (h refl)
  kind-enters (Svg title) e children s h = shape-enters children (shape_of m.decoration s.settings (Svg title) e children) s (h refl)
  kind-enters (FragmentStart name) e children s h =
      shape-enters children (shape_of m.decoration s.settings (FragmentStart name) e children) s (h refl)
  kind-enters Superscript e children s h = raised-enters children (digits_of children) s
  kind-enters kind e children s h =
      block-has (NoneIn (is_raised kind children) children) (λ places. is_raised kind children ≡ false)
      (block_of m.decoration s.settings s.decorator kind e) s (λ q. shape_layout m (shape_of m.decoration q.settings kind e children) q) (λ q. refl)

  node-enters : (n : RenderNode) (children : Forest RenderNode) (s : State) → (is_leaf n.kind ≡ true → children ≡ none) →
      Enters (is_raised n.kind children) children (layout_of m n children s)
  node-enters n children s h =
      node-has (NoneIn (is_raised n.kind children) children) (λ places. is_raised n.kind children ≡ false) n children s (λ q. kind-enters n.kind n.estimate children q h)

  place-enters : (p : NodePlace State) (n : RenderNode) (children : Forest RenderNode) (s : State) → (is_leaf n.kind ≡ true → children ≡ none) →
      Enters (is_skipped p || is_raised n.kind children) children (placed p (layout_of m n children) s)
  place-enters Bare n children s h = node-enters n children s h
  place-enters (Skipped t) n children s h = inl refl
  place-enters (Within before after) n children s h =
      within-has (NoneIn (is_raised n.kind children) children) (λ places. is_raised n.kind children ≡ false) s before after (layout_of m n children)
      (λ q. node-enters n children q h)

  -- all nodes below a node are visited or left out
  past-all : (leaves : Bool) (children : Forest RenderNode) → NoneIn leaves children →
      all_nodes children ≡ (if leaves then all_nodes children else []) ++ flat_map with_left_out []
  past-all true children (inl e) = sym (append-nil (all_nodes children))
  past-all false children (inl e) = cc
  past-all true children (inr e) = sym (append-nil (all_nodes children))
  past-all false children (inr e) = ap all_nodes e

  below-all : (leaves : Bool) (children : Forest RenderNode) (visit : Visit State) → Enters leaves children visit →
      (below : Places State → State → Option State) (nodes : Places State × State → List (VisitedNode RenderNode)) →
      ((places : Places State) (q : State) → IfSome (below places q) (λ r. all_nodes children ≡ flat_map with_left_out (nodes (places, q)))) →
      IfSome (through_visit visit below)
      (λ r. all_nodes children ≡ (if leaves then all_nodes children else []) ++ flat_map with_left_out (from nodes (inside visit)))
  below-all leaves children (Leaf behind) h below nodes k = IfSome_then behind h (λ r e. past-all leaves children e)
  below-all leaves children (Inner None places after) h below nodes k = tt
  below-all leaves children (Inner (Some q) places after) h below nodes k =
      bind_some (λ r. all_nodes children ≡ flat_map with_left_out (nodes (places, q)))
      (λ r. all_nodes children ≡ (if leaves then all_nodes children else []) ++ flat_map with_left_out (nodes (places, q))) after (below places q) (k places q)
      (λ r e. always _ (after r)
      (subst (λ b. all_nodes children ≡ (if b then all_nodes children else []) ++ flat_map with_left_out (nodes (places, q))) (sym h) e))

  all-visited : (t : Forest RenderNode) (places : Places State) (number : ℕ) (s : State) → LeavesBare t →
      IfSome (run_at (layout_of m) places number t s) (λ r. all_nodes t ≡ flat_map with_left_out (visits_at (layout_of m) places number t s))
  all-visited none places number s h = refl
  all-visited (node n children beside) places number s h =
      by (through_visit visit children_of)
      (below-all (is_skipped (places number s) || is_raised n.kind children) children visit (place-enters (places number s) n children s h.0)
      children_of inner (λ below q. all-visited children below 0 q h.1.0))
      (λ t. all-visited beside places (number + 1) t h.1.1)
    where
      visit : Visit State
      visit = placed (places number s) (layout_of m n children) s

      children_of : Places State → State → Option State
      children_of below q = run_at (layout_of m) below 0 children q

      inner : Places State × State → List (VisitedNode RenderNode)
      inner x = visits_at (layout_of m) x.0 0 children x.1

      later : State → List (VisitedNode RenderNode)
      later t = visits_at (layout_of m) places (number + 1) beside t

      below : List (VisitedNode RenderNode)
      below = from inner (inside visit)

      v : VisitedNode RenderNode
      v = record { node = n; below = children; skipped = is_skipped (places number s) }

      own : List RenderNode
      own = if leaves_out v then all_nodes children else []

      by : (o : Option State) → IfSome o (λ r. all_nodes children ≡ own ++ flat_map with_left_out below) →
          ((t : State) → IfSome (run_at (layout_of m) places (number + 1) beside t) (λ r. all_nodes beside ≡ flat_map with_left_out (later t))) →
          IfSome (option_and_then (λ t. run_at (layout_of m) places (number + 1) beside t) o)
          (λ r. n ∷ (all_nodes children ++ all_nodes beside) ≡ flat_map with_left_out (v ∷ (below ++ from later o)))
      by None a k = tt
      by (Some t) a k = IfSome_then (run_at (layout_of m) places (number + 1) beside t) (k t) (λ r b.
          ap (λ l. n ∷ (l ++ all_nodes beside)) a
          ∙ ap (λ l. n ∷ ((own ++ flat_map with_left_out below) ++ l)) b
          ∙ ap (λ l. n ∷ l) (append_assoc own (flat_map with_left_out below) (flat_map with_left_out (later t)))
          ∙ ap (λ l. n ∷ (own ++ l)) (sym (flat_map-append with_left_out below (later t)))
          ∙ sym (flat_map-cons with_left_out v (below ++ later t)))

  -- ---- skipped nodes are cells

  abbrev MayBeSkipped : Bool → Places State → Type 0
  MayBeSkipped cells places = (number : ℕ) (s : State) → is_skipped (places number s) ≡ true → cells ≡ true

  -- whether a visit skips children in a row alone
  abbrev SkipsBelow : (row : Bool) → Visit State → Type 0
  SkipsBelow row v = OnVisit (Unit {0}) (MayBeSkipped row) v

  -- whether a shape has cells
  abbrev has_cells : Shape S A → Bool
  has_cells Cells = true
  has_cells x = false

  -- a place in a sub-block isn't skipped
  not-skipped : (before : State → Option State) (after : State → State → Option State) (o : Option State) →
      is_skipped (place_in m (λ q. Within (before q) (after q)) o) ≡ false
  not-skipped before after None = refl
  not-skipped before after (Some q) = refl

  shape-skips : (x : Shape S A) (s : State) → SkipsBelow (has_cells x) (shape_layout m x s)
  shape-skips (Steps xs) s = always (Unit {0}) (perform_all m s xs s) tt
  shape-skips (Around xs ys) s = λ number q e. e
  shape-skips (Items prefix columns min_width) s = λ number q e. sym (not-skipped _ _ (on_block m.operations.new_line q)) ∙ e
  shape-skips Cells s = λ number q e. refl

  kind-cells : (settings : LayoutSettings) (kind : NodeKind) (e : Estimate) (children : Forest RenderNode) →
      has_cells (shape_of m.decoration settings kind e children) ≡ is_row_kind kind
  kind-cells settings Superscript e children = by (digits_of children)
    where
      by : (o : Option (List ℕ)) → has_cells (superscript m.decoration o) ≡ false
      by None = refl
      by (Some digits) = refl
  kind-cells settings kind e children = refl

  kind-skips : (kind : NodeKind) (e : Estimate) (children : Forest RenderNode) (s : State) →
      SkipsBelow (is_row_kind kind) (kind_layout m kind e children s)
  kind-skips kind e children s =
      block-has (Unit {0}) (MayBeSkipped (is_row_kind kind)) (block_of m.decoration s.settings s.decorator kind e) s
      (λ q. shape_layout m (shape_of m.decoration q.settings kind e children) q)
      (λ q. subst (λ b. SkipsBelow b (shape_layout m (shape_of m.decoration q.settings kind e children) q)) (kind-cells q.settings kind e children)
      (shape-skips (shape_of m.decoration q.settings kind e children) q))

  node-skips : (n : RenderNode) (children : Forest RenderNode) (s : State) → SkipsBelow (is_row_kind n.kind) (layout_of m n children s)
  node-skips n children s = node-has (Unit {0}) (MayBeSkipped (is_row_kind n.kind)) n children s (kind-skips n.kind n.estimate children)

  place-skips : (p : NodePlace State) (n : RenderNode) (children : Forest RenderNode) (s : State) →
      SkipsBelow (is_row_kind n.kind) (placed p (layout_of m n children) s)
  place-skips Bare n children s = node-skips n children s
  place-skips (Skipped t) n children s = tt
  place-skips (Within before after) n children s =
      within-has (Unit {0}) (MayBeSkipped (is_row_kind n.kind)) s before after (layout_of m n children) (λ q. node-skips n children q)

  abbrev IsCellIfSkipped : VisitedNode RenderNode → Type 0
  IsCellIfSkipped v = v.skipped ≡ true → v.node.kind ≡ TableCell

  -- a good node in a row is a cell
  row-cell : (p : TreePlace) (kind : NodeKind) (children others : Forest RenderNode) →
      are_good_below (λ q. are_good q children) (λ q. are_good q others) (places_around p kind) ≡ true → is_row_place p ≡ true → kind ≡ TableCell
  row-cell (InRow (c ∷ cs)) TableCell children others h e = refl
  row-cell (InRow (c ∷ cs)) kind children others h e = cc
  row-cell (InRow []) kind children others h e = cc
  row-cell p kind children others h e = cc

  from-cells : {X : Type 0} (P : X → Type 0) (nodes : X → List (VisitedNode RenderNode)) (o : Option X) → IfSome o P →
      ((x : X) → P x → All IsCellIfSkipped (nodes x)) → All IsCellIfSkipped (from nodes o)
  from-cells P nodes None h k = All-nil IsCellIfSkipped
  from-cells P nodes (Some x) h k = k x h

  inside-skips : (row : Bool) (v : Visit State) → SkipsBelow row v → IfSome (inside v) (λ x. MayBeSkipped row x.0)
  inside-skips row (Leaf behind) h = tt
  inside-skips row (Inner before places after) h = map_if (λ q. Unit {0}) (λ x. MayBeSkipped row x.0) (λ q. (places, q)) before (always (Unit {0}) before tt) (λ q u. h)

  all-cells : (t : Forest RenderNode) (p : TreePlace) (places : Places State) (number : ℕ) (s : State) → are_good p t ≡ true →
      MayBeSkipped (is_row_place p) places → All IsCellIfSkipped (visits_at (layout_of m) places number t s)
  all-cells none p places number s h k = All-nil IsCellIfSkipped
  all-cells (node n children beside) p places number s h k =
      let visit = placed (places number s) (layout_of m n children) s in
      let next = through_visit visit (λ below q. run_at (layout_of m) below 0 children q) in
      let good = places-good p n.kind children beside h in
      All-cons IsCellIfSkipped _ _ (λ e. row-cell p n.kind children beside h (k number s e))
      (All-append IsCellIfSkipped _ _
      (from-cells (λ x. MayBeSkipped (is_row_kind n.kind) x.0) (λ x. visits_at (layout_of m) x.0 0 children x.1) (inside visit)
      (inside-skips (is_row_kind n.kind) visit (place-skips (places number s) n children s))
      (λ x f. all-cells children good.below x.0 0 x.1 good.children_good (λ j q e. good.row_below (f j q e))))
      (from-cells (λ t. Unit {0}) (λ t. visits_at (layout_of m) places (number + 1) beside t) next (always (Unit {0}) next tt)
      (λ t u. all-cells beside good.beside places (number + 1) t good.others_good (λ j q e. good.row_beside (k j q e)))))

  visits-all : (t : Forest RenderNode) (s : State) → are_good Anywhere t ≡ true →
      IfSome (run (layout_of m) t s) (λ r. VisitsAllBut (layout_of m) t s)
  visits-all t s h =
      let vs = visits_at (layout_of m) bare 0 t s in
      let are = nodes-are (layout_of m) t bare 0 s in
      IfSome_then (run (layout_of m) t s) (all-visited t bare 0 s (good-bare Anywhere t h)) (λ r e. record {
        are = are;
        all = e;
        number =
            let whole = ap length e in
            let same = ap length are in
            omega (arith, whole, same, length-map vs (λ v. v.node), all-count t, left-count vs);
        cells = all-cells t Anywhere bare 0 s h (λ number q e. e);
      })

-- ---- measured trees

module _ {D A : Type 0} (d : Decoration D A) (x : D) (settings : LayoutSettings) where
  pub measured_count : (t : Forest RenderNode) → count (measured d x settings t) ≡ count t
  measured_count none = refl
  measured_count (node n children beside) = omega (arith, measured_count children, measured_count beside)

  pub measured_depth : (t : Forest RenderNode) → depth (measured d x settings t) ≡ depth t
  measured_depth none = refl
  measured_depth (node n children beside) = omega (arith, measured_depth children, measured_depth beside)

  around-measured : (p : TreePlace) (kind : NodeKind) (below : Forest RenderNode) → places_around p (measured_kind kind below) ≡ places_around p kind
  around-measured Anywhere (Table grid) below = refl
  around-measured (InTable (c ∷ cs)) (Table grid) below = refl
  around-measured (InRow (c ∷ cs)) (Table grid) below = refl
  around-measured p kind below = refl

  measured-good : (p : TreePlace) (t : Forest RenderNode) → are_good p (measured d x settings t) ≡ are_good p t
  measured-good p none = refl
  measured-good p (node n children beside) =
      λ i. are_good_below (λ q. measured-good q children i) (λ q. measured-good q beside i)
      (around-measured p n.kind (measured d x settings children) i)

module _ (settings : LayoutSettings) where
  worded_count : (t : Forest RenderNode) → count (worded settings t) ≡ count t
  worded_count none = refl
  worded_count (node n children beside) = omega (arith, worded_count children, worded_count beside)

  worded_depth : (t : Forest RenderNode) → depth (worded settings t) ≡ depth t
  worded_depth none = refl
  worded_depth (node n children beside) = omega (arith, worded_depth children, worded_depth beside)

  around-worded : (p : TreePlace) (kind : NodeKind) (below : Forest WordShape) → places_around p (worded_kind kind below) ≡ places_around p kind
  around-worded Anywhere (Table grid) below = refl
  around-worded (InTable (c ∷ cs)) (Table grid) below = refl
  around-worded (InRow (c ∷ cs)) (Table grid) below = refl
  around-worded p kind below = refl

  worded-good : (p : TreePlace) (t : Forest RenderNode) → are_good p (worded settings t) ≡ are_good p t
  worded-good p none = refl
  worded-good p (node n children beside) =
      λ i. are_good_below (λ q. worded-good q children i) (λ q. worded-good q beside i)
      (around-worded p n.kind (shapes settings children) i)

  -- what words leave as it is
  words-same : {X : Type 0} (f : Forest RenderNode → X) (t : Forest RenderNode) → f (worded settings t) ≡ f t → f (with_words settings t) ≡ f t
  words-same f t same = by settings.whole_words
    where
      by : (b : Bool) → f (if b then worded settings t else t) ≡ f t
      by true = same
      by false = refl

  pub words_count : (t : Forest RenderNode) → count (with_words settings t) ≡ count t
  words_count t = words-same count t (worded_count t)

  pub words_depth : (t : Forest RenderNode) → depth (with_words settings t) ≡ depth t
  words_depth t = words-same depth t (worded_depth t)

  words-good : (p : TreePlace) (t : Forest RenderNode) → are_good p (with_words settings t) ≡ are_good p t
  words-good p t = words-same (are_good p) t (worded-good p t)

-- WHERE A GOOD TREE has lines, all of its nodes are visited, except those that are left out
pub lines_visit_all : {S A : Type 0} (d : Decoration S A) (settings : LayoutSettings) (t : Forest RenderNode) (decorator : S) (block : BlockSetting) →
    are_good Anywhere t ≡ true →
    IfSome (layout_lines d settings t decorator block) (λ lines.
    VisitsAllBut (layout_of (by_stacks d)) (estimated d settings decorator t) (empty_state d settings decorator block))
lines_visit_all {S} {A} d settings t decorator block h =
    let trees = estimated d settings decorator t in
    let start = empty_state d settings decorator block in
    if_cases (λ x. IfSome x (λ lines. VisitsAllBut (layout_of (by_stacks d)) trees start)) (block.width == 0) _ _ (λ _. tt) (λ _.
    bind_some (λ r. VisitsAllBut (layout_of (by_stacks d)) trees start) (λ lines. VisitsAllBut (layout_of (by_stacks d)) trees start) _ (run (layout_of (by_stacks d)) trees start)
    (visits-all (by_stacks d) trees start
    (words-good settings Anywhere (measured d (d.subblock (d.subblock decorator)) settings t)
    ∙ measured-good d (d.subblock (d.subblock decorator)) settings Anywhere t ∙ h))
    (λ r k. always (VisitsAllBut (layout_of (by_stacks d)) trees start) _ k))
