-- Preferred widths left out: only tables use them, so trees without a table are laid out alike without them.
use Rattle.std.proofs.Common.{Bool, List, ◌≡◌, ◌||◌, true, false, ℕ, ◌+◌, max, length, Option, Some, Result, OnOk, option_and_then}
use Rattle.std.proofs.Common.{refl, ap, ◌≤◌, subst, arith, length-append}
use Rattle.std.proofs.lemmas.Bool.{or_parts, true≢false}
use Rattle.html_render_dom_values.specs.Forest.{Forest, none, node, count, depth}
use Rattle.html_render_parts_widths.specs.declared.Meter.{Meter}
use Rattle.html_render_layout_lines.specs.laws.Cases.{if_cases}
use Rattle.html_render_layout_nodes.specs.declared.tree.Estimate.{Estimate}
use Rattle.html_render_layout_nodes.specs.declared.tree.NodeKind.{NodeKind}
use Rattle.html_render_layout_nodes.specs.declared.tree.NodeKind.TheVariants.{BlockQuote, Superscript, Table}
use Rattle.html_render_layout_nodes.specs.declared.tree.RenderNode.{RenderNode}
use Rattle.html_render_layout_nodes.specs.Counts.{CountsNodes}
use Rattle.html_render_layout_nodes.specs.Visits.{NodePlace, Bare, Skipped, Within, Places, bare, through_visit, inside, followed}
use Rattle.html_render_layout_nodes.specs.Visits.{placed, run_at, run, nodes_at, open_at}
use Rattle.html_render_layout_nodes.specs.laws.Visits.{from, from_state, count_from, length-from}
use Rattle.html_render_layout_estimates.specs.Passes.{is_table, has_table, without_size, without_sizes, with_needed_sizes}
use Rattle.html_render_layout.specs.declared.state.LayoutState.{LayoutState}
use Rattle.html_render_layout_estimates.specs.declared.settings.LayoutSettings.{LayoutSettings}
use Rattle.html_render_layout.specs.Layout.{Algebra, digits_of, block_of, shape_of, style_steps, perform_all, block_place, shape_layout}
use Rattle.html_render_layout.specs.Layout.{kind_layout, layout_of, shown_after}
use Rattle.html_render_layout.specs.laws.Opening.{superscript}

-- node without its preferred width
abbrev unsized : RenderNode → RenderNode
unsized n = record n { estimate = without_size n.estimate }

digits-same : (t : Forest RenderNode) → digits_of (without_sizes t) ≡ digits_of t
digits-same none = refl
digits-same (node n none none) = refl
digits-same (node n none (node m children beside)) = refl
digits-same (node n (node m children beside) others) = refl

count-same : (t : Forest RenderNode) → count (without_sizes t) ≡ count t
count-same none = refl
count-same (node n children beside) = omega (arith, count-same children, count-same beside)

depth-same : (t : Forest RenderNode) → depth (without_sizes t) ≡ depth t
depth-same none = refl
depth-same (node n children beside) = omega (arith, depth-same children, depth-same beside)

module _ {S A K T B : Type 0} (m : Algebra S A K T B) where
  abbrev State : Type 0
  State = LayoutState S K T B

  -- ---- nodes

  kind-same : (settings : LayoutSettings) (kind : NodeKind) (e : Estimate) (trees : Forest RenderNode) → is_table kind ≡ false →
      shape_of m.decoration settings kind (without_size e) (without_sizes trees) ≡ shape_of m.decoration settings kind e trees
  kind-same settings (Table grid) e trees plain = absurd (true≢false plain)
  kind-same settings Superscript e trees plain = ap (superscript m.decoration) (digits-same trees)
  kind-same settings kind e trees plain = refl

  block-same : (settings : LayoutSettings) (x : S) (kind : NodeKind) (e : Estimate) →
      block_of m.decoration settings x kind (without_size e) ≡ block_of m.decoration settings x kind e
  block-same settings x BlockQuote e = refl
  block-same settings x kind e = refl

  kind_layout-same : (kind : NodeKind) (e : Estimate) (trees : Forest RenderNode) (s : State) → is_table kind ≡ false →
      kind_layout m kind (without_size e) (without_sizes trees) s ≡ kind_layout m kind e trees s
  kind_layout-same kind e trees s plain = λ i. placed (block_place m (block-same s.settings s.decorator kind e i) s)
      (λ q. shape_layout m (kind-same q.settings kind e trees plain i) q) s

  node-same : (n : RenderNode) (trees : Forest RenderNode) (s : State) → is_table n.kind ≡ false →
      layout_of m (unsized n) (without_sizes trees) s ≡ layout_of m n trees s
  node-same n trees s plain = λ i. from_state (perform_all m s (style_steps m.decoration n.style) s) (λ q.
      followed (kind_layout-same n.kind n.estimate trees q plain i) (λ r. Some (record r { text = s.text })))

  placed-same : (p : NodePlace State) (n : RenderNode) (trees : Forest RenderNode) (s : State) → is_table n.kind ≡ false →
      placed p (layout_of m (unsized n) (without_sizes trees)) s ≡ placed p (layout_of m n trees) s
  placed-same Bare n trees s plain = node-same n trees s plain
  placed-same (Skipped t) n trees s plain = refl
  placed-same (Within before after) n trees s plain = λ i. from_state before (λ q. followed (node-same n trees q plain i) after)

  -- ---- trees without a table

  abbrev behind : Forest RenderNode → Places State → State → Option State
  behind t places s = run_at (layout_of m) places 0 t s

  -- the states after a node are equal if those after its children are
  behind-same : (p : NodePlace State) (n : RenderNode) (children : Forest RenderNode) (s : State) → is_table n.kind ≡ false →
      ((places : Places State) (q : State) → behind (without_sizes children) places q ≡ behind children places q) →
      through_visit (placed p (layout_of m (unsized n) (without_sizes children)) s) (behind (without_sizes children))
      ≡ through_visit (placed p (layout_of m n children) s) (behind children)
  behind-same p n children s plain same = λ i. through_visit (placed-same p n children s plain i) (λ places q. same places q i)

  run-same : (t : Forest RenderNode) (places : Places State) (number : ℕ) (s : State) → has_table t ≡ false →
      run_at (layout_of m) places number (without_sizes t) s ≡ run_at (layout_of m) places number t s
  run-same none places number s plain = refl
  run-same (node n children beside) places number s plain =
      let front = or_parts (is_table n.kind) (has_table children || has_table beside) plain in
      let rest = or_parts (has_table children) (has_table beside) front.1 in
      λ i. option_and_then (λ q. run-same beside places (number + 1) q rest.1 i)
      (behind-same (places number s) n children s front.0 (λ below q. run-same children below 0 q rest.0) i)

  -- counts of the children of a node and of its later siblings are equal
  below-same : (f g : Places State × State → ℕ) (p : NodePlace State) (n : RenderNode) (children : Forest RenderNode) (s : State) →
      is_table n.kind ≡ false → ((x : Places State × State) → f x ≡ g x) →
      count_from f (inside (placed p (layout_of m (unsized n) (without_sizes children)) s)) ≡ count_from g (inside (placed p (layout_of m n children) s))
  below-same f g p n children s plain same = λ i. count_from (λ x. same x i) (inside (placed-same p n children s plain i))

  beside-same : (f g : State → ℕ) (o p : Option State) → ((s : State) → f s ≡ g s) → o ≡ p → count_from f o ≡ count_from g p
  beside-same f g o p same e = λ i. count_from (λ q. same q i) (e i)

  -- number of visited nodes
  abbrev visits : Places State → ℕ → Forest RenderNode → State → ℕ
  visits places number t s = length (nodes_at true (layout_of m) places number t s)

  visits-same : (t : Forest RenderNode) (places : Places State) (number : ℕ) (s : State) → has_table t ≡ false →
      visits places number (without_sizes t) s ≡ visits places number t s
  visits-same none places number s plain = refl
  visits-same (node n children beside) places number s plain =
      let front = or_parts (is_table n.kind) (has_table children || has_table beside) plain in
      let rest = or_parts (has_table children) (has_table beside) front.1 in
      let less = without_sizes children in
      let visit = placed (places number s) (layout_of m n children) s in
      let visit_less = placed (places number s) (layout_of m (unsized n) less) s in
      let nodes = λ (x : Places State × State). nodes_at true (layout_of m) x.0 0 children x.1 in
      let nodes_less = λ (x : Places State × State). nodes_at true (layout_of m) x.0 0 less x.1 in
      let next = λ (q : State). nodes_at true (layout_of m) places (number + 1) beside q in
      let next_less = λ (q : State). nodes_at true (layout_of m) places (number + 1) (without_sizes beside) q in
      omega (
        arith,
        length-append (from nodes_less (inside visit_less)) (from next_less (through_visit visit_less (behind less))),
        length-append (from nodes (inside visit)) (from next (through_visit visit (behind children))),
        length-from nodes_less (inside visit_less),
        length-from nodes (inside visit),
        length-from next_less (through_visit visit_less (behind less)),
        length-from next (through_visit visit (behind children)),
        below-same (λ x. length (nodes_less x)) (λ x. length (nodes x)) (places number s) n children s front.0
            (λ x. visits-same children x.0 0 x.1 rest.0),
        beside-same (λ q. length (next_less q)) (λ q. length (next q)) _ _ (λ q. visits-same beside places (number + 1) q rest.1)
            (behind-same (places number s) n children s front.0 (λ below q. run-same children below 0 q rest.0)),
      )

  -- the greatest numbers of nodes open at once are equal
  opens-same : (t : Forest RenderNode) (places : Places State) (number : ℕ) (s : State) → has_table t ≡ false →
      open_at (layout_of m) places number (without_sizes t) s ≡ open_at (layout_of m) places number t s
  opens-same none places number s plain = refl
  opens-same (node n children beside) places number s plain =
      let front = or_parts (is_table n.kind) (has_table children || has_table beside) plain in
      let rest = or_parts (has_table children) (has_table beside) front.1 in
      λ i. max (count_from (λ x. 1 + opens-same children x.0 0 x.1 rest.0 i) (inside (placed-same (places number s) n children s front.0 i)))
      (count_from (λ q. opens-same beside places (number + 1) q rest.1 i)
      (behind-same (places number s) n children s front.0 (λ below q. run-same children below 0 q rest.0) i))

  -- ---- all trees, with preferred widths if there is a table

  run-needed : (t : Forest RenderNode) (s : State) → run (layout_of m) (with_needed_sizes t) s ≡ run (layout_of m) t s
  run-needed t s = if_cases (λ x. run (layout_of m) x s ≡ run (layout_of m) t s) (has_table t) _ _ (λ _. refl) (λ e. run-same t bare 0 s e)

  -- THE LAW: leaving out unused preferred widths doesn't change the view after the layout
  pub shown-needed : {L : Type 0} (close : B → Bool → T → List (List ℕ) → Option B) (shown : State → L) (t : Forest RenderNode) (s : State) →
      shown_after m close shown (with_needed_sizes t) s ≡ shown_after m close shown t s
  shown-needed close shown t s = ap (option_and_then _) (run-needed t s)

  -- counts of visited nodes, and of nodes open at once, are equal
  pub counts-needed : {X E : Type 0} (r : Result X E) (t : Forest RenderNode) (s : State) (old new : Meter) →
      CountsNodes r (layout_of m) (with_needed_sizes t) s old new → CountsNodes r (layout_of m) t s old new
  counts-needed r t s old new =
      if_cases (λ u. CountsNodes r (layout_of m) u s old new → CountsNodes r (layout_of m) t s old new) (has_table t) _ _ (λ _ c. c) (λ e c. record {
        entered = subst (λ n. OnOk r (new.entered ≡ n)) (visits-same t bare 0 s e) c.entered;
        left = subst (λ n. OnOk r (new.left ≡ n)) (visits-same t bare 0 s e) c.left;
        entered_at_most = subst (λ n. new.entered ≤ n) (visits-same t bare 0 s e) c.entered_at_most;
        left_at_most = c.left_at_most;
        visited_at_most = omega (arith, c.visited_at_most, visits-same t bare 0 s e, count-same t);
        frames = subst (λ n. OnOk r (new.frames ≡ n)) (opens-same t bare 0 s e) c.frames;
        frames_at_most = subst (λ n. new.frames ≤ n) (opens-same t bare 0 s e) c.frames_at_most;
        open_at_most = omega (arith, c.open_at_most, opens-same t bare 0 s e, depth-same t);
        probes = c.probes;
      })
