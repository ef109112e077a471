-- Invariants of changing nodes from the last to the first, each by what became of its children.
use Rattle.std.proofs.Common.{◌≡◌, ℕ, ◌+◌, ◌-◌, ◌<◌, ◌≤◌, List, [], ◌∷◌, ◌++◌, length, take, drop, set, get_or, zero, suc, refl, sym, ap, ◌∙◌, subst}
use Rattle.std.proofs.Common.{arith, append_assoc, length-append, length-drop, length-set, inl, inr}
use Rattle.std.proofs.lemmas.List.{drop-append-le, drop-drop, drop-set, take-set-le, take-take, drop_more, get_or-take, get_or-drop, get_or_default}
use Rattle.std.proofs.Math.Seq.{take-append_seam, drop-append_seam, drop-length}
use Rattle.std.proofs.lemmas.Bool.{cases_lt}
use Rattle.html_render_dom_values.specs.Forest.{Forest, none, node, followed_by}
use Rattle.html_render_layout_nodes.specs.declared.tree.Entry.{Entry}
use Rattle.html_render_layout_nodes.specs.declared.tree.RenderNode.{RenderNode}
use Rattle.html_render_layout_nodes.specs.Preorder.{flatten, forest_of}
use Rattle.html_render_layout_nodes.specs.laws.Preorder.{forest_of-flatten, flatten-followed_by, IsPreorderOf, IsPreorderOf-flatten}

-- ---- the tree at a place

-- whether nodes in pre-order begin with a node, the nodes of its children and those of its siblings
pub record IsNodeOver {K : Type 0} (es : List (Entry K)) : Type 0 where
  pub top : K
  pub children : Forest K
  pub beside : Forest K
  pub is : es ≡ record { node = top; subtree_len = length (flatten children) + 1 } ∷ (flatten children ++ flatten beside)

pub node_at : {K : Type 0} (t : Forest K) (i : ℕ) → i < length (flatten t) → IsNodeOver (drop i (flatten t))
node_at none i h = absurd (omega arith)
node_at (node k children beside) zero h = record { top = k; children = children; beside = beside; is = refl }
node_at (node k children beside) (suc i) h =
    elim (cases_lt i (length (flatten children))) [
      | inl lt ↦ (let s = node_at children i lt in
          let more = flatten beside in
          record {
            top = s.top;
            children = s.children;
            beside = followed_by s.beside beside;
            is = drop-append-le i (flatten children) more (omega arith) ∙ ap (λ l. l ++ more) s.is
                ∙ ap (λ l. record { node = s.top; subtree_len = length (flatten s.children) + 1 } ∷ l)
                (append_assoc (flatten s.children) (flatten s.beside) more
                ∙ ap (λ l. flatten s.children ++ l) (sym (flatten-followed_by s.beside beside)));
          })
      | inr ge ↦ (let n : ℕ = i - length (flatten children) in
          let at : length (flatten children) + n ≡ i = omega arith in
          let here : drop i (flatten children ++ flatten beside) ≡ drop n (flatten beside) =
          ap (λ m. drop m (flatten children ++ flatten beside)) (sym at)
          ∙ sym (drop-drop n (length (flatten children)) (flatten children ++ flatten beside))
          ∙ ap (drop n) (drop-append_seam (flatten children) (flatten beside)) in
          subst (λ es. IsNodeOver es) (sym here) (node_at beside n (omega (arith, length-append (flatten children) (flatten beside)))))
    ]

-- ---- nodes that are changed from the last to the first

abbrev entry : {K : Type 0} → K → (subtree_len : ℕ) → Entry K
entry k n = record { node = k; subtree_len = n }

-- A node becomes `node_of` it and the shapes of its children, and its own shape is `shape_of` these.
module _ {Y : Type 0} (node_of : RenderNode → Forest Y → RenderNode) (shape_of : RenderNode → Forest Y → Y) where
  -- the shapes of all nodes
  abbrev pub shaped : Forest RenderNode → Forest Y
  shaped none = none
  shaped (node n children beside) = node (shape_of n (shaped children)) (shaped children) (shaped beside)

  -- the changed nodes
  abbrev pub changed : Forest RenderNode → Forest RenderNode
  changed none = none
  changed (node n children beside) = node (node_of n (shaped children)) (changed children) (changed beside)

  shaped-followed_by : (t u : Forest RenderNode) → shaped (followed_by t u) ≡ followed_by (shaped t) (shaped u)
  shaped-followed_by none u = refl
  shaped-followed_by (node n children beside) u = ap (λ f. node (shape_of n (shaped children)) (shaped children) f) (shaped-followed_by beside u)

  pub changed-followed_by : (t u : Forest RenderNode) → changed (followed_by t u) ≡ followed_by (changed t) (changed u)
  changed-followed_by none u = refl
  changed-followed_by (node n children beside) u = ap (λ f. node (node_of n (shaped children)) (changed children) f) (changed-followed_by beside u)

  length-shaped : (t : Forest RenderNode) → length (flatten (shaped t)) ≡ length (flatten t)
  length-shaped none = refl
  length-shaped (node n children beside) =
      omega (
        arith,
        length-append (flatten (shaped children)) (flatten (shaped beside)),
        length-append (flatten children) (flatten beside),
        length-shaped children,
        length-shaped beside,
      )

  pub length-changed : (t : Forest RenderNode) → length (flatten (changed t)) ≡ length (flatten t)
  length-changed none = refl
  length-changed (node n children beside) = omega (arith, length-append {A = Entry RenderNode}, length-changed children, length-changed beside)

  -- whether the nodes from `at` on are changed, and those before it are not; `known` has the shapes of the changed ones
  pub record Backward (t : Forest RenderNode) (now : List (Entry RenderNode)) (known : List (Entry Y)) (at : ℕ) : Type 0 where
    pub rest : Forest RenderNode
    pub within : at ≤ length (flatten t)
    pub many : length now ≡ length (flatten t)
    pub many_known : length known ≡ length (flatten t)
    pub before : take at now ≡ take at (flatten t)
    pub behind : drop at (flatten t) ≡ flatten rest
    pub nodes : drop at now ≡ flatten (changed rest)
    pub shapes : drop at known ≡ flatten (shaped rest)

  -- whether the node at `at` is the next one to change: the shapes of its children are known
  pub record Next (t : Forest RenderNode) (now : List (Entry RenderNode)) (known : List (Entry Y)) (at : ℕ) (e : Entry RenderNode) : Type 0 where
    pub children : Forest RenderNode
    pub subtree_len : e.subtree_len ≡ length (flatten children) + 1
    pub end : at + e.subtree_len ≤ length now
    pub end_known : at + e.subtree_len ≤ length known
    pub here : drop at (flatten t) ≡ e ∷ drop (at + 1) (flatten t)
    pub under : take (e.subtree_len - 1) (drop (at + 1) known) ≡ flatten (shaped children)
    pub next : Backward t (set now at (record e { node = node_of e.node (shaped children) }))
        (set known at (entry (shape_of e.node (shaped children)) e.subtree_len)) at

module _ {Y : Type 0} {node_of : RenderNode → Forest Y → RenderNode} {shape_of : RenderNode → Forest Y → Y} {t : Forest RenderNode}
    {now : List (Entry RenderNode)} {known : List (Entry Y)} {at : ℕ} where
  pub Backward-start : now ≡ flatten t → at ≡ length now → at ≡ length known → Backward node_of shape_of t now known at
  Backward-start same all all_known = record {
    rest = none;
    within = omega (arith, ap length same);
    many = ap length same;
    many_known = omega (arith, ap length same);
    before = ap (take at) same;
    behind = past (flatten t) at (omega (arith, ap length same));
    nodes = past now at all;
    shapes = past known at all_known;
  }
    where
      past : {X : Type 0} (es : List X) (n : ℕ) → n ≡ length es → drop n es ≡ []
      past es n e = ap (λ m. drop m es) e ∙ drop-length es

  module _ (w : Backward node_of shape_of t now known at) where
    rest_is : (rest : Forest RenderNode) → drop at (flatten t) ≡ flatten rest → w.rest ≡ rest
    rest_is rest e = sym (forest_of-flatten w.rest) ∙ ap forest_of (sym w.behind ∙ e) ∙ forest_of-flatten rest

    -- at the start of the nodes all are changed
    pub Backward-done : at ≡ 0 → (now ≡ flatten (changed node_of shape_of t)) × (known ≡ flatten (shaped node_of shape_of t))
    Backward-done zero_at =
        let same = rest_is t (ap (λ n. drop n (flatten t)) zero_at) in (
          sym (ap (λ n. drop n now) zero_at) ∙ w.nodes ∙ ap (λ u. flatten (changed node_of shape_of u)) same,
          sym (ap (λ n. drop n known) zero_at) ∙ w.shapes ∙ ap (λ u. flatten (shaped node_of shape_of u)) same,
        )

    Backward-find : (before : ℕ) (e : Entry RenderNode) → before + 1 ≡ at → e ≡ get_or now before e → Next node_of shape_of t now known before e
    Backward-find before e one is =
        let old : List (Entry RenderNode) = flatten t in
        let s = node_at t before (omega (arith, w.within)) in
        let first : Entry RenderNode = entry s.top (length (flatten s.children) + 1) in
        let heads : get_or old before first ∷ drop (before + 1) old ≡ first ∷ (flatten s.children ++ flatten s.beside) =
        sym (drop_more old before first (omega (arith, w.within))) ∙ s.is in
        let behind : drop (before + 1) old ≡ flatten s.children ++ flatten s.beside = cc heads in
        let rest = rest_is (followed_by s.children s.beside)
        (ap (λ n. drop n old) (sym one) ∙ behind ∙ sym (flatten-followed_by s.children s.beside)) in
        let lt : before < at = omega arith in
        let there : get_or now before e ≡ get_or old before e =
        sym (get_or-take at now before e lt) ∙ ap (λ l. get_or l before e) w.before ∙ get_or-take at old before e lt in
        let here : get_or old before e ≡ first =
        ap (λ n. get_or old n e) (omega arith) ∙ sym (get_or-drop before old 0 e) ∙ ap (λ l. get_or l 0 e) s.is in
        let same : e ≡ first = is ∙ there ∙ here in
        let nodes : drop (before + 1) now ≡ flatten (changed node_of shape_of s.children) ++ flatten (changed node_of shape_of s.beside) =
        ap (λ n. drop n now) one ∙ w.nodes ∙ ap (λ u. flatten (changed node_of shape_of u)) rest
        ∙ ap flatten (changed-followed_by node_of shape_of s.children s.beside) ∙ flatten-followed_by _ _ in
        let shapes : drop (before + 1) known ≡ flatten (shaped node_of shape_of s.children) ++ flatten (shaped node_of shape_of s.beside) =
        ap (λ n. drop n known) one ∙ w.shapes ∙ ap (λ u. flatten (shaped node_of shape_of u)) rest
        ∙ ap flatten (shaped-followed_by node_of shape_of s.children s.beside) ∙ flatten-followed_by _ _ in
        let size : e.subtree_len ≡ length (flatten s.children) + 1 = ap (λ (x : Entry RenderNode). x.subtree_len) same in
        let long = length-shaped node_of shape_of s.children in
        let less : e.subtree_len - 1 ≡ length (flatten (shaped node_of shape_of s.children)) = omega (arith, size, long) in
        let x : Entry RenderNode = entry (node_of e.node (shaped node_of shape_of s.children)) e.subtree_len in
        let y : Entry Y = entry (shape_of e.node (shaped node_of shape_of s.children)) e.subtree_len in
        let x_is : x ≡ entry (node_of s.top (shaped node_of shape_of s.children)) (length (flatten (changed node_of shape_of s.children)) + 1) =
        cc (same, let z : length (flatten (changed node_of shape_of s.children)) + 1 ≡ e.subtree_len = omega (arith, size, length-changed node_of shape_of s.children) in z) in
        let y_is : y ≡ entry (shape_of s.top (shaped node_of shape_of s.children)) (length (flatten (shaped node_of shape_of s.children)) + 1) =
        cc (same, let z : length (flatten (shaped node_of shape_of s.children)) + 1 ≡ e.subtree_len = omega (arith, size, long) in z) in
        let end : before + e.subtree_len ≤ length old = omega (arith, w.within, size, ap length s.is, length-drop before old, length-append (flatten s.children) (flatten s.beside)) in
        record {
          children = s.children;
          subtree_len = size;
          end = omega (arith, w.many, end);
          end_known = omega (arith, w.many_known, end);
          here = drop_more old before e (omega (arith, w.within, one)) ∙ ap (λ x. x ∷ drop (before + 1) old) (sym (is ∙ there));
          under = ap (λ n. take n (drop (before + 1) known)) less ∙ ap (take (length (flatten (shaped node_of shape_of s.children)))) shapes
              ∙ take-append_seam _ _;
          next = record {
            rest = node s.top s.children s.beside;
            within = omega (arith, w.within);
            many = length-set now before x ∙ w.many;
            many_known = length-set known before y ∙ w.many_known;
            before = take-set-le before now before x (omega arith) ∙ sym (take-take before at now (omega arith))
                ∙ ap (take before) w.before ∙ take-take before at old (omega arith);
            behind = s.is;
            nodes = drop-set now before x (omega (arith, w.within, w.many)) ∙ cc (x_is, nodes);
            shapes = drop-set known before y (omega (arith, w.within, w.many_known)) ∙ cc (y_is, shapes);
          };
        }

    -- the node before the changed ones, found among all nodes, is the next one to change
    pub Backward-at : {all : List (Entry RenderNode)} {e : Entry RenderNode} → 0 < at → all ≡ now → e ≡ get_or all (at - 1) e →
        Next node_of shape_of t now known (at - 1) e
    Backward-at {e = e} some same is = Backward-find (at - 1) e (omega (arith, some)) (is ∙ ap (λ l. get_or l (at - 1) e) same)

  -- two reads of the node at `at` give the same entry
  pub Next-here : {e x : Entry RenderNode} {all : List (Entry RenderNode)} → Next node_of shape_of t now known at e → all ≡ now →
      e ≡ get_or all at e → x ≡ get_or now at x → e ≡ x
  Next-here {e = e} {x = x} f same is_e is_x =
      is_e ∙ ap (λ l. get_or l at e) same ∙ get_or_default now at e x (omega (arith, f.end, f.subtree_len)) ∙ sym is_x

  module _ {e : Entry RenderNode} (f : Next node_of shape_of t now known at e) {all : List (Entry Y)} {n : ℕ} (same : all ≡ known)
      (less : n ≡ e.subtree_len - 1) where
    -- the shapes of the children, as a part of all shapes, are their forest
    pub Next-part : IsPreorderOf (take n (drop (at + 1) all)) (shaped node_of shape_of f.children)
    Next-part =
        IsPreorderOf-flatten _ _ (ap (λ m. take m (drop (at + 1) all)) less ∙ ap (λ l. take (e.subtree_len - 1) (drop (at + 1) l)) same ∙ f.under)

    -- after the change of the node at `at`, the nodes from `at` on are changed
    pub Next-done : {x : Entry RenderNode} (change : RenderNode → RenderNode) {s : Y} (k : ℕ) → e ≡ x → k ≡ e.subtree_len →
        change e.node ≡ node_of e.node (forest_of (take n (drop (at + 1) all))) → s ≡ shape_of e.node (forest_of (take n (drop (at + 1) all))) →
        Backward node_of shape_of t (set now at (record x { node = change x.node })) (set known at (entry s k)) at
    Next-done change {s = s} k there size is_node is_shape =
        let new : record e { node = change e.node } ≡ record e { node = node_of e.node (shaped node_of shape_of f.children) } =
        ap (λ m. record e { node = m }) (is_node ∙ ap (node_of e.node) Next-part.is) in
        let shape : entry s k ≡ entry (shape_of e.node (shaped node_of shape_of f.children)) e.subtree_len =
        cc (is_shape ∙ ap (shape_of e.node) Next-part.is, size) in
        subst (λ (y : Entry RenderNode). Backward node_of shape_of t (set now at (record y { node = change y.node })) (set known at (entry s k)) at) there
        (subst (λ y. Backward node_of shape_of t (set now at (record e { node = change e.node })) (set known at y) at) (sym shape)
        (subst (λ y. Backward node_of shape_of t (set now at y) (set known at (entry (shape_of e.node (shaped node_of shape_of f.children)) e.subtree_len)) at)
        (sym new) f.next))
