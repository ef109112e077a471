-- The tree with a node as its root: there is only one, and its depth is at most the number of nodes.
use Rattle.std.specs.Prelude.{◌≡◌, ℕ, zero, suc, ◌<◌, ◌≤◌, ◌+◌, List, [], ◌∷◌, ◌++◌, length, Some, All, Contains, nat_eq}
use Rattle.std.specs.List.{IsDistinct}
use Rattle.std.proofs.Common.{refl, sym, ap, ◌∙◌, ◌⊎◌, inl, inr, arith, subst, length-append}
use Rattle.std.proofs.lemmas.Cmp.{nat_eq_equiv}
use Rattle.std.proofs.lemmas.List.Elements.{All-head, All-tail, Contains-push_cases}
use Rattle.std.proofs.lemmas.Map.Keys.{IsDistinct-push}
use Rattle.std.proofs.lemmas.Map.Steps.{length-le_from_distinct_below}
use Rattle.html_render_dom_nodes.specs.Content.{Content}
use Rattle.html_render_dom_values.specs.Forest.{Forest, none, node, count, depth}
use Rattle.html_render_dom.specs.laws.Members.{Contains-nil, Contains-head, Contains-tail, Contains-cons_cases, Contains-from_any, any-from_absent}
use Rattle.html_render_dom.specs.laws.Forests.{IsDistinct-nil, All-children}
use Rattle.html_render_dom.specs.Dom.{Dom, node_count, IsNode, content_at, children_at, parent_at, IsInclusiveAncestor, itself, above, HaveTrees, IsForest, beside_each, below, trees_of, tree_of}

node-same : {c d : Content} {k l b e : Forest Content} → c ≡ d → k ≡ l → b ≡ e → node c k b ≡ node d l e
node-same p q r = cc

-- the trees with given roots are unique
pub HaveTrees-unique : (dom : Dom) (t u : Forest Content) (hs : List ℕ) → HaveTrees dom hs t → HaveTrees dom hs u → t ≡ u
HaveTrees-unique dom none none [] g h = refl
HaveTrees-unique dom none none (x ∷ hs) g h = refl
HaveTrees-unique dom none (node d l e) [] g h = absurd h
HaveTrees-unique dom (node c k b) none (x ∷ hs) g h = absurd h
HaveTrees-unique dom (node c k b) (node d l e) (x ∷ hs) g h =
    node-same (sym g.1 ∙ h.1) (HaveTrees-unique dom k l (children_at dom x) g.2 h.2) (HaveTrees-unique dom b e hs g.3 h.3)
HaveTrees-unique dom t u hs g h = absurd g

-- the tree with the root x, if it has fewer nodes and less depth than the forest t
record Below (dom : Dom) (x : ℕ) (t : Forest Content) : Type 0 where
  tree : Forest Content
  has_tree : HaveTrees dom (x ∷ []) tree
  smaller : count tree < count t
  flatter : depth tree < depth t

-- a tree of a forest has fewer nodes and less depth than what the forest has fewer nodes and less depth than
one_below : (dom : Dom) (t u : Forest Content) (hs : List ℕ) (x : ℕ) → Contains hs x → HaveTrees dom hs t → count t < count u → depth t < depth u →
    Below dom x u
one_below dom none u [] x m h less deep = absurd (Contains-nil x m)
one_below dom (node c kids beside) u (y ∷ hs) x m h less deep =
    elim (Contains-cons_cases y hs x m) [
      | inl e ↦ record {
        tree = node c kids none;
        has_tree = subst (λ z. HaveTrees dom (z ∷ []) (node c kids none)) e (h.0, h.1, h.2, tt);
        smaller = omega (arith, less);
        flatter = omega (arith, deep);
      }
      | inr l ↦ one_below dom beside u hs x l h.3 (omega (arith, less)) (omega (arith, deep))
    ]
one_below dom t u hs x m h less deep = absurd h

child_below : (dom : Dom) → IsForest dom → (p x : ℕ) → parent_at dom x ≡ Some p → (t : Forest Content) → HaveTrees dom (p ∷ []) t → Below dom x t
child_below dom f p x e none h = absurd h
child_below dom f p x e (node c kids beside) h =
    one_below dom kids (node c kids beside) (children_at dom p) x (f.parent_lists_child p x e) h.2 (omega arith) (omega arith)

-- the tree of a descendant has fewer nodes and less depth
descendant_below : (dom : Dom) → IsForest dom → (h : ℕ) {p : ℕ} → IsInclusiveAncestor dom h p → (x : ℕ) → parent_at dom x ≡ Some p →
    (t : Forest Content) → HaveTrees dom (h ∷ []) t → Below dom x t
descendant_below dom f h itself x e t s = child_below dom f h x e t s
descendant_below dom f h {p = p} (above q d r) x e t s =
    let v = descendant_below dom f h r p d t s in
    let w = child_below dom f p x e v.tree v.has_tree in
    record {
      tree = w.tree;
      has_tree = w.has_tree;
      smaller = omega (arith, v.smaller, w.smaller);
      flatter = omega (arith, v.flatter, w.flatter);
    }

-- no node is its own ancestor
pub IsInclusiveAncestor-no_loop : (dom : Dom) → IsForest dom → (h p : ℕ) → parent_at dom h ≡ Some p → IsInclusiveAncestor dom h p → ⊥
IsInclusiveAncestor-no_loop dom f h p e up =
    let t = f.finite h (f.child_is_node p h (f.parent_lists_child p h e)) in
    let b = descendant_below dom f h up h e t.0 t.1 in
    let same = ap count (HaveTrees-unique dom b.tree t.0 (h ∷ []) b.has_tree t.1) in
    absurd (omega (arith, same, b.smaller))

-- the nodes `up` on the way down to the nodes hs: they are distinct, and each is an ancestor of each of hs
record Way (dom : Dom) (up hs : List ℕ) : Type 0 where
  distinct : IsDistinct nat_eq up
  nodes : (q : ℕ) → Contains up q → IsNode dom q
  over : (h : ℕ) → Contains hs h → (q : ℕ) → Contains up q → (p : ℕ) × (parent_at dom h ≡ Some p) × IsInclusiveAncestor dom q p

way_down : (dom : Dom) → IsForest dom → (up hs : List ℕ) (x : ℕ) → IsNode dom x → Contains hs x → Way dom up hs →
    Way dom (up ++ x ∷ []) (children_at dom x)
way_down dom f up hs x at m w = record {
  distinct = IsDistinct-push nat_eq_equiv up x w.distinct
      (any-from_absent up x (λ l. let o = w.over x m x l in IsInclusiveAncestor-no_loop dom f x o.0 o.1 o.2));
  nodes = λ q l. elim (Contains-push_cases up x q l) [ inl o ↦ w.nodes q o | inr e ↦ subst (IsNode dom) e at ];
  over = λ h l q u. (
    x,
    f.child_names_parent x h l,
    elim (Contains-push_cases up x q u) [
      | inl o ↦ (let v = w.over x m q o in above v.0 v.1 v.2)
      | inr e ↦ subst (λ z. IsInclusiveAncestor dom z x) e itself
    ],
  );
}

way_tail : (dom : Dom) (up hs : List ℕ) (x : ℕ) → Way dom up (x ∷ hs) → Way dom up hs
way_tail dom up hs x w = record { distinct = w.distinct; nodes = w.nodes; over = λ h l. w.over h (Contains-tail x hs h l) }

way_length : (dom : Dom) → IsForest dom → (t : Forest Content) (up hs : List ℕ) → HaveTrees dom hs t → Way dom up hs →
    length up + depth t ≤ node_count dom
way_length dom f none up hs h w =
    omega (arith, length-le_from_distinct_below up (node_count dom) w.distinct (λ q a. w.nodes q (Contains-from_any up q a)))
way_length dom f (node c kids beside) up [] h w = absurd h
way_length dom f (node c kids beside) up (x ∷ hs) h w =
    let down = way_length dom f kids (up ++ x ∷ []) (children_at dom x) h.2 (way_down dom f up (x ∷ hs) x h.0 (Contains-head x hs) w) in
    let after = way_length dom f beside up hs h.3 (way_tail dom up hs x w) in
    omega (arith, down, after, length-append up (x ∷ []))

-- the depth of a tree is at most the number of nodes
pub depth-le : (dom : Dom) → IsForest dom → (t : Forest Content) (hs : List ℕ) → HaveTrees dom hs t → depth t ≤ node_count dom
depth-le dom f t hs h =
    let way = way_length dom f t [] hs h
    (record { distinct = IsDistinct-nil; nodes = λ q l. absurd (Contains-nil q l); over = λ k m q l. absurd (Contains-nil q l) }) in
    omega (arith, way)

-- enough levels give the whole trees
enough : (dom : Dom) (t : Forest Content) (hs : List ℕ) (n : ℕ) → HaveTrees dom hs t → depth t ≤ 1 + n → beside_each dom (below n dom) hs ≡ t
enough dom none [] n h le = refl
enough dom (node c none beside) (x ∷ hs) zero h le = node-same h.1 refl (enough dom beside hs zero h.3 (omega arith))
enough dom (node c (node d l e) beside) (x ∷ hs) zero h le = absurd (omega arith)
enough dom (node c kids beside) (x ∷ hs) (suc m) h le =
    node-same h.1 (enough dom kids (children_at dom x) m h.2 (omega arith)) (enough dom beside hs (suc m) h.3 (omega arith))
enough dom t hs n h le = absurd h

-- `tree_of` and `trees_of` are the trees with these roots
pub HaveTrees-tree_of : (dom : Dom) → IsForest dom → (h : ℕ) → IsNode dom h → HaveTrees dom (h ∷ []) (tree_of dom h)
HaveTrees-tree_of dom f h at =
    let t = f.finite h at in
    let deep = depth-le dom f t.0 (h ∷ []) t.1 in
    subst (HaveTrees dom (h ∷ [])) (sym (enough dom t.0 (h ∷ []) (node_count dom) t.1 (omega (arith, deep)))) t.1

pub HaveTrees-trees_of : (dom : Dom) → IsForest dom → (hs : List ℕ) → All (IsNode dom) hs → HaveTrees dom hs (trees_of dom hs)
HaveTrees-trees_of dom f [] all = tt
HaveTrees-trees_of dom f (h ∷ hs) all =
    let one = HaveTrees-tree_of dom f h (All-head (IsNode dom) h hs all) in
    (one.0, one.1, one.2, HaveTrees-trees_of dom f hs (All-tail (IsNode dom) h hs all))

-- the forest below a node has the trees of its children
pub below-children : (dom : Dom) → IsForest dom → (h : ℕ) → IsNode dom h → below (node_count dom) dom h ≡ trees_of dom (children_at dom h)
below-children dom f h at =
    let kids = HaveTrees-trees_of dom f (children_at dom h) (All-children dom f h (children_at dom h) refl) in
    HaveTrees-unique dom _ _ (children_at dom h) (HaveTrees-tree_of dom f h at).2 kids

-- the trees of a list of nodes: the first node's content, its children's trees, and the trees of the other nodes
pub trees_of-cons : (dom : Dom) → IsForest dom → (h : ℕ) (hs : List ℕ) → IsNode dom h →
    trees_of dom (h ∷ hs) ≡ node (content_at dom h) (trees_of dom (children_at dom h)) (trees_of dom hs)
trees_of-cons dom f h hs at = node-same refl (below-children dom f h at) refl

-- the tree of a child has less depth than that of its parent
pub depth-child : (dom : Dom) → IsForest dom → (h p : ℕ) → parent_at dom h ≡ Some p → IsNode dom p → depth (tree_of dom h) < depth (tree_of dom p)
depth-child dom f h p e at =
    let b = child_below dom f p h e (tree_of dom p) (HaveTrees-tree_of dom f p at) in
    let in_h = f.child_is_node p h (f.parent_lists_child p h e) in
    let same = ap depth (HaveTrees-unique dom b.tree (tree_of dom h) (h ∷ []) b.has_tree (HaveTrees-tree_of dom f h in_h)) in
    omega (arith, same, b.flatter)

-- an inclusive ancestor of h is h itself, or an inclusive ancestor of its parent
pub IsInclusiveAncestor-cases : (dom : Dom) (a h : ℕ) → IsInclusiveAncestor dom a h →
    (a ≡ h) ⊎ ((p : ℕ) × (parent_at dom h ≡ Some p) × IsInclusiveAncestor dom a p)
IsInclusiveAncestor-cases dom a h itself = inl refl
IsInclusiveAncestor-cases dom a h (above p e r) = inr (p, e, r)
