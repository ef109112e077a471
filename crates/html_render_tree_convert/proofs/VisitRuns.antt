-- What comes on a walk, as events; what a visit does to the run of those that come; and the render tree from the nodes in pre-order.
use Rattle.std.proofs.Common.{◌≡◌, ℕ, Bool, true, false, if◌then◌else◌, List, [], ◌∷◌, ◌++◌, All, refl, sym, ap, ◌∙◌, append_assoc, Option, Some, None, option_map, Result as Outcome, Ok, Err, subst}
use Rattle.std.proofs.lemmas.Grind.{flat_map-append}
use Rattle.html_render_dom_styles.specs.Rules.{Rule as StyleRule}
use Rattle.html_render_dom.specs.Dom.{Dom, IsForest, IsNode, children_at, content_at, trees_of, tree_of}
use Rattle.html_render_dom.specs.laws.Trees.{trees_of-cons, below-children}
use Rattle.html_render_tree_convert.specs.declared.mapping.ElementKind.{ElementKind}
use Rattle.html_render_tree_convert.specs.declared.mapping.ElementKind.TheVariants as element
use Rattle.html_render_tree_convert.specs.declared.tables.Part.TheVariants as part
use Rattle.html_render_tree_convert.specs.Events.{children_events, events, node_events, Event, element_events, nothing_inside}
use Rattle.html_render_tree_walk.specs.Walk.{picks}
use Rattle.html_render_tree_convert.specs.Events as event
use Rattle.html_render_tree_convert.specs.Plans.{plan_of, plan_at}
use Rattle.html_render_tree_convert.specs.Visits.{first_pick, visit_events, visits_events, done_at_once, followed}
use Rattle.html_render_tree_walk.specs.Walk.{coming, entered, nodes, picked}
use Rattle.html_render_tree_walk.specs.declared.cursor.Pick.{Pick}
use Rattle.html_render_tree_walk.specs.declared.cursor.Pick.TheVariants.{All as all_children, Captions, Others, Feet}
use Rattle.html_render_tree_walk.specs.declared.cursor.Position.{Position}
use Rattle.html_render_tree_walk.specs.declared.cursor.Visit.TheVariants.{Node, Close}
use Rattle.std.proofs.lemmas.List.Elements.{All-head, All-tail, All-cons}
use Rattle.std.specs.Result.{IsErrAnd}
use Rattle.html_render_dom_values.specs.Forest.{Forest, none, node}
use Rattle.html_render_dom_values.specs.Outcome.{◌>>=◌}
use Rattle.html_render_dom_values.specs.declared.errors.Error.{Error}
use Rattle.html_render_dom_values.specs.declared.errors.Error.TheVariants.{TooNarrow, Fail, OutOfMemory}
use Rattle.html_render_dom_nodes.specs.Content.{Content}
use Rattle.html_render_dom.specs.laws.Forests.{All-children}
use Rattle.html_render_layout_nodes.specs.Preorder.{flatten, forest_of}
use Rattle.html_render_layout_nodes.specs.declared.tree.Entry.{Entry}
use Rattle.html_render_layout_nodes.specs.declared.tree.RenderNode.{RenderNode}
use Rattle.html_render_layout_nodes.specs.laws.Preorder.{forest_of-flatten}
use Rattle.html_render_parts.specs.Refusal.{Builds, Fails}
use Rattle.html_render_parts.specs.laws.Refusal.{Fails-same, Fails-then}
use Rattle.html_render_tree_convert.specs.declared.plans.Plan.{Plan}
use Rattle.html_render_tree_convert.specs.declared.plans.Plan.TheVariants.{Nothing, Alone, Over}
use Rattle.html_render_tree_convert.specs.OpenElements.{State, root}
use Rattle.html_render_tree_convert.specs.Steps.{after, all_parted, all_written, closed, converted, opened, run}

module _ (rules : List StyleRule) (dom : Dom) (forest : IsForest dom) where
  -- children that are picked come as the events of their trees
  nodes-events : (pick : Pick) (hs : List ℕ) → All (IsNode dom) hs →
      visits_events rules dom (nodes (picked pick dom hs)) ≡ events rules (trees_of dom hs) pick
  nodes-events pick [] h = refl
  nodes-events pick (x ∷ xs) h =
      by (picks pick (content_at dom x)) (nodes-events pick xs (All-tail (IsNode dom) x xs h))
      ∙ ap (λ t. events rules t pick) (sym (trees_of-cons dom forest x xs (All-head (IsNode dom) x xs h)))
    where
      by : (b : Bool) → visits_events rules dom (nodes (picked pick dom xs)) ≡ events rules (trees_of dom xs) pick →
          visits_events rules dom (nodes (if b then x ∷ picked pick dom xs else picked pick dom xs))
          ≡ (if b then node_events (plan_of rules (content_at dom x) (trees_of dom (children_at dom x)))
          (λ k. events rules (trees_of dom (children_at dom x)) k) else [])
          ++ events rules (trees_of dom xs) pick
      by true same = ap (λ l. visit_events rules dom (Node x) ++ l) same
      by false same = same

  -- children come before others as the events of their trees
  pub comes_entered : (h : ℕ) (kind : ElementKind) (ps : List Position) →
      visits_events rules dom (coming dom (entered h (first_pick kind) ∷ ps))
      ≡ (children_events kind (λ pick. events rules (trees_of dom (children_at dom h)) pick) ++ event.Close ∷ [])
      ++ visits_events rules dom (coming dom ps)
  comes_entered h (element.Part part.Table) ps =
      let of = λ (pick : Pick). nodes-events pick (children_at dom h) (All-children dom forest h (children_at dom h) refl) in
      simp (append_assoc, flat_map-append, of Captions, of Others, of Feet)
  comes_entered h kind ps =
      simp (append_assoc, flat_map-append, nodes-events all_children (children_at dom h) (All-children dom forest h (children_at dom h) refl))

-- an element without children closes: the captions of a table have come at once
abbrev pub before_end : Pick → State → State
before_end Captions cs = all_parted cs
before_end _ cs = cs

pub unparted : (pick : Pick) (cs : State) → (pick ≡ Captions → ⊥) → before_end pick cs ≡ cs
unparted Captions cs h = absurd (h refl)
unparted pick cs h = refl

pub alone-run : (k : ElementKind) (cs : State) → run (children_events k nothing_inside ++ event.Close ∷ []) cs ≡ closed (before_end (first_pick k) cs)
alone-run k cs = by k
  where
    same : (o : Option State) → (o >>= run []) ≡ o
    same None = refl
    same (Some ds) = refl

    by : (k : ElementKind) → run (children_events k nothing_inside ++ event.Close ∷ []) cs ≡ closed (before_end (first_pick k) cs)
    by (element.Part part.Table) = same (closed (all_parted cs))
    by k = same (closed cs)

then-then : {X Y Z : Type 0} (f : X → Option Y) (g : Y → Option Z) (h : X → Option Z) → ((x : X) → h x ≡ (f x >>= g)) →
    (o : Option X) → (o >>= h) ≡ ((o >>= f) >>= g)
then-then f g h same None = refl
then-then f g h same (Some x) = same x

run-append : (xs ys : List Event) (cs : State) → run (xs ++ ys) cs ≡ (run xs cs >>= run ys)
run-append [] ys cs = refl
run-append (x ∷ xs) ys cs = then-then (run xs) (run ys) (run (xs ++ ys)) (run-append xs ys) (after x cs)

-- an error that is handed on
pub fails-handed : {X S : Type 0} (r : Outcome X Error) (e : Error) (wanted : Option S) (built : X → S) → IsErrAnd r (λ f. f ≡ e) → Fails e wanted →
    Builds r wanted built
fails-handed (Ok x) e wanted built is fails = absurd is
fails-handed (Err f) e wanted built is fails = record { ok = tt; err = subst (λ g. Fails g wanted) (sym is) fails }

module _ (rules : List StyleRule) (dom : Dom) where
  -- run of all events of a document
  abbrev pub whole_run : Option State
  whole_run = run (events rules (tree_of dom 0) all_children) root

  -- run of the events that come, after open elements
  abbrev pub rest_run : List Position → State → Option State
  rest_run ps cs = run (visits_events rules dom (coming dom ps)) cs

  -- a visit is done, and the events that come end as all events do
  pub goes-on : (plan : Plan) (h : ℕ) (ps qs : List Position) (cs ds : State) → (run (done_at_once plan) cs >>= rest_run (followed plan h ps)) ≡ whole_run →
      qs ≡ followed plan h ps → run (done_at_once plan) cs ≡ Some ds → rest_run qs ds ≡ whole_run
  goes-on plan h ps qs cs ds all qs_is done =
      ap (λ l. rest_run l ds) qs_is ∙ sym (ap (λ o. o >>= rest_run (followed plan h ps)) done) ∙ all

  -- where a step of the run fails, the document can't be converted
  pub fails-whole : {X : Type 0} (r : Outcome X Error) (e : Error) (built : X → List (Entry RenderNode)) (step : Option State) (ps : List Position) →
      (step >>= rest_run ps) ≡ whole_run → Fails e step → IsErrAnd r (λ f. f ≡ e) → Builds r (converted rules (tree_of dom 0)) built
  fails-whole r e built step ps all fails is =
      fails-handed r e _ built is (Fails-then e whole_run all_written (Fails-same e whole_run _ (sym all) (Fails-then e step (rest_run ps) fails)))

  module _ (forest : IsForest dom) where
    -- a visit of a node: what is done at once, and then what comes
    follows : (plan : Plan) (h : ℕ) (ps : List Position) (cs : State) →
        run (node_events plan (λ pick. events rules (trees_of dom (children_at dom h)) pick) ++ visits_events rules dom (coming dom ps)) cs
        ≡ (run (done_at_once plan) cs >>= rest_run (followed plan h ps))
    follows Nothing h ps cs = refl
    follows (Alone n) h ps cs = refl
    follows (Over e false) h ps cs = run-append (element_events e nothing_inside) (visits_events rules dom (coming dom ps)) cs
    follows (Over e true) h ps cs =
        ap (λ l. run l (opened e cs)) (sym (comes_entered rules dom forest h e.kind ps))

    -- the document's own node
    pub starts : (h : ℕ) (ps : List Position) (cs : State) → h ≡ 0 → ps ≡ [] → cs ≡ root →
        (run (done_at_once (plan_at rules dom h)) cs >>= rest_run (followed (plan_at rules dom h) h ps)) ≡ whole_run
    starts h ps cs h_is ps_is cs_is =
        let Kids : Forest Content → Option State = λ t. run (events rules (node (content_at dom 0) t none) all_children) root in
        rw (h_is, ps_is, cs_is) (sym (ap Kids (below-children dom forest 0 forest.has_document) ∙ follows (plan_at rules dom 0) 0 [] root))

    -- a node that comes
    pub visits-node : (h : ℕ) (old ps : List Position) (cs : State) → coming dom old ≡ Node h ∷ coming dom ps → rest_run old cs ≡ whole_run →
        (run (done_at_once (plan_at rules dom h)) cs >>= rest_run (followed (plan_at rules dom h) h ps)) ≡ whole_run
    visits-node h old ps cs comes so_far =
        sym (follows (plan_at rules dom h) h ps cs) ∙ sym (ap (λ vs. run (visits_events rules dom vs) cs) comes) ∙ so_far

  -- positions stay at nodes
  pub followed-nodes : (plan : Plan) (h : ℕ) (ps : List Position) → IsNode dom h → All (λ p. IsNode dom p.element) ps →
      All (λ p. IsNode dom p.element) (followed plan h ps)
  followed-nodes Nothing h ps at all = all
  followed-nodes (Alone n) h ps at all = all
  followed-nodes (Over e false) h ps at all = all
  followed-nodes (Over e true) h ps at all = All-cons (λ (p : Position). IsNode dom p.element) (entered h (first_pick e.kind)) ps at all

  pub visits-close : (old ps : List Position) (cs : State) → coming dom old ≡ Close ∷ coming dom ps → rest_run old cs ≡ whole_run →
      (closed cs >>= rest_run ps) ≡ whole_run
  visits-close old ps cs comes so_far = sym (ap (λ vs. run (visits_events rules dom vs) cs) comes) ∙ so_far

  -- nothing comes
  pub ended : (ps : List Position) (cs : State) → coming dom ps ≡ [] → rest_run ps cs ≡ whole_run → converted rules (tree_of dom 0) ≡ all_written cs
  ended ps cs over so_far = ap (λ o. o >>= all_written) (sym so_far ∙ ap (λ vs. run (visits_events rules dom vs) cs) over)

-- ---- the end

-- nodes that are those of a tree
pub record Written {K : Type 0} (tree : Option (Forest K)) (es : List (Entry K)) : Type 0 where
  pub preorder : flatten (forest_of es) ≡ es
  pub is : tree ≡ Some (forest_of es)

pub written : {K : Type 0} (tree : Option (Forest K)) (es : List (Entry K)) → option_map flatten tree ≡ Some es → Written tree es
written None es e = absurd (cc)
written (Some t) es e =
    let same : es ≡ flatten t = cc in
    let back : forest_of es ≡ t = ap forest_of same ∙ forest_of-flatten t in
    record { preorder = ap flatten back ∙ sym same; is = ap Some (sym back) }

pub fails-tree : {K : Type 0} (e : Error) (tree : Option (Forest K)) → Fails e (option_map flatten tree) → Fails e tree
fails-tree TooNarrow tree h = absurd h
fails-tree Fail None h = refl
fails-tree Fail (Some t) h = absurd (cc)
fails-tree OutOfMemory tree h = tt
