use Rattle.std.proofs.Common.{◌≡◌, ◌∷◌, [], ◌<◌, All, map, refl, subst, sym, ◌∙◌}
use Rattle.std.proofs.lemmas.List.Elements.{All-nil}
use Rattle.html_render_dom_styles.specs.Rules.{rule_of}
use Rattle.html_render_dom.specs.Dom.{IsNode, tree_of}
use Rattle.html_render_parts.specs.laws.Refusal.{Builds-same}
use Rattle.html_render_tree_convert.specs.Plans.{plan_at}
use Rattle.html_render_tree_convert.specs.Steps.{all_written, converted}
use Rattle.html_render_tree_convert.specs.Visits.{followed}
use Rattle.html_render_tree_walk.specs.Walk.{coming}
use Rattle.html_render_tree_walk.specs.declared.cursor.Position.{Position}
use Rattle.html_render_tree_walk.specs.declared.cursor.Visit.TheVariants.{Node}
use Rattle.html_render_tree_convert.proofs.VisitRuns.{ended, fails-whole, followed-nodes, goes-on, starts, visits-close, visits-node}
use Rattle.html_render_tree_convert.proofs.VisitsLeft.{node-less, work}
use Rattle.html_render_tree_convert.proofs.convert.entries_of.Goals as goal
use Rattle.html_render_tree_convert.proofs.convert.entries_of.Goals.{In-Node, In_default, In_ok-convert_node-in-Node}

pub visits-init : goal.visits-init
visits-init c =
    let dom = c.args.dom.now in
    let rules = map rule_of c.args.rules.now in
    let forest = c.get_document.ensures.forest in
    let holds = λ (p : Position). IsNode dom p.element in
    let document = c.get_document.result in
    let none : All holds c.new-cursor.result = subst (All holds) (sym c.new-cursor.ensures) (All-nil holds) in
    let at : IsNode dom document = subst (IsNode dom) (sym c.get_document.ensures.document) forest.has_document in
    record {
      comes = goes-on rules dom (plan_at rules dom document) document c.new-cursor.result c.convert_other.new.cursor
          c.in_ok-conversion.conversion c.convert_other.new.conversion
          (starts rules dom forest document c.new-cursor.result c.in_ok-conversion.conversion c.get_document.ensures.document c.new-cursor.ensures
          c.in_ok-conversion.ensures) c.in_ok-convert_other.ensures.cursor c.in_ok-convert_other.ensures.done.ok;
      nodes = subst (All holds) (sym c.in_ok-convert_other.ensures.cursor)
          (followed-nodes rules dom (plan_at rules dom document) document c.new-cursor.result at none);
    }

-- what comes is a node, and what comes after it
comes-node : (c : In-Node) → coming c.args.dom.now c.visits.cursor ≡ Node c.in-Node.node ∷ coming c.args.dom.now c.next.new.self
comes-node c = rw c.in-Node.is at (rw c.in-Some.is at c.next.ensures.visit)

-- which is a node of the document
node-visited : (c : In-Node) → IsNode c.args.dom.now c.in-Node.node
node-visited c = rw c.in-Node.is at (rw c.in-Some.is at c.next.ensures.node)

pub visits-smaller-in-Continue-branch-4 : goal.visits-smaller-in-Continue-branch-4
visits-smaller-in-Continue-branch-4 c =
    let dom = c.args.dom.now in
    let m = (goal.at.visits-smaller-in-Continue-branch-4 c).In-Node in
    let ps = c.next.new.self in
    let plan = plan_at (map rule_of c.args.rules.now) c.args.dom.now c.in-Node.node in
    let h = c.in-Node.node in
    subst (λ qs. work dom (coming dom qs) < work dom (coming dom c.visits.cursor)) (sym c.in_ok-convert_node-in-Node.ensures.cursor)
    (node-less dom c.get_document.ensures.forest plan h c.visits.cursor ps (node-visited m) (comes-node m))

pub visits-preserved-in-Continue-branch-4 : goal.visits-preserved-in-Continue-branch-4
visits-preserved-in-Continue-branch-4 c =
    let dom = c.args.dom.now in
    let rules = map rule_of c.args.rules.now in
    let m = (goal.at.visits-preserved-in-Continue-branch-4 c).In-Node in
    let holds = λ (p : Position). IsNode dom p.element in
    let ps = c.next.new.self in
    let plan = plan_at (map rule_of c.args.rules.now) c.args.dom.now c.in-Node.node in
    let h = c.in-Node.node in
    record {
      comes = goes-on rules dom plan h ps c.convert_node.new.cursor c.visits.conversion c.convert_node.new.conversion
          (visits-node rules dom c.get_document.ensures.forest h c.visits.cursor ps c.visits.conversion (comes-node m) c.visits.invariant.comes)
          c.in_ok-convert_node-in-Node.ensures.cursor c.in_ok-convert_node-in-Node.ensures.done.ok;
      nodes = subst (All holds) (sym c.in_ok-convert_node-in-Node.ensures.cursor)
          (followed-nodes rules dom plan h ps (node-visited m) c.next.ensures.nodes);
    }

pub returns-in_err-convert_other : goal.returns-in_err-convert_other
returns-in_err-convert_other c =
    let dom = c.args.dom.now in
    let rules = map rule_of c.args.rules.now in
    let h = c.get_document.result in
    fails-whole rules dom c.from_residual-in_err-convert_other.result c.in_err-convert_other.field-0.0 _ _ (followed (plan_at rules dom h) h [])
    (starts rules dom c.get_document.ensures.forest h [] c.in_ok-conversion.conversion c.get_document.ensures.document refl
    c.in_ok-conversion.ensures) c.in_err-convert_other.ensures.done.err c.from_residual-in_err-convert_other.ensures.1

pub returns-in_err-convert_node-in-Node : goal.returns-in_err-convert_node-in-Node
returns-in_err-convert_node-in-Node c =
    let dom = c.args.dom.now in
    let rules = map rule_of c.args.rules.now in
    let m = (goal.at.returns-in_err-convert_node-in-Node c).In-Node in
    let h = c.in-Node.node in
    let ps = c.next.new.self in
    fails-whole rules dom c.from_residual-in_err-convert_node-in-Node.result c.in_err-convert_node-in-Node.field-0.0 _ _ (followed (plan_at rules dom h) h ps)
    (visits-node rules dom c.get_document.ensures.forest h c.visits.cursor ps c.visits.conversion (comes-node m) c.visits.invariant.comes)
    c.in_err-convert_node-in-Node.ensures.done.err c.from_residual-in_err-convert_node-in-Node.ensures.1

pub returns-in_err-close-in-Close : goal.returns-in_err-close-in-Close
returns-in_err-close-in-Close c =
    let dom = c.args.dom.now in
    let rules = map rule_of c.args.rules.now in
    let ps = c.next.new.self in
    fails-whole rules dom c.from_residual-in_err-close-in-Close.result c.in_err-close-in-Close.field-0.0 _ _ ps
    (visits-close rules dom c.visits.cursor ps c.visits.conversion (rw c.in-Close.is at (rw c.in-Some.is at c.next.ensures.visit))
    c.visits.invariant.comes) c.in_err-close-in-Close.ensures.err c.from_residual-in_err-close-in-Close.ensures.1

-- nothing comes any more
written : (c : In_default) → converted (map rule_of c.args.rules.now) (tree_of c.args.dom.now 0) ≡ all_written c.visits.conversion
written c =
    ended (map rule_of c.args.rules.now) c.args.dom.now c.visits.cursor c.visits.conversion (rw c.in_default.is at c.next.ensures.visit)
    c.visits.invariant.comes

pub returns : goal.returns
returns c = let m = (goal.at.returns c).In_default in Builds-same c.into_entries.result _ _ _ (written m) c.into_entries.ensures
