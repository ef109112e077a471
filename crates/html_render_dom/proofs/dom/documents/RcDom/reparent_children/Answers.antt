use Rattle.std.proofs.Common.{rules, arith, ◌≡◌, ◌<◌, length, map, refl, subst, vec_len}
use Rattle.std.proofs.lemmas.List.{length-map}
use Rattle.std.proofs.lemmas.List.Elements.{All-weaker}
use Rattle.html_render_dom.specs.Dom.{IsNode, IsInclusiveAncestor, itself, children_at}
use Rattle.html_render_dom.specs.laws.Forests.{All-children}
use Rattle.html_render_dom.specs.Documents.{dom_of}
use Rattle.html_render_dom_nodes.specs.Nodes.{node_of}
use Rattle.html_render_dom_nodes.specs.Moves.{reparented}
use Rattle.html_render_dom.proofs.Moves.{IsForest-reparented}
use Rattle.html_render_dom.proofs.Changed.{IsForest-changed}
use Rattle.html_render_dom.proofs.dom.documents.RcDom.reparent_children.Goals as goal

pub move_children-requires-clause-apart : goal.move_children-requires-clause-apart
move_children-requires-clause-apart c = λ e. c.requires.away (subst (IsInclusiveAncestor c.args.self.now c.args.node) e itself)

pub move_children-requires-clause-children : goal.move_children-requires-clause-children
move_children-requires-clause-children c =
    let dom = dom_of c.self.inside in
    let len : vec_len c.self.inside.nodes ≡ length (map node_of c.self.inside.nodes.items) = search (rules, length-map) in
    All-weaker (IsNode dom) (λ x. x < vec_len c.self.inside.nodes) (λ x at. omega (arith, len, at)) (children_at dom c.args.node)
    (All-children dom c.self.invariant c.args.node _ refl)

pub invariant_of-self-2 : goal.invariant_of-self-2
invariant_of-self-2 c =
    IsForest-changed (λ ns. reparented ns c.args.node c.args.new_parent) c.self.view_is c.self.invariant
    (λ f. IsForest-reparented c.args.self.now f c.args.node c.args.new_parent c.requires.node c.requires.new_parent c.requires.away) _
    c.in_ok-move_children.ensures.ok
