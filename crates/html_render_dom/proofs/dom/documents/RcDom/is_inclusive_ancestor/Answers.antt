use Rattle.std.proofs.Common.{◌≡◌, ◌≢◌, sym, ◌∙◌, subst, arith, rules, [], ◌∷◌, inl, inr}
use Rattle.std.proofs.lemmas.Option.{same_Some}
use Rattle.html_render_dom.specs.Dom.{IsForest, IsNode, IsInclusiveAncestor, itself, above, tree_of}
use Rattle.html_render_dom.specs.laws.Trees.{depth-child, depth-le, HaveTrees-tree_of, IsInclusiveAncestor-cases}
use Rattle.html_render_dom.proofs.dom.documents.RcDom.is_inclusive_ancestor.Goals as goal

pub loop-ancestor-smaller : goal.loop-ancestor-smaller
loop-ancestor-smaller c =
    let dom = c.args.self.now in
    let f = subst IsForest c.self.view_is c.self.invariant in
    let p = c.in-Some.parent in
    let in_p = c.in-Some.ensures.is_node in
    omega (arith, depth-child dom f c.loop-ancestor.at p (sym c.in-Some.ensures.parent) in_p, depth-le dom f (tree_of dom p) (p ∷ []) (HaveTrees-tree_of dom f p in_p))

pub loop-ancestor-preserved : goal.loop-ancestor-preserved
loop-ancestor-preserved c =
    let dom = c.args.self.now in
    let at = c.loop-ancestor.at in
    let p = c.in-Some.parent in
    let e = sym c.in-Some.ensures.parent in
    let other : at ≢ c.args.ancestor = search rules in
    let kept = c.loop-ancestor.invariant.1 in (
      c.in-Some.ensures.is_node,
      (
        λ up. elim (IsInclusiveAncestor-cases dom c.args.ancestor at (kept.0 up)) [
          | inl same ↦ absurd (other (sym same))
          | inr r ↦ subst (IsInclusiveAncestor dom c.args.ancestor) (same_Some r.0 p (sym r.1 ∙ e)) r.2
        ],
        λ up. kept.1 (above p e up),
      ),
    )

pub returns : goal.returns
returns c =
    let dom = c.args.self.now in
    let in_node : IsNode dom c.args.node = search rules in
    let same : c.loop-ancestor.at ≡ c.args.ancestor = search rules in
    (λ _. (in_node, c.loop-ancestor.invariant.1.1 (subst (IsInclusiveAncestor dom c.args.ancestor) (sym same) itself)), λ _. search rules)
