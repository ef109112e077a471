-- A node without children is no ancestor of another one.
use Rattle.std.specs.Prelude.{◌≡◌, ℕ, Some, length}
use Rattle.std.proofs.Common.{refl, subst, sym, ap, ◌∙◌, arith}
use Rattle.html_render_dom.specs.Dom.{Dom, IsForest, IsInclusiveAncestor, itself, above, children_at}

pub childless : (dom : Dom) → IsForest dom → (node : ℕ) → length (children_at dom node) ≡ 0 → (below : ℕ) → IsInclusiveAncestor dom node below → node ≡ below
childless dom f node none below itself = refl
childless dom f node none below (above p e up) =
    let listed = f.parent_lists_child node below (e ∙ ap Some (sym (childless dom f node none p up))) in absurd (omega (arith, none, listed.1))

pub above_itself : (dom : Dom) (node below : ℕ) → node ≡ below → IsInclusiveAncestor dom node below
above_itself dom node below e = subst (IsInclusiveAncestor dom node) e itself
