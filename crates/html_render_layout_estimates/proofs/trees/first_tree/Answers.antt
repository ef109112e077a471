use Rattle.std.proofs.Common.{sym, ap, ◌∙◌}
use Rattle.html_render_dom_values.specs.Forest.{node}
use Rattle.html_render_layout_nodes.specs.Preorder.{forest_of}
use Rattle.html_render_layout_estimates.proofs.Parting.{parted}
use Rattle.html_render_layout_estimates.proofs.trees.first_tree.Goals as goal

pub returns-clause-cases : goal.returns-clause-cases
returns-clause-cases g c =
    let p = parted _ _ _ c.requires c.in_ok-entry.ensures.cases.0 in
    let below = ap forest_of c.split_at.ensures.front ∙ p.below_is.is in
    let beside = ap forest_of c.split_at.ensures.back ∙ p.beside_is.is in
    p.is ∙ sym (ap (λ t. node c.in_ok-entry.entry.now.node t (forest_of c.split_at.result.1.now)) below
    ∙ ap (λ t. node c.in_ok-entry.entry.now.node p.below t) beside)

pub returns-clause-below : goal.returns-clause-below
returns-clause-below g c = let p = parted _ _ _ c.requires c.in_ok-entry.ensures.cases.0 in rw c.split_at.ensures.front p.below_is.kept

pub returns-clause-beside : goal.returns-clause-beside
returns-clause-beside g c = let p = parted _ _ _ c.requires c.in_ok-entry.ensures.cases.0 in rw c.split_at.ensures.back p.beside_is.kept
