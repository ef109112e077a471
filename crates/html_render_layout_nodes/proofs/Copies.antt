-- Copied nodes in pre-order are a copied forest.
use Rattle.std.proofs.Common.{◌≡◌, List, ap, ◌∙◌, sym}
use Rattle.html_render_dom_values.specs.Forest.{Forest}
use Rattle.html_render_layout_nodes.specs.declared.tree.Entry.{Entry}
use Rattle.html_render_layout_nodes.specs.Preorder.{flatten, forest_of}
use Rattle.html_render_layout_nodes.specs.laws.Preorder.{forest_of-flatten}

-- nodes equal to those of a forest are in pre-order, and their forest is equal
pub copied : {K : Type 0} (t : Forest K) (nodes : List (Entry K)) → nodes ≡ flatten t →
    (forest_of nodes ≡ t) × (flatten (forest_of nodes) ≡ nodes)
copied t nodes e = let v = ap forest_of e ∙ forest_of-flatten t in (v, ap flatten v ∙ sym e)
