-- Splits of a forest that grew at the front, into the trees added since a mark and those before.
use Rattle.std.specs.Prelude.{ℕ, ◌≡◌, List, reverse}
use Rattle.html_render_dom_values.specs.Forest.{Forest, count, followed_by}
use Rattle.html_render_layout_nodes.specs.declared.tree.Entry.{Entry}
use Rattle.html_render_layout_nodes.specs.Preorder.{flatten}

-- a split of a forest before its last trees, which have `mark` nodes
pub record SplitAt {K : Type 0} (t : Forest K) (mark : ℕ) : Type 0 where
  pub children : Forest K
  pub beside : Forest K
  pub is : t ≡ followed_by children beside
  pub mark_is : mark ≡ count beside

-- whether nodes are those of a forest in reverse
pub record Reversed {K : Type 0} (es : List (Entry K)) : Type 0 where
  pub trees : Forest K
  pub is : es ≡ reverse (flatten trees)
