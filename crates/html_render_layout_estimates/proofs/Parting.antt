-- Nodes in pre-order, split after the first tree.
use Rattle.std.proofs.Common.{◌≡◌, ◌+◌, ◌-◌, ◌≤◌, List, ◌∷◌, ◌++◌, length, take, drop, sym, ap, ◌∙◌, arith, length-append}
use Rattle.std.proofs.Math.Seq.{take-append_seam, drop-append_seam}
use Rattle.html_render_dom_values.specs.Forest.{Forest, none, node}
use Rattle.html_render_layout_nodes.specs.declared.tree.Entry.{Entry}
use Rattle.html_render_layout_nodes.specs.Preorder.{flatten, forest_of}
use Rattle.html_render_layout_nodes.specs.laws.Preorder.{IsPreorderOf, IsPreorderOf-flatten}

-- whether a forest begins with the tree of an entry, whose nodes below are the first of `es`
pub record Parted {K : Type 0} (t : Forest K) (e : Entry K) (es : List (Entry K)) : Type 0 where
  pub below : Forest K
  pub beside : Forest K
  pub is : t ≡ node e.node below beside
  pub some : 1 ≤ e.subtree_len
  pub within : e.subtree_len - 1 ≤ length es
  pub below_is : IsPreorderOf (take (e.subtree_len - 1) es) below
  pub beside_is : IsPreorderOf (drop (e.subtree_len - 1) es) beside

parted_of : {K : Type 0} (t : Forest K) (e : Entry K) (es : List (Entry K)) → flatten t ≡ e ∷ es → Parted t e es
parted_of none e es same = absurd (cc same)
parted_of (node k children beside) e es same =
    let first : e ≡ record { node = k; subtree_len = length (flatten children) + 1 } = cc same in
    let rest : es ≡ flatten children ++ flatten beside = cc same in
    let size : e.subtree_len ≡ length (flatten children) + 1 = ap (λ (x : Entry _). x.subtree_len) first in
    let less : e.subtree_len - 1 ≡ length (flatten children) = omega (arith, size) in
    record {
      below = children;
      beside = beside;
      is = ap (λ (x : Entry _). node x.node children beside) (sym first);
      some = omega (arith, size);
      within = omega (arith, less, ap length rest, length-append (flatten children) (flatten beside));
      below_is = IsPreorderOf-flatten (take (e.subtree_len - 1) es) children
          (ap (λ n. take n es) less ∙ ap (take (length (flatten children))) rest ∙ take-append_seam (flatten children) (flatten beside));
      beside_is = IsPreorderOf-flatten (drop (e.subtree_len - 1) es) beside
          (ap (λ n. drop n es) less ∙ ap (drop (length (flatten children))) rest ∙ drop-append_seam (flatten children) (flatten beside));
    }

pub parted : {K : Type 0} (all es : List (Entry K)) (e : Entry K) → flatten (forest_of all) ≡ all → all ≡ e ∷ es → Parted (forest_of all) e es
parted all es e kept same = parted_of (forest_of all) e es (kept ∙ same)
