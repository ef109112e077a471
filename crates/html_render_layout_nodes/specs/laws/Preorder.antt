-- A forest is restored from its nodes in pre-order.
use Rattle.std.specs.Prelude.{ℕ, ◌+◌, ◌-◌, ◌≤◌, ◌≡◌, List, ◌∷◌, ◌++◌, length, take, drop, refl}
use Rattle.std.proofs.Common.{suc, zero, arith, ap, ◌∙◌, sym, length-append, append_assoc}
use Rattle.std.proofs.Math.Seq.{take-append_seam, drop-append_seam}
use Rattle.html_render_dom_values.specs.Forest.{Forest, none, node, followed_by}
use Rattle.html_render_layout_nodes.specs.declared.tree.Entry.{Entry}
use Rattle.html_render_layout_nodes.specs.Preorder.{flatten, forest_within, forest_of}

pub forest_within-flatten : {K : Type 0} (n : ℕ) (t : Forest K) → length (flatten t) ≤ n → forest_within n (flatten t) ≡ t
forest_within-flatten zero none h = refl
forest_within-flatten (suc n) none h = refl
forest_within-flatten zero (node k children beside) h = absurd (omega arith)
forest_within-flatten (suc n) (node k children beside) h =
    let a = flatten children in
    let b = flatten beside in
    let long : length (a ++ b) ≡ length a + length b = length-append a b in
    let size : length a + 1 - 1 ≡ length a = omega arith in
    let front : forest_within n (take (length a + 1 - 1) (a ++ b)) ≡ children =
    ap (λ m. forest_within n (take m (a ++ b))) size ∙ ap (forest_within n) (take-append_seam a b)
    ∙ forest_within-flatten n children (omega arith) in
    let back : forest_within n (drop (length a + 1 - 1) (a ++ b)) ≡ beside =
    ap (λ m. forest_within n (drop m (a ++ b))) size ∙ ap (forest_within n) (drop-append_seam a b)
    ∙ forest_within-flatten n beside (omega arith) in
    cc

pub forest_of-flatten : {K : Type 0} (t : Forest K) → forest_of (flatten t) ≡ t
forest_of-flatten t = forest_within-flatten (length (flatten t)) t (omega arith)

pub flatten-followed_by : {K : Type 0} (t u : Forest K) → flatten (followed_by t u) ≡ flatten t ++ flatten u
flatten-followed_by none u = refl
flatten-followed_by (node k children beside) u =
    let e : Entry _ = record { node = k; subtree_len = length (flatten children) + 1 } in
    ap (λ l. e ∷ (flatten children ++ l)) (flatten-followed_by beside u)
    ∙ ap (λ l. e ∷ l) (sym (append_assoc (flatten children) (flatten beside) (flatten u)))

-- whether nodes are those of a forest in pre-order
pub record IsPreorderOf {K : Type 0} (es : List (Entry K)) (t : Forest K) : Type 0 where
  pub is : forest_of es ≡ t
  pub kept : flatten (forest_of es) ≡ es

pub IsPreorderOf-flatten : {K : Type 0} (es : List (Entry K)) (t : Forest K) → es ≡ flatten t → IsPreorderOf es t
IsPreorderOf-flatten es t e = let v = ap forest_of e ∙ forest_of-flatten t in record { is = v; kept = ap flatten v ∙ sym e }
