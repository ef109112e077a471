-- Entries of forests, and entries after others.
use Rattle.std.proofs.Common.{◌≡◌, ◌<◌, ℕ, zero, suc, List, [], ◌∷◌, ◌++◌, arith, drop, get_or, length, map, set, take, refl, sym, ap, ◌∙◌, append_assoc}
use Rattle.std.proofs.Math.Seq.{drop-cons, split_at, set_at}
use Rattle.std.proofs.lemmas.List.{length-take-le, map-append}
use Rattle.html_render_dom_values.specs.Forest.{none, node, followed_by}
use Rattle.html_render_layout_nodes.specs.Preorder.{flatten}
use Rattle.html_render_layout_nodes.specs.laws.Preorder.{flatten-followed_by}
use Rattle.html_render_layout_nodes.specs.laws.Splits.{followed_by-none, followed_by-followed_by}
use Rattle.html_render_layout_nodes.specs.declared.tree.Entry.{Entry}
use Rattle.html_render_layout_nodes.specs.declared.tree.RenderNode.{RenderNode}
use Rattle.html_render_tree_convert.specs.Results.{beside, in_first}
use Rattle.html_render_tree_convert.specs.Held.{Entries, Insertion, Nodes, all_alone, nothing, within, leaves}

-- ---- nodes without children

abbrev pub trees : List RenderNode → Nodes
trees ns = beside (all_alone ns)

pub flatten-trees : (ns : List RenderNode) → flatten (trees ns) ≡ leaves ns
flatten-trees [] = refl
flatten-trees (n ∷ ns) = ap (λ es. record { node = n; subtree_len = 1 } ∷ es) (flatten-trees ns)

trees-append : (ns ms : List RenderNode) → trees (ns ++ ms) ≡ followed_by (trees ns) (trees ms)
trees-append [] ms = refl
trees-append (n ∷ ns) ms = ap (node n none) (trees-append ns ms)

pub leaves_append : (ns ms : List RenderNode) → leaves (ns ++ ms) ≡ leaves ns ++ leaves ms
leaves_append ns ms = map-append (λ n. record { node = n; subtree_len = 1 }) ns ms

pub nodes-leaves : (ns : List RenderNode) → map (λ (e : Entry RenderNode). e.node) (leaves ns) ≡ ns
nodes-leaves [] = refl
nodes-leaves (n ∷ ns) = ap (λ l. n ∷ l) (nodes-leaves ns)

-- ---- insertion into the first node of a level

-- trees with an insertion so many levels down in the first of them
abbrev pub filled : (level : ℕ) → Insertion → Nodes → Nodes
filled level i t = in_first level (trees i.front) (trees i.back) t

pub entries-within : (i : Insertion) (t : Nodes) → flatten (filled 0 i t) ≡ (leaves i.front ++ flatten t) ++ leaves i.back
entries-within i t = simp (flatten-followed_by, flatten-trees, append_assoc)

pub filled-nothing : (level : ℕ) (t : Nodes) → filled level nothing t ≡ t
filled-nothing zero t = followed_by-none t
filled-nothing (suc level) none = refl
filled-nothing (suc level) (node n children others) = ap (λ c. node n c others) (filled-nothing level children)

-- an outer insertion is round an inner one
pub filled-within : (level : ℕ) (outer inner : Insertion) (t : Nodes) → filled level (within outer inner) t ≡ filled level outer (filled level inner t)
filled-within zero outer inner t = simp (trees-append, followed_by-followed_by)
filled-within (suc level) outer inner none = refl
filled-within (suc level) outer inner (node n children others) = ap (λ c. node n c others) (filled-within level outer inner children)

-- ---- one entry is changed

pub set-split : (es : Entries) (s : ℕ) (e y : Entry RenderNode) → s < length es → e ≡ get_or es s e →
    (set es s y ≡ take s es ++ y ∷ drop (suc s) es) × (drop s es ≡ e ∷ drop (suc s) es)
set-split es s e y h is = (
  ap (λ l. set l s y) (split_at es s e h) ∙ set_at (take s es) (get_or es s e) (drop (suc s) es) y s (length-take-le s es (omega (arith, h))),
  drop-cons es s e h ∙ ap (λ x. x ∷ drop (suc s) es) (sym is),
)
