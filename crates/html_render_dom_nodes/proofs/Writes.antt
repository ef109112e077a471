-- A write to one node of the vector, as an edit of the vector's value.
use Rattle.std.proofs.Common.{◌≡◌, ℕ, ◌<◌, List, [], ◌∷◌, ◌++◌, length, map, slice_set, slice_index_or, Some, sym, ap, ◌∙◌}
use Rattle.std.proofs.lemmas.List.{map-set, set-get_or, get_or_append_left, set-append_left, length-set}
use Rattle.std.proofs.Math.Seq.{get_or-append_seam, set-append_seam}
use Rattle.html_render_dom_nodes.specs.declared.nodes.Node.{Node as TheNode}
use Rattle.html_render_dom_nodes.specs.Content.{Content, document}
use Rattle.html_render_dom_nodes.specs.Nodes.{Node, node_in, lone, node_of}
use Rattle.html_render_dom_nodes.specs.Edits.{attached, attached_new, created, with_children, with_parent}
use Rattle.html_render_dom_nodes.specs.laws.Nodes.{node_in-map}

-- writing the node m over n, with a value that is a change of n's value, makes that change in the vector's value
pub written : (items : List TheNode) (i : ℕ) (n m : TheNode) → i < length items → n ≡ slice_index_or items i n → (change : Node → Node) →
    node_of m ≡ change (node_of n) →
    map node_of (slice_set items i m) ≡ slice_set (map node_of items) i (change (node_in (map node_of items) i))
written items i n m h e change q = map-set node_of items i m ∙ ap (slice_set (map node_of items) i) (q ∙ ap change (sym (node_in-map items i n h e)))

-- writing a node with the old value leaves the vector's value unchanged
pub written-same : (items : List TheNode) (i : ℕ) (n m : TheNode) → i < length items → n ≡ slice_index_or items i n → node_of m ≡ node_of n →
    map node_of (slice_set items i m) ≡ map node_of items
written-same items i n m h e q = written items i n m h e (λ x. x) q ∙ set-get_or (map node_of items) i (lone document)

-- a new node as the last child of an old one: the old one's list can be written first
pub attached-created : (nodes : List Node) (c : Content) (p : ℕ) → p < length nodes →
    attached (created nodes c) p (length nodes)
    ≡ with_parent (created (with_children nodes p ((node_in nodes p).children ++ length nodes ∷ [])) c) (length nodes) (Some p)
attached-created nodes c p at =
    let n = length nodes in
    let read : node_in (created nodes c) p ≡ node_in nodes p = get_or_append_left nodes (lone c ∷ []) (lone document) p at in
    let cs = (node_in nodes p).children ++ n ∷ [] in
    let first : with_children (created nodes c) p ((node_in (created nodes c) p).children ++ n ∷ [])
    ≡ created (with_children nodes p cs) c =
    ap (λ m. slice_set (created nodes c) p (record m { children = m.children ++ n ∷ [] })) read
    ∙ set-append_left nodes (lone c ∷ []) p (record (node_in nodes p) { children = cs }) at in
    ap (λ ns. with_parent ns n (Some p)) first

-- a new node as the last child of an old one: the old one's list can be written first, and the new one with its parent
pub attached_new-named : (nodes : List Node) (c : Content) (p : ℕ) → p < length nodes →
    with_children nodes p ((node_in nodes p).children ++ length nodes ∷ []) ++ record { content = c; children = []; parent = Some p } ∷ []
    ≡ attached_new nodes c p
attached_new-named nodes c p at =
    let n = length nodes in
    let others = with_children nodes p ((node_in nodes p).children ++ n ∷ []) in
    let len : length others ≡ n = length-set nodes p (record (node_in nodes p) { children = (node_in nodes p).children ++ n ∷ [] }) in
    let named : Node = record { content = c; children = []; parent = Some p } in
    let read : node_in (created others c) (length others) ≡ lone c = get_or-append_seam others (lone c) [] (lone document) in
    let put : with_parent (created others c) (length others) (Some p) ≡ others ++ named ∷ [] =
    ap (λ m. slice_set (created others c) (length others) (record m { parent = Some p })) read ∙ set-append_seam others (lone c) [] named in
    sym put ∙ ap (λ k. with_parent (created others c) k (Some p)) len ∙ sym (attached-created nodes c p at)
