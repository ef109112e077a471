-- The rest of a dump after each step.
use Rattle.std.proofs.Common.{◌≡◌, ℕ, ◌<◌, ◌≤◌, ◌+◌, ◌-◌, ◌*◌, List, [], ◌∷◌, ◌++◌, length, drop, slice_index_or, Option, Result, Ok, Err, OnOk, All, Bool, Contains, refl, sym, ap, ◌∙◌, subst, arith, append_assoc}
use Rattle.std.proofs.lemmas.List.{append-nil, at_drop_more}
use Rattle.std.proofs.lemmas.List.Elements.{All-push, Contains-get_or}
use Rattle.std.proofs.lemmas.List.Sums.{sum_by-append}
use Rattle.html_render_dom.specs.declared.dom.dump.Frame.{Frame}
use Rattle.html_render_dom_nodes.specs.Content.{Content, Name, Property, document, comment, element, instruction}
use Rattle.html_render_dom_values.specs.Forest.{Forest, none, node, count, depth}
use Rattle.html_render_dom.specs.Dom.{Dom, node_count, IsNode, content_at, children_at, trees_of, tree_of, IsForest}
use Rattle.html_render_dom.specs.laws.Trees.{trees_of-cons}
use Rattle.html_render_dom.specs.Dump.{dump, start_line, end_line}
use Rattle.html_render_dom.specs.Frames.{left_of, closing_line, rest_of, rest, FrameFits, Starts, steps_of, steps}

-- the dump of a forest is the dump of its first tree, then that of the others
pub dump-beside : (i : ℕ) (c : Content) (k b : Forest Content) → dump i (node c k b) ≡ dump i (node c k none) ++ dump i b
dump-beside i (comment contents) k b = refl
dump-beside i (instruction target contents) k b = refl
dump-beside i c k b = rw append-nil refl

pub rest-push : (dom : Dom) (fs : List Frame) (f : Frame) → rest dom (fs ++ f ∷ []) ≡ rest_of dom f ++ rest dom fs
rest-push dom [] f = sym (append-nil (rest_of dom f))
rest-push dom (g ∷ fs) f = ap (λ r. r ++ rest_of dom g) (rest-push dom fs f) ∙ append_assoc (rest_of dom f) (rest dom fs) (rest_of dom g)

pub steps-push : (dom : Dom) (fs : List Frame) (f : Frame) → steps dom (fs ++ f ∷ []) ≡ steps dom fs + steps_of dom f
steps-push dom fs f = let e = sum_by-append (steps_of dom) fs (f ∷ []) in omega (arith, e)

-- an open node after the start of its next child
abbrev pub after_child : Frame → Frame
after_child f = record { node = f.node; passed = f.passed + 1; indent = f.indent }

pub tree-node : (dom : Dom) → IsForest dom → (h : ℕ) → IsNode dom h → tree_of dom h ≡ node (content_at dom h) (trees_of dom (children_at dom h)) none
tree-node dom f h at = trees_of-cons dom f h [] at

pub left-child : (dom : Dom) → IsForest dom → (f : Frame) (x : ℕ) → f.passed < length (children_at dom f.node) →
    x ≡ slice_index_or (children_at dom f.node) f.passed x → IsNode dom x →
    left_of dom f ≡ node (content_at dom x) (trees_of dom (children_at dom x)) (left_of dom (after_child f))
left-child dom g f x lt e at =
    let xs = children_at dom f.node in
    at_drop_more (trees_of dom) xs f.passed x lt ∙ ap (λ y. trees_of dom (y ∷ drop (f.passed + 1) xs)) (sym e)
    ∙ trees_of-cons dom g x (drop (f.passed + 1) xs) at

pub rest-child : (dom : Dom) → IsForest dom → (f : Frame) (x : ℕ) → f.passed < length (children_at dom f.node) →
    x ≡ slice_index_or (children_at dom f.node) f.passed x → IsNode dom x →
    rest_of dom f ≡ dump f.indent (tree_of dom x) ++ rest_of dom (after_child f)
rest-child dom g f x lt e at =
    let kids = trees_of dom (children_at dom x) in
    let c = content_at dom x in
    let later = left_of dom (after_child f) in
    let ending = closing_line f.indent (content_at dom f.node) in
    ap (λ t. dump f.indent t ++ ending) (left-child dom g f x lt e at) ∙ ap (λ d. d ++ ending) (dump-beside f.indent c kids later)
    ∙ append_assoc (dump f.indent (node c kids none)) (dump f.indent later) ending
    ∙ ap (λ t. dump f.indent t ++ (dump f.indent later ++ ending)) (sym (tree-node dom g x at))

-- an open node without a started child
abbrev pub fresh_frame : (h indent : ℕ) → Frame
fresh_frame h indent = record { node = h; passed = 0; indent = indent }

by_content : (dom : Dom) → IsForest dom → (h indent : ℕ) (c : Content) → IsNode dom h → content_at dom h ≡ c →
    dump indent (tree_of dom h) ≡ dump indent (node c (trees_of dom (children_at dom h)) none)
by_content dom f h indent c at e = ap (dump indent) (tree-node dom f h at)
    ∙ ap (λ x. dump indent (node x (trees_of dom (children_at dom h)) none)) e

pub dump-document : (dom : Dom) → IsForest dom → (h indent : ℕ) → IsNode dom h → content_at dom h ≡ document →
    dump indent (tree_of dom h) ≡ rest_of dom (fresh_frame h indent)
dump-document dom f h indent at e = by_content dom f h indent document at e
    ∙ ap (λ c. dump indent (trees_of dom (children_at dom h)) ++ closing_line indent c) (sym e)

pub dump-element : (dom : Dom) → IsForest dom →
    (h indent : ℕ) (name : Name) (properties : List Property) (template_contents : Option ℕ) (point : Bool) → IsNode dom h →
    content_at dom h ≡ element name properties template_contents point →
    dump indent (tree_of dom h) ≡ start_line indent name.local ++ rest_of dom (fresh_frame h (indent + 1))
dump-element dom f h indent name properties template_contents point at e =
    let c = element name properties template_contents point in
    let kids = dump (indent + 1) (trees_of dom (children_at dom h)) in
    let less : indent + 1 - 1 ≡ indent = omega arith in
    by_content dom f h indent c at e ∙ append-nil (start_line indent name.local ++ (kids ++ end_line indent name.local))
    ∙ ap (λ i. start_line indent name.local ++ (kids ++ end_line i name.local)) (sym less)
    ∙ ap (λ x. start_line indent name.local ++ (kids ++ closing_line (indent + 1) x)) (sym e)

-- the next child of an open node is a node
pub child-facts : (dom : Dom) → IsForest dom → (f : Frame) (xs : List ℕ) (x : ℕ) → xs ≡ children_at dom f.node → f.passed < length xs →
    x ≡ slice_index_or xs f.passed x →
    (f.passed < length (children_at dom f.node)) × (x ≡ slice_index_or (children_at dom f.node) f.passed x) × IsNode dom x
child-facts dom g f xs x e lt at =
    let lt' : f.passed < length (children_at dom f.node) = omega (arith, lt, ap length e) in
    let at' : x ≡ slice_index_or (children_at dom f.node) f.passed x = subst (λ ys. x ≡ slice_index_or ys f.passed x) e at in (
      lt',
      at',
      g.child_is_node f.node x
          (subst (Contains (children_at dom f.node)) (sym at') (Contains-get_or (children_at dom f.node) f.passed x lt')),
    )

pub fits-after : (dom : Dom) → IsForest dom → (f : Frame) (x : ℕ) →
    (f.passed < length (children_at dom f.node)) × (x ≡ slice_index_or (children_at dom f.node) f.passed x) × IsNode dom x →
    FrameFits dom f → FrameFits dom (after_child f)
fits-after dom g f x p h = let e = ap depth (left-child dom g f x p.0 p.1 p.2) in (h.0, omega (arith, e, h.1))

-- with the dump of its next child, an open node's rest is that of the frame pushed for it again
pub stepped : (dom : Dom) → IsForest dom → (f : Frame) (x : ℕ) →
    (f.passed < length (children_at dom f.node)) × (x ≡ slice_index_or (children_at dom f.node) f.passed x) × IsNode dom x →
    (out : List ℕ) (fs fs' : List Frame) → fs' ≡ fs ++ after_child f ∷ [] →
    out ++ (dump f.indent (tree_of dom x) ++ rest dom fs') ≡ out ++ (rest_of dom f ++ rest dom fs)
stepped dom g f x p out fs fs' e =
    let d = dump f.indent (tree_of dom x) in
    let pushed = ap (rest dom) e ∙ rest-push dom fs (after_child f) in
    ap (λ r. out ++ (d ++ r)) pushed
    ∙ ap (λ r. out ++ r) (sym (append_assoc d (rest_of dom (after_child f)) (rest dom fs))
    ∙ ap (λ r. r ++ rest dom fs) (sym (rest-child dom g f x p.0 p.1 p.2)))

-- writing the start a of a node and pushing a frame for its children adds the node's dump, if that is a and the rest of the frame
pub opened : {X E : Type 0} (result : Result X E) (dom : Dom) → IsForest dom → (h indent i : ℕ) → IsNode dom h → i ≤ indent + 1 →
    indent + depth (tree_of dom h) ≤ node_count dom → (out out' a : List ℕ) (fs fs' : List Frame) → All (FrameFits dom) fs → out' ≡ out ++ a →
    dump indent (tree_of dom h) ≡ a ++ rest_of dom (fresh_frame h i) → OnOk result (fs' ≡ fs ++ fresh_frame h i ∷ []) →
    Starts result dom out out' (dump indent (tree_of dom h)) fs fs' (2 * count (tree_of dom h))
opened (Err error) dom g h indent i at le fits out out' a fs fs' all e d made = record { text = tt; fit = tt; fewer = tt }
opened (Ok x) dom g h indent i at le fits out out' a fs fs' all e d made =
    let f = fresh_frame h i in
    let pushed = ap (rest dom) made ∙ rest-push dom fs f in
    let tree = tree-node dom g h at in
    let deep = ap depth tree in
    let counted = ap count tree in
    let more = ap (steps dom) made ∙ steps-push dom fs f in
    record {
      text = ap (λ o. o ++ rest dom fs') e ∙ ap (λ r. (out ++ a) ++ r) pushed ∙ append_assoc out a (rest_of dom f ++ rest dom fs)
          ∙ ap (λ r. out ++ r) (sym (append_assoc a (rest_of dom f) (rest dom fs)) ∙ ap (λ x. x ++ rest dom fs) (sym d));
      fit = rw made (All-push (FrameFits dom) fs f all (at, omega (arith, deep, fits, le)));
      fewer = omega (arith, counted, more);
    }
