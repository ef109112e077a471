-- An element that closes over the results of its children gives its parent what it is defined to become.
use Rattle.std.proofs.Common.{◌≡◌, ℕ, Bool, true, false, not, ◌&&◌, ◌||◌, if◌then◌else◌, List, [], ◌∷◌, ◌++◌, length, map, Option, Some, None, option_map, refl, sym, ap, ◌∙◌, inl, inr, append_assoc, append-nil}
use Rattle.std.proofs.Math.Seq.{take-append-add, take-append_seam, drop-append-add, drop-append_seam}
use Rattle.std.proofs.Math.Bool.{and-false, and-true, or-false, or-true}
use Rattle.std.proofs.lemmas.Bool.{cases_Bool}
use Rattle.std.specs.Prelude.{filter, flat_map, option_to_list, unwrap_or, zip}
use Rattle.std.specs.List.{list_any}
use Rattle.html_render_dom_values.specs.Forest.{followed_by, none, node}
use Rattle.html_render_dom_values.specs.Outcome.{◌>>=◌}
use Rattle.html_render_dom_styles.specs.Selectors.{is_filled}
use Rattle.html_render_layout_nodes.specs.Kinds.{holds_insertions}
use Rattle.html_render_layout_nodes.specs.Preorder.{flatten}
use Rattle.html_render_layout_nodes.specs.RenderNodes.{no_style, without_style}
use Rattle.html_render_layout_nodes.specs.Tables.{TableParts, unmeasured_table}
use Rattle.html_render_layout_nodes.specs.declared.tree.NodeKind.{NodeKind}
use Rattle.html_render_layout_nodes.specs.declared.tree.NodeKind.TheVariants.{Container, FragmentStart, Link, TableCell, TableRow}
use Rattle.html_render_layout_nodes.specs.declared.tree.NodeStyle.{NodeStyle}
use Rattle.html_render_layout_nodes.specs.declared.tree.RenderNode.{RenderNode}
use Rattle.html_render_parts.specs.Grid.{grid_of}
use Rattle.html_render_parts.specs.TableCells.{CellGrid, cell_grid_of, cells_on}
use Rattle.html_render_parts.specs.declared.table.PlacedCell.{PlacedCell}
use Rattle.html_render_parts.specs.declared.table.Span.{Span}
use Rattle.html_render_tree_convert.specs.Conversion.{vanishes}
use Rattle.html_render_tree_convert.specs.Results.{Result, Role, alone, any_stray, beside, captioned, cell_of, has_stray, inserted, is_caption, left_of, level_in, made, over, row_of, spans_of, stands_alone, table_of, table_over}
use Rattle.html_render_tree_convert.specs.Results as role
use Rattle.html_render_tree_convert.specs.declared.mapping.ElementKind.{ElementKind}
use Rattle.html_render_tree_convert.specs.declared.mapping.ElementKind.TheVariants as element
use Rattle.html_render_tree_convert.specs.declared.mapping.IfEmpty.{IfEmpty}
use Rattle.html_render_tree_convert.specs.declared.mapping.IfEmpty.TheVariants.{Stands, Vanishes}
use Rattle.html_render_tree_convert.specs.declared.plans.Element.{Element}
use Rattle.html_render_tree_convert.specs.declared.tables.CellSpan.{CellSpan}
use Rattle.html_render_tree_convert.specs.declared.tables.Part.TheVariants as part
use Rattle.html_render_tree_convert.specs.Held.{Entries, Insertion, Nodes, all_alone, due_of, held_back, leaf, leaves, inserts, insertion_of, nothing, within}
use Rattle.html_render_tree_convert.specs.OpenElements.{OpenIn, State, created, innermost, outside}
use Rattle.html_render_tree_convert.specs.declared.elements.Open.{Open}
use Rattle.html_render_tree_convert.specs.Keeping.{keeping_of}
use Rattle.html_render_tree_convert.specs.declared.elements.OpenKind.{OpenKind}
use Rattle.html_render_tree_convert.specs.declared.elements.OpenKind.TheVariants as open_kind
use Rattle.html_render_tree_convert.specs.declared.kinds.Keeping.TheVariants.{Any}
use Rattle.html_render_tree_convert.specs.Steps.{Closed, all_parted, are_rows, begun, begun_node, begun_over, begun_with, caption_kind, closed, closed_once, come, emptied, given_back, held, is_captions, is_completed, left_by, mark_left, node_in, role_left}
use Rattle.html_render_tree_convert.proofs.Entries.{entries-within, filled, filled-nothing, filled-within, nodes-leaves, trees}
use Rattle.html_render_tree_convert.proofs.Coming.{all_come, all_come-append, as_block, at, closed_result, counted, kept, nodes_come, nodes_in, none-come, one-come, placed, results_come, strays, unless_taken, with_role}

-- results come into the innermost element of a state
abbrev pub results_over : List Result → State → State
results_over rs s = outside s.outer (all_come rs (innermost s))

-- the parent once an element of this result has closed
abbrev pub after_result : OpenIn → List Open → Option (Option Result) → Option State
after_result q ps made = option_map (λ r. outside ps (all_come (option_to_list r) q)) made

-- an element as one of a kind
abbrev pub of_kind : Element → ElementKind → Element
of_kind e k = record e { kind = k }

abbrev pub is_table_kind : ElementKind → Bool
is_table_kind (element.Part part.Table) = true
is_table_kind _ = false

-- a result that is no part of a table comes as it is
pub contents-come : (r : Result) (q : OpenIn) → come (Some (closed_result (with_role role.Contents r))) q ≡ all_come (with_role role.Contents r ∷ []) q
contents-come r q = one-come role.Contents q.element.kind r q

-- a mark that an element leaves
mark-comes : (mark : Option (List ℕ)) (q : OpenIn) →
    come (mark_left mark) q ≡ all_come (option_to_list (option_map (λ name. alone (without_style (FragmentStart name))) mark)) q
mark-comes None q = sym (none-come q)
mark-comes (Some name) q = contents-come (alone (without_style (FragmentStart name))) q

-- nodes without children before results: they have a result, their nodes precede, and no part of a table is among them
alone-filled : (ns : List RenderNode) (r : Result) (rs : List Result) → is_filled (all_alone ns ++ r ∷ rs) ≡ true
alone-filled [] r rs = refl
alone-filled (n ∷ ns) r rs = refl

alone-beside : (ns : List RenderNode) (rs : List Result) → beside (all_alone ns ++ rs) ≡ followed_by (trees ns) (beside rs)
alone-beside [] rs = refl
alone-beside (n ∷ ns) rs = ap (node n none) (alone-beside ns rs)

alone-strays : (ns : List RenderNode) (rs : List Result) → has_stray (all_alone ns ++ rs) ≡ has_stray rs
alone-strays [] rs = refl
alone-strays (n ∷ ns) rs = alone-strays ns rs

no-strays : (ns : List RenderNode) → has_stray (all_alone ns) ≡ false
no-strays [] = refl
no-strays (n ∷ ns) = no-strays ns

-- a result beside what an element inserts, in a container
abbrev in_container : Element → Result → Result
in_container e r = record (alone (without_style Container)) {
  has_children = true;
  is_stray = r.is_stray;
  below = filled 0 (insertion_of e) (node r.node r.below none);
}

container-inserted : (e : Element) (r : Result) → in_container e (with_role role.Contents r) ≡ inserted None e (with_role role.Contents r)
container-inserted e r = λ i. record (alone (without_style Container)) {
  has_children = sym (alone-filled (insertion_of e).front (with_role role.Contents r) (all_alone (insertion_of e).back)) i;
  is_stray = strays i;
  below = sym (alone-beside (insertion_of e).front (with_role role.Contents r ∷ all_alone (insertion_of e).back)) i;
}
  where
    strays : r.is_stray ≡ has_stray (all_alone (insertion_of e).front ++ with_role role.Contents r ∷ all_alone (insertion_of e).back)
    strays =
        sym (alone-strays (insertion_of e).front (with_role role.Contents r ∷ all_alone (insertion_of e).back)
        ∙ ap (λ b. (r.is_stray || false) || b) (no-strays (insertion_of e).back) ∙ or-false (r.is_stray || false) ∙ or-false r.is_stray)

-- an element that becomes nothing leaves its mark
left-comes : (e : Element) (v has_captions : Bool) (c : Closed) (r : Result) (p q : OpenIn) → (v ≡ true → p ≡ q) →
    come (Some c) p ≡ all_come (inserted (level_in e.kind (inserts e) has_captions) e r ∷ []) q →
    come (if v then mark_left e.texts.mark else Some c) p ≡ all_come (option_to_list (left_of e v has_captions r)) q
left-comes e true has_captions c r p q h k = ap (come (mark_left e.texts.mark)) (h refl) ∙ mark-comes e.texts.mark q
left-comes e false has_captions c r p q h k = k

-- an element closes in another, whose nodes end where its own begin
seam : (rs : List Result) (o : Open) (own : Entries) (q : OpenIn) (ps : List Open) → (let left = results_come rs (record o { start = length q.tree }) in
    closed_once (results_over rs (begun_with o own (outside ps q)))
    ≡ option_map (outside ps) (option_map (λ c. come c (record q { element = given_back left q.element })) (left_by left (own ++ flatten (nodes_come rs o)))))
seam rs o own q ps = simp (append_assoc, take-append_seam, drop-append_seam)

pub filter-all : {X : Type 0} (xs : List X) → filter (λ (x : X). true) xs ≡ xs
filter-all [] = refl
filter-all (x ∷ xs) = ap (λ l. x ∷ l) (filter-all xs)

any-all : {X : Type 0} (xs : List X) → list_any (λ (x : X). true) xs ≡ is_filled xs
any-all [] = refl
any-all (x ∷ xs) = refl

-- ---- nodes, cells and captions

-- a row over its cells
abbrev row_over : NodeStyle → (cells : List Result) → Result
row_over style cells =
    record (over style TableRow cells) { role = role.Row (flat_map (λ r. option_to_list (cell_of r.role)) cells); is_stray = any_stray cells }

-- rows beside each other
abbrev rows_over : (rows : List Result) → Result
rows_over rows =
    record (over no_style Container rows) { role = role.Rows (flat_map (λ r. option_to_list (row_of r.role)) rows); is_stray = any_stray rows }

-- an element that writes what it inserts itself, as a result
abbrev held_over : OpenKind → RenderNode → Insertion → (has_children : Bool) → List Result → Result
held_over k n i c rs = record {
  role = role_left k;
  node = n;
  has_children = c || is_filled (kept k rs);
  is_stray = strays k (kept k rs);
  below = filled 0 i (nodes_in k (kept k rs));
}

holder-left : (k : OpenKind) → is_completed k ≡ true → (rs : List Result) (n : RenderNode) (f : IfEmpty) (m : Option (List ℕ)) (i : Insertion) (c : Bool)
    (q : OpenIn) (ps : List Open) → closed_once (results_over rs (begun_over (created k (held_back m i.back) f c) n i.front (outside ps q)))
    ≡ Some (outside ps (come (if vanishes f (list_any (counted k) rs) then mark_left m else Some (closed_result (held_over k n i c rs))) q))
holder-left (open_kind.Parts spans) h rs n f m i c q ps = absurd (cc)
holder-left (open_kind.Rows rows) h rs n f m i c q ps = absurd (cc)
holder-left (open_kind.Row cells) h rs n f m i c q ps = absurd (cc)
holder-left k h rs n f m i c q ps = seam rs (created k (held_back m i.back) f c) (leaf n ∷ leaves i.front) q ps ∙ simp entries-within

holder-closes : (e : Element) (has_captions : Bool) (k : OpenKind) → is_completed k ≡ true → (rs : List Result) (n : RenderNode) (i : Insertion)
    (c : Bool) (q : OpenIn) (ps : List Open) (x r : Result) → {v : Bool} → vanishes e.if_empty (list_any (counted k) rs) ≡ v → held_over k n i c rs ≡ x →
    come (Some (closed_result x)) q ≡ all_come (inserted (level_in e.kind (inserts e) has_captions) e r ∷ []) q →
    closed_once (results_over rs (begun_over (created k (held_back e.texts.mark i.back) e.if_empty c) n i.front (outside ps q)))
    ≡ Some (outside ps (all_come (option_to_list (left_of e v has_captions r)) q))
holder-closes e has_captions k h rs n i c q ps x r {v} vanish same comes =
    holder-left k h rs n e.if_empty e.texts.mark i c q ps
    ∙ ap (λ b. Some (outside ps (come (if b then mark_left e.texts.mark else Some (closed_result (held_over k n i c rs))) q))) vanish
    ∙ ap (λ y. Some (outside ps (come (if v then mark_left e.texts.mark else Some (closed_result y)) q))) same
    ∙ ap (λ w. Some (outside ps w)) (left-comes e v has_captions (closed_result x) r q q (λ b. refl) comes)

-- a container that holds what an element inserts, as it opens in an open element
abbrev container_in : Element → RenderNode → OpenIn → OpenIn
container_in e n q = record {
  element = record (held (open_kind.Node Any) true e) { start = length q.tree };
  tree = q.tree ++ leaf n ∷ leaves (insertion_of e).front;
}

-- what an element becomes whose node keeps and counts results by its kind
made-node : (e : Element) (kind : NodeKind) (rs : List Result) → (let k = open_kind.Node (keeping_of kind) in
    Some (left_of (of_kind e (element.Node kind)) (vanishes e.if_empty (list_any (counted k) rs)) false (over e.style kind (kept k rs)))
    ≡ made (of_kind e (element.Node kind)) [] rs)
made-node e (Link target) rs = refl
made-node e kind rs =
    let node_over : Result = over e.style kind (kept (open_kind.Node (keeping_of kind)) rs) in
    ap (λ b. Some (left_of (of_kind e (element.Node kind)) (vanishes e.if_empty b) false node_over)) (any-all rs)

module _ (e : Element) (ps : List Open) (rs : List Result) where
  -- what is to be shown of an element of a kind that closes in an open element
  abbrev Closes : ElementKind → OpenIn → Type 0
  Closes kind q = closed (results_over rs (begun kind (of_kind e kind) (outside ps q))) ≡ after_result q ps (made (of_kind e kind) [] rs)

  module _ (kind : NodeKind) (q : OpenIn) where
    abbrev inside : Result
    inside = over e.style kind (kept (open_kind.Node (keeping_of kind)) rs)

    -- a container with the node in it
    abbrev container : IfEmpty → OpenIn
    container f = container_in (record e { if_empty = f }) (without_style Container) q

    stands : (f : IfEmpty) → closed_once (outside (q.element ∷ ps) (come (Some (closed_result inside)) (container f)))
        ≡ Some (outside ps (come (if vanishes f true then mark_left e.texts.mark else Some (closed_result (in_container e inside))) q))
    stands f =
        ap (λ w. closed_once (outside (q.element ∷ ps) w)) (contents-come inside (container f))
        ∙ holder-left (open_kind.Node Any) refl (inside ∷ []) (without_style Container) f e.texts.mark (insertion_of e) true q ps
        ∙ ap (λ x. Some (outside ps (come (if vanishes f true then mark_left e.texts.mark else Some (closed_result x)) q))) (simp or-false)

    comes : come (Some (closed_result (in_container e inside))) q ≡ all_come (inserted None e inside ∷ []) q
    comes = contents-come (in_container e inside) q ∙ ap (λ r. all_come (r ∷ []) q) (container-inserted e inside)

    beside-left : (f : IfEmpty) (b : Bool) → (not (inserts e) || holds_insertions kind) ≡ false →
        closed_once (outside (q.element ∷ ps) (come (if vanishes f b then mark_left None else Some (closed_result inside)) (container f)))
        ≡ Some (outside ps (all_come (option_to_list (left_of (of_kind e (element.Node kind)) (vanishes f b) false inside)) q))
    beside-left Stands b h = stands Stands ∙ rw h (ap (λ w. Some (outside ps w)) comes)
    beside-left Vanishes true h = stands Vanishes ∙ rw h (ap (λ w. Some (outside ps w)) comes)
    beside-left Vanishes false h =
        ap (λ w. closed_once (outside (q.element ∷ ps) w)) (sym (none-come (container Vanishes)))
        ∙ holder-left (open_kind.Node Any) refl [] (without_style Container) Vanishes e.texts.mark (insertion_of e) true q ps
        ∙ ap (λ w. Some (outside ps w)) (mark-comes e.texts.mark q)

    node-closes : (b : Bool) → (not (inserts e) || holds_insertions kind) ≡ b → (let node_element = of_kind e (element.Node kind) in
        closed (results_over rs (begun_node b kind node_element (outside ps q))) ≡ after_result q ps (made node_element [] rs))
    node-closes true h =
        holder-closes (of_kind e (element.Node kind)) false (open_kind.Node (keeping_of kind)) refl rs (node_in e.style kind) (insertion_of e) (inserts e) q ps
        (inserted (Some 0) e inside) inside refl refl (rw h (contents-come (inserted (Some 0) e inside) q))
        ∙ ap (after_result q ps) (made-node e kind rs)
    node-closes false h =
        ap (λ s. s >>= closed_once) (holder-left (open_kind.Node (keeping_of kind)) refl rs (node_in e.style kind) e.if_empty None nothing false
        (container e.if_empty) (q.element ∷ ps))
        ∙ simp (filled-nothing 0) (beside-left e.if_empty _ h ∙ ap (after_result q ps) (made-node e kind rs))

  abbrev caption : Result
  caption = record (over e.style Container rs) { role = role.Caption }

  caption-closes : (q : OpenIn) → Closes (element.Part part.Caption) q
  caption-closes q = let k = q.element.kind in
      holder-closes (of_kind e (element.Part part.Caption)) false open_kind.Caption refl rs (node_in e.style (caption_kind (is_captions k)))
      (insertion_of e) (inserts e) q ps (placed role.Caption k q.element.due (inserted (Some 0) e caption)) caption
      (ap (vanishes e.if_empty) (any-all rs)) (simp filter-all) (one-come role.Caption k (inserted (Some 0) e caption) q)

  -- ---- cells, rows and parts of a table: in their place they take what is due

  within-nothing : (i : Insertion) → within nothing i ≡ i
  within-nothing i = ap (λ b. record i { back = b }) (append-nil i.back)

  abbrev cell : CellSpan → Result
  cell span = inserted (Some 0) e (record (over e.style TableCell rs) { role = role.Cell span })

  cell-left : (span : CellSpan) (i : Insertion) (p w : OpenIn) {t : Nodes} → filled 0 i (beside rs) ≡ t → come (Some (closed_result (record (cell span) { below = t }))) p ≡ w →
      closed_once (results_over rs (begun_over (created (open_kind.Cell span) (held_back e.texts.mark i.back) Stands (inserts e)) (node_in e.style TableCell) i.front (outside ps p)))
      ≡ Some (outside ps w)
  cell-left span i p w same comes =
      let held : held_over (open_kind.Cell span) (node_in e.style TableCell) i (inserts e) rs ≡ record (cell span) { below = filled 0 i (beside rs) } = simp filter-all in
      holder-left (open_kind.Cell span) refl rs (node_in e.style TableCell) Stands e.texts.mark i (inserts e) p ps
      ∙ ap (λ x. Some (outside ps (come (Some (closed_result x)) p))) (held ∙ ap (λ t. record (cell span) { below = t }) same) ∙ ap (λ v. Some (outside ps v)) comes

  cell-closes : (span : CellSpan) (k : OpenKind) (q : OpenIn) → Closes (element.Part (part.Cell span)) (at k q)
  cell-closes span (open_kind.Row cells) q = let d = due_of q.element.due in
      cell-left span (within d (insertion_of e)) (record q { element = emptied (at (open_kind.Row cells) q).element }) _
      (filled-within 0 d (insertion_of e) (beside rs)) (one-come (role.Cell span) (open_kind.Row cells) (cell span) q)
  cell-closes span k q =
      cell-left span (within nothing (insertion_of e)) (at k q) _
      (ap (λ i. filled 0 i (beside rs)) (within-nothing (insertion_of e))) (one-come (role.Cell span) k (cell span) q)

  abbrev cells_in : Nodes
  cells_in = beside (kept (open_kind.Row []) rs)

  abbrev row : Result
  row = inserted (Some 1) e (row_over e.style (kept (open_kind.Row []) rs))

  row-left : (i : Insertion) (p w : OpenIn) {t : Nodes} → filled 1 i cells_in ≡ t → come (Some (closed_result (record row { below = t }))) p ≡ w →
      closed_once (results_over rs (begun_over (created (open_kind.Row []) (record { mark = e.texts.mark; own = i; given = nothing }) Stands false)
      (node_in e.style TableRow) [] (outside ps p))) ≡ Some (outside ps w)
  row-left i p w same comes =
      seam rs (created (open_kind.Row []) (record { mark = e.texts.mark; own = i; given = nothing }) Stands false) (leaf (node_in e.style TableRow) ∷ []) p ps
      ∙ ap (λ t. Some (outside ps (come (Some (closed_result (record row { below = t }))) p))) (ap (λ j. filled 1 j cells_in) (within-nothing i) ∙ same)
      ∙ ap (λ v. Some (outside ps v)) comes

  row-closes : (k : OpenKind) (q : OpenIn) → Closes (element.Part part.Row) (at k q)
  row-closes (open_kind.Rows rows) q = let d = due_of q.element.due in
      row-left (within d (insertion_of e)) (record q { element = emptied (at (open_kind.Rows rows) q).element }) _
      (filled-within 1 d (insertion_of e) cells_in) (one-come row.role (open_kind.Rows rows) row q)
  row-closes k q =
      row-left (within nothing (insertion_of e)) (at k q) _ (ap (λ i. filled 1 i cells_in) (within-nothing (insertion_of e))) (one-come row.role k row q)

  abbrev rows_in : Nodes
  rows_in = beside (kept (open_kind.Rows []) rs)

  abbrev rows : Result
  rows = rows_over (kept (open_kind.Rows []) rs)

  abbrev rows_open : Insertion → Open
  rows_open given = created (open_kind.Rows []) (record { mark = e.texts.mark; own = insertion_of e; given = given }) e.if_empty false

  rows-left : (given : Insertion) (p q : OpenIn) {t : Nodes} → (let back = record p { element = given_back (results_come rs (rows_open given)) p.element } in
      (vanishes e.if_empty (list_any (λ (r : Result). true) rs) ≡ true → back ≡ q) → filled 2 (within given (insertion_of e)) rows_in ≡ t →
      come (Some (closed_result (record rows { below = t }))) back ≡ all_come (inserted (Some 2) e rows ∷ []) q →
      closed_once (results_over rs (begun_with (rows_open given) [] (outside ps p))) ≡ after_result q ps (made (of_kind e (element.Part part.Body)) [] rs))
  rows-left given p q {t} vanished same comes =
      let back = record p { element = given_back (results_come rs (rows_open given)) p.element } in
      let v = vanishes e.if_empty (list_any (λ (r : Result). true) rs) in
      seam rs (rows_open given) [] p ps
      ∙ ap (λ u. Some (outside ps (come (if v then mark_left e.texts.mark else Some (closed_result (record rows { below = u }))) back))) same
      ∙ ap (λ w. Some (outside ps w)) (left-comes (of_kind e (element.Part part.Body)) v false (closed_result (record rows { below = t })) rows back q vanished comes)
      ∙ ap (λ b. Some (outside ps (all_come (option_to_list (left_of (of_kind e (element.Part part.Body)) (vanishes e.if_empty b) false rows)) q))) (any-all rs)

  -- a table gets back what no row took
  body-closes : (k : OpenKind) (q : OpenIn) → Closes (element.Part part.Body) (at k q)
  body-closes (open_kind.Parts spans) q =
      let d = q.element.due in
      let due = λ (own : Insertion). record q { element = record q.element { kind = open_kind.Parts spans; due = record d { own = own } } } in
      rows-left d.own (due nothing) (at (open_kind.Parts spans) q) (λ v. ap due (untaken e.if_empty rs v)) (filled-within 2 d.own (insertion_of e) rows_in)
      (ap (λ own. come (Some (closed_result (record rows { below = filled 2 d.own (filled 2 (insertion_of e) rows_in) }))) (due own)) (taken rows_in)
      ∙ one-come rows.role (open_kind.Parts spans) (inserted (Some 2) e rows) q)
    where
      untaken : (f : IfEmpty) (l : List Result) → vanishes f (list_any (λ (r : Result). true) l) ≡ true →
          unless_taken (beside (kept (open_kind.Rows []) l)) q.element.due.own ≡ q.element.due.own
      untaken f [] h = refl
      untaken Stands (x ∷ xs) h = absurd (cc)
      untaken Vanishes (x ∷ xs) h = absurd (cc)

      taken : (t : Nodes) → unless_taken t q.element.due.own ≡ unless_taken (filled 2 (insertion_of e) t) q.element.due.own
      taken none = refl
      taken (node n children others) = refl
  body-closes k q =
      rows-left nothing (at k q) (at k q) (λ v. refl) (ap (λ i. filled 2 i rows_in) (within-nothing (insertion_of e)))
      (one-come rows.role k (inserted (Some 2) e rows) q)

  pub closes : (kind : ElementKind) → is_table_kind kind ≡ false → (q : OpenIn) → Closes kind q
  closes (element.Node kind) h q = node-closes kind q (not (inserts e) || holds_insertions kind) refl
  closes (element.Part part.Table) h q = absurd (cc)
  closes (element.Part part.Body) h q = body-closes q.element.kind q
  closes (element.Part part.Row) h q = row-closes q.element.kind q
  closes (element.Part (part.Cell span)) h q = cell-closes span q.element.kind q
  closes (element.Part part.Caption) h q = caption-closes q

-- ---- tables

map-map : {X Y Z : Type 0} (f : Y → Z) (g : X → Y) (o : Option X) → option_map f (option_map g o) ≡ option_map (λ x. f (g x)) o
map-map f g None = refl
map-map f g (Some x) = refl

any-filter : {X : Type 0} (f g : X → Bool) (xs : List X) → list_any (λ x. f x && g x) xs ≡ list_any f (filter g xs)
any-filter f g [] = refl
any-filter f g (x ∷ xs) = elim (cases_Bool (g x)) [
  | inl h ↦ rw (h, and-true, any-filter f g xs)
  | inr h ↦ rw (h, and-false, any-filter f g xs)
]

-- results of parts of a table
abbrev parts : List Result → List Result
parts rs = kept (open_kind.Parts []) rs

-- own cells of rows on a grid
abbrev with_cells : List (List Span) → List ℕ × List (List PlacedCell) → CellGrid
with_cells rows g = record { edges = g.0; rows = map (λ (x : List PlacedCell × List Span). cells_on g.0 x.0 x.1) (zip g.1 rows) }

abbrev grid_over : List Result → Option TableParts
grid_over rs = option_map unmeasured_table (cell_grid_of (flat_map (λ r. unwrap_or (spans_of r.role) []) (parts rs)))

parts-left : (style : NodeStyle) (f : IfEmpty) (m : Option (List ℕ)) (i : Insertion) (c : Bool) (rs : List Result) (q : OpenIn) (ps : List Open) →
    closed_once (results_over rs (begun_over (created (open_kind.Parts []) (record { mark = m; own = i; given = nothing }) f c) (node_in style Container) [] (outside ps q)))
    ≡ option_map (λ g. outside ps (come (if vanishes f (list_any (λ r. r.has_children) (parts rs)) then mark_left m
    else Some (closed_result (record (table_over style g (parts rs)) { below = filled 2 i (beside (parts rs)) }))) q)) (grid_over rs)
parts-left style f m i c rs q ps =
    seam rs (created (open_kind.Parts []) (record { mark = m; own = i; given = nothing }) f c) (leaf (node_in style Container) ∷ []) q ps
    ∙ simp map-map
    (ap (λ b. option_map (λ g. outside ps (come (if vanishes f b then mark_left m
    else Some (closed_result (record (table_over style (unmeasured_table (with_cells (flat_map (λ r. unwrap_or (spans_of r.role) []) (parts rs)) g)) (parts rs))
    { below = filled 2 i (beside (parts rs)) }))) q)) (grid_of (flat_map (λ r. unwrap_or (spans_of r.role) []) (parts rs))))
    (any-filter (λ r. r.has_children) (λ r. are_rows r.role) rs))

any-map : {X Y : Type 0} (p : Y → Bool) (f : X → Y) (xs : List X) → list_any p (map f xs) ≡ list_any (λ x. p (f x)) xs
any-map p f [] = refl
any-map p f (x ∷ xs) = ap (λ b. p (f x) || b) (any-map p f xs)

module _ (e : Element) (q : OpenIn) (ps : List Open) where
  abbrev pub table : Element
  table = of_kind e (element.Part part.Table)

  -- a table as it opens: a container for captions
  abbrev around : OpenIn
  around = container_in e (node_in e.style Container) q

  abbrev pub table_begun : OpenIn
  table_begun = at open_kind.Captions around

  -- and once captions have come, as blocks
  abbrev pub captions_open : List Result → OpenIn
  captions_open c = at open_kind.Captions (all_come (map as_block c) around)

  pub captions-come : (cs : List Result) → all_come cs table_begun ≡ captions_open (kept open_kind.Captions cs)
  captions-come cs = simp (any-filter (λ (r : Result). true) (λ r. is_caption r.role), any-map, filter-all)

  -- without captions the container becomes the table
  alone-parted : all_parted (outside (q.element ∷ ps) (captions_open []))
      ≡ begun_over (created (open_kind.Parts []) (record { mark = e.texts.mark; own = insertion_of e; given = nothing }) e.if_empty true)
      (node_in e.style Container) [] (outside ps q)
  alone-parted = simp (append-nil, take-append-add, drop-append-add, nodes-leaves)

  alone-closes : (l : List Result) (grid : Option TableParts) →
      option_map (λ g. outside ps (come (if vanishes e.if_empty (list_any (λ r. r.has_children) (parts l)) then mark_left e.texts.mark
      else Some (closed_result (record (table_over e.style g (parts l)) { below = filled 2 (insertion_of e) (beside (parts l)) }))) q)) grid
      ≡ after_result q ps (option_map (left_of table (vanishes e.if_empty (list_any (λ r. r.has_children) (parts l))) false) (do
        g ← grid
        Some (table_over e.style g (parts l))))
  alone-closes l None = refl
  alone-closes l (Some g) =
      ap (λ x. Some (outside ps x)) (left-comes table _ false _ (table_over e.style g (parts l)) q q (λ v. refl) (contents-come (inserted (Some 2) e (table_over e.style g (parts l))) q))

  -- with captions the table opens in the container
  abbrev container_over : List Result → Result
  container_over rs = record (over e.style Container rs) { has_children = true }

  container-closes : (x : Result) (xs more : List Result) → closed_once (outside (q.element ∷ ps) (all_come more (all_come (map as_block (x ∷ xs)) around)))
      ≡ Some (outside ps (all_come (option_to_list (left_of table (vanishes e.if_empty true) true (container_over (map as_block (x ∷ xs) ++ more)))) q))
  container-closes x xs more = let rs = map as_block (x ∷ xs) ++ more in
      ap (λ w. closed_once (outside (q.element ∷ ps) w)) (all_come-append (map as_block (x ∷ xs)) more around)
      ∙ holder-closes table true (open_kind.Node Any) refl rs (node_in e.style Container) (insertion_of e) true q ps (inserted (Some 0) e (container_over rs))
      (container_over rs) refl (held-any rs) (contents-come (inserted (Some 0) e (container_over rs)) q)
    where
      held-any : (rs : List Result) →
          held_over (open_kind.Node Any) (node_in e.style Container) (insertion_of e) true rs ≡ inserted (Some 0) e (container_over rs)
      held-any rs = simp (filter-all, or-true)

  captioned-closes : (x : Result) (xs l : List Result) (b : Bool) (grid : Option TableParts) → (let open_in = all_come (map as_block (x ∷ xs)) around in
      (option_map (λ g. outside (q.element ∷ ps) (come (if vanishes Vanishes b then mark_left None
      else Some (closed_result (record (table_over no_style g l) { below = filled 2 nothing (beside l) }))) open_in)) grid >>= closed_once)
      ≡ after_result q ps (option_map (left_of table (vanishes e.if_empty true) true) (do
        g ← grid
        Some (container_over (map as_block (x ∷ xs) ++ (if b then table_over no_style g l ∷ [] else []))))))
  captioned-closes x xs l b None = refl
  captioned-closes x xs l true (Some g) = let open_in = all_come (map as_block (x ∷ xs)) around in
      ap (λ t. closed_once (outside (q.element ∷ ps) (come (Some (closed_result (record (table_over no_style g l) { below = t }))) open_in))) (filled-nothing 2 (beside l))
      ∙ ap (λ w. closed_once (outside (q.element ∷ ps) w)) (contents-come (table_over no_style g l) open_in)
      ∙ container-closes x xs (table_over no_style g l ∷ [])
  captioned-closes x xs l false (Some g) =
      ap (λ w. closed_once (outside (q.element ∷ ps) w)) (sym (none-come (all_come (map as_block (x ∷ xs)) around))) ∙ container-closes x xs []

  pub table-closes : (c l : List Result) → closed (results_over l (all_parted (outside (q.element ∷ ps) (captions_open c)))) ≡ after_result q ps (made table c l)
  table-closes [] l =
      ap (λ s. closed (results_over l s)) alone-parted
      ∙ parts-left e.style e.if_empty e.texts.mark (insertion_of e) true l q ps
      ∙ alone-closes l (grid_over l)
  table-closes (x ∷ xs) l =
      ap (λ s. s >>= closed_once) (parts-left no_style Vanishes None nothing false l (all_come (map as_block (x ∷ xs)) around) (q.element ∷ ps))
      ∙ captioned-closes x xs (parts l) (list_any (λ r. r.has_children) (parts l)) (grid_over l)
