-- A layout loses no visible character of the texts that it visits, and restores the treatment of texts and the decorator.
use Rattle.std.specs.Fmt.{decimal}
use Rattle.std.specs.Option.{option_map_or}
use Rattle.std.specs.Str.{chars}
use Rattle.std.proofs.Common.{◌≡◌, ℕ, ◌+◌, ◌≤◌, ◌==◌, false, List, [], ◌∷◌, ◌++◌, length, codes, Option, Some, None, option_and_then}
use Rattle.std.proofs.Common.{IfSome, map, refl, ap, sym, ◌∙◌, subst, arith}
use Rattle.std.specs.Prelude.{flat_map, sum_by, not, ◌&&◌, if◌then◌else◌}
use Rattle.std.proofs.lemmas.List.Concat.{flat_map-append}
use Rattle.std.proofs.lemmas.List.Sums.{sum_by-cons, sum_by-append}
use Rattle.std.proofs.lemmas.Option.{IfSome_then}
use Rattle.html_render_dom_values.specs.Forest.{Forest, none, node}
use Rattle.html_render_dom_values.specs.declared.white_space.WhiteSpace.TheVariants.{Normal}
use Rattle.html_render_parts.specs.Decoration.{Decoration}
use Rattle.html_render_layout_lines.specs.Character.{is_collapsible}
use Rattle.html_render_layout_lines.specs.Line.{Line}
use Rattle.html_render_layout_lines.specs.Visible.{if_visible, visible_in_lines}
use Rattle.html_render_layout_lines.specs.laws.Cases.{bind_some, map_if, if_cases}
use Rattle.html_render_layout_nodes.specs.declared.tree.Estimate.{Estimate}
use Rattle.html_render_layout_nodes.specs.declared.tree.NodeKind.{NodeKind}
use Rattle.html_render_layout_nodes.specs.declared.tree.NodeKind.TheVariants.{Text}
use Rattle.html_render_layout_nodes.specs.declared.tree.RenderNode.{RenderNode}
use Rattle.html_render_layout_nodes.specs.Visits.{NodePlace, Bare, Skipped, Within, is_skipped, Places, bare, Visit, Leaf, Inner, through_visit, inside, followed}
use Rattle.html_render_layout_nodes.specs.Visits.{placed, run_at, run, nodes_at}
use Rattle.html_render_layout_nodes.specs.laws.Visits.{from, from_state}
use Rattle.html_render_layout_blocks.specs.declared.block.BlockSetting.{BlockSetting}
use Rattle.html_render_layout_blocks.specs.Definition as definition
use Rattle.html_render_layout_blocks.specs.Definition.{DefinedBlock}
use Rattle.html_render_layout_blocks.specs.Ends.{ended_by}
use Rattle.html_render_layout_blocks.specs.Visible.{visible_in_text}
use Rattle.html_render_layout_blocks.specs.laws.BlockVisible.{any, text_count, visible_count, operations_keep_visible, finish_count, closing_count}
use Rattle.html_render_layout_pictures.specs.Visible.{count}
use Rattle.html_render_layout_pictures.specs.laws.Lines.{count-append}
use Rattle.html_render_layout_blocks.specs.laws.Operations.{Counts}
use Rattle.html_render_layout.specs.Layout.{OwnBlock}
use Rattle.html_render_layout.specs.Layout.{Shared, Prefixed, Indented}
use Rattle.html_render_layout.specs.declared.state.LayoutState.{LayoutState}
use Rattle.html_render_layout_estimates.specs.declared.settings.LayoutSettings.{LayoutSettings}
use Rattle.html_render_layout.specs.Kept.{visited_nodes, KeepsTexts}
use Rattle.html_render_layout.specs.Layout.{Algebra, kind_text, Step, Write, WriteNumber, Annotate, Treat, Strike, Unstrike, Restore, NewLine, NewLineHard}
use Rattle.html_render_layout.specs.Layout.{StartBlock, EndBlock, Fence, BeginTable, EndTable, AddTarget, AddMark}
use Rattle.html_render_layout.specs.Layout.{Shape, Steps, Around, Items, Cells, block_of, shape_of, style_steps}
use Rattle.html_render_layout.specs.Layout.{spaces, annotated, struck, on_block, text_style, write, perform, perform_all, nested, joined, place_in, appended_block}
use Rattle.html_render_layout.specs.Layout.{block_place, cell_place, shape_layout, kind_layout, layout_of, Defined, by_stacks, empty_state, estimated, layout_lines}
use Rattle.html_render_layout.specs.Ending.{closing_texts}

-- characters of a text; none for any other kind of node
abbrev node_characters : NodeKind → List ℕ
node_characters kind = option_map_or chars (kind_text kind) []

-- v counts in a block, and w in a text. Adding a text adds at least its count, and no operation lowers a count. w counts no
-- less in a struck-out text than in the text.
module _ {S A K T B : Type 0} (m : Algebra S A K T B) (v : B → ℕ) (w : List ℕ → ℕ) (h : Counts v w m.operations) (empty : w [] ≡ 0)
    (no_less : (cs : List ℕ) → w cs ≤ w (struck cs)) where
  abbrev State : Type 0
  State = LayoutState S K T B

  -- counts of a state, and of a node
  abbrev pub counted : State → ℕ
  counted s = v s.block

  abbrev pub node_count : RenderNode → ℕ
  node_count n = w (node_characters n.kind)

  -- whether the decorator is d and the count is at least n
  abbrev Has : S → ℕ → State → Type 0
  Has d n r = (r.decorator ≡ d) × (n ≤ counted r)

  -- whether the treatment of texts and the decorator are those of s, and the count is at least n
  abbrev Left : State → ℕ → State → Type 0
  Left s n r = (r.text ≡ s.text) × Has s.decorator n r

  -- whether f keeps the decorator, and lowers no count
  abbrev Keeps : (State → Option State) → Type 0
  Keeps f = (d : S) (n : ℕ) (r : State) → Has d n r → IfSome (f r) (Has d n)

  on_block-keeps : (f : B → Option B) → ((b : B) → IfSome (f b) (λ c. v b ≤ v c)) → Keeps (on_block f)
  on_block-keeps f k d n r a = map_if _ _ _ (f r.block) (k r.block) (λ c p. (a.0, omega (arith, a.1, p)))

  write-count : (cs : List ℕ) (d : S) (n : ℕ) (r : State) → Has d n r → IfSome (write m cs r) (Has d (n + w cs))
  write-count cs d n r a =
      let style = (text_style m r.decorator r.stacks r.text r.text.preformatted).1 in
      map_if _ _ _ (m.operations.add_inline_text r.block style (if r.text.struck_out then struck cs else cs)) (h.add_inline_text _ _ _) (λ c e.
      (a.0, omega (arith, a.1, e, if_cases (λ l. w cs ≤ w l) r.text.struck_out (struck cs) cs (λ _. no_less cs) (λ _. omega arith))))

  write-keeps : (cs : List ℕ) → Keeps (write m cs)
  write-keeps cs d n r a = IfSome_then (write m cs r) (write-count cs d n r a) (λ q b. (b.0, omega (arith, b.1)))

  step-keeps : (b : State) (x : Step S A) → Keeps (perform m b x)
  step-keeps b (Write text) d n r a = write-keeps (text r.decorator) d n r a
  step-keeps b WriteNumber d n r a =
      if_cases (λ x. IfSome x (Has d n)) r.settings.link_footnotes _ _
      (λ _. write-keeps (chars (codes "[" ++ decimal (length b.targets + 1) ++ codes "]")) d n r a) (λ _. a)
  step-keeps b NewLine d n r a = on_block-keeps m.operations.new_line h.new_line d n r a
  step-keeps b NewLineHard d n r a = on_block-keeps m.operations.new_line_hard h.new_line_hard d n r a
  step-keeps b StartBlock d n r a = on_block-keeps m.operations.start_block h.start_block d n r a
  step-keeps b Fence d n r a =
      let text : B → Option B = λ b. m.operations.add_inline_text b (record { mode = Normal; tag = r.blank; continuation_tag = r.blank }) (codes "```") in
      if_cases (λ x. IfSome x (Has d n)) (r.settings.fence_tables && not r.in_table) _ _
      (λ _. bind_some _ _ _ (on_block text r) (on_block-keeps text (λ b. IfSome_then (text b) (h.add_inline_text b _ _) (λ c e. omega (arith, e))) d n r a)
      (on_block-keeps m.operations.new_line h.new_line d n)) (λ _. a)
  step-keeps b (BeginTable grid needs) d n r a =
      let begin : B → Option B = λ t. m.operations.begin_table t r.blank r.settings.table_borders r.settings.raw_mode grid needs in
      map_if _ _ _ (on_block begin r) (on_block-keeps begin (λ t. h.begin_table t _ _ _ _ _) d n r a) (λ q e. e)
  step-keeps b (Annotate annotation) d n r a = elim (annotation r.decorator) as (λ o. Has d n (annotated m o r)) [ None ↦ a | Some x ↦ a ]
  step-keeps b (Treat mode preformatted) d n r a = a
  step-keeps b Strike d n r a = a
  step-keeps b Unstrike d n r a = a
  step-keeps b Restore d n r a = a
  step-keeps b EndBlock d n r a = (a.0, omega (arith, a.1, h.end_block r.block))
  step-keeps b EndTable d n r a = (a.0, omega (arith, a.1, h.end_table r.block))
  step-keeps b (AddTarget target) d n r a = a
  step-keeps b (AddMark name) d n r a = (a.0, omega (arith, a.1, h.add_mark r.block (length r.names)))

  steps-keep : (b : State) (xs : List (Step S A)) → Keeps (perform_all m b xs)
  steps-keep b [] d n r a = a
  steps-keep b (x ∷ []) d n r a = step-keeps b x d n r a
  steps-keep b (x ∷ (y ∷ xs)) d n r a = bind_some _ _ _ (perform m b x r) (step-keeps b x d n r a) (steps-keep b (y ∷ xs) d n)

  -- whether f, of a state in a sub-block of s, keeps the treatment of texts, restores the decorator of s, and adds both
  -- counts
  abbrev Joins : State → (State → Option State) → Type 0
  Joins s f = (r : State) → IfSome (f r) (λ t. (t.text ≡ r.text) × Has s.decorator (counted s + counted r) t)

  appended-joins : (s : State) (prefix : List ℕ) (columns : ℕ) →
      Joins s (joined m (λ b c. m.operations.append b c s.text.tag (chars prefix) (spaces columns)) s)
  appended-joins s prefix columns r = map_if _ _ _ (m.operations.append s.block r.block _ _ _) (h.append _ _ _ _ _) (λ b a. (refl, (refl, a)))

  block-joins : (s : State) (prefix : List ℕ) → Joins s (joined m (appended_block m s.text.tag prefix) s)
  block-joins s prefix r =
      map_if (λ b. counted s + counted r ≤ v b) _ _ (appended_block m s.text.tag prefix s.block r.block)
      (map_if _ _ _ (m.operations.append s.block r.block s.text.tag (chars prefix) (chars prefix)) (h.append _ _ _ _ _)
      (λ c a. omega (arith, a, h.end_block c))) (λ b a. (refl, (refl, a)))

  -- whether a place keeps the treatment of texts of s and lowers no count
  abbrev PlaceAdds : State → NodePlace State → Type 0
  PlaceAdds s Bare = Unit {0}
  PlaceAdds s (Skipped t) = Left s (counted s) t
  PlaceAdds s (Within before after) = IfSome before (λ q. (q.text ≡ s.text) × Joins s after)

  abbrev PlacesAdd : Places State → Type 0
  PlacesAdd places = (number : ℕ) (s : State) → PlaceAdds s (places number s)

  -- whether P holds after a visit, of the count that the children add
  abbrev Adds : (ℕ → State → Type 0) → Visit State → Type 0
  Adds P (Leaf behind) = IfSome behind (P 0)
  Adds P (Inner before places after) =
      IfSome before (λ q. (k : ℕ) (r : State) → Has q.decorator (counted q + k) r → IfSome (after r) (P k)) × PlacesAdd places

  followed-adds : (P Q : ℕ → State → Type 0) (l : Visit State) (next : State → Option State) →
      ((i : ℕ) (r : State) → P i r → IfSome (next r) (Q i)) → Adds P l → Adds Q (followed l next)
  followed-adds P Q (Leaf behind) next so a = bind_some (P 0) (Q 0) next behind a (so 0)
  followed-adds P Q (Inner before places after) next so a =
      (IfSome_then before a.0 (λ q f i r b. bind_some (P i) (Q i) next (after r) (f i r b) (so i)), a.1)

  -- whether a visit of each state restores the decorator, and adds what the children add
  abbrev Grows : (State → Visit State) → Type 0
  Grows visit = (q : State) (n : ℕ) → n ≤ counted q → Adds (λ i. Has q.decorator (n + i)) (visit q)

  -- a visit in a sub-block of s
  inside-adds : (s : State) (n : ℕ) → n ≤ counted s → (before : Option State) (after : State → Option State) (visit : State → Visit State) →
      Joins s after → Grows visit → Adds (λ i. Has s.decorator (n + i)) (placed (Within before after) visit s)
  inside-adds s n le None after visit k grows = tt
  inside-adds s n le (Some q) after visit k grows =
      followed-adds (λ i. Has q.decorator (counted q + i)) (λ i. Has s.decorator (n + i)) (visit q) after
      (λ i r a. IfSome_then (after r) (k r) (λ t b. (b.1.0, omega (arith, le, a.1, b.1.1)))) (grows q (counted q) (omega arith))

  -- a visit in a sub-block of a state that is reached from s
  reached-adds : (s : State) (n : ℕ) (o : Option State) → IfSome o (Has s.decorator n) → (before : State → Option State)
      (after : State → State → Option State) (visit : State → Visit State) → ((q : State) → Joins q (after q)) → Grows visit →
      Adds (λ i. Has s.decorator (n + i)) (placed (place_in m (λ q. Within (before q) (after q)) o) visit s)
  reached-adds s n None k before after visit joins grows = tt
  reached-adds s n (Some q) k before after visit joins grows =
      subst (λ d. Adds (λ i. Has d (n + i)) (placed (Within (before q) (after q)) visit q)) k.0
      (inside-adds q n k.1 (before q) (after q) visit (joins q) grows)

  block-grows : (b : State → OwnBlock) (visit : State → Visit State) → Grows visit → Grows (λ s. placed (block_place m (b s) s) visit s)
  block-grows b visit grows s n le = by (b s)
    where
      by : (b : OwnBlock) → Adds (λ i. Has s.decorator (n + i)) (placed (block_place m b s) visit s)
      by Shared = grows s n le
      by (Prefixed prefix min_width) =
          reached-adds s n (on_block m.operations.start_block s) (on_block-keeps m.operations.start_block h.start_block s.decorator n s (refl, le))
          _ _ visit (λ q. block-joins q prefix) grows
      by (Indented prefix columns min_width) =
          reached-adds s n (on_block m.operations.new_line s) (on_block-keeps m.operations.new_line h.new_line s.decorator n s (refl, le))
          _ _ visit (λ q. appended-joins q prefix columns) grows

  -- an item lowers no count
  item-adds : (prefix : List ℕ) (columns min_width : ℕ) (s : State) → PlaceAdds s (block_place m (Indented prefix columns min_width) s)
  item-adds prefix columns min_width s =
      by (on_block m.operations.new_line s) (map_if _ _ _ (m.operations.new_line s.block) (h.new_line s.block) (λ c p. (refl, (refl, p))))
    where
      by : (o : Option State) → IfSome o (Left s (counted s)) → PlaceAdds s (place_in m (λ q.
          Within (nested m q.text.tag (chars prefix) (spaces columns) columns min_width q)
          (joined m (λ b c. m.operations.append b c q.text.tag (chars prefix) (spaces columns)) q)) o)
      by None k = tt
      by (Some q) k =
          map_if (λ b. Unit {0}) _ _ (m.operations.sub_block q.block q.text.tag (chars prefix) (spaces columns) columns min_width) (any _) (λ b x. (
            k.0,
            λ r. IfSome_then (joined m (λ b c. m.operations.append b c q.text.tag (chars prefix) (spaces columns)) q r) (appended-joins q prefix columns r)
                (λ t a. (a.0, (a.1.0 ∙ k.1.0, omega (arith, a.1.1, k.1.1)))),
          ))

  -- a shape lowers no count
  shape-adds : (x : Shape S A) (s : State) (n : ℕ) → n ≤ counted s → Adds (λ i. Has s.decorator (n + i)) (shape_layout m x s)
  shape-adds (Steps xs) s n le = steps-keep s xs s.decorator (n + 0) s (refl, omega (arith, le))
  shape-adds (Around xs ys) s n le = (
    IfSome_then (perform_all m s xs s) (steps-keep s xs s.decorator n s (refl, le)) (λ q a k r b.
        steps-keep s ys s.decorator (n + k) r (b.0 ∙ a.0, omega (arith, a.1, b.1))),
    λ number q. tt,
  )
  shape-adds (Items prefix columns min_width) s n le = (
    λ k r a. (a.0, omega (arith, le, a.1)),
    λ number q. item-adds (prefix s.decorator q.decorator number) (columns s.decorator) min_width q,
  )
  shape-adds Cells s n le = (
    λ k r a. on_block-keeps m.operations.end_row h.end_row s.decorator (n + k) r (a.0, omega (arith, le, a.1, h.begin_row s.block)),
    λ number q. cell-adds (m.operations.cell_block q.block) q,
  )
    where
      cell-adds : (cell : Option B) (q : State) → PlaceAdds q (cell_place m cell q)
      cell-adds None q = (refl, (refl, omega (arith, h.skip_cell q.block)))
      cell-adds (Some cell) q =
          (refl, λ r. map_if _ _ _ (m.operations.add_cell q.block r.block) (h.add_cell q.block r.block) (λ b a. (refl, (refl, a))))

  kind-adds : (k : NodeKind) (e : Estimate) (trees : Forest RenderNode) (s : State) →
      Adds (λ i. Has s.decorator (counted s + w (node_characters k) + i)) (kind_layout m k e trees s)
  kind-adds (Text t) e trees s =
      IfSome_then (write m (chars t) s) (write-count (chars t) s.decorator (counted s) s (refl, omega arith)) (λ q b. (b.0, omega (arith, b.1)))
  kind-adds k e trees s =
      block-grows (λ q. block_of m.decoration q.settings q.decorator k e) (λ q. shape_layout m (shape_of m.decoration q.settings k e trees) q)
      (λ q. shape-adds (shape_of m.decoration q.settings k e trees) q) s (counted s + w []) (omega (arith, empty))

  node-adds : (n : RenderNode) (trees : Forest RenderNode) (s : State) → Adds (λ i. Left s (counted s + node_count n + i)) (layout_of m n trees s)
  node-adds n trees s = by (perform_all m s xs s) (steps-keep s xs s.decorator (counted s) s (refl, omega arith))
    where
      xs : List (Step S A)
      xs = style_steps m.decoration n.style

      by : (o : Option State) → IfSome o (Has s.decorator (counted s)) → Adds (λ i. Left s (counted s + node_count n + i)) (from_state o (λ q.
          followed (kind_layout m n.kind n.estimate trees q) (λ r. Some (record r { text = s.text }))))
      by None a = tt
      by (Some q) a =
          followed-adds (λ i. Has q.decorator (counted q + node_count n + i)) (λ i. Left s (counted s + node_count n + i))
          (kind_layout m n.kind n.estimate trees q) _ (λ k r b. (refl, (b.0 ∙ a.0, omega (arith, a.1, b.1)))) (kind-adds n.kind n.estimate trees q)

  -- nodes that count in a place: the node, unless it is skipped
  abbrev own : NodePlace State → RenderNode → List RenderNode
  own p n = if not (is_skipped p) then n ∷ [] else []

  placed-adds : (p : NodePlace State) (n : RenderNode) (trees : Forest RenderNode) (s : State) → PlaceAdds s p →
      Adds (λ i. Left s (counted s + sum_by node_count (own p n) + i)) (placed p (layout_of m n trees) s)
  placed-adds Bare n trees s a = subst (λ k. Adds (λ i. Left s (k + i)) (layout_of m n trees s)) (omega arith) (node-adds n trees s)
  placed-adds (Skipped t) n trees s a = (a.0, (a.1.0, omega (arith, a.1.1)))
  placed-adds (Within None after) n trees s a = tt
  placed-adds (Within (Some q) after) n trees s a =
      followed-adds (λ i. Left q (counted q + node_count n + i)) (λ i. Left s (counted s + sum_by node_count (own (Within (Some q) after) n) + i))
      (layout_of m n trees q) after (λ k r b. IfSome_then (after r) (a.1 r) (λ t c.
      (c.0 ∙ b.0 ∙ a.0, (c.1.0, omega (arith, b.1.1, c.1.1))))) (node-adds n trees q)

  -- through a visit, with the counts of these nodes among its children
  through_visit-adds : (children : Places State → State → Option State) (nodes : Places State × State → List RenderNode) →
      ((places : Places State) → PlacesAdd places → (q : State) →
      IfSome (children places q) (Has q.decorator (counted q + sum_by node_count (nodes (places, q))))) → (s : State) (n : ℕ) (l : Visit State) →
      Adds (λ i. Left s (n + i)) l → IfSome (through_visit l children) (Left s (n + sum_by node_count (from nodes (inside l))))
  through_visit-adds children nodes below s n (Leaf behind) a = IfSome_then behind a (λ r b. (b.0, (b.1.0, omega (arith, b.1.1))))
  through_visit-adds children nodes below s n (Inner None places after) a = tt
  through_visit-adds children nodes below s n (Inner (Some q) places after) a =
      bind_some _ _ after (children places q) (below places a.1 q) (a.0 (sum_by node_count (nodes (places, q))))

  trees-grow : (t : Forest RenderNode) (places : Places State) → PlacesAdd places → (number : ℕ) (s : State) →
      IfSome (run_at (layout_of m) places number t s)
      (Left s (counted s + sum_by node_count (nodes_at false (layout_of m) places number t s)))
  trees-grow none places a number s = (refl, (refl, omega arith))
  trees-grow (node n children beside) places a number s =
      by (through_visit visit children_of)
      (through_visit-adds children_of nodes (λ places b q.
      IfSome_then (children_of places q) (trees-grow children places b 0 q) (λ r k. k.1)) s
      (counted s + sum_by node_count (own (places number s) n)) visit (placed-adds (places number s) n children s (a number s)))
      (λ t. trees-grow beside places a (number + 1) t)
    where
      visit : Visit State
      visit = placed (places number s) (layout_of m n children) s

      children_of : Places State → State → Option State
      children_of places q = run_at (layout_of m) places 0 children q

      nodes : Places State × State → List RenderNode
      nodes x = nodes_at false (layout_of m) x.0 0 children x.1

      next : State → List RenderNode
      next t = nodes_at false (layout_of m) places (number + 1) beside t

      first : List RenderNode
      first = own (places number s) n

      below : List RenderNode
      below = from nodes (inside visit)

      by : (q : Option State) → IfSome q (Left s (counted s + sum_by node_count first + sum_by node_count below)) →
          ((t : State) → IfSome (run_at (layout_of m) places (number + 1) beside t) (Left t (counted t + sum_by node_count (next t)))) →
          IfSome (option_and_then (λ t. run_at (layout_of m) places (number + 1) beside t) q)
          (Left s (counted s + sum_by node_count (first ++ (below ++ from next q))))
      by None a k = tt
      by (Some t) a k = IfSome_then (run_at (layout_of m) places (number + 1) beside t) (k t) (λ r b. (
        b.0 ∙ a.0,
        (
          b.1.0 ∙ a.1.0,
          omega (arith, a.1.1, b.1.1, sum_by-append node_count first (below ++ next t), sum_by-append node_count below (next t)),
        ),
      ))

  -- the treatment of texts and the decorator are restored, and the count grows at least by that of the texts that are
  -- visited and not skipped
  pub layout-grows : (t : Forest RenderNode) (s : State) → IfSome (run (layout_of m) t s) (λ r. (r.text ≡ s.text) × ((r.decorator ≡ s.decorator) ×
      (v s.block + sum_by (λ (n : RenderNode). w (node_characters n.kind)) (nodes_at false (layout_of m) bare 0 t s) ≤ v r.block)))
  layout-grows t s = trees-grow t bare (λ number q. tt) 0 s

-- ---- how often a character is in texts

abbrev text_characters : List RenderNode → List ℕ
text_characters nodes = flat_map (λ n. node_characters n.kind) nodes

texts_count : (c : ℕ) (ns : List RenderNode) →
    text_count c (text_characters ns) ≡ sum_by (λ (n : RenderNode). text_count c (node_characters n.kind)) ns
texts_count c [] = refl
texts_count c (n ∷ ns) =
    let own = node_characters n.kind in
    ap (count c) (flat_map-append if_visible own (text_characters ns))
    ∙ count-append c (visible_in_text own) (visible_in_text (text_characters ns)) ∙ ap (λ m. text_count c own + m) (texts_count c ns)
    ∙ sym (sum_by-cons (λ (n : RenderNode). text_count c (node_characters n.kind)) n ns)

-- count of a text with one more character at its front
text_count-cons : (c x : ℕ) (cs : List ℕ) → text_count c (x ∷ cs) ≡ count c (if_visible x) + text_count c cs
text_count-cons c x cs = count-append c (if_visible x) (visible_in_text cs)

-- a visible character is in a struck-out text at least as often as in the text
struck-count : (c : ℕ) (cs : List ℕ) → text_count c cs ≤ text_count c (struck cs)
struck-count c [] = omega arith
struck-count c (x ∷ cs) =
    let h = struck-count c cs in
    let own = text_count-cons c x cs in
    if_cases (λ l. text_count c (x ∷ cs) ≤ text_count c l) (is_collapsible x) _ _ (λ _. omega (arith, text_count-cons c x (struck cs)))
    (λ _. omega (arith, text_count-cons c x (822 ∷ struck cs), text_count-cons c 822 (struck cs)))

-- a claim for each character holds of all characters
for_each : {X : Type 0} (P : ℕ → X → Type 0) (o : Option X) → ((c : ℕ) → IfSome o (P c)) → IfSome o (λ x. (c : ℕ) → P c x)
for_each P None h = tt
for_each P (Some x) h = h

module _ {S A : Type 0} (d : Decoration S A) where
  -- trees that are laid out restore the treatment of texts, with its tag, and the decorator
  pub layout_leaves : (t : Forest RenderNode) (s : Defined S A) →
      IfSome (run (layout_of (by_stacks d)) t s) (λ r. (r.text ≡ s.text) × (r.decorator ≡ s.decorator))
  layout_leaves t s =
      IfSome_then (run (layout_of (by_stacks d)) t s)
      (layout-grows (by_stacks d) (visible_count 0) (text_count 0) (operations_keep_visible 0) refl (struck-count 0) t s) (λ r k. (k.0, k.1.0))

  -- THE LAW: each visible character of the texts that are visited and not skipped is in the lines at least as often
  pub layout_keeps_texts : (settings : LayoutSettings) (t : Forest RenderNode) (decorator : S) (block : BlockSetting) →
      IfSome (layout_lines d settings t decorator block) (KeepsTexts (visited_nodes d settings t decorator block))
  layout_keeps_texts settings t decorator block =
      for_each Stands (layout_lines d settings t decorator block) (λ c. if_cases (λ x. IfSome x (Stands c)) (block.width == 0) _ _ (λ _. tt) (λ _.
      bind_some _ _ _ (run (layout_of (by_stacks d)) trees start) (layout-grows (by_stacks d) (visible_count c) (text_count c)
      (operations_keep_visible c) refl (struck-count c) trees start) (λ r a.
      let ts : List (List ℕ) = map chars (closing_texts d settings.link_footnotes r.decorator r.targets) in
      map_if (λ (q : Defined S A). visible_count c r.block ≤ count c (visible_in_lines q.block.lines)) _ _
      (on_block (λ b. ended_by definition.ending b settings.wrap_links [] ts) r)
      (map_if (λ (b : DefinedBlock (List A) ℕ). visible_count c r.block ≤ count c (visible_in_lines b.lines)) _ _
      (ended_by definition.ending r.block settings.wrap_links [] ts)
      (bind_some (λ (b : DefinedBlock (List A) ℕ). visible_count c r.block ≤ count c (visible_in_lines b.lines)) _ _
      (definition.ending.finish r.block) (finish_count c r.block) (λ b h.
      IfSome_then (definition.ending.add_closing_lines b settings.wrap_links [] ts) (closing_count c b settings.wrap_links [] ts)
      (λ e k. omega (arith, h, k)))) (λ b k. k))
      (λ q e. omega (arith, a.1.1, e, texts_count c (visited_nodes d settings t decorator block))))))
    where
      Stands : ℕ → List (Line (List A) ℕ) → Type 0
      Stands c lines = text_count c (text_characters (visited_nodes d settings t decorator block)) ≤ count c (visible_in_lines lines)

      trees : Forest RenderNode
      trees = estimated d settings decorator t

      start : Defined S A
      start = empty_state d settings decorator block
