-- The walk's machine at a node is the definition's visit of it.
use Rattle.std.specs.Prelude.{◌≡◌, ℕ, List, [], ◌∷◌, map, Option, Some, None, option_and_then, option_map, refl}
use Rattle.std.proofs.Common.{ap, sym, subst, ◌∙◌}
use Rattle.std.specs.Str.{chars}
use Rattle.std.specs.Option.{option_map_or}
use Rattle.html_render_dom_values.specs.Forest.{Forest}
use Rattle.html_render_parts.specs.Decoration.{Decoration}
use Rattle.html_render_layout_nodes.specs.declared.tree.Estimate.{Estimate}
use Rattle.html_render_layout_nodes.specs.declared.tree.NodeKind.{NodeKind}
use Rattle.html_render_layout_nodes.specs.declared.tree.NodeKind.TheVariants.{Text, Break, Header, BlockQuote, Dd, Superscript, Image, Svg, FragmentStart, Table}
use Rattle.html_render_layout_nodes.specs.declared.tree.RenderNode.{RenderNode}
use Rattle.html_render_layout_nodes.specs.Visits.{Visit, Leaf, Inner, Within, followed, placed, places_in}
use Rattle.html_render_layout_nodes.specs.Visits.{Way, Past, past, opened_with, IsOpened}
use Rattle.html_render_layout_nodes.specs.laws.Visits.{from_state}
use Rattle.html_render_layout_estimates.specs.Estimates.{prefix_columns}
use Rattle.html_render_layout.specs.Layout.{OwnBlock}
use Rattle.html_render_layout.specs.Layout.{Shared, Prefixed, Indented}
use Rattle.html_render_layout.specs.declared.state.OpenNode.{OpenNode}
use Rattle.html_render_layout.specs.declared.state.Suspended.{Suspended}
use Rattle.html_render_layout.specs.declared.state.Suspended.TheVariants as interruption
use Rattle.html_render_layout.specs.declared.state.Suspended.TheVariants.{NoBlock, Quoted, Cell}
use Rattle.html_render_layout_blocks.specs.declared.held.Prefixing.{Prefixing}
use Rattle.html_render_layout.specs.declared.state.CloseAction.{CloseAction}
use Rattle.html_render_layout.specs.declared.state.CloseAction.TheVariants.{EndRow}
use Rattle.html_render_layout.specs.declared.state.LayoutState.{LayoutState}
use Rattle.html_render_layout.specs.declared.state.TextContext.{TextContext}
use Rattle.html_render_layout.specs.Layout.{Shape, Steps, Around, Write, NewLineHard, raised, start, end, image, write, perform}
use Rattle.html_render_layout.specs.Layout.{Algebra, digits_of, block_of, shape_of, style_steps, perform_all, within}
use Rattle.html_render_layout.specs.Layout.{on_block, nested, spaces, place_in, joined, appended_block, block_place, cell_place, shape_layout, kind_layout, layout_of}
use Rattle.html_render_layout.specs.Images.{shown_title}
use Rattle.html_render_layout.specs.Opening.{interrupted, continued, keeping, block_entered, kind_kept, kind_opened, kind_closed, child_block, kind_below}
use Rattle.html_render_layout.specs.Opening.{opened_in, text_opened, cell_opened, block_opened, opened_below, opened, below, closed, walk_visits, walk_below, walk_opened, walk_closed}

-- shape of a superscript, by the digits in it
abbrev pub superscript : {S A : Type 0} → Decoration S A → (digits : Option (List ℕ)) → Shape S A
superscript d digits = option_map_or (λ ds. Steps (Write (λ x. map raised ds) ∷ [])) digits (Around (start d d.superscript) (end d d.superscript ∷ []))

-- a visit followed by nothing is the visit
module _ {S : Type 0} where
  some : (x : Option S) → option_and_then (λ r. Some r) x ≡ x
  some None = refl
  some (Some r) = refl

  followed-some : (v : Visit S) → followed v (λ r. Some r) ≡ v
  followed-some (Leaf behind) = ap Leaf (some behind)
  followed-some (Inner before places after) = λ j. Inner before places (λ r. some (after r) j)

module _ {S A K T B : Type 0} (m : Algebra S A K T B) where
  abbrev State : Type 0
  State = LayoutState S K T B

  -- whether a closing action agrees with a visit: in the places of the children, and in the action after them
  abbrev StandsFor : CloseAction S T (Prefixing B T) B → Visit State → Type 0
  StandsFor kept (Leaf behind) = Unit {0}
  StandsFor kept (Inner before places after) = (places ≡ kind_below m kept) × ((r : State) → after r ≡ kind_closed m kept r)

  superscript-stands : (digits : Option (List ℕ)) (e : Estimate) (s : State) →
      StandsFor (kind_kept m NoBlock Superscript e s) (followed (shape_layout m (superscript m.decoration digits) s) (λ r. Some r))
  superscript-stands None e s = (refl, λ r. some (kind_closed m (kind_kept m NoBlock Superscript e s) r))
  superscript-stands (Some digits) e s = tt

  -- state in a node's block, and what the node suspends
  abbrev Entered : Type 0
  Entered = State × Suspended S (Prefixing B T) B

  -- what a block that begins in the state r suspends
  abbrev suspended : OwnBlock → (r : State) → Suspended S (Prefixing B T) B
  suspended Shared r = NoBlock
  suspended (Prefixed prefix min_width) r = Quoted (interrupted m r prefix (prefix_columns prefix))
  suspended (Indented prefix columns min_width) r = interruption.Indented (interrupted m r prefix columns)

  -- what a node of this kind in the state q suspends with a block of its own, which begins in the state r
  abbrev own : NodeKind → Estimate → (q r : State) → Suspended S (Prefixing B T) B
  own k e q r = suspended (block_of m.decoration q.settings q.decorator k e) r

  kind-stands : (k : NodeKind) (e : Estimate) (trees : Forest RenderNode) (q r s : State) →
      StandsFor (kind_kept m (own k e q r) k e s)
      (followed (shape_layout m (shape_of m.decoration s.settings k e trees) s) (continued m (own k e q r)))
  kind-stands (Text t) e trees q r s = tt
  kind-stands Break e trees q r s = tt
  kind-stands (Image i) e trees q r s = tt
  kind-stands (Svg title) e trees q r s = tt
  kind-stands (FragmentStart name) e trees q r s = tt
  kind-stands Superscript e trees q r s = superscript-stands (digits_of trees) e s
  kind-stands (Header level) e trees q r s = (refl, λ r. refl)
  kind-stands BlockQuote e trees q r s = (refl, λ r. refl)
  kind-stands Dd e trees q r s = (refl, λ r. refl)
  kind-stands (Table grid) e trees q r s = (refl, λ r. refl)
  kind-stands k e trees q r s = (refl, λ t. some (kind_closed m (kind_kept m (own k e q r) k e s) t))

  -- a superscript is opened alike with nothing done after it
  superscript-opened : (digits : Option (List ℕ)) (kept : CloseAction S T (Prefixing B T) B) (s : State) →
      opened_with (followed (shape_layout m (superscript m.decoration digits) s) (λ r. Some r)) kept
      ≡ opened_with (shape_layout m (superscript m.decoration digits) s) kept
  superscript-opened None kept s = refl
  superscript-opened (Some digits) kept s = ap past (some (perform_all m s (Write (λ x. map raised digits) ∷ []) s))

  kind-opened : (k : NodeKind) (e : Estimate) (trees : Forest RenderNode) (q r s : State) (kept : CloseAction S T (Prefixing B T) B) →
      let n = shape_layout m (shape_of m.decoration s.settings k e trees) s in
      opened_with (followed n (continued m (own k e q r))) kept ≡ opened_with n kept
  kind-opened (Text t) e trees q r s kept = ap past (some (write m (chars t) s))
  kind-opened Break e trees q r s kept = ap past (some (perform m s NewLineHard s))
  kind-opened (Image i) e trees q r s kept =
      ap past (some (perform_all m s (image m.decoration i.source (shown_title s.settings.empty_images i.source i.title)) s))
  kind-opened (Svg title) e trees q r s kept = ap past (some (perform_all m s (image m.decoration [] (shown_title s.settings.empty_images [] title)) s))
  kind-opened (FragmentStart name) e trees q r s kept = refl
  kind-opened Superscript e trees q r s kept = superscript-opened (digits_of trees) kept s
  kind-opened k e trees q r s kept = refl

  abbrev Opened : Visit State → Option (Way State (OpenNode S T (Prefixing B T) B)) → Type 0
  Opened n w = IsOpened (below m) (closed m) n w

  -- from the closing action of a kind to the pending work of a node in its place, which restores the treatment of texts
  kept-opened : (n : Visit State) (kept : CloseAction S T (Prefixing B T) B) (item : Suspended S (Prefixing B T) B) (text : TextContext T) → StandsFor kept n →
      Opened (followed (followed n (λ r. Some (record r { text = text }))) (continued m item))
      (option_and_then (λ w. keeping m item text w) (opened_with n kept))
  kept-opened (Leaf None) kept item text stands = record { told = λ children. refl; asked = refl }
  kept-opened (Leaf (Some t)) kept item text stands = by (continued m item (record t { text = text }))
    where
      by : (c : Option State) → Opened (Leaf c) (past c)
      by None = record { told = λ children. refl; asked = refl }
      by (Some r) = record { told = λ children. refl; asked = refl }
  kept-opened (Inner None places after) kept item text stands = record { told = λ children. refl; asked = refl }
  kept-opened (Inner (Some q) places after) kept item text stands = record {
    told = λ children j. option_and_then (λ r. closes (stands.1 r j) j) (children (stands.0 j) q);
    asked = λ j. Some (stands.0 j, q);
  }
    where
      closes : (x : Option State) → option_and_then (continued m item) (option_and_then (λ (t : State). Some (record t { text = text })) x)
          ≡ option_and_then (λ (t : State). continued m item (record t { text = text })) x
      closes None = refl
      closes (Some t) = refl

  -- in a sub-block of s, if there is one; `around` is the context of the visit
  nested-opened : (own : Suspended S (Prefixing B T) B) (c : Option B) (s : State) (visit : State → Visit State) (around : Visit State → Visit State) →
      around (Leaf None) ≡ Leaf None → (f : State → Suspended S (Prefixing B T) B → Option (Way State (OpenNode S T (Prefixing B T) B))) →
      ((q : State) → Opened (around (followed (visit q) (continued m own))) (f q own)) →
      Opened (around (from_state (option_map (λ e. within m e s) c) (λ q. followed (visit q) (continued m own))))
      (option_and_then (λ (e : Entered). f e.0 e.1) (option_and_then (λ q. Some (q, own)) (option_map (λ e. within m e s) c)))
  nested-opened own None s visit around same f h = subst (λ v. Opened v None) (sym same) (record { told = λ children. refl; asked = refl })
  nested-opened own (Some e) s visit around same f h = h (within m e s)

  -- in a node's block, whichever it is
  in-block : (b : OwnBlock) (s : State) (visit : State → Visit State) (around : Visit State → Visit State) → around (Leaf None) ≡ Leaf None →
      (f : State → Suspended S (Prefixing B T) B → Option (Way State (OpenNode S T (Prefixing B T) B))) →
      ((r q : State) → Opened (around (followed (visit q) (continued m (suspended b r)))) (f q (suspended b r))) →
      Opened (around (placed (block_place m b s) visit s)) (option_and_then (λ (e : Entered). f e.0 e.1) (block_entered m b s))
  in-block Shared s visit around same f h = subst (λ v. Opened (around v) (f s NoBlock)) (followed-some (visit s)) (h s s)
  in-block (Prefixed prefix min_width) s visit around same f h = by (on_block m.operations.start_block s)
    where
      kept : State → Suspended S (Prefixing B T) B
      kept r = Quoted (interrupted m r prefix (prefix_columns prefix))

      sub : State → Option State
      sub r = nested m r.text.tag (chars prefix) (chars prefix) (prefix_columns prefix) min_width r

      by : (o : Option State) → Opened (around (placed (place_in m (λ r. Within (sub r) (joined m (appended_block m r.text.tag prefix) r)) o) visit s))
          (option_and_then (λ (e : Entered). f e.0 e.1) (option_and_then (λ (r : State). option_and_then (λ q. Some (q, kept r)) (sub r)) o))
      by None = subst (λ v. Opened v None) (sym same) (record { told = λ children. refl; asked = refl })
      by (Some r) =
          nested-opened (kept r) (m.operations.sub_block r.block r.text.tag (chars prefix) (chars prefix) (prefix_columns prefix) min_width) r visit
          around same f (h r)
  in-block (Indented prefix columns min_width) s visit around same f h = by (on_block m.operations.new_line s)
    where
      kept : State → Suspended S (Prefixing B T) B
      kept r = interruption.Indented (interrupted m r prefix columns)

      sub : State → Option State
      sub r = nested m r.text.tag (chars prefix) (spaces columns) columns min_width r

      by : (o : Option State) → Opened (around (placed (place_in m (λ r. Within (sub r)
          (joined m (λ b c. m.operations.append b c r.text.tag (chars prefix) (spaces columns)) r)) o) visit s))
          (option_and_then (λ (e : Entered). f e.0 e.1) (option_and_then (λ (r : State). option_and_then (λ q. Some (q, kept r)) (sub r)) o))
      by None = subst (λ v. Opened v None) (sym same) (record { told = λ children. refl; asked = refl })
      by (Some r) =
          nested-opened (kept r) (m.operations.sub_block r.block r.text.tag (chars prefix) (spaces columns) columns min_width) r visit around same f (h r)

  -- a node is opened as its visit in its place says
  node-kept : (n : RenderNode) (trees : Forest RenderNode) (item : Suspended S (Prefixing B T) B) (s : State) →
      Opened (followed (layout_of m n trees s) (continued m item)) (opened_in m item n trees s)
  node-kept n trees item s = by (perform_all m s (style_steps m.decoration n.style) s)
    where
      by : (o : Option State) →
          Opened (followed (from_state o (λ q. followed (kind_layout m n.kind n.estimate trees q) (λ r. Some (record r { text = s.text }))))
          (continued m item)) (option_and_then (λ (q : State). option_and_then (λ (e : Entered).
          option_and_then (λ w. keeping m item s.text w) (kind_opened m e.1 n.kind n.estimate trees e.0))
          (block_entered m (block_of m.decoration q.settings q.decorator n.kind n.estimate) q)) o)
      by None = record { told = λ children. refl; asked = refl }
      by (Some q) =
          in-block (block_of m.decoration q.settings q.decorator n.kind n.estimate) q
          (λ p. shape_layout m (shape_of m.decoration p.settings n.kind n.estimate trees) p)
          (λ v. followed (followed v (λ r. Some (record r { text = s.text }))) (continued m item)) refl
          (λ p i. option_and_then (λ w. keeping m item s.text w) (kind_opened m i n.kind n.estimate trees p)) (λ r p.
          let kept = kind_kept m (own n.kind n.estimate q r) n.kind n.estimate p in
          let visit = followed (shape_layout m (shape_of m.decoration p.settings n.kind n.estimate trees) p) (continued m (own n.kind n.estimate q r)) in
          subst (λ w. Opened (followed (followed visit (λ r. Some (record r { text = s.text }))) (continued m item))
          (option_and_then (λ w. keeping m item s.text w) w)) (kind-opened n.kind n.estimate trees q r p kept)
          (kept-opened visit kept item s.text (kind-stands n.kind n.estimate trees q r p)))

  -- a node is opened by its style, its block and its kind, with what the block suspends
  pub opened-by : (item before : Suspended S (Prefixing B T) B) (n : RenderNode) (trees : Forest RenderNode) (s q p : State) →
      perform_all m s (style_steps m.decoration n.style) s ≡ Some q →
      block_entered m (block_of m.decoration q.settings q.decorator n.kind n.estimate) q ≡ Some (p, before) →
      opened_in m item n trees s ≡ option_and_then (λ w. keeping m item s.text w) (kind_opened m before n.kind n.estimate trees p)
  opened-by item before n trees s q p style entered =
      let next : Entered → Option (Way State (OpenNode S T (Prefixing B T) B)) =
      λ e. option_and_then (λ w. keeping m item s.text w) (kind_opened m e.1 n.kind n.estimate trees e.0) in
      ap (option_and_then (λ (q : State). option_and_then next (block_entered m (block_of m.decoration q.settings q.decorator n.kind n.estimate) q))) style
      ∙ ap (option_and_then next) entered

  -- a text has no pending work
  pub texts_pass : (n : RenderNode) (t : List ℕ) (trees : Forest RenderNode) (s : State) → n.kind ≡ Text t →
      opened_in m NoBlock n trees s ≡ text_opened m t n.style s
  texts_pass n t trees s is =
      subst (λ k. opened_in m NoBlock (record n { kind = k }) trees s ≡ text_opened m t n.style s) (sym is)
      (by (perform_all m s (style_steps m.decoration n.style) s))
    where
      written : (o : Option State) → option_and_then (λ w. keeping m NoBlock s.text w) (past o)
          ≡ option_and_then (λ (r : State). Some (Past (record r { text = s.text }))) o
      written None = refl
      written (Some r) = refl

      by : (o : Option State) →
          option_and_then (λ (q : State). option_and_then (λ w. keeping m NoBlock s.text w) (past (write m (chars t) q))) o
          ≡ option_and_then (λ (q : State). option_and_then (λ (r : State). Some (Past (record r { text = s.text }))) (write m (chars t) q)) o
      by None = refl
      by (Some q) = written (write m (chars t) q)

  block-opened : (b : OwnBlock) (n : RenderNode) (trees : Forest RenderNode) (s : State) →
      Opened (placed (block_place m b s) (layout_of m n trees) s) (block_opened m n trees b s)
  block-opened b n trees s =
      in-block b s (layout_of m n trees) (λ v. v) refl (λ q i. opened_in m i n trees q) (λ r q. node-kept n trees (suspended b r) q)

  cell-opened : (n : RenderNode) (trees : Forest RenderNode) (s : State) (b : Option B) →
      Opened (placed (cell_place m b s) (layout_of m n trees) s) (cell_opened m n trees b s)
  cell-opened n trees s None = record { told = λ children. refl; asked = refl }
  cell-opened n trees s (Some cell) = node-kept n trees (Cell (record { decorator = s.decorator; block = s.block })) (within m cell s)

  -- THE LAW: a node is opened in its place, its children follow, and it is closed, as its visit says
  pub layout-opened : (parent : Option (OpenNode S T (Prefixing B T) B)) (number : ℕ) (n : RenderNode) (trees : Forest RenderNode) (s : State) →
      Opened (placed (places_in (below m) parent number s) (layout_of m n trees) s) (opened m parent number n trees s)
  layout-opened None number n trees s = block-opened Shared n trees s
  layout-opened (Some c) number n trees s = by c.kind
    where
      by : (k : CloseAction S T (Prefixing B T) B) → Opened (placed (kind_below m k number s) (layout_of m n trees) s) (opened_below m k number n trees s)
      by EndRow = cell-opened n trees s (m.operations.cell_block s.block)
      by k = block-opened (child_block m s.decorator k number) n trees s

  pub walk-told : (parent : Option (OpenNode S T (Prefixing B T) B)) (number : ℕ) (n : RenderNode) (trees : Forest RenderNode) (s : State) →
      IsOpened (walk_below m) (walk_closed m) (placed (places_in (walk_below m) parent number s) (walk_visits m n trees) s) (walk_opened m parent number n trees s)
  unfolding walk_visits walk_below walk_opened walk_closed
  walk-told = layout-opened
