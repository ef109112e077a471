-- Nodes that are measured, with preferred widths and without.
use Rattle.std.proofs.Common.{◌≡◌, Bool, true, false, ◌||◌, ℕ, ◌+◌, List, ◌∷◌, take, drop, max, refl, sym, ap, ◌∙◌, inl, inr, if◌then◌else◌}
use Rattle.std.proofs.lemmas.Bool.{cases_Bool, or_parts, or_right, true≢false}
use Rattle.std.proofs.lemmas.List.{take-append-drop}
use Rattle.std.proofs.lemmas.List.Folds.{list_any-append}
use Rattle.std.specs.List.{list_any}
use Rattle.html_render_dom_values.specs.Forest.{Forest, none, node}
use Rattle.html_render_parts.specs.Decoration.{Decoration}
use Rattle.html_render_parts_widths.specs.declared.shares.ColumnNeed.{ColumnNeed}
use Rattle.html_render_layout_nodes.specs.declared.tree.Entry.{Entry}
use Rattle.html_render_layout_nodes.specs.declared.tree.Estimate.{Estimate}
use Rattle.html_render_layout_nodes.specs.declared.tree.NodeKind.{NodeKind}
use Rattle.html_render_layout_nodes.specs.declared.tree.NodeKind.TheVariants.{Text, Break, Image, Svg, FragmentStart, Table}
use Rattle.html_render_layout_nodes.specs.declared.tree.RenderNode.{RenderNode}
use Rattle.html_render_layout_nodes.specs.Preorder.{flatten, forest_of}
use Rattle.html_render_layout_nodes.specs.laws.Preorder.{forest_of-flatten, IsPreorderOf, IsPreorderOf-flatten}
use Rattle.html_render_layout_estimates.specs.declared.settings.LayoutSettings.{LayoutSettings}
use Rattle.html_render_layout_estimates.specs.Estimates.{measured_kind, estimate_of, measured}
use Rattle.html_render_layout_estimates.specs.Children.{trees, greatest_least}
use Rattle.html_render_layout_estimates.specs.Passes.{is_table, has_table, with_needs, sized_if, without_sizes, with_needed_sizes}
use Rattle.html_render_layout_estimates.specs.Words.{with_words}
use Rattle.html_render_layout_estimates.specs.laws.Least.{tables-measured}
use Rattle.html_render_layout_estimates.specs.laws.Words.{words-needed}
use Rattle.html_render_layout_estimates.proofs.Backward.{shaped, Next}

-- ---- tables among nodes

abbrev pub any_table : List (Entry RenderNode) → Bool
any_table es = list_any (λ e. is_table e.node.kind) es

pub any_table-flatten : (t : Forest RenderNode) → any_table (flatten t) ≡ has_table t
any_table-flatten none = refl
any_table-flatten (node n children beside) =
    ap (λ b. is_table n.kind || b) (list_any-append (λ e. is_table e.node.kind) (flatten children) (flatten beside)
    ∙ ap (λ b. b || any_table (flatten beside)) (any_table-flatten children)
    ∙ ap (λ b. has_table children || b) (any_table-flatten beside))

table_in : (t : Forest RenderNode) (i : ℕ) (e : Entry RenderNode) (es : List (Entry RenderNode)) → drop i (flatten t) ≡ e ∷ es →
    is_table e.node.kind ≡ true → has_table t ≡ true
table_in t i e es behind table =
    let before = any_table (take i (flatten t)) in
    sym (any_table-flatten t) ∙ ap any_table (sym (take-append-drop i (flatten t)))
    ∙ list_any-append (λ e. is_table e.node.kind) (take i (flatten t)) (drop i (flatten t))
    ∙ ap (λ l. before || any_table l) behind ∙ ap (λ b. before || (b || any_table es)) table ∙ or_right before true refl

-- the estimate of a table has its preferred width
pub sized_table : (b : Bool) (e : Estimate) → b ≡ true → sized_if b e ≡ e
sized_table b e is = ap (λ c. sized_if c e) is

module _ {D A : Type 0} (decoration : Decoration D A) (decorator : D) (settings : LayoutSettings) where
  abbrev all_sized : Forest RenderNode → Forest RenderNode
  all_sized t = measured decoration decorator settings t

  -- a node with its measurement over its measured children
  abbrev pub found : (with_sizes : Bool) → RenderNode → (children : Forest RenderNode) → RenderNode
  found with_sizes n children =
      record n { kind = measured_kind n.kind children; estimate = sized_if with_sizes (estimate_of decoration decorator settings n.kind children) }

  -- storing a measurement in a node gives the measured node
  pub noted : (b : Bool) (n : RenderNode) (needs : List ColumnNeed) (e : Estimate) (f : Forest RenderNode) →
      with_needs needs n.kind ≡ measured_kind n.kind f → e ≡ sized_if b (estimate_of decoration decorator settings n.kind f) →
      record n { kind = with_needs needs n.kind; estimate = e } ≡ found b n f
  noted b n needs e f is_needs is_estimate =
      ap (λ x. record n { kind = x; estimate = e }) is_needs ∙ ap (λ x. record n { kind = measured_kind n.kind f; estimate = x }) is_estimate

  -- storing its estimate in a node that isn't a table gives the measured node
  unmeasured : (k : NodeKind) (f : Forest RenderNode) → is_table k ≡ false → measured_kind k f ≡ k
  unmeasured (Table grid) f plain = absurd (true≢false plain)
  unmeasured k f plain = refl

  pub noted_estimate : (b : Bool) (n : RenderNode) (e : Estimate) (f : Forest RenderNode) → is_table n.kind ≡ false →
      e ≡ sized_if b (estimate_of decoration decorator settings n.kind f) → record n { estimate = e } ≡ found b n f
  noted_estimate b n e f plain is_estimate =
      ap (λ k. record n { kind = k; estimate = e }) (sym (unmeasured n.kind f plain))
      ∙ ap (λ x. record n { kind = measured_kind n.kind f; estimate = x }) is_estimate

  -- the trees in which each node is measured
  abbrev pub after : (with_sizes : Bool) → Forest RenderNode → Forest RenderNode
  after with_sizes = shaped (found with_sizes) (found with_sizes)

  after_sized : (t : Forest RenderNode) → after true t ≡ all_sized t
  after_sized none = refl
  after_sized (node n children beside) =
      ap (λ f. node (found true n f) f (after true beside)) (after_sized children)
      ∙ ap (node (found true n (all_sized children)) (all_sized children)) (after_sized beside)

  -- if the node to measure is a table, the trees have one
  pub found_table : (b : Bool) (t : Forest RenderNode) (now : List (Entry RenderNode)) (at : ℕ) (e : Entry RenderNode) →
      Next (found b) (found b) t now now at e → b ≡ has_table t → is_table e.node.kind ≡ true → b ≡ true
  found_table b t now at e f is table = is ∙ table_in t at e (drop (at + 1) (flatten t)) f.here table

  -- without a table, measuring without preferred widths gives the measured trees without them
  leasts-same : (t : Forest RenderNode) → greatest_least (without_sizes t) ≡ greatest_least t
  leasts-same none = refl
  leasts-same (node n children beside) = ap (max n.estimate.min_width) (leasts-same beside)

  trees-same : (t : Forest RenderNode) → trees (without_sizes t) ≡ trees t
  trees-same none = refl
  trees-same (node n children beside) = ap (λ k. k + 1) (trees-same beside)

  unsized-same : (n : RenderNode) (k : NodeKind) (t : Forest RenderNode) → is_table k ≡ false →
      found false (record n { kind = k }) (without_sizes t) ≡ found false (record n { kind = k }) t
  unsized-same n (Table grid) t plain = absurd (true≢false plain)
  unsized-same n (Text text) t plain = refl
  unsized-same n Break t plain = refl
  unsized-same n (Image image) t plain = refl
  unsized-same n (Svg title) t plain = refl
  unsized-same n (FragmentStart name) t plain = refl
  unsized-same n kind t plain = cc (leasts-same t, trees-same t)

  after_unsized : (t : Forest RenderNode) → has_table t ≡ false → after false t ≡ without_sizes (all_sized t)
  after_unsized none plain = refl
  after_unsized (node n children beside) plain =
      let front = or_parts (is_table n.kind) (has_table children || has_table beside) plain in
      let rest = or_parts (has_table children) (has_table beside) front.1 in
      let below = without_sizes (all_sized children) in
      ap (λ f. node (found false n f) f (after false beside)) (after_unsized children rest.0)
      ∙ ap (node (found false n below) below) (after_unsized beside rest.1)
      ∙ ap (λ m. node m below (without_sizes (all_sized beside))) (unsized-same n n.kind (all_sized children) front.0)

  -- ---- the whole tree

  abbrev all_measured : Forest RenderNode → Forest RenderNode
  all_measured t = with_needed_sizes (all_sized t)

  -- measuring gives preferred widths if any node is a table, and otherwise none
  pub after_all : (t : Forest RenderNode) → after (has_table t) t ≡ all_measured t
  after_all t = elim (cases_Bool (has_table t)) [
    | inl table ↦ ap (λ b. after b t) table ∙ after_sized t ∙ sym (needed true (tables-measured decoration decorator settings t ∙ table))
    | inr plain ↦
        ap (λ b. after b t) plain ∙ after_unsized t plain ∙ sym (needed false (tables-measured decoration decorator settings t ∙ plain))
  ]
    where
      needed : (b : Bool) → has_table (all_sized t) ≡ b → all_measured t ≡ if b then all_sized t else without_sizes (all_sized t)
      needed b is = ap (λ c. if c then all_sized t else without_sizes (all_sized t)) is

  pub done : (t : Forest RenderNode) (old es : List (Entry RenderNode)) → old ≡ flatten t → es ≡ flatten (all_measured (forest_of old)) →
      IsPreorderOf es (all_measured t)
  done t old es same is =
      IsPreorderOf-flatten es (all_measured t) (is ∙ ap (λ u. flatten (all_measured u)) (ap forest_of same ∙ forest_of-flatten t))

  -- with words, too
  pub done_words : (t : Forest RenderNode) (old es fs : List (Entry RenderNode)) → old ≡ flatten t → es ≡ flatten (all_measured (forest_of old)) →
      fs ≡ flatten (with_words settings (forest_of es)) → IsPreorderOf fs (with_needed_sizes (with_words settings (all_sized t)))
  done_words t old es fs same is words =
      IsPreorderOf-flatten fs (with_needed_sizes (with_words settings (all_sized t)))
      (words ∙ ap (λ u. flatten (with_words settings u)) (done t old es same is).is ∙ ap flatten (words-needed settings (all_sized t)))
