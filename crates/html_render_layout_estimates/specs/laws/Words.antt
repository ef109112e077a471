-- Trees with words have the tables that they had, and words and preferred widths don't depend on each other.
use Rattle.std.proofs.Common.{◌≡◌, Bool, true, false, ◌||◌, refl, sym, ap, ◌∙◌, inl, inr}
use Rattle.std.specs.Prelude.{if◌then◌else◌}
use Rattle.std.proofs.lemmas.Bool.{cases_Bool, or_parts, true≢false}
use Rattle.html_render_dom_values.specs.Forest.{Forest, none, node}
use Rattle.html_render_layout_nodes.specs.declared.tree.NodeKind.{NodeKind}
use Rattle.html_render_layout_nodes.specs.declared.tree.NodeKind.TheVariants.{Table}
use Rattle.html_render_layout_nodes.specs.declared.tree.RenderNode.{RenderNode}
use Rattle.html_render_layout_estimates.specs.declared.settings.LayoutSettings.{LayoutSettings}
use Rattle.html_render_layout_estimates.specs.declared.words.WordShape.{WordShape}
use Rattle.html_render_layout_estimates.specs.Passes.{is_table, has_table, without_sizes, with_needed_sizes}
use Rattle.html_render_layout_estimates.specs.Words.{worded_kind, shapes, worded, with_words}

table-worded : (kind : NodeKind) (below : Forest WordShape) → is_table (worded_kind kind below) ≡ is_table kind
table-worded (Table grid) below = refl
table-worded kind below = refl

kind-plain : (kind : NodeKind) (below : Forest WordShape) → is_table kind ≡ false → worded_kind kind below ≡ kind
kind-plain (Table grid) below plain = absurd (true≢false plain)
kind-plain kind below plain = refl

tables-unsized : (t : Forest RenderNode) → has_table (without_sizes t) ≡ has_table t
tables-unsized none = refl
tables-unsized (node n children beside) =
    ap (λ b. is_table n.kind || (b || has_table (without_sizes beside))) (tables-unsized children)
    ∙ ap (λ b. is_table n.kind || (has_table children || b)) (tables-unsized beside)

needed-is : (t : Forest RenderNode) (b : Bool) → has_table t ≡ b → with_needed_sizes t ≡ (if b then t else without_sizes t)
needed-is t b e = ap (λ c. if c then t else without_sizes t) e

module _ (settings : LayoutSettings) where
  tables-worded : (t : Forest RenderNode) → has_table (worded settings t) ≡ has_table t
  tables-worded none = refl
  tables-worded (node n children beside) =
      ap (λ b. b || (has_table (worded settings children) || has_table (worded settings beside))) (table-worded n.kind (shapes settings children))
      ∙ ap (λ b. is_table n.kind || (b || has_table (worded settings beside))) (tables-worded children)
      ∙ ap (λ b. is_table n.kind || (has_table children || b)) (tables-worded beside)

  worded-plain : (t : Forest RenderNode) → has_table t ≡ false → worded settings t ≡ t
  worded-plain none plain = refl
  worded-plain (node n children beside) plain =
      let front = or_parts (is_table n.kind) (has_table children || has_table beside) plain in
      let rest = or_parts (has_table children) (has_table beside) front.1 in
      ap (λ k. node (record n { kind = k }) (worded settings children) (worded settings beside)) (kind-plain n.kind (shapes settings children) front.0)
      ∙ ap (λ t. node n t (worded settings beside)) (worded-plain children rest.0)
      ∙ ap (node n children) (worded-plain beside rest.1)

  -- without a table there are no words
  pub words-plain : (t : Forest RenderNode) → has_table t ≡ false → with_words settings t ≡ t
  words-plain t e = by settings.whole_words
    where
      by : (b : Bool) → (if b then worded settings t else t) ≡ t
      by true = worded-plain t e
      by false = refl

  words-tables : (t : Forest RenderNode) → has_table (with_words settings t) ≡ has_table t
  words-tables t = by settings.whole_words
    where
      by : (b : Bool) → has_table (if b then worded settings t else t) ≡ has_table t
      by true = tables-worded t
      by false = refl

  -- words can be added to trees before or after preferred widths are left out
  pub words-needed : (t : Forest RenderNode) → with_words settings (with_needed_sizes t) ≡ with_needed_sizes (with_words settings t)
  words-needed t = elim (cases_Bool (has_table t)) [
    | inl e ↦ ap (λ u. with_words settings u) (needed-is t true e) ∙ sym (needed-is (with_words settings t) true (words-tables t ∙ e))
    | inr e ↦
        ap (λ u. with_words settings u) (needed-is t false e) ∙ words-plain (without_sizes t) (tables-unsized t ∙ e)
        ∙ sym (needed-is t false e) ∙ ap (λ u. with_needed_sizes u) (sym (words-plain t e))
  ]
