-- The lines of a layout keep their promises.
use Rattle.std.proofs.Common.{◌≡◌, ◌≢◌, ℕ, ◌<◌, true, List, Option, Some, None, Result, Ok, Err}
use Rattle.std.proofs.Common.{IfErr, IfSome, IsSome, option_map, refl, sym, subst, arith}
use Rattle.std.proofs.lemmas.Option.{same_Some}
use Rattle.html_render_dom_values.specs.declared.errors.Error.{Error}
use Rattle.html_render_dom_values.specs.declared.errors.Error.TheVariants.{TooNarrow}
use Rattle.html_render_dom_values.specs.Outcome.{Refuses}
use Rattle.html_render_dom_values.specs.Forest.{Forest}
use Rattle.html_render_parts.specs.Decoration.{Decoration}
use Rattle.html_render_layout_lines.specs.Line.{Line}
use Rattle.html_render_layout_nodes.specs.declared.tree.RenderNode.{RenderNode}
use Rattle.html_render_layout_estimates.specs.declared.settings.LayoutSettings.{LayoutSettings}
use Rattle.html_render_layout_blocks.specs.declared.block.BlockSetting.{BlockSetting}
use Rattle.html_render_layout.specs.Layout.{layout_lines, unannotated}
use Rattle.html_render_layout.specs.Promises.{AreLines, Lines, HasLines, LeavesTexts}
use Rattle.html_render_layout.specs.laws.LayoutLaws.{layout_within, layout_succeeds, layout_same}
pub use Rattle.html_render_layout.specs.laws.LayoutLaws.{same-names}
use Rattle.html_render_layout.specs.laws.LayoutVisible.{layout_keeps_texts, layout_leaves}

module _ {S A : Type 0} (d : Decoration S A) (settings : LayoutSettings) (tree : Forest RenderNode) (decorator : S)
    (block : BlockSetting) where
  pub are-lines : (lines : List (Line (List A) ℕ)) → layout_lines d settings tree decorator block ≡ Some lines →
      AreLines d settings tree decorator block lines
  are-lines lines e =
      record {
        are = e;
        within = rw e at (layout_within d settings tree decorator block);
        same = layout_same d settings tree decorator block lines e;
        kept = rw e at (layout_keeps_texts d settings tree decorator block);
      }

  pub lines_promised : IfSome (layout_lines d settings tree decorator block) (AreLines d settings tree decorator block)
  lines_promised = by (layout_lines d settings tree decorator block) are-lines
    where
      by : (o : Option (List (Line (List A) ℕ))) → ((lines : List (Line (List A) ℕ)) → o ≡ Some lines →
          AreLines d settings tree decorator block lines) → IfSome o (AreLines d settings tree decorator block)
      by None are = tt
      by (Some lines) are = are lines refl

  -- lines without annotations are those of lines with all promises
  pub unannotated-are-lines : (bare : List (Line (Unit {0}) ℕ)) →
      option_map unannotated (layout_lines d settings tree decorator block) ≡ Some bare →
      Lines d settings tree decorator block (λ lines. bare ≡ unannotated lines)
  unannotated-are-lines bare e = by (layout_lines d settings tree decorator block) are-lines e
    where
      by : (o : Option (List (Line (List A) ℕ))) → ((lines : List (Line (List A) ℕ)) → o ≡ Some lines →
          AreLines d settings tree decorator block lines) → option_map unannotated o ≡ Some bare →
          Lines d settings tree decorator block (λ lines. bare ≡ unannotated lines)
      by None are e = cc
      by (Some lines) are e = (lines, are lines refl, sym (same_Some (unannotated lines) bare e))

  -- with overflow on there are lines at each width from 1
  pub lines_there : HasLines d settings tree decorator block
  lines_there on some = layout_succeeds d settings tree decorator block on (omega (arith, some))

  -- with overflow on and a width from 1, the result isn't `TooNarrow`
  pub wide_enough : {X : Type 0} (r : Result X Error) → IfErr r (λ e. Refuses e (layout_lines d settings tree decorator block)) →
      0 < block.width → block.overflow ≡ true → r ≢ Err TooNarrow
  wide_enough (Ok v) h positive on e = cc
  wide_enough {X} (Err x) h positive on e =
      by (layout_lines d settings tree decorator block) (lines_there on (omega (arith, positive)))
      (subst (λ (y : Error). Refuses y (layout_lines d settings tree decorator block)) (same_error x e) h)
    where
      same_error : (x : Error) → ◌≡◌ {A = Result X Error} (Err x) (Err TooNarrow) → x ≡ TooNarrow
      same_error x e = cc

      by : (q : Option (List (Line (List A) ℕ))) → IsSome q → q ≡ None → ⊥
      by None k e = cc
      by (Some p) k e = cc

-- an error that a mapped option allows is one that the option allows
pub refuses-mapped : {L M : Type 0} (f : L → M) (e : Error) (o : Option L) → Refuses e (option_map f o) → Refuses e o
refuses-mapped f TooNarrow None h = refl
refuses-mapped f TooNarrow (Some ls) h = cc
refuses-mapped f e o h = h

-- every tree restores the treatment of texts and the decorator
pub texts_left : {S A : Type 0} (d : Decoration S A) → LeavesTexts d
texts_left d t s = layout_leaves d t s
