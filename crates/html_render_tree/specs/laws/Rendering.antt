-- Lines of a configuration with their promises, and their strings and texts.
use Rattle.std.proofs.Common.{◌≡◌, ℕ, Bool, true, false, List, [], ◌∷◌, ◌++◌, Option, Some, None, ◌==◌, ◌↔◌, cond, option_map, option_and_then, refl}
use Rattle.std.proofs.Common.{map, sym, ap, ◌∙◌}
use Rattle.std.specs.Prelude.{◌≢◌, ◌≤◌, Result, Err, encode_utf8}
use Rattle.std.specs.Cmp.Lexicographic.{pointwise}
use Rattle.html_render_dom_values.specs.Forest.{Forest}
use Rattle.html_render_dom_values.specs.declared.errors.Error.{Error}
use Rattle.html_render_dom_values.specs.declared.errors.Error.TheVariants.{TooNarrow}
use Rattle.html_render_parts.specs.Decoration.{Decoration}
use Rattle.html_render_layout_lines.specs.declared.line.Element.TheVariants.{Character, Mark}
use Rattle.html_render_layout_lines.specs.Line.{Line, text_bytes}
use Rattle.html_render_layout_lines.specs.Tags.{line_with, lines_with}
use Rattle.html_render_layout_nodes.specs.declared.tree.RenderNode.{RenderNode}
use Rattle.html_render_layout_estimates.specs.declared.settings.LayoutSettings.{LayoutSettings}
use Rattle.html_render_layout_nodes.specs.Visits.{run}
use Rattle.html_render_layout_blocks.specs.declared.block.BlockSetting.{BlockSetting}
use Rattle.html_render_layout.specs.Layout.{layout_lines, mark_names, by_stacks, layout_of, Defined, estimated, empty_state, unannotated}
use Rattle.html_render_layout.specs.Promises.{AreLines}
use Rattle.html_render_layout.specs.laws.Promises.{lines_there, same-names, texts_left}
use Rattle.html_render_layout_tagged.specs.Grouping.{LinePart, grouped}
use Rattle.html_render_tree.specs.Rendering.{document_block, Options, rendered_lines, rendered_names, rendered_strings, KeepsPromises, Rendered, AreStrings}
use Rattle.html_render_tree.specs.Texts.{text_of}

-- ---- texts

module _ {T U : Type 0} (f : T → U) where
  bytes-with : (l : Line T ℕ) → text_bytes (line_with f l) ≡ text_bytes l
  bytes-with [] = refl
  bytes-with (Character c t ∷ es) = ap (λ bs. encode_utf8 c ++ bs) (bytes-with es)
  bytes-with (Mark m ∷ es) = bytes-with es

  -- the text of lines doesn't depend on their tags
  pub text-with : (ls : List (Line T ℕ)) → text_of (lines_with f ls) ≡ text_of ls
  text-with [] = refl
  text-with (l ∷ ls) = ap (λ bs. (bs ++ 10 ∷ []) ++ text_of (lines_with f ls)) (bytes-with l) ∙ ap (λ bs. (text_bytes l ++ 10 ∷ []) ++ bs) (text-with ls)

-- ---- lines and names

-- two views of one state exist together or not at all
together : {X Y L M : Type 0} (z : Bool) (o : Option X) (g : X → Option Y) (f : Y → L) (h : Y → M) →
    (cond z None (option_and_then (λ x. option_and_then (λ y. Some (f y)) (g x)) o) ≡ None)
    ↔ (cond z None (option_and_then (λ x. option_and_then (λ y. Some (h y)) (g x)) o) ≡ None)
together true o g f h = (λ e. refl, λ e. refl)
together false None g f h = (λ e. refl, λ e. refl)
together {X} {Y} {L} {M} false (Some x) g f h = by (g x)
  where
    by : (p : Option Y) → (option_and_then (λ y. Some (f y)) p ≡ None) ↔ (option_and_then (λ y. Some (h y)) p ≡ None)
    by None = (λ e. refl, λ e. refl)
    by (Some y) = (λ e. cc, λ e. cc)

pub none_together : {S A : Type 0} (d : Decoration S A) (settings : LayoutSettings) (tree : Forest RenderNode) (decorator : S)
    (block : BlockSetting) →
    (layout_lines d settings tree decorator block ≡ None) ↔ (mark_names d settings tree decorator block ≡ None)
none_together {S} {A} d settings tree decorator block =
    together {X = Defined S A} {Y = Defined S A} (block.width == 0) (run (layout_of (by_stacks d)) (estimated d settings decorator tree) (empty_state d settings decorator block))
    _ (λ (s : Defined S A). s.block.lines) (λ (s : Defined S A). s.names)

-- ---- promises of lines

-- the text of lines is that of the lines without annotations
pub text-rendered : {S A : Type 0} (d : Decoration S A) (options : Options S) (tree : Forest RenderNode) (width : ℕ)
    (bare : List (Line (Unit {0}) ℕ)) (bytes : List ℕ) → Rendered d options tree width (λ lines. bare ≡ unannotated lines) → bytes ≡ text_of bare →
    Rendered d options tree width (λ lines. bytes ≡ text_of lines)
text-rendered {S} {A} d options tree width bare bytes h b = (h.0, h.1, b ∙ ap text_of h.2 ∙ text-with (λ (stack : List A). tt) h.0)

-- that text is the text of the definition's lines
pub text-answered : {S A : Type 0} (d : Decoration S A) (options : Options S) (tree : Forest RenderNode) (width : ℕ) (bytes : List ℕ) →
    Rendered d options tree width (λ lines. bytes ≡ text_of lines) → option_map text_of (rendered_lines d options tree width) ≡ Some bytes
text-answered d options tree width bytes h = ap (option_map text_of) h.1.are ∙ ap Some (sym h.2)

-- strings are the lines under the names of their marks, with all promises
pub strings-rendered : {S A : Type 0} (d : Decoration S A) (options : Options S) (tree : Forest RenderNode) (width : ℕ) (eq : A → A → Bool)
    (strings : List (List (LinePart (List A)))) (lines : List (Line (List A) ℕ)) (names : List (List ℕ)) →
    AreLines d options.settings tree options.decorator (document_block options width) lines → rendered_names d options tree width ≡ Some names →
    strings ≡ map (grouped (pointwise eq) names) lines → Rendered d options tree width (AreStrings d options tree width eq strings)
strings-rendered d options tree width eq strings lines names are there grouped = (
  lines,
  are,
  record {
    names = names;
    are_names = there;
    same_names = same-names d options.settings tree options.decorator (document_block options width) names there;
    are = grouped;
  },
)

-- those strings are the definition's strings
pub strings-answered : {S A : Type 0} (d : Decoration S A) (options : Options S) (tree : Forest RenderNode) (width : ℕ) (eq : A → A → Bool)
    (strings : List (List (LinePart (List A)))) → Rendered d options tree width (AreStrings d options tree width eq strings) →
    rendered_strings d options tree width eq ≡ Some strings
strings-answered d options tree width eq strings h =
    ap (option_and_then (λ ls. option_and_then (λ ns. Some (map (grouped (pointwise eq) ns) ls)) (rendered_names d options tree width))) h.1.are
    ∙ ap (option_and_then (λ ns. Some (map (grouped (pointwise eq) ns) h.0))) h.2.are_names ∙ ap Some (sym h.2.are)

-- ---- promises

-- a call keeps its promises if it is `TooNarrow` at width 0, and with overflow on at no other width
pub promises_kept : {S A R : Type 0} (d : Decoration S A) (options : Options S) (tree : Forest RenderNode) (width : ℕ) (result : Result R Error) →
    (width ≡ 0 → result ≡ Err TooNarrow) → (options.overflow ≡ true → 1 ≤ width → result ≢ Err TooNarrow) →
    KeepsPromises d options tree width result
promises_kept d options tree width result none wide =
    (none, wide, lines_there d options.settings tree options.decorator (document_block options width), texts_left d)
