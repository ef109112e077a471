-- THE THEOREM: the code's layout, on blocks that are fed character by character, is the definition's, on whole lists and
-- annotation stacks: with tags that are indices, and without tags.
use Rattle.std.proofs.Common.{◌≡◌, ◌≢◌, ◌==◌, ℕ, [], ◌∷◌, ◌++◌, length, List, Option, Some, None, Result}
use Rattle.std.proofs.Common.{refl, sym, ap, ◌∙◌, append_assoc, append-nil, option_map}
use Rattle.std.proofs.lemmas.Bool.{ne_eqb}
use Rattle.std.proofs.Math.Seq.{get_or-append_seam}
use Rattle.html_render_dom_values.specs.declared.errors.Error.{Error}
use Rattle.html_render_dom_values.specs.Forest.{Forest}
use Rattle.html_render_parts.specs.Decoration.{Decoration}
use Rattle.html_render_parts_widths.specs.declared.Meter.{Meter}
use Rattle.html_render_layout_lines.specs.declared.line.Element.{Element}
use Rattle.html_render_layout_lines.specs.declared.line.Element.TheVariants.{Character, Mark}
use Rattle.html_render_layout_lines.specs.Line.{Line}
use Rattle.html_render_layout_lines.specs.laws.Cases.{if_false}
use Rattle.html_render_layout_lines.specs.Tags.{element_with, line_with, lines_with}
use Rattle.html_render_layout_nodes.specs.declared.tree.RenderNode.{RenderNode}
use Rattle.html_render_layout_estimates.specs.Passes.{with_needed_sizes}
use Rattle.html_render_layout_blocks.specs.declared.block.BlockSetting.{BlockSetting}
use Rattle.html_render_layout_blocks.specs.Block.{empty_block}
use Rattle.html_render_layout_blocks.specs.Definition as definition
use Rattle.html_render_layout_blocks.specs.Ends.{ended_by}
use Rattle.html_render_layout_blocks.specs.Definition.{definition, DefinedBlock}
use Rattle.html_render_layout_blocks.specs.Machine as machine
use Rattle.html_render_layout_blocks.specs.Machine.{machine}
use Rattle.html_render_layout_blocks.specs.laws.BlockSeen.{Tags, empty-seen}
use Rattle.html_render_layout_blocks.specs.laws.Related.{OptionTags, either}
use Rattle.html_render_layout_tagged.specs.Stacks.{stack_at}
use Rattle.html_render_layout_tagged.specs.LaidOut.{tagged}
use Rattle.html_render_layout_nodes.specs.Counts.{CountsNodes}
use Rattle.html_render_layout_nodes.specs.Visits.{visited, most_open}
use Rattle.html_render_layout_nodes.specs.laws.Counts.{counts-same}
use Rattle.html_render_layout_estimates.specs.declared.settings.LayoutSettings.{LayoutSettings}
use Rattle.html_render_layout.specs.Layout.{by_stacks, layout_of, shown_after, Defined, empty_state}
use Rattle.html_render_layout.specs.Layout.{estimated, layout, layout_lines, mark_names, unannotated}
use Rattle.html_render_layout.specs.laws.Related.{Other}
use Rattle.html_render_layout.specs.laws.Sizes.{shown-needed, counts-needed}
use Rattle.html_render_layout.specs.Working.{begin_with, padding, by_tags, Worked, tabled, work_lines, work_names, Untagged, untagged, untagged_work}
use Rattle.html_render_layout.specs.laws.Representation.{Represents, walk-represented, lines-represented, names-represented}

-- ---- a map of tags that changes none

module _ {T M : Type 0} (f : T → T) (same : (t : T) → f t ≡ t) where
  element-same : (e : Element T M) → element_with f e ≡ e
  element-same (Character c t) = ap (λ t. Character c t) (same t)
  element-same (Mark m) = refl

  line-same : (l : Line T M) → line_with f l ≡ l
  line-same [] = refl
  line-same (e ∷ es) = ap (λ x. x ∷ line_with f es) (element-same e) ∙ ap (λ xs. e ∷ xs) (line-same es)

  lines-same : (ls : List (Line T M)) → lines_with f ls ≡ ls
  lines-same [] = refl
  lines-same (l ∷ ls) = ap (λ x. x ∷ lines_with f ls) (line-same l) ∙ ap (λ xs. l ∷ xs) (lines-same ls)

  mapped-same : (o : Option (List (Line T M))) → option_map (lines_with f) o ≡ o
  mapped-same None = refl
  mapped-same (Some ls) = ap Some (lines-same ls)

module _ {S A : Type 0} (d : Decoration S A) (settings : LayoutSettings) where
  -- lines of the definition for measured trees, from an empty block; none where it is too narrow
  abbrev wanted : Forest RenderNode → S → BlockSetting → Option (List (Line (List A) ℕ))
  wanted t decorator block =
      shown_after (by_stacks d) (ended_by definition.ending) (λ (r : Defined S A). r.block.lines) t (empty_state d settings decorator block)

  -- in a width that isn't 0, a view of the layout is one of the measured trees
  shown-wide : {X : Type 0} (view : Defined S A → X) (t : Forest RenderNode) (decorator : S) (block : BlockSetting) → block.width ≢ 0 →
      shown_after (by_stacks d) (ended_by definition.ending) view (estimated d settings decorator t) (empty_state d settings decorator block)
      ≡ layout d settings view t decorator block
  shown-wide view t decorator block wide = sym (if_false (block.width == 0) None _ (ne_eqb block.width 0 wide))

  -- ---- tags that are indices of stacks

  -- whether l is k with more stacks pushed
  abbrev Pushed : List (List A) → List (List A) → Type 0
  Pushed k l = (more : List (List A)) × (l ≡ k ++ more)

  Pushed-goes : (k l m : List (List A)) → Pushed k l → Pushed l m → Pushed k m
  Pushed-goes k l m a b = (a.0 ++ b.0, b.1 ∙ ap (λ x. x ++ b.0) a.1 ∙ append_assoc k a.0 b.0)

  -- the tag of a pushed annotation refers to its stack, also after later pushes
  tag_pushed : (k : List (List A)) (t : ℕ) (a : A) (stack : List A) → ((l : List (List A)) → Pushed k l → stack_at l t ≡ stack) →
      (l : List (List A)) → Pushed (tabled k t a).0 l → stack_at l (tabled k t a).1 ≡ stack ++ a ∷ []
  tag_pushed k t a stack h l g =
      ap (λ x. stack_at x (length k)) (g.1 ∙ append_assoc k ((stack_at k t ++ a ∷ []) ∷ []) g.0)
      ∙ get_or-append_seam k (stack_at k t ++ a ∷ []) g.0 []
      ∙ ap (λ x. x ++ a ∷ []) (h k ([], sym (append-nil k)))

  abbrev pub empty_worked : S → BlockSetting → Worked S A
  empty_worked decorator block =
      begin_with settings (d.subblock decorator) ([] ∷ []) 0 (empty_block machine block (padding settings 0))

  -- parts in which the definition's state differs
  abbrev stacked : BlockSetting → Other (Unit {0}) (List A) (DefinedBlock (List A) ℕ)
  stacked block =
      record { stacks = tt; tag = []; blank = []; block = empty_block definition block (padding settings []) }

  -- table of stacks, with nothing on the other side
  abbrev Tabled : Type 0
  Tabled = List (List A) × Unit {0}

  begins : (decorator : S) (block : BlockSetting) →
      Represents d tabled stack_at (λ (s : List A). s) Pushed (λ k. ([], sym (append-nil k))) Pushed-goes
      (λ k t a. ((stack_at k t ++ a ∷ []) ∷ [], refl)) tag_pushed block.width (empty_worked decorator block) (stacked block)
  begins decorator block = (
    λ l g. ap (λ x. stack_at x 0) g.1,
    (
      λ l g. ap (λ x. stack_at x 0) g.1,
      empty-seen (λ (k : Tabled) t. stack_at k.0 t) (λ (s : List A). s) (λ (k l : Tabled). Pushed k.0 l.0)
          (λ (k : Tabled). ([], sym (append-nil k.0))) (λ (k l m : Tabled). Pushed-goes k.0 l.0 m.0) (([] ∷ []), tt)
          block (padding settings 0) (padding settings [])
          (either (OptionTags (Tags (λ (k : Tabled) t. stack_at k.0 t) (λ (s : List A). s) (λ (k l : Tabled). Pushed k.0 l.0)
          (λ (k : Tabled). ([], sym (append-nil k.0))) (λ (k l m : Tabled). Pushed-goes k.0 l.0 m.0)) (([] ∷ []), tt)) settings.pad_block_width
          settings.pad_block_width (Some 0) None (Some []) None refl (λ l g. ap (λ x. stack_at x 0) g.1) tt),
    ),
  )

  work_lines-wanted : (t : Forest RenderNode) (decorator : S) (block : BlockSetting) →
      work_lines d t (empty_worked decorator block) ≡ wanted t decorator block
  work_lines-wanted t decorator block =
      lines-represented d tabled stack_at (λ (s : List A). s) Pushed (λ k. ([], sym (append-nil k))) Pushed-goes
      (λ k t a. ((stack_at k t ++ a ∷ []) ∷ [], refl)) tag_pushed
      (λ (r : Worked S A). lines_with (stack_at r.stacks) r.block.lines) (λ r. refl) t block.width (empty_worked decorator block) (stacked block)
      (begins decorator block)
      ∙ mapped-same (λ (s : List A). s) (λ s. refl) (wanted t decorator block)

  -- from an empty block of a width that isn't 0, the code's lines of the measured trees are the definition's of the tree
  pub layout_lines-works : (t measured : Forest RenderNode) (decorator : S) (block : BlockSetting) (s : Worked S A) → block.width ≢ 0 →
      measured ≡ with_needed_sizes (estimated d settings decorator t) → s ≡ empty_worked decorator block → work_lines d measured s ≡ layout_lines d settings t decorator block
  layout_lines-works t measured decorator block s wide m e =
      ap (λ x. work_lines d measured x) e ∙ ap (λ x. work_lines d x (empty_worked decorator block)) m
      ∙ shown-needed (by_tags d tabled) (ended_by machine.ending) (λ (r : Worked S A). tagged r.stacks r.block.lines)
      (estimated d settings decorator t) (empty_worked decorator block)
      ∙ work_lines-wanted (estimated d settings decorator t) decorator block ∙ shown-wide (λ (r : Defined S A). r.block.lines) t decorator block wide

  -- from an empty block of a width that isn't 0, the code's names of marks are the definition's
  pub mark_names-works : (t measured : Forest RenderNode) (decorator : S) (block : BlockSetting) (s : Worked S A) → block.width ≢ 0 →
      measured ≡ with_needed_sizes (estimated d settings decorator t) → s ≡ empty_worked decorator block → work_names d measured s ≡ mark_names d settings t decorator block
  mark_names-works t measured decorator block s wide m e =
      ap (λ x. work_names d measured x) e ∙ ap (λ x. work_names d x (empty_worked decorator block)) m
      ∙ shown-needed (by_tags d tabled) (ended_by machine.ending) (λ (r : Worked S A). r.names)
      (estimated d settings decorator t) (empty_worked decorator block)
      ∙ names-represented d tabled stack_at (λ (s : List A). s) Pushed (λ k. ([], sym (append-nil k))) Pushed-goes
      (λ k t a. ((stack_at k t ++ a ∷ []) ∷ [], refl)) tag_pushed (estimated d settings decorator t) block.width (empty_worked decorator block)
      (stacked block) (begins decorator block)
      ∙ shown-wide (λ (r : Defined S A). r.names) t decorator block wide

  -- the code's walk visits the nodes that the definition visits; the most nodes open at once are equal
  pub counts-work : {X : Type 0} (r : Result X Error) (t measured : Forest RenderNode) (decorator : S) (block : BlockSetting)
      (s : Worked S A) (old other new : Meter) → measured ≡ with_needed_sizes (estimated d settings decorator t) → s ≡ empty_worked decorator block →
      other.probes ≡ old.probes → CountsNodes r (layout_of (by_tags d tabled)) measured s other new →
      CountsNodes r (layout_of (by_stacks d)) (estimated d settings decorator t) (empty_state d settings decorator block) old new
  counts-work r t measured decorator block s old other new m e probes c =
      let u = estimated d settings decorator t in
      let walk = walk-represented d tabled stack_at (λ (s : List A). s) Pushed (λ k. ([], sym (append-nil k))) Pushed-goes
      (λ k t a. ((stack_at k t ++ a ∷ []) ∷ [], refl)) tag_pushed u block.width (empty_worked decorator block) (stacked block) (begins decorator block) in
      counts-same r (layout_of (by_tags d tabled)) (layout_of (by_stacks d)) u s (empty_state d settings decorator block) old other new
      (ap (λ x. visited (layout_of (by_tags d tabled)) u x) e ∙ walk.0)
      (ap (λ x. most_open (layout_of (by_tags d tabled)) u x) e ∙ walk.1) probes
      (counts-needed (by_tags d tabled) r u s other new (rw m at c))

  -- ---- no tags

  abbrev pub empty_untagged : {K : Type 0} → K → S → BlockSetting → Untagged S K
  empty_untagged k decorator block =
      begin_with settings (d.subblock decorator) k tt (empty_block machine block (padding settings tt))

  untagged_work-wanted : {K : Type 0} (t : Forest RenderNode) (decorator : S) (block : BlockSetting) (k : K) →
      untagged_work d t (empty_untagged k decorator block) ≡ option_map (lines_with (λ (s : List A). tt)) (wanted t decorator block)
  untagged_work-wanted {K} t decorator block k =
      lines-represented d untagged (λ k t. tt) (λ (s : List A). tt) (λ k l. Unit {0}) (λ k. tt) (λ k l m a b. tt) (λ k t a. tt)
      (λ k t a s h l g. refl)
      (λ (r : Untagged S K). r.block.lines) (λ r. sym (lines-same (λ (t : Unit {0}). tt) (λ t. refl) r.block.lines)) t block.width
      (empty_untagged k decorator block) (stacked block) (
        λ l g. refl,
        (
          λ l g. refl,
          empty-seen (λ (k : K × Unit {0}) (t : Unit {0}). tt) (λ (s : List A). tt) (λ k l. Unit {0}) (λ k. tt) (λ k l m a b. tt) (k, tt)
              block (padding settings tt) (padding settings [])
              (either (OptionTags (Tags (λ (k : K × Unit {0}) (t : Unit {0}). tt) (λ (s : List A). tt) (λ k l. Unit {0}) (λ k. tt) (λ k l m a b. tt))
              (k, tt)) settings.pad_block_width settings.pad_block_width (Some tt) None (Some []) None refl (λ l g. refl) tt),
        ),
      )

  -- from an empty block of a width that isn't 0, the code's lines without tags are the definition's without annotations
  pub untagged_lines-works : {K : Type 0} (t measured : Forest RenderNode) (decorator : S) (block : BlockSetting) (k : K)
      (s : Untagged S K) → block.width ≢ 0 → measured ≡ with_needed_sizes (estimated d settings decorator t) → s ≡ empty_untagged k decorator block →
      untagged_work d measured s ≡ option_map unannotated (layout_lines d settings t decorator block)
  untagged_lines-works {K} t measured decorator block k s wide m e =
      ap (λ x. untagged_work d measured x) e ∙ ap (λ x. untagged_work d x (empty_untagged k decorator block)) m
      ∙ shown-needed (by_tags d untagged) (ended_by machine.ending) (λ (r : Untagged S K). r.block.lines)
      (estimated d settings decorator t) (empty_untagged k decorator block)
      ∙ untagged_work-wanted (estimated d settings decorator t) decorator block k
      ∙ ap (option_map (lines_with (λ (s : List A). tt))) (shown-wide (λ (r : Defined S A). r.block.lines) t decorator block wide)
