-- The laws of the layout. With overflow off no line passes the width. With overflow on only width 0 is too narrow. Where
-- overflow off gives lines, overflow on gives the same.
use Rattle.std.proofs.Common.{◌≡◌, ℕ, ◌<◌, ◌==◌, Bool, true, false, cond, List, [], ◌∷◌, ◌++◌, Option, Some, None, refl, sym, ap, ◌∙◌, arith}
use Rattle.std.proofs.Common.{IfSome, IsSome}
use Rattle.std.proofs.lemmas.Bool.{eqb-true}
use Rattle.std.proofs.lemmas.Option.{same_Some}
use Rattle.html_render_dom_values.specs.Forest.{Forest}
use Rattle.html_render_parts.specs.Decoration.{Decoration}
use Rattle.html_render_layout_lines.specs.Line.{Line, AllWithinWidth}
use Rattle.html_render_layout_lines.specs.laws.Cases.{if_cases}
use Rattle.html_render_layout_nodes.specs.declared.tree.RenderNode.{RenderNode}
use Rattle.html_render_layout_blocks.specs.declared.block.BlockSetting.{BlockSetting}
use Rattle.html_render_layout_blocks.specs.Block.{empty_block}
use Rattle.html_render_layout_blocks.specs.Definition as definition
use Rattle.html_render_layout_blocks.specs.Ends.{ended_by}
use Rattle.html_render_layout_blocks.specs.Definition.{definition as defined_parts, DefinedBlock}
use Rattle.html_render_layout_paragraphs.specs.laws.Answers.{Both}
use Rattle.html_render_layout_blocks.specs.laws.Beside.{Tags, Later, Blocks, operations-beside, ends-beside, empty-beside, lines-beside}
use Rattle.html_render_layout_estimates.specs.declared.settings.LayoutSettings.{LayoutSettings}
use Rattle.html_render_layout.specs.Layout.{by_stacks, shown_after, Defined, empty_state, estimated, layout_lines, mark_names}
use Rattle.html_render_layout.specs.Working.{padding}
use Rattle.html_render_layout.specs.laws.Related.{Other, with_other, shown-related}

-- a layout of a tree whose overflow is o, beside the layout with overflow on
module _ {S A : Type 0} (d : Decoration S A) (settings : LayoutSettings) (o : Bool) where
  -- stacks of both sides: none, as the tags are stacks themselves
  abbrev Stacks : Type 0
  Stacks = Unit {0} × Unit {0}

  abbrev Beside : ℕ → Stacks → DefinedBlock (List A) ℕ → DefinedBlock (List A) ℕ → Type 0
  Beside = Blocks (List A) Stacks o settings.wrap_links

  abbrev OtherParts : Type 0
  OtherParts = Other (Unit {0}) (List A) (DefinedBlock (List A) ℕ)

  shown-beside : {X : Type 0} (R : X → X → Type 0) (view : Defined S A → X) (t : Forest RenderNode) (decorator : S) (b : BlockSetting) →
      b.overflow ≡ o → ((r : Defined S A) (u : OtherParts) → Beside b.width (tt, tt) r.block u.block → R (view r) (view (with_other r u))) →
      Both (o ≡ false) (o ≡ false) R (shown_after (by_stacks d) (ended_by definition.ending) view t (empty_state d settings decorator b))
      (shown_after (by_stacks d) (ended_by definition.ending) view t (empty_state d settings decorator (record b { overflow = true })))
  shown-beside R view t decorator b on related =
      let other : OtherParts =
      record { stacks = tt; tag = []; blank = []; block = empty_block defined_parts (record b { overflow = true }) (padding settings []) } in
      shown-related (by_stacks d) (by_stacks d).push definition.operations (o ≡ false) (o ≡ false) (λ x. x) (Later (List A) Stacks o settings.wrap_links)
      (λ w. tt) (λ w v u k l. tt) (Tags (List A) Stacks o settings.wrap_links) (λ w v t u e l. e) Beside (λ v w z b c k l. k) (λ k l t u a e. tt)
      (λ k l t u a e. ap (λ z. z ++ a ∷ []) e) (operations-beside (List A) Stacks o settings.wrap_links) definition.ending definition.ending
      (λ c. c ≡ settings.wrap_links) (ends-beside (List A) Stacks o settings.wrap_links) R view view b.width (λ r u k. related r u k.1.1) t
      (empty_state d settings decorator b) other refl
      (refl, (refl, empty-beside (List A) Stacks o settings.wrap_links (tt, tt) b (padding settings []) on))

  pub lines-shown : (t : Forest RenderNode) (decorator : S) (b : BlockSetting) → b.overflow ≡ o →
      Both (o ≡ false) (o ≡ false) (λ a c. (c ≡ a) × ((o ≡ false) × (settings.wrap_links ≡ true) → AllWithinWidth b.width a))
      (shown_after (by_stacks d) (ended_by definition.ending) (λ (r : Defined S A). r.block.lines) t (empty_state d settings decorator b))
      (shown_after (by_stacks d) (ended_by definition.ending) (λ (r : Defined S A). r.block.lines) t (empty_state d settings decorator (record b { overflow = true })))
  lines-shown t decorator b on =
      shown-beside _ (λ (r : Defined S A). r.block.lines) t decorator b on (λ r u k.
      lines-beside (List A) Stacks o settings.wrap_links b.width (tt, tt) r.block u.block k)

  pub names-shown : (t : Forest RenderNode) (decorator : S) (b : BlockSetting) → b.overflow ≡ o → Both (o ≡ false) (o ≡ false) (λ a c. c ≡ a)
      (shown_after (by_stacks d) (ended_by definition.ending) (λ (r : Defined S A). r.names) t (empty_state d settings decorator b))
      (shown_after (by_stacks d) (ended_by definition.ending) (λ (r : Defined S A). r.names) t (empty_state d settings decorator (record b { overflow = true })))
  names-shown t decorator b on = shown-beside (λ a c. c ≡ a) (λ (r : Defined S A). r.names) t decorator b on (λ r u k. refl)

module _ {S A : Type 0} (d : Decoration S A) (settings : LayoutSettings) where
  -- with overflow off, and closing lines cut, no line passes the width
  pub layout_within : (t : Forest RenderNode) (decorator : S) (b : BlockSetting) → IfSome (layout_lines d settings t decorator b) (λ lines.
      b.overflow ≡ false → settings.wrap_links ≡ true → AllWithinWidth b.width lines)
  layout_within t decorator b =
      if_cases (λ x. IfSome x Within) (b.width == 0) _ _ (λ _. tt) (λ _.
      first _ _ (lines-shown d settings b.overflow (estimated d settings decorator t) decorator b refl))
    where
      Within : List (Line (List A) ℕ) → Type 0
      Within lines = b.overflow ≡ false → settings.wrap_links ≡ true → AllWithinWidth b.width lines

      first : (o p : Option (List (Line (List A) ℕ))) → Both (b.overflow ≡ false) (b.overflow ≡ false)
          (λ a c. (c ≡ a) × ((b.overflow ≡ false) × (settings.wrap_links ≡ true) → AllWithinWidth b.width a)) o p → IfSome o Within
      first None p k = tt
      first (Some a) None k = absurd k
      first (Some a) (Some c) k = λ off wrapped. k.1 (off, wrapped)

  -- with overflow on, only width 0 is too narrow
  pub layout_succeeds : (t : Forest RenderNode) (decorator : S) (b : BlockSetting) → b.overflow ≡ true → 0 < b.width →
      IsSome (layout_lines d settings t decorator b)
  layout_succeeds t decorator b on h =
      if_cases (λ (x : Option (List (Line (List A) ℕ))). IsSome x) (b.width == 0) _ _ (λ e. absurd (let zero = eqb-true b.width 0 e in omega arith)) (λ _.
      there _ _ _ (lines-shown d settings b.overflow (estimated d settings decorator t) decorator b refl))
    where
      there : (R : List (Line (List A) ℕ) → List (Line (List A) ℕ) → Type 0) (o p : Option (List (Line (List A) ℕ))) →
          Both (b.overflow ≡ false) (b.overflow ≡ false) R o p → IsSome o
      there R None None k = cc
      there R None (Some c) k = cc
      there R (Some a) p k = refl

  -- each result is that of overflow off, where there is one, if overflow on gives what overflow off gives
  same_answer : {L : Type 0} (R : L → L → Type 0) → ((a b : L) → R a b → b ≡ a) → (narrow : Bool) (f : Bool → Option L) →
      Both (false ≡ false) (false ≡ false) R (f false) (f true) → (o : Bool) (x : L) → cond narrow None (f o) ≡ Some x →
      IfSome (cond narrow None (f false)) (λ y. x ≡ y)
  same_answer R is true f k o x e = tt
  same_answer R is false f k false x e = rw e refl
  same_answer {L} R is false f k true x e = by (f false) (f true) k e
    where
      by : (a b : Option L) → Both (false ≡ false) (false ≡ false) R a b → b ≡ Some x → IfSome a (λ y. x ≡ y)
      by None b k e = tt
      by (Some a) None k e = absurd k
      by (Some a) (Some b) k e = sym (same_Some b x e) ∙ is a b k

  -- lines are those of overflow off, where it gives any
  pub layout_same : (t : Forest RenderNode) (decorator : S) (b : BlockSetting) (lines : List (Line (List A) ℕ)) →
      layout_lines d settings t decorator b ≡ Some lines → IfSome (layout_lines d settings t decorator (record b { overflow = false })) (λ others. lines ≡ others)
  layout_same t decorator b lines e =
      same_answer _ (λ a c k. k.0) (b.width == 0) (λ o. shown_after (by_stacks d) (ended_by definition.ending) (λ (r : Defined S A). r.block.lines)
      (estimated d settings decorator t) (empty_state d settings decorator (record b { overflow = o })))
      (lines-shown d settings false (estimated d settings decorator t) decorator (record b { overflow = false }) refl) b.overflow lines e

  -- names of marks are those of overflow off, where that gives any
  pub same-names : (t : Forest RenderNode) (decorator : S) (b : BlockSetting) (names : List (List ℕ)) →
      mark_names d settings t decorator b ≡ Some names → IfSome (mark_names d settings t decorator (record b { overflow = false })) (λ others. names ≡ others)
  same-names t decorator b names e =
      same_answer (λ a c. c ≡ a) (λ a c k. k) (b.width == 0) (λ o. shown_after (by_stacks d) (ended_by definition.ending) (λ (r : Defined S A). r.names)
      (estimated d settings decorator t) (empty_state d settings decorator (record b { overflow = o })))
      (names-shown d settings false (estimated d settings decorator t) decorator (record b { overflow = false }) refl) b.overflow names e
