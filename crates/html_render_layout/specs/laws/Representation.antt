-- THE THEOREM: a layout whose characters carry tags represents the definition's layout, whose characters carry annotation
-- stacks.
use Rattle.std.proofs.Common.{◌≡◌, ℕ, List, ◌∷◌, [], ◌++◌, Option, Some, None, refl, ap, ◌∙◌, option_map}
use Rattle.std.proofs.lemmas.Iterator.Adapters.{option_map_id}
use Rattle.html_render_dom_values.specs.Forest.{Forest}
use Rattle.html_render_parts.specs.Decoration.{Decoration}
use Rattle.html_render_layout_lines.specs.Line.{Line}
use Rattle.html_render_layout_lines.specs.Tags.{lines_with}
use Rattle.html_render_layout_nodes.specs.declared.tree.RenderNode.{RenderNode}
use Rattle.html_render_layout_nodes.specs.Visits.{visited, most_open}
use Rattle.html_render_layout_blocks.specs.Definition as definition
use Rattle.html_render_layout_blocks.specs.Ends.{ended_by}
use Rattle.html_render_layout_blocks.specs.Definition.{DefinedBlock}
use Rattle.html_render_layout_blocks.specs.Machine as machine
use Rattle.html_render_layout_blocks.specs.Machine.{MachineBlock}
use Rattle.html_render_layout_paragraphs.specs.laws.Answers.{Both}
use Rattle.html_render_layout_blocks.specs.laws.BlockSeen.{Tags, Blocks, operations-seen, ends-seen, later-seen, lines-seen}
use Rattle.html_render_layout.specs.declared.state.LayoutState.{LayoutState}
use Rattle.html_render_layout.specs.Layout.{by_stacks, layout_of, shown_after, Defined}
use Rattle.html_render_layout.specs.Working.{by_tags}
use Rattle.html_render_layout.specs.laws.Related.{Other, with_other, walked-related, shown-related}

-- `push` adds an annotation on top of a tag, in a store K; `shown` is the view of a tag and `seen` that of a stack. Later
-- relates a store to later ones: in all of them a pushed tag has the view of the pushed stack.
module _ {S A K T V : Type 0} (d : Decoration S A) (push : K → T → A → K × T) (shown : K → T → V) (seen : List A → V)
    (Later : K → K → Type 0) (stays : (k : K) → Later k k) (goes : (k l m : K) → Later k l → Later l m → Later k m)
    (pushed : (k : K) (t : T) (a : A) → Later k (push k t a).0)
    (tag_pushed : (k : K) (t : T) (a : A) (stack : List A) → ((l : K) → Later k l → shown l t ≡ seen stack) →
    (l : K) → Later (push k t a).0 l → shown l (push k t a).1 ≡ seen (stack ++ a ∷ [])) where
  abbrev Worked : Type 0
  Worked = LayoutState S K T (MachineBlock T ℕ)

  abbrev Stacked : Type 0
  Stacked = Other (Unit {0}) (List A) (DefinedBlock (List A) ℕ)

  -- store, with nothing on the other side
  abbrev Kept : Type 0
  Kept = K × Unit {0}

  abbrev GoesOn : Kept → Kept → Type 0
  GoesOn w v = Later w.0 v.0

  abbrev Going : (w v u : Kept) → GoesOn w v → GoesOn v u → GoesOn w u
  Going w v u = goes w.0 v.0 u.0

  abbrev ShowsTag : Kept → T → List A → Type 0
  ShowsTag = Tags (λ (w : Kept) t. shown w.0 t) seen GoesOn (λ w. stays w.0) Going

  abbrev ShowsBlock : ℕ → Kept → MachineBlock T ℕ → DefinedBlock (List A) ℕ → Type 0
  ShowsBlock = Blocks (λ (w : Kept) t. shown w.0 t) seen GoesOn (λ w. stays w.0) Going

  -- whether a state with tags represents the state with stacks, now and with every later store
  abbrev pub Represents : ℕ → Worked → Stacked → Type 0
  Represents i s v =
      ShowsTag (s.stacks, v.stacks) s.text.tag v.tag
      × (ShowsTag (s.stacks, v.stacks) s.blank v.blank × ShowsBlock i (s.stacks, v.stacks) s.block v.block)

  later_tag : (w v : Kept) (t : T) (u : List A) → ShowsTag w t u → GoesOn w v → ShowsTag v t u
  later_tag w v t u h g = λ l a. h l (goes w.0 v.0 l.0 g a)

  tag_shown : (k : K) (l : Unit {0}) (t : T) (u : List A) (a : A) → ShowsTag (k, l) t u → ShowsTag ((push k t a).0, l) (push k t a).1 (u ++ a ∷ [])
  tag_shown k l t u a x = λ m g. tag_pushed k t a u (λ n b. x (n, tt) b) m.0 g

  -- the code's walk visits the nodes that the definition visits; the most nodes open at once are equal
  pub walk-represented : (t : Forest RenderNode) (i : ℕ) (s : Worked) (v : Stacked) → Represents i s v →
      (visited (layout_of (by_tags d push)) t s ≡ visited (layout_of (by_stacks d)) t (with_other s v))
      × (most_open (layout_of (by_tags d push)) t s ≡ most_open (layout_of (by_stacks d)) t (with_other s v))
  walk-represented t i s v h =
      walked-related (by_tags d push) (by_stacks d).push definition.operations (Unit {0}) ⊥ (λ x. tt) GoesOn (λ w. stays w.0) Going ShowsTag later_tag
      ShowsBlock (λ i w v b c k l. later-seen (λ (w : Kept) t. shown w.0 t) seen GoesOn (λ w. stays w.0) Going i w v b c k l)
      (λ k l t u a x. pushed k t a) tag_shown (operations-seen (λ (w : Kept) t. shown w.0 t) seen GoesOn (λ w. stays w.0) Going) tt (λ x. x) t i s v h

  -- views of a state that represents another are related
  shown-represented : {X Y : Type 0} (R : X → Y → Type 0) (view : Worked → X) (wanted : Defined S A → Y) (i : ℕ) →
      ((r : Worked) (u : Stacked) → Represents i r u → R (view r) (wanted (with_other r u))) →
      (t : Forest RenderNode) (s : Worked) (v : Stacked) → Represents i s v →
      Both (Unit {0}) ⊥ R (shown_after (by_tags d push) (ended_by machine.ending) view t s)
      (shown_after (by_stacks d) (ended_by definition.ending) wanted t (with_other s v))
  shown-represented R view wanted i related t s v h =
      shown-related (by_tags d push) (by_stacks d).push definition.operations (Unit {0}) ⊥ (λ x. tt) GoesOn (λ w. stays w.0) Going ShowsTag later_tag
      ShowsBlock (λ i w v b c k l. later-seen (λ (w : Kept) t. shown w.0 t) seen GoesOn (λ w. stays w.0) Going i w v b c k l)
      (λ k l t u a x. pushed k t a) tag_shown (operations-seen (λ (w : Kept) t. shown w.0 t) seen GoesOn (λ w. stays w.0) Going)
      machine.ending definition.ending (λ cut. Unit {0}) (ends-seen (λ (w : Kept) t. shown w.0 t) seen GoesOn (λ w. stays w.0) Going)
      R view wanted i related t s v tt h

  -- partial values that are related by a map
  mapped : {X Y : Type 0} (f : Y → X) (x : Option X) (y : Option Y) → Both (Unit {0}) ⊥ (λ x y. x ≡ f y) x y → x ≡ option_map f y
  mapped f None None h = refl
  mapped f None (Some y) h = absurd h
  mapped f (Some x) None h = absurd h
  mapped f (Some x) (Some y) h = ap Some h

  -- the lines with the views of their tags are the definition's lines with the views of their stacks
  pub lines-represented : (view : Worked → List (Line V ℕ)) → ((r : Worked) → view r ≡ lines_with (shown r.stacks) r.block.lines) →
      (t : Forest RenderNode) (i : ℕ) (s : Worked) (v : Stacked) → Represents i s v → shown_after (by_tags d push) (ended_by machine.ending) view t s
      ≡ option_map (lines_with seen) (shown_after (by_stacks d) (ended_by definition.ending) (λ (r : Defined S A). r.block.lines) t (with_other s v))
  lines-represented view is t i s v h =
      mapped (lines_with seen) _ _
      (shown-represented (λ x y. x ≡ lines_with seen y) view (λ (r : Defined S A). r.block.lines) i (λ r u m.
      is r ∙ lines-seen (λ (w : Kept) t. shown w.0 t) seen GoesOn (λ w. stays w.0) Going i (r.stacks, u.stacks) r.block u.block m.1.1) t s v h)

  -- the names of marks are equal
  pub names-represented : (t : Forest RenderNode) (i : ℕ) (s : Worked) (v : Stacked) → Represents i s v →
      shown_after (by_tags d push) (ended_by machine.ending) (λ (r : Worked). r.names) t s
      ≡ shown_after (by_stacks d) (ended_by definition.ending) (λ (r : Defined S A). r.names) t (with_other s v)
  names-represented t i s v h =
      mapped (λ names. names) _ _ (shown-represented (λ x y. x ≡ y) (λ (r : Worked). r.names) (λ (r : Defined S A). r.names) i (λ r u m. refl) t s v h)
      ∙ option_map_id _
