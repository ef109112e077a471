-- THE THEOREM: two layouts whose tags and blocks are related, with operations that keep them related, end in related states.
use Rattle.std.specs.Prelude.{codes, if◌then◌else◌}
use Rattle.std.specs.Fmt.{decimal}
use Rattle.std.proofs.Common.{◌≡◌, ℕ, ◌+◌, ◌||◌, ◌&&◌, not, Bool, true, false, List, [], ◌∷◌, ◌++◌, length, map}
use Rattle.std.specs.Option.{option_map_or}
use Rattle.std.proofs.Common.{Option, Some, None, refl, sym, ap, ◌∙◌, ap₂, max, option_and_then}
use Rattle.std.specs.Str.{chars}
use Rattle.html_render_dom_values.specs.Forest.{Forest, none, node}
use Rattle.html_render_dom_values.specs.declared.white_space.WhiteSpace.TheVariants.{Normal}
use Rattle.html_render_layout_nodes.specs.declared.tree.Estimate.{Estimate}
use Rattle.html_render_layout_nodes.specs.declared.tree.NodeKind.{NodeKind}
use Rattle.html_render_layout_nodes.specs.declared.tree.RenderNode.{RenderNode}
use Rattle.html_render_layout_estimates.specs.Estimates.{prefix_columns}
use Rattle.html_render_layout_nodes.specs.Visits.{NodePlace, Bare, Skipped, Within, Places, bare, Visit, Leaf, Inner, through_visit, inside, followed}
use Rattle.html_render_layout_nodes.specs.Visits.{placed, run_at, run, nodes_at, visited, open_at, most_open}
use Rattle.html_render_layout_nodes.specs.laws.Visits.{from_state}
use Rattle.html_render_layout_paragraphs.specs.laws.Answers.{Both, Both-then, Both-map, Both-weaken}
use Rattle.html_render_layout_blocks.specs.Ends.{DocumentEnd, ended_by}
use Rattle.html_render_layout_blocks.specs.Operations.{Operations}
use Rattle.html_render_layout_blocks.specs.laws.Related.{Relates, RelatesEnds}
use Rattle.html_render_layout.specs.Layout.{OwnBlock}
use Rattle.html_render_layout.specs.Layout.{Shared, Prefixed, Indented}
use Rattle.html_render_layout.specs.declared.state.LayoutState.{LayoutState}
use Rattle.html_render_layout.specs.declared.state.TextContext.{TextContext}
use Rattle.html_render_layout.specs.Ending.{closing_texts}
use Rattle.html_render_layout.specs.Layout.{Algebra, Step, Write, WriteNumber, Annotate, Treat, Strike, Unstrike, Restore, NewLine, NewLineHard}
use Rattle.html_render_layout.specs.Layout.{StartBlock, EndBlock, Fence, BeginTable, EndTable, AddTarget, AddMark, Shape, Steps, Around, Items}
use Rattle.html_render_layout.specs.Layout.{Cells, spaces, block_of, shape_of, style_steps, struck, white_space_in, on_block}
use Rattle.html_render_layout.specs.Layout.{text_style, write, annotated, fence, perform, perform_all, within, nested, joined}
use Rattle.html_render_layout.specs.Opening.{add_styled}
use Rattle.html_render_layout.specs.Layout.{appended_block, place_in, block_place, cell_place, shape_layout, kind_layout, layout_of, shown_after}

-- treatment of texts under another tag
abbrev pub context : {T U : Type 0} → TextContext T → U → TextContext U
context text tag = record { tag = tag; mode = text.mode; preformatted = text.preformatted; struck_out = text.struck_out }

-- parts in which the two states differ: stacks, tags and block
pub record Other (L U C : Type 0) : Type 0 where
  pub stacks : L
  pub tag : U
  pub blank : U
  pub block : C

-- state with the stacks, tags and block of the other side
abbrev pub with_other : {S K T B L U C : Type 0} → LayoutState S K T B → Other L U C → LayoutState S L U C
with_other s v =
    record {
      settings = s.settings;
      decorator = s.decorator;
      stacks = v.stacks;
      text = context s.text v.tag;
      block = v.block;
      blank = v.blank;
      in_table = s.in_table;
      targets = s.targets;
      names = s.names;
    }

-- m and n are the algebras of the two sides, with one decoration. Tags relates tags and Blocks relates blocks, with the stacks
-- of both sides; each block has an index in I. Later relates stacks to later ones, with which tags and blocks stay related.
-- N holds if both sides refuse, M if only the first does.
module _ {S A K T B L U C I : Type 0} (m : Algebra S A K T B) (pull : L → U → A → L × U) (p : Operations C U ℕ) (N M : Type 0) (weak : M → N)
    (Later : K × L → K × L → Type 0) (stays : (w : K × L) → Later w w)
    (goes : (w v u : K × L) → Later w v → Later v u → Later w u)
    (Tags : K × L → T → U → Type 0) (tags_later : (w v : K × L) (t : T) (u : U) → Tags w t u → Later w v → Tags v t u)
    (Blocks : I → K × L → B → C → Type 0)
    (blocks_later : (i : I) (w v : K × L) (b : B) (c : C) → Blocks i w b c → Later w v → Blocks i v b c)
    (goes_on : (k : K) (l : L) (t : T) (u : U) (a : A) → Tags (k, l) t u → Later (k, l) ((m.push k t a).0, (pull l u a).0))
    (tag_pushed : (k : K) (l : L) (t : T) (u : U) (a : A) → Tags (k, l) t u →
    Tags ((m.push k t a).0, (pull l u a).0) (m.push k t a).1 (pull l u a).1)
    (h : Relates m.operations p N M Later Tags Blocks) where
  -- algebra of the other side
  abbrev n : Algebra S A L U C
  n = record { decoration = m.decoration; push = pull; operations = p }

  abbrev State : Type 0
  State = LayoutState S K T B

  abbrev OtherState : Type 0
  OtherState = LayoutState S L U C

  abbrev Different : Type 0
  Different = Other L U C

  abbrev stacks_of : State → Different → K × L
  stacks_of s v = (s.stacks, v.stacks)

  -- whether a state is related to the one that differs in these parts
  abbrev Holds : I → State → Different → Type 0
  Holds i s v = Tags (stacks_of s v) s.text.tag v.tag × (Tags (stacks_of s v) s.blank v.blank × Blocks i (stacks_of s v) s.block v.block)

  -- whether a state that is reached from the stacks w is related to the other side's
  pub record Reached (i : I) (w : K × L) (r : State) (e : OtherState) : Type 0 where
    pub other : Different
    pub is : e ≡ with_other r other
    pub later : Later w (stacks_of r other)
    pub holds : Holds i r other

  -- a state that isn't changed is reached
  here : (i : I) (s : State) (v : Different) → Holds i s v → Reached i (stacks_of s v) s (with_other s v)
  here i s v k = record { other = v; is = refl; later = stays (stacks_of s v); holds = k }

  -- a state that is reached from later stacks is reached from earlier ones
  abbrev since : (i : I) (w : K × L) (q : State) (u : Different) (r : State) (e : OtherState) → Later w (stacks_of q u) →
      Reached i (stacks_of q u) r e → Reached i w r e
  since i w q u r e l z =
      record { other = z.other; is = z.is; later = goes w (stacks_of q u) (stacks_of r z.other) l z.later; holds = z.holds }

  -- two operations in sequence keep states related if each does
  then_reached : (i j : I) (w : K × L) (a : Option State) (b : Option OtherState) (f : State → Option State) (g : OtherState → Option OtherState) →
      Both N M (Reached j w) a b →
      ((q : State) (u : Different) → Later w (stacks_of q u) → Holds j q u → Both N M (Reached i (stacks_of q u)) (f q) (g (with_other q u))) →
      Both N M (Reached i w) (option_and_then f a) (option_and_then g b)
  then_reached i j w a b f g k next =
      Both-then N M weak (Reached j w) (Reached i w) f g a b k (λ q e z.
      Both-weaken N M (Reached i (stacks_of q z.other)) (Reached i w) (f q) (g e)
      (rw z.is (next q z.other z.later z.holds))
      (λ r x y. since i w q z.other r x z.later y))

  on_block-related : (f : B → Option B) (g : C → Option C) (i : I) (s : State) (v : Different) → Holds i s v →
      Both N M (Blocks i (stacks_of s v)) (f s.block) (g v.block) →
      Both N M (Reached i (stacks_of s v)) (on_block f s) (on_block g (with_other s v))
  on_block-related f g i s v k x =
      Both-map N M (Blocks i (stacks_of s v)) (Reached i (stacks_of s v)) _ _ (f s.block) (g v.block) x (λ b c z.
      record { other = record v { block = c }; is = refl; later = stays (stacks_of s v); holds = (k.0, (k.1.0, z)) })

  -- related states stay related with later stacks
  holds_later : (i : I) (s : State) (v : Different) (w : K × L) → Holds i s v → Later (stacks_of s v) w →
      Holds i (record s { stacks = w.0 }) (record v { stacks = w.1 })
  holds_later i s v w k l = (
    tags_later (stacks_of s v) w s.text.tag v.tag k.0 l,
    (tags_later (stacks_of s v) w s.blank v.blank k.1.0 l, blocks_later i (stacks_of s v) w s.block v.block k.1.1 l),
  )

  -- ---- steps

  -- adding an annotation, if there is one, keeps states related
  annotated-related : (a : Option A) (i : I) (s : State) (v : Different) → Holds i s v →
      Reached i (stacks_of s v) (annotated m a s) (annotated n a (with_other s v))
  annotated-related None i s v k = here i s v k
  annotated-related (Some a) i s v k =
      let l = goes_on s.stacks v.stacks s.text.tag v.tag a k.0 in
      record {
        other = record v { stacks = (pull v.stacks v.tag a).0; tag = (pull v.stacks v.tag a).1 };
        is = refl;
        later = l;
        holds = (tag_pushed s.stacks v.stacks s.text.tag v.tag a k.0, (holds_later i s v _ k l).1);
      }

  write-related : (cs : List ℕ) (i : I) (s : State) (v : Different) → Holds i s v →
      Both N M (Reached i (stacks_of s v)) (write m cs s) (write n cs (with_other s v))
  write-related cs i s v k = by s.text.preformatted
    where
      fed : List ℕ
      fed = if s.text.struck_out then struck cs else cs

      by : (z : Bool) → Both N M (Reached i (stacks_of s v)) (add_styled m (text_style m s.decorator s.stacks s.text z) cs s)
          (add_styled n (text_style n s.decorator v.stacks (context s.text v.tag) z) cs (with_other s v))
      by false =
          on_block-related (λ b. m.operations.add_inline_text b (record { mode = s.text.mode; tag = s.text.tag; continuation_tag = s.text.tag }) fed)
          (λ c. p.add_inline_text c (record { mode = s.text.mode; tag = v.tag; continuation_tag = v.tag }) fed) i s v k
          (h.add_inline_text i (stacks_of s v) s.text.mode s.text.tag s.text.tag v.tag v.tag fed k.0 k.0 s.block v.block k.1.1)
      by true =
          let a = m.decoration.preformat_first s.decorator in
          let b = m.decoration.preformat_continuing s.decorator in
          let x = m.push s.stacks s.text.tag a in
          let y = pull v.stacks v.tag a in
          let first : Later (stacks_of s v) (x.0, y.0) = goes_on s.stacks v.stacks s.text.tag v.tag a k.0 in
          let tag : Tags (x.0, y.0) s.text.tag v.tag = tags_later (stacks_of s v) (x.0, y.0) s.text.tag v.tag k.0 first in
          let x' = m.push x.0 s.text.tag b in
          let y' = pull y.0 v.tag b in
          let second : Later (x.0, y.0) (x'.0, y'.0) = goes_on x.0 y.0 s.text.tag v.tag b tag in
          let both : Later (stacks_of s v) (x'.0, y'.0) = goes (stacks_of s v) (x.0, y.0) (x'.0, y'.0) first second in
          let q : State = record s { stacks = x'.0 } in
          let u : Different = record v { stacks = y'.0 } in
          let z : Holds i q u = holds_later i s v (x'.0, y'.0) k both in
          Both-weaken N M (Reached i (stacks_of q u)) (Reached i (stacks_of s v)) _ _
          (on_block-related (λ e. m.operations.add_inline_text e (record { mode = s.text.mode; tag = x.1; continuation_tag = x'.1 }) fed)
          (λ e. p.add_inline_text e (record { mode = s.text.mode; tag = y.1; continuation_tag = y'.1 }) fed) i q u z
          (h.add_inline_text i (stacks_of q u) s.text.mode x.1 x'.1 y.1 y'.1 fed
          (tags_later (x.0, y.0) (x'.0, y'.0) x.1 y.1 (tag_pushed s.stacks v.stacks s.text.tag v.tag a k.0) second)
          (tag_pushed x.0 y.0 s.text.tag v.tag b tag) s.block v.block z.1.1)) (λ r e f. since i (stacks_of s v) q u r e both f)

  -- a step under a condition keeps states related
  if-related : (z : Bool) (a : Option State) (b : Option OtherState) (i : I) (s : State) (v : Different) → Holds i s v →
      Both N M (Reached i (stacks_of s v)) a b →
      Both N M (Reached i (stacks_of s v)) (if z then a else Some s) (if z then b else Some (with_other s v))
  if-related true a b i s v k c = c
  if-related false a b i s v k c = here i s v k

  fence-related : (i : I) (s : State) (v : Different) → Holds i s v →
      Both N M (Reached i (stacks_of s v)) (fence m s) (fence n (with_other s v))
  fence-related i s v k =
      then_reached i i (stacks_of s v) _ _ (on_block m.operations.new_line) (on_block p.new_line)
      (on_block-related (λ b. m.operations.add_inline_text b (record { mode = Normal; tag = s.blank; continuation_tag = s.blank }) (codes "```"))
      (λ c. p.add_inline_text c (record { mode = Normal; tag = v.blank; continuation_tag = v.blank }) (codes "```")) i s v k
      (h.add_inline_text i (stacks_of s v) Normal s.blank s.blank v.blank v.blank (codes "```") k.1.0 k.1.0 s.block v.block k.1.1))
      (λ q u l z. on_block-related m.operations.new_line p.new_line i q u z (h.new_line i (stacks_of q u) q.block u.block z.1.1))

  -- each step keeps states related, at nodes whose steps began in related states
  step-related : (x : Step S A) (b : State) (e : Different) (i : I) (s : State) (v : Different) → Tags (stacks_of s v) b.text.tag e.tag →
      Holds i s v → Both N M (Reached i (stacks_of s v)) (perform m b x s) (perform n (with_other b e) x (with_other s v))
  step-related (Write text) b e i s v t k = write-related (text s.decorator) i s v k
  step-related WriteNumber b e i s v t k =
      if-related s.settings.link_footnotes _ _ i s v k
      (write-related (chars (codes "[" ++ decimal (length b.targets + 1) ++ codes "]")) i s v k)
  step-related (Annotate annotation) b e i s v t k = annotated-related (annotation s.decorator) i s v k
  step-related (Treat mode preformatted) b e i s v t k =
      here i (record s { text = record s.text { mode = white_space_in s.text.mode mode; preformatted = s.text.preformatted || preformatted } }) v k
  step-related Strike b e i s v t k = here i (record s { text = record s.text { struck_out = s.settings.unicode_strikeout } }) v k
  step-related Unstrike b e i s v t k = here i (record s { text = record s.text { struck_out = b.text.struck_out } }) v k
  step-related Restore b e i s v t k = here i (record s { text = b.text }) (record v { tag = e.tag }) (t, k.1)
  step-related NewLine b e i s v t k =
      on_block-related m.operations.new_line p.new_line i s v k (h.new_line i (stacks_of s v) s.block v.block k.1.1)
  step-related NewLineHard b e i s v t k =
      on_block-related m.operations.new_line_hard p.new_line_hard i s v k (h.new_line_hard i (stacks_of s v) s.block v.block k.1.1)
  step-related StartBlock b e i s v t k =
      on_block-related m.operations.start_block p.start_block i s v k (h.start_block i (stacks_of s v) s.block v.block k.1.1)
  step-related EndBlock b e i s v t k =
      here i (record s { block = m.operations.end_block s.block }) (record v { block = p.end_block v.block })
      (k.0, (k.1.0, h.end_block i (stacks_of s v) s.block v.block k.1.1))
  step-related Fence b e i s v t k = if-related (s.settings.fence_tables && not s.in_table) _ _ i s v k (fence-related i s v k)
  step-related (BeginTable grid needs) b e i s v t k =
      let borders = s.settings.table_borders in
      let stacked = s.settings.raw_mode in
      Both-map N M (Reached i (stacks_of s v)) (Reached i (stacks_of s v)) _ _ _ _
      (on_block-related (λ c. m.operations.begin_table c s.blank borders stacked grid needs) (λ c. p.begin_table c v.blank borders stacked grid needs)
      i s v k (h.begin_table i (stacks_of s v) s.blank v.blank borders stacked grid needs k.1.0 s.block v.block k.1.1)) (λ q e z.
      record { other = z.other; is = ap (λ (x : OtherState). record x { in_table = true }) z.is; later = z.later; holds = z.holds })
  step-related EndTable b e i s v t k =
      here i (record s { block = m.operations.end_table s.block; in_table = b.in_table }) (record v { block = p.end_table v.block })
      (k.0, (k.1.0, h.end_table i (stacks_of s v) s.block v.block k.1.1))
  step-related (AddTarget target) b e i s v t k = here i (record s { targets = s.targets ++ target ∷ [] }) v k
  step-related (AddMark name) b e i s v t k =
      here i (record s { block = m.operations.add_mark s.block (length s.names); names = s.names ++ name ∷ [] })
      (record v { block = p.add_mark v.block (length s.names) })
      (k.0, (k.1.0, h.add_mark i (stacks_of s v) (length s.names) s.block v.block k.1.1))

  steps-related : (xs : List (Step S A)) (b : State) (e : Different) (i : I) (s : State) (v : Different) → Tags (stacks_of s v) b.text.tag e.tag →
      Holds i s v → Both N M (Reached i (stacks_of s v)) (perform_all m b xs s) (perform_all n (with_other b e) xs (with_other s v))
  steps-related [] b e i s v t k = here i s v k
  steps-related (x ∷ []) b e i s v t k = step-related x b e i s v t k
  steps-related (x ∷ (y ∷ xs)) b e i s v t k =
      then_reached i i (stacks_of s v) _ _ _ _ (step-related x b e i s v t k) (λ q u l z.
      steps-related (y ∷ xs) b e i q u (tags_later (stacks_of s v) (stacks_of q u) b.text.tag e.tag t l) z)

  -- ---- sub-blocks

  -- whether f and g, which make a block of an outer block and a sub-block, keep blocks related
  abbrev JoinRelated : I → I → State → Different → (B → B → Option B) → (C → C → Option C) → Type 0
  JoinRelated i j s v f g = (w : K × L) → Later (stacks_of s v) w → Blocks i w s.block v.block → (b : B) (c : C) → Blocks j w b c →
      Both N M (Blocks i w) (f s.block b) (g v.block c)

  joined-related : (f : B → B → Option B) (g : C → C → Option C) (i j : I) (s : State) (v : Different) → Holds i s v → JoinRelated i j s v f g →
      (r : State) (u : Different) → Later (stacks_of s v) (stacks_of r u) → Holds j r u →
      Both N M (Reached i (stacks_of r u)) (joined m f s r) (joined n g (with_other s v) (with_other r u))
  joined-related f g i j s v k x r u l z =
      Both-map N M (Blocks i (stacks_of r u)) (Reached i (stacks_of r u)) _ _ (f s.block r.block) (g v.block u.block)
      (x (stacks_of r u) l (blocks_later i (stacks_of s v) (stacks_of r u) s.block v.block k.1.1 l) r.block u.block z.1.1) (λ b c y.
      record { other = record u { block = c }; is = refl; later = stays (stacks_of r u); holds = (z.0, (z.1.0, y)) })

  -- ---- visits

  -- whether states inside a node are related, and related states after its children lead to related states after the node
  abbrev After : I → K × L → State → OtherState → (State → Option State) → (OtherState → Option OtherState) → Type 0
  After i w q e f g =
      (j : I) × ((z : Reached j w q e) × ((r : State) (u : Different) → Later (stacks_of q z.other) (stacks_of r u) → Holds j r u →
      Both N M (Reached i (stacks_of r u)) (f r) (g (with_other r u))))

  -- whether two places are related, from the stacks w
  abbrev PlaceRelated : I → K × L → NodePlace State → NodePlace OtherState → Type 0
  PlaceRelated i w Bare Bare = Unit {0}
  PlaceRelated i w (Skipped t) (Skipped e) = Reached i w t e
  PlaceRelated i w (Within a f) (Within b g) = Both N M (λ q e. After i w q e f g) a b
  PlaceRelated i w _ _ = ⊥

  abbrev PlacesRelated : Places State → Places OtherState → Type 0
  PlacesRelated x y = (number : ℕ) (i : I) (s : State) (v : Different) → Holds i s v →
      PlaceRelated i (stacks_of s v) (x number s) (y number (with_other s v))

  abbrev pub Related : I → K × L → Visit State → Visit OtherState → Type 0
  Related i w (Leaf a) (Leaf b) = Both N M (Reached i w) a b
  Related i w (Leaf a) (Inner b y g) = (a ≡ None) × M
  Related i w (Inner a x f) (Leaf b) = ⊥
  Related i w (Inner a x f) (Inner b y g) = Both N M (λ q e. After i w q e f g) a b × PlacesRelated x y

  -- with M, none is related to any result of the other side
  none-both : (i : I) (w : K × L) (b : Option OtherState) → M → Both N M (Reached i w) None b
  none-both i w None x = weak x
  none-both i w (Some e) x = x

  none-related : (i : I) (w : K × L) (v : Visit OtherState) → M → Related i w (Leaf None) v
  none-related i w (Leaf b) x = none-both i w b x
  none-related i w (Inner b y g) x = (refl, x)

  visit-related : (i : I) (w : K × L) (a : Visit State) (b : Visit OtherState) (f : Places State → State → Option State)
      (g : Places OtherState → OtherState → Option OtherState) → Related i w a b →
      ((x : Places State) (y : Places OtherState) → PlacesRelated x y → (j : I) (q : State) (u : Different) → Holds j q u →
      Both N M (Reached j (stacks_of q u)) (f x q) (g y (with_other q u))) → Both N M (Reached i w) (through_visit a f) (through_visit b g)
  visit-related i w (Leaf a) (Leaf b) f g k below = k
  visit-related i w (Leaf a) (Inner b y z) f g k below =
      rw k.0 (none-both i w (option_and_then (λ q. option_and_then z (g y q)) b) k.1)
  visit-related i w (Inner a x z) (Leaf b) f g k below = absurd k
  visit-related i w (Inner a x z) (Inner b y o) f g k below =
      Both-then N M weak (λ q e. After i w q e z o) (Reached i w) (λ q. option_and_then z (f x q)) (λ q. option_and_then o (g y q)) a b k.0 (λ q e c.
      let t : Reached c.0 w q e = c.1.0 in
      Both-weaken N M (Reached i (stacks_of q t.other)) (Reached i w) (option_and_then z (f x q)) (option_and_then o (g y e))
      (then_reached i c.0 (stacks_of q t.other) (f x q) (g y e) z o
      (rw t.is (below x y k.1 c.0 q t.other t.holds)) c.1.1) (λ r d j. since i w q t.other r d t.later j))

  since-related : (i : I) (w : K × L) (q : State) (u : Different) (a : Visit State) (b : Visit OtherState) →
      Later w (stacks_of q u) → Related i (stacks_of q u) a b → Related i w a b
  since-related i w q u (Leaf a) (Leaf b) l k =
      Both-weaken N M (Reached i (stacks_of q u)) (Reached i w) a b k (λ r e x. since i w q u r e l x)
  since-related i w q u (Leaf a) (Inner b y g) l k = k
  since-related i w q u (Inner a x f) (Leaf b) l k = absurd k
  since-related i w q u (Inner a x f) (Inner b y g) l k = (
    Both-weaken N M (λ r e. After i (stacks_of q u) r e f g) (λ r e. After i w r e f g) a b k.0 (λ r e z.
        (z.0, (since z.0 w q u r e l z.1.0, z.1.1))),
    k.1,
  )

  followed-related : (i j : I) (w : K × L) (a : Visit State) (b : Visit OtherState) (f : State → Option State)
      (g : OtherState → Option OtherState) → Related j w a b → ((r : State) (u : Different) → Later w (stacks_of r u) → Holds j r u →
      Both N M (Reached i (stacks_of r u)) (f r) (g (with_other r u))) → Related i w (followed a f) (followed b g)
  followed-related i j w (Leaf a) (Leaf b) f g k next = then_reached i j w a b f g k next
  followed-related i j w (Leaf a) (Inner b y z) f g k next = (ap (option_and_then f) k.0, k.1)
  followed-related i j w (Inner a x z) (Leaf b) f g k next = absurd k
  followed-related i j w (Inner a x z) (Inner b y o) f g k next = (
    Both-weaken N M (λ q e. After j w q e z o) (λ q e. After i w q e (λ r. option_and_then f (z r)) (λ r. option_and_then g (o r))) a b k.0
        (λ q e c. let t : Reached c.0 w q e = c.1.0 in (
          c.0,
          (
            t,
            λ r u l d. then_reached i j (stacks_of r u) (z r) (o (with_other r u)) f g (c.1.1 r u l d) (λ r' u' l' d'.
                next r' u' (goes w (stacks_of r u) (stacks_of r' u') (goes w (stacks_of q t.other) (stacks_of r u) t.later l) l') d'),
          ),
        )),
    k.1,
  )

  -- a visit that is related in all related states is related in related places
  placed-related : (f : State → Visit State) (g : OtherState → Visit OtherState) →
      ((j : I) (q : State) (u : Different) → Holds j q u → Related j (stacks_of q u) (f q) (g (with_other q u))) →
      (x : NodePlace State) (y : NodePlace OtherState) (i : I) (s : State) (v : Different) → Holds i s v → PlaceRelated i (stacks_of s v) x y →
      Related i (stacks_of s v) (placed x f s) (placed y g (with_other s v))
  placed-related f g same Bare Bare i s v k c = same i s v k
  placed-related f g same (Skipped t) (Skipped e) i s v k c = c
  placed-related f g same (Within None a) (Within None b) i s v k c = c
  placed-related f g same (Within None a) (Within (Some e) b) i s v k c = none-related i (stacks_of s v) (followed (g e) b) c
  placed-related f g same (Within (Some q) a) (Within None b) i s v k c = absurd c
  placed-related f g same (Within (Some q) a) (Within (Some e) b) i s v k c =
      let t : Reached c.0 (stacks_of s v) q e = c.1.0 in
      since-related i (stacks_of s v) q t.other (followed (f q) a) (followed (g e) b) t.later
      (rw t.is (followed-related i c.0 (stacks_of q t.other) (f q) (g (with_other q t.other)) a b (same c.0 q t.other t.holds) c.1.1))
  placed-related f g same x y i s v k c = absurd c

  -- ---- shapes

  -- actions before and after a node's children, in the block of the node's siblings
  around-related : (i : I) (w : K × L) (a : Option State) (b : Option OtherState) (f : State → Option State)
      (g : OtherState → Option OtherState) → Both N M (Reached i w) a b →
      ((r : State) (u : Different) → Later w (stacks_of r u) → Holds i r u →
      Both N M (Reached i (stacks_of r u)) (f r) (g (with_other r u))) → Both N M (λ q e. After i w q e f g) a b
  around-related i w a b f g k next =
      Both-weaken N M (Reached i w) (λ q e. After i w q e f g) a b k (λ q e z.
      (i, (z, λ r u l d. next r u (goes w (stacks_of q z.other) (stacks_of r u) z.later l) d)))

  bare-related : PlacesRelated bare bare
  bare-related number i s v k = tt

  -- the place of a sub-block
  indent-related : (prefix : List ℕ) (columns min_width : ℕ) (i : I) (s : State) (v : Different) → Holds i s v →
      Both N M (λ q e. After i (stacks_of s v) q e (joined m (λ b c. m.operations.append b c s.text.tag (chars prefix) (spaces columns)) s)
      (joined n (λ b c. p.append b c v.tag (chars prefix) (spaces columns)) (with_other s v)))
      (nested m s.text.tag (chars prefix) (spaces columns) columns min_width s) (nested n v.tag (chars prefix) (spaces columns) columns min_width (with_other s v))
  unfolding here
  indent-related prefix columns min_width i s v k =
      Both-map N M _ (λ q e. After i (stacks_of s v) q e (joined m (λ b c. m.operations.append b c s.text.tag (chars prefix) (spaces columns)) s)
      (joined n (λ b c. p.append b c v.tag (chars prefix) (spaces columns)) (with_other s v)))
      _ _ (m.operations.sub_block s.block s.text.tag (chars prefix) (spaces columns) columns min_width)
      (p.sub_block v.block v.tag (chars prefix) (spaces columns) columns min_width)
      (h.nested i (stacks_of s v) s.text.tag v.tag (chars prefix) (spaces columns) columns min_width k.0 s.block v.block k.1.1) (λ b c z. (
        z.0,
        (
          here z.0 (within m b s) (record v { block = c }) (k.0, (k.1.0, z.1.0)),
          joined-related (λ b c. m.operations.append b c s.text.tag (chars prefix) (spaces columns)) (λ b c. p.append b c v.tag (chars prefix) (spaces columns)) i z.0 s v k
              (λ w l x e f y. z.1.1 w l (tags_later (stacks_of s v) w s.text.tag v.tag k.0 l) x e f y),
        ),
      ))

  quote-related : (prefix : List ℕ) (min_width : ℕ) (i : I) (s : State) (v : Different) → Holds i s v →
      Both N M (λ q e. After i (stacks_of s v) q e (joined m (appended_block m s.text.tag prefix) s) (joined n (appended_block n v.tag prefix) (with_other s v)))
      (nested m s.text.tag (chars prefix) (chars prefix) (prefix_columns prefix) min_width s)
      (nested n v.tag (chars prefix) (chars prefix) (prefix_columns prefix) min_width (with_other s v))
  unfolding here
  quote-related prefix min_width i s v k =
      Both-map N M _ (λ q e. After i (stacks_of s v) q e (joined m (appended_block m s.text.tag prefix) s) (joined n (appended_block n v.tag prefix) (with_other s v)))
      _ _ (m.operations.sub_block s.block s.text.tag (chars prefix) (chars prefix) (prefix_columns prefix) min_width)
      (p.sub_block v.block v.tag (chars prefix) (chars prefix) (prefix_columns prefix) min_width)
      (h.nested i (stacks_of s v) s.text.tag v.tag (chars prefix) (chars prefix) (prefix_columns prefix) min_width k.0 s.block v.block k.1.1) (λ b c z. (
        z.0,
        (
          here z.0 (within m b s) (record v { block = c }) (k.0, (k.1.0, z.1.0)),
          joined-related (appended_block m s.text.tag prefix) (appended_block n v.tag prefix) i z.0 s v k (λ w l x e f y.
              Both-map N M (Blocks i w) (Blocks i w) _ _ _ _ (z.1.1 w l (tags_later (stacks_of s v) w s.text.tag v.tag k.0 l) x e f y) (λ q r o. h.end_block i w q r o)),
        ),
      ))

  -- with M, a place that isn't reached is related to any
  none-after : (i : I) (w : K × L) (f : State → Option State) (g : OtherState → Option OtherState) (b : Option OtherState) → M → Both N M (λ q e. After i w q e f g) None b
  none-after i w f g None x = weak x
  none-after i w f g (Some e) x = x

  -- places from states that are reached
  place_in-related : (a : State → Option State) (f : State → State → Option State) (b : OtherState → Option OtherState)
      (g : OtherState → OtherState → Option OtherState) (i : I) (w : K × L) →
      ((q : State) (u : Different) → Holds i q u → Both N M (λ r e. After i (stacks_of q u) r e (f q) (g (with_other q u))) (a q) (b (with_other q u))) →
      (x : Option State) (y : Option OtherState) → Both N M (Reached i w) x y →
      PlaceRelated i w (place_in m (λ q. Within (a q) (f q)) x) (place_in n (λ q. Within (b q) (g q)) y)
  place_in-related a f b g i w next None None k = k
  place_in-related a f b g i w next None (Some e) k = none-after i w (λ r. Some r) (g e) (b e) k
  place_in-related a f b g i w next (Some q) None k = absurd k
  place_in-related a f b g i w next (Some q) (Some e) k =
      rw k.is (Both-weaken N M (λ r e. After i (stacks_of q k.other) r e (f q) (g (with_other q k.other))) (λ r e. After i w r e (f q) (g (with_other q k.other)))
      (a q) (b (with_other q k.other)) (next q k.other k.holds)
      (λ r e c. (c.0, (since c.0 w q k.other r e k.later c.1.0, c.1.1))))

  cell-related : (i : I) (s : State) (v : Different) → Holds i s v → (a : Option B) (b : Option C) →
      Both (Unit {0}) ⊥ (λ e f. (j : I) × (Blocks j (stacks_of s v) e f × ((w : K × L) → Later (stacks_of s v) w → Blocks i w s.block v.block →
      (e : B) (f : C) → Blocks j w e f → Both N M (Blocks i w) (m.operations.add_cell s.block e) (p.add_cell v.block f)))) a b →
      PlaceRelated i (stacks_of s v) (cell_place m a s) (cell_place n b (with_other s v))
  unfolding here
  cell-related i s v k None None c =
      here i (record s { block = m.operations.skip_cell s.block }) (record v { block = p.skip_cell v.block })
      (k.0, (k.1.0, h.skip_cell i (stacks_of s v) s.block v.block k.1.1))
  cell-related i s v k None (Some y) c = absurd c
  cell-related i s v k (Some x) None c = absurd c
  cell-related i s v k (Some x) (Some y) c = (
    c.0,
    (
      here c.0 (within m x s) (record v { block = y }) (k.0, (k.1.0, c.1.0)),
      joined-related m.operations.add_cell p.add_cell i c.0 s v k c.1.1,
    ),
  )

  indented-related : (prefix : List ℕ) (columns min_width : ℕ) (i : I) (s : State) (v : Different) → Holds i s v →
      PlaceRelated i (stacks_of s v) (block_place m (Indented prefix columns min_width) s) (block_place n (Indented prefix columns min_width) (with_other s v))
  indented-related prefix columns min_width i s v k =
      place_in-related (λ q. nested m q.text.tag (chars prefix) (spaces columns) columns min_width q)
      (λ q. joined m (λ b c. m.operations.append b c q.text.tag (chars prefix) (spaces columns)) q)
      (λ q. nested n q.text.tag (chars prefix) (spaces columns) columns min_width q)
      (λ q. joined n (λ b c. p.append b c q.text.tag (chars prefix) (spaces columns)) q) i (stacks_of s v)
      (λ q u z. indent-related prefix columns min_width i q u z)
      (on_block m.operations.new_line s) (on_block p.new_line (with_other s v))
      (on_block-related m.operations.new_line p.new_line i s v k (h.new_line i (stacks_of s v) s.block v.block k.1.1))

  block_place-related : (x : OwnBlock) (i : I) (s : State) (v : Different) → Holds i s v →
      PlaceRelated i (stacks_of s v) (block_place m x s) (block_place n x (with_other s v))
  block_place-related Shared i s v k = tt
  block_place-related (Prefixed prefix min_width) i s v k =
      place_in-related (λ q. nested m q.text.tag (chars prefix) (chars prefix) (prefix_columns prefix) min_width q)
      (λ q. joined m (appended_block m q.text.tag prefix) q)
      (λ q. nested n q.text.tag (chars prefix) (chars prefix) (prefix_columns prefix) min_width q)
      (λ q. joined n (appended_block n q.text.tag prefix) q) i (stacks_of s v) (λ q u z. quote-related prefix min_width i q u z)
      (on_block m.operations.start_block s) (on_block p.start_block (with_other s v))
      (on_block-related m.operations.start_block p.start_block i s v k (h.start_block i (stacks_of s v) s.block v.block k.1.1))
  block_place-related (Indented prefix columns min_width) i s v k = indented-related prefix columns min_width i s v k

  shape-related : (x : Shape S A) (i : I) (s : State) (v : Different) → Holds i s v →
      Related i (stacks_of s v) (shape_layout m x s) (shape_layout n x (with_other s v))
  shape-related (Steps xs) i s v k = steps-related xs s v i s v k.0 k
  shape-related (Around xs ys) i s v k = (
    around-related i (stacks_of s v) (perform_all m s xs s) (perform_all n (with_other s v) xs (with_other s v)) (perform_all m s ys)
        (perform_all n (with_other s v) ys) (steps-related xs s v i s v k.0 k) (λ r u l z.
        steps-related ys s v i r u (tags_later (stacks_of s v) (stacks_of r u) s.text.tag v.tag k.0 l) z),
    bare-related,
  )
  shape-related (Items prefix columns min_width) i s v k = (
    around-related i (stacks_of s v) (Some s) (Some (with_other s v)) (λ r. Some r) (λ r. Some r) (here i s v k) (λ r u l z. here i r u z),
    λ number j r u z. indented-related (prefix s.decorator r.decorator number) (columns s.decorator) min_width j r u z,
  )
  shape-related Cells i s v k = (
    around-related i (stacks_of s v) (Some (record s { block = m.operations.begin_row s.block }))
        (Some (record (with_other s v) { block = p.begin_row v.block })) (on_block m.operations.end_row) (on_block p.end_row)
        (here i (record s { block = m.operations.begin_row s.block }) (record v { block = p.begin_row v.block })
        (k.0, (k.1.0, h.begin_row i (stacks_of s v) s.block v.block k.1.1))) (λ r u l z.
        on_block-related m.operations.end_row p.end_row i r u z (h.end_row i (stacks_of r u) r.block u.block z.1.1)),
    λ number j r u z.
        cell-related j r u z (m.operations.cell_block r.block) (p.cell_block u.block) (h.cell j (stacks_of r u) r.block u.block z.1.1),
  )

  -- ---- nodes

  kind-related : (kind : NodeKind) (e : Estimate) (trees : Forest RenderNode) (i : I) (s : State) (v : Different) → Holds i s v →
      Related i (stacks_of s v) (kind_layout m kind e trees s) (kind_layout n kind e trees (with_other s v))
  kind-related kind e trees i s v k =
      let b = block_of m.decoration s.settings s.decorator kind e in
      placed-related (λ q. shape_layout m (shape_of m.decoration q.settings kind e trees) q)
      (λ q. shape_layout n (shape_of m.decoration q.settings kind e trees) q)
      (λ j q u z. shape-related (shape_of m.decoration q.settings kind e trees) j q u z)
      (block_place m b s) (block_place n b (with_other s v)) i s v k (block_place-related b i s v k)

  layout-related : (x : RenderNode) (trees : Forest RenderNode) (i : I) (s : State) (v : Different) → Holds i s v →
      Related i (stacks_of s v) (layout_of m x trees s) (layout_of n x trees (with_other s v))
  layout-related x trees i s v k =
      by (perform_all m s xs s) (perform_all n (with_other s v) xs (with_other s v)) (steps-related xs s v i s v k.0 k)
    where
      xs : List (Step S A)
      xs = style_steps m.decoration x.style

      f : State → Visit State
      f q = followed (kind_layout m x.kind x.estimate trees q) (λ r. Some (record r { text = s.text }))

      g : OtherState → Visit OtherState
      g q = followed (kind_layout n x.kind x.estimate trees q) (λ r. Some (record r { text = context s.text v.tag }))

      by : (a : Option State) (b : Option OtherState) → Both N M (Reached i (stacks_of s v)) a b → Related i (stacks_of s v) (from_state a f) (from_state b g)
      by None None c = c
      by None (Some e) c = none-related i (stacks_of s v) (g e) c
      by (Some q) None c = absurd c
      by (Some q) (Some e) c =
          let w = stacks_of q c.other in
          since-related i (stacks_of s v) q c.other (f q) (g e) c.later
          (rw c.is (followed-related i i w _ _ _ _ (kind-related x.kind x.estimate trees i q c.other c.holds) (λ r u l z.
          here i (record r { text = s.text }) (record u { tag = v.tag })
          (tags_later (stacks_of s v) (stacks_of r u) s.text.tag v.tag k.0 (goes (stacks_of s v) w (stacks_of r u) c.later l), z.1))))

  abbrev visit : RenderNode → Forest RenderNode → Places State → ℕ → State → Visit State
  visit x children places number s = placed (places number s) (layout_of m x children) s

  abbrev other_visit : RenderNode → Forest RenderNode → Places OtherState → ℕ → OtherState → Visit OtherState
  other_visit x children places number s = placed (places number s) (layout_of n x children) s

  node-related : (x : RenderNode) (children : Forest RenderNode) (a : Places State) (b : Places OtherState) → PlacesRelated a b →
      (number : ℕ) (i : I) (s : State) (v : Different) → Holds i s v →
      Related i (stacks_of s v) (visit x children a number s) (other_visit x children b number (with_other s v))
  node-related x children a b same number i s v k =
      placed-related (layout_of m x children) (layout_of n x children) (layout-related x children) (a number s) (b number (with_other s v)) i s v k
      (same number i s v k)

  -- state after a node and its children
  abbrev behind : RenderNode → Forest RenderNode → Places State → ℕ → State → Option State
  behind x children a number s = through_visit (visit x children a number s) (λ below q. run_at (layout_of m) below 0 children q)

  abbrev other_behind : RenderNode → Forest RenderNode → Places OtherState → ℕ → OtherState → Option OtherState
  other_behind x children b number e = through_visit (other_visit x children b number e) (λ below q. run_at (layout_of n) below 0 children q)

  -- THE THEOREM: trees laid out from related states end in related states
  run_at-related : (t : Forest RenderNode) (a : Places State) (b : Places OtherState) → PlacesRelated a b → (number : ℕ) (i : I) (s : State)
      (v : Different) → Holds i s v →
      Both N M (Reached i (stacks_of s v)) (run_at (layout_of m) a number t s) (run_at (layout_of n) b number t (with_other s v))
  run_at-related none a b same number i s v k = here i s v k
  run_at-related (node x children beside) a b same number i s v k =
      then_reached i i (stacks_of s v) (behind x children a number s) (other_behind x children b number (with_other s v)) _ _
      (visit-related i (stacks_of s v) _ _ _ _ (node-related x children a b same number i s v k) (λ c d both j q u z.
      run_at-related children c d both 0 j q u z)) (λ r u l z. run_at-related beside a b same (number + 1) i r u z)

  behind-related : (x : RenderNode) (children : Forest RenderNode) (a : Places State) (b : Places OtherState) → PlacesRelated a b →
      (number : ℕ) (i : I) (s : State) (v : Different) → Holds i s v →
      Both N M (Reached i (stacks_of s v)) (behind x children a number s) (other_behind x children b number (with_other s v))
  behind-related x children a b same number i s v k =
      visit-related i (stacks_of s v) (visit x children a number s) (other_visit x children b number (with_other s v))
      (λ below q. run_at (layout_of m) below 0 children q) (λ below q. run_at (layout_of n) below 0 children q)
      (node-related x children a b same number i s v k) (λ c d both j q u z. run_at-related children c d both 0 j q u z)

  pub run-related : (t : Forest RenderNode) (i : I) (s : State) (v : Different) → Holds i s v →
      Both N M (Reached i (stacks_of s v)) (run (layout_of m) t s) (run (layout_of n) t (with_other s v))
  run-related t i s v k = run_at-related t bare bare bare-related 0 i s v k

  -- ---- visited nodes

  module _ (there : N) (never : M → ⊥) where
    -- functions that are equal on related states are equal on reached states, if there are any
    after-same : {Z : Type 0} (f : State → Z) (g : OtherState → Z) (otherwise : Z) (i : I) (w : K × L) (a : Option State) (b : Option OtherState) →
        Both N M (Reached i w) a b → ((q : State) (u : Different) → Holds i q u → f q ≡ g (with_other q u)) →
        option_map_or f a otherwise ≡ option_map_or g b otherwise
    after-same f g otherwise i w None None k same = refl
    after-same f g otherwise i w None (Some e) k same = absurd (never k)
    after-same f g otherwise i w (Some q) None k same = absurd k
    after-same f g otherwise i w (Some q) (Some e) k same = same q k.other k.holds ∙ ap g (sym k.is)

    -- functions that are equal on related places and states are equal inside related visits, if there are children
    inside-same : {Z : Type 0} (f : Places State × State → Z) (g : Places OtherState × OtherState → Z) (otherwise : Z) (i : I) (w : K × L)
        (a : Visit State) (b : Visit OtherState) → Related i w a b → ((x : Places State) (y : Places OtherState) → PlacesRelated x y →
        (j : I) (q : State) (u : Different) → Holds j q u → f (x, q) ≡ g (y, with_other q u)) →
        option_map_or f (inside a) otherwise ≡ option_map_or g (inside b) otherwise
    inside-same f g otherwise i w (Leaf a) (Leaf b) k same = refl
    inside-same f g otherwise i w (Leaf a) (Inner b y o) k same = absurd (never k.1)
    inside-same f g otherwise i w (Inner a x z) (Leaf b) k same = absurd k
    inside-same f g otherwise i w (Inner None x z) (Inner None y o) k same = refl
    inside-same f g otherwise i w (Inner None x z) (Inner (Some e) y o) k same = absurd (never k.0)
    inside-same f g otherwise i w (Inner (Some q) x z) (Inner None y o) k same = absurd k.0
    inside-same f g otherwise i w (Inner (Some q) x z) (Inner (Some e) y o) k same =
        let t : Reached k.0.0 w q e = k.0.1.0 in same x y k.1 k.0.0 q t.other t.holds ∙ ap (λ d. g (y, d)) (sym t.is)

    -- functions that are equal on related states are equal inside a node's visit and after it
    node-same : {Z : Type 0} (f : Places State × State → Z) (g : Places OtherState × OtherState → Z) (next : State → Z) (other_next : OtherState → Z)
        (otherwise : Z) (x : RenderNode) (children : Forest RenderNode) (a : Places State) (b : Places OtherState) → PlacesRelated a b →
        (number : ℕ) (i : I) (s : State) (v : Different) → Holds i s v → ((x : Places State) (y : Places OtherState) → PlacesRelated x y →
        (j : I) (q : State) (u : Different) → Holds j q u → f (x, q) ≡ g (y, with_other q u)) →
        ((q : State) (u : Different) → Holds i q u → next q ≡ other_next (with_other q u)) →
        (option_map_or f (inside (visit x children a number s)) otherwise ≡ option_map_or g (inside (other_visit x children b number (with_other s v))) otherwise)
        × (option_map_or next (behind x children a number s) otherwise ≡ option_map_or other_next (other_behind x children b number (with_other s v)) otherwise)
    node-same f g next other_next otherwise x children a b both number i s v k below beside = (
      inside-same f g otherwise i (stacks_of s v) _ _ (node-related x children a b both number i s v k) below,
      after-same next other_next otherwise i (stacks_of s v) _ _ (behind-related x children a b both number i s v k) beside,
    )

    -- both sides visit the same nodes
    nodes-related : (t : Forest RenderNode) (a : Places State) (b : Places OtherState) → PlacesRelated a b → (number : ℕ) (i : I) (s : State)
        (v : Different) → Holds i s v → nodes_at true (layout_of m) a number t s ≡ nodes_at true (layout_of n) b number t (with_other s v)
    nodes-related none a b same number i s v k = refl
    nodes-related (node x children beside) a b same number i s v k =
        let e = node-same (λ y. nodes_at true (layout_of m) y.0 0 children y.1) (λ y. nodes_at true (layout_of n) y.0 0 children y.1)
        (λ q. nodes_at true (layout_of m) a (number + 1) beside q) (λ q. nodes_at true (layout_of n) b (number + 1) beside q) []
        x children a b same number i s v k (λ y z both j q u d. nodes-related children y z both 0 j q u d)
        (λ q u d. nodes-related beside a b same (number + 1) i q u d) in
        ap₂ (λ l k. x ∷ (l ++ k)) e.0 e.1

    -- the greatest numbers of nodes open at once are equal
    open-related : (t : Forest RenderNode) (a : Places State) (b : Places OtherState) → PlacesRelated a b → (number : ℕ) (i : I) (s : State)
        (v : Different) → Holds i s v → open_at (layout_of m) a number t s ≡ open_at (layout_of n) b number t (with_other s v)
    open-related none a b same number i s v k = refl
    open-related (node x children beside) a b same number i s v k =
        let e = node-same (λ y. 1 + open_at (layout_of m) y.0 0 children y.1) (λ y. 1 + open_at (layout_of n) y.0 0 children y.1)
        (λ q. open_at (layout_of m) a (number + 1) beside q) (λ q. open_at (layout_of n) b (number + 1) beside q) 0
        x children a b same number i s v k (λ y z both j q u d. ap (λ c. 1 + c) (open-related children y z both 0 j q u d))
        (λ q u d. open-related beside a b same (number + 1) i q u d) in
        ap₂ max e.0 e.1

    pub walked-related : (t : Forest RenderNode) (i : I) (s : State) (v : Different) → Holds i s v →
        (visited (layout_of m) t s ≡ visited (layout_of n) t (with_other s v)) × (most_open (layout_of m) t s ≡ most_open (layout_of n) t (with_other s v))
    walked-related t i s v k = (nodes-related t bare bare bare-related 0 i s v k, open-related t bare bare bare-related 0 i s v k)

  -- ---- views of the end

  module _ (end : DocumentEnd B T) (other_end : DocumentEnd C U) (Cut : Bool → Type 0) (ends : RelatesEnds end other_end N M Cut Tags Blocks) where
    -- characters of the texts of closing lines
    abbrev texts : (footnotes : Bool) → State → List (List ℕ)
    texts footnotes s = map chars (closing_texts m.decoration footnotes s.decorator s.targets)

    ended-related : (footnotes cut : Bool) (tag : T) (other_tag : U) (i : I) (s : State) (v : Different) → Cut cut →
        Tags (stacks_of s v) tag other_tag → Holds i s v → Both N M (Reached i (stacks_of s v)) (on_block (λ b. ended_by end b cut tag (texts footnotes s)) s)
        (on_block (λ b. ended_by other_end b cut other_tag (texts footnotes s)) (with_other s v))
    ended-related footnotes cut tag other_tag i s v c t k =
        let w = stacks_of s v in
        let ts : List (List ℕ) = texts footnotes s in
        on_block-related (λ b. ended_by end b cut tag ts) (λ b. ended_by other_end b cut other_tag ts) i s v k
        (Both-then N M weak (Blocks i w) (Blocks i w) _ _ (end.finish s.block) (other_end.finish v.block)
        (ends.finish i w s.block v.block k.1.1) (λ b e c'. ends.add_closing_lines i w cut tag other_tag ts c t b e c'))

    -- views that are related on related states are related after the layout of a document
    pub shown-related : {X Y : Type 0} (R : X → Y → Type 0) (view : State → X) (wanted : OtherState → Y) (i : I) →
        ((r : State) (u : Different) → Holds i r u → R (view r) (wanted (with_other r u))) →
        (t : Forest RenderNode) (s : State) (v : Different) → Cut s.settings.wrap_links → Holds i s v →
        Both N M R (shown_after m (ended_by end) view t s) (shown_after n (ended_by other_end) wanted t (with_other s v))
    shown-related R view wanted i related t s v c k =
        let footnotes = s.settings.link_footnotes in
        let cut = s.settings.wrap_links in
        Both-then N M weak (Reached i (stacks_of s v)) R _ _ (run (layout_of m) t s) (run (layout_of n) t (with_other s v))
        (run-related t i s v k) (λ r e z.
        Both-map N M (Reached i (stacks_of r z.other)) R view wanted (on_block (λ b. ended_by end b cut s.text.tag (texts footnotes r)) r)
        (on_block (λ b. ended_by other_end b cut v.tag (map chars (closing_texts m.decoration footnotes e.decorator e.targets))) e)
        (rw z.is (ended-related footnotes cut s.text.tag v.tag i r z.other c
        (tags_later (stacks_of s v) (stacks_of r z.other) s.text.tag v.tag k.0 z.later) z.holds)) (λ q x y.
        rw y.is (related q y.other y.holds)))
