-- With overflow off no line passes the width of its block, after any sequence of operations.
use Rattle.std.proofs.Common.{◌≡◌, ℕ, true, false, Option, Some, None, refl, IfSome}
use Rattle.std.specs.Option.{option_map_or}
use Rattle.html_render_dom_values.specs.Outcome.{◌>>=◌}
use Rattle.html_render_layout_lines.specs.Line.{AllWithinWidth}
use Rattle.html_render_layout_paragraphs.specs.laws.Answers.{Both, Both-then}
use Rattle.html_render_layout_blocks.specs.declared.block.BlockSetting.{BlockSetting}
use Rattle.html_render_layout_blocks.specs.Block.{empty_block}
use Rattle.html_render_layout_blocks.specs.Definition.{definition, DefinedBlock, operations, ending}
use Rattle.html_render_layout_blocks.specs.Edits.{Edits, Done, AddText, AddMark, NewLine, NewLineHard, StartBlock, EndBlock, Nest, BeginTable, BeginRow}
use Rattle.html_render_layout_blocks.specs.Edits.{AddCell, EndRow, EndTable, Finish, Close, edited}
use Rattle.html_render_layout_blocks.specs.laws.Beside.{Tags, Later, Blocks, operations-beside, ends-beside, empty-beside, lines-beside}
use Rattle.html_render_layout_blocks.specs.laws.Related.{Relates, RelatesEnds}

module _ (T : Type 0) where
  -- Whether the second block is the first one with overflow on. No line of the first one passes the width.
  abbrev Beside : ℕ → DefinedBlock T ℕ → DefinedBlock T ℕ → Type 0
  Beside v b c = Blocks T (Unit {0}) false true v tt b c

  abbrev BothBeside : ℕ → Option (DefinedBlock T ℕ) → Option (DefinedBlock T ℕ) → Type 0
  BothBeside v x y = Both (false ≡ false) (false ≡ false) (Beside v) x y

  steps : Relates operations operations (false ≡ false) (false ≡ false) (Later T (Unit {0}) false true)
      (Tags T (Unit {0}) false true) (Blocks T (Unit {0}) false true)
  steps = operations-beside T (Unit {0}) false true

  ends : RelatesEnds ending ending (false ≡ false) (false ≡ false) (λ c. c ≡ true) (Tags T (Unit {0}) false true)
      (Blocks T (Unit {0}) false true)
  ends = ends-beside T (Unit {0}) false true

  -- One operation after another.
  then : (R : DefinedBlock T ℕ → DefinedBlock T ℕ → Type 0) (v : ℕ) (f g : DefinedBlock T ℕ → Option (DefinedBlock T ℕ))
      (x y : Option (DefinedBlock T ℕ)) → Both (false ≡ false) (false ≡ false) R x y → ((d e : DefinedBlock T ℕ) → R d e → BothBeside v (f d) (g e)) →
      BothBeside v (x >>= f) (y >>= g)
  then R v f g x y k next = Both-then (false ≡ false) (false ≡ false) (λ e. e) R (Beside v) f g x y k next

  -- A sequence of operations keeps a block beside one with overflow on.
  edits-beside : (edits : Edits T) (v : ℕ) (b c : DefinedBlock T ℕ) → Beside v b c →
      BothBeside v (edited operations ending edits b) (edited operations ending edits c)
  edits-beside Done v b c k = k
  edits-beside (AddText style text next) v b c k =
      then (Beside v) v _ _ _ _ (steps.add_inline_text v tt style.mode style.tag style.continuation_tag style.tag style.continuation_tag text refl refl b c k)
      (edits-beside next v)
  edits-beside (AddMark mark next) v b c k = edits-beside next v _ _ (steps.add_mark v tt mark b c k)
  edits-beside (NewLine next) v b c k = then (Beside v) v _ _ _ _ (steps.new_line v tt b c k) (edits-beside next v)
  edits-beside (NewLineHard next) v b c k = then (Beside v) v _ _ _ _ (steps.new_line_hard v tt b c k) (edits-beside next v)
  edits-beside (StartBlock next) v b c k = then (Beside v) v _ _ _ _ (steps.start_block v tt b c k) (edits-beside next v)
  edits-beside (EndBlock next) v b c k = edits-beside next v _ _ (steps.end_block v tt b c k)
  edits-beside (Nest prefix min_width inside tag first later next) v b c k =
      then Nested v _ _ _ _ (steps.nested v tt tag tag first later prefix min_width refl b c k) (λ e f l.
      then (Beside l.0) v _ _ _ _ (edits-beside inside l.0 e f l.1.0) (λ d i m.
      then (Beside v) v _ _ _ _ (l.1.1 tt tt refl k d i m) (edits-beside next v)))
    where
      Nested : DefinedBlock T ℕ → DefinedBlock T ℕ → Type 0
      Nested e f = (j : ℕ) × (Beside j e f × ((w : Unit {0}) → Unit {0} → tag ≡ tag → Beside v b c → (e f : DefinedBlock T ℕ) → Beside j e f →
          BothBeside v (operations.append b e tag first later) (operations.append c f tag first later)))
  edits-beside (BeginTable tag borders stacked grid needs next) v b c k =
      then (Beside v) v _ _ _ _ (steps.begin_table v tt tag tag borders stacked grid needs refl b c k) (edits-beside next v)
  edits-beside (BeginRow next) v b c k = edits-beside next v _ _ (steps.begin_row v tt b c k)
  edits-beside (AddCell inside next) v b c k =
      cell (operations.cell_block b) (operations.cell_block c) (steps.cell v tt b c k) (edits-beside next v _ _ (steps.skip_cell v tt b c k))
      (edits-beside inside) (edits-beside next v)
    where
      Adds : DefinedBlock T ℕ → DefinedBlock T ℕ → Type 0
      Adds i l = (j : ℕ) × (Beside j i l × ((w : Unit {0}) → Unit {0} → Beside v b c → (e f : DefinedBlock T ℕ) → Beside j e f →
          BothBeside v (operations.add_cell b e) (operations.add_cell c f)))

      added : DefinedBlock T ℕ → Option (DefinedBlock T ℕ) → Option (DefinedBlock T ℕ)
      added d x = option_map_or (λ i. edited operations ending inside i >>= λ e. operations.add_cell d e >>= λ f. edited operations ending next f) x
          (edited operations ending next (operations.skip_cell d))

      cell : (x y : Option (DefinedBlock T ℕ)) → Both (Unit {0}) ⊥ Adds x y →
          BothBeside v (edited operations ending next (operations.skip_cell b)) (edited operations ending next (operations.skip_cell c)) →
          ((j : ℕ) (i l : DefinedBlock T ℕ) → Beside j i l → BothBeside j (edited operations ending inside i) (edited operations ending inside l)) →
          ((i l : DefinedBlock T ℕ) → Beside v i l → BothBeside v (edited operations ending next i) (edited operations ending next l)) →
          BothBeside v (added b x) (added c y)
      cell None None a skip in_cell onward = skip
      cell None (Some l) a skip in_cell onward = absurd a
      cell (Some i) None a skip in_cell onward = absurd a
      cell (Some i) (Some l) a skip in_cell onward =
          then (Beside a.0) v _ _ _ _ (in_cell a.0 i l a.1.0) (λ e f m. then (Beside v) v _ _ _ _ (a.1.1 tt tt k e f m) onward)
  edits-beside (EndRow next) v b c k = then (Beside v) v _ _ _ _ (steps.end_row v tt b c k) (edits-beside next v)
  edits-beside (EndTable next) v b c k = edits-beside next v _ _ (steps.end_table v tt b c k)
  edits-beside (Finish next) v b c k = then (Beside v) v _ _ _ _ (ends.finish v tt b c k) (edits-beside next v)
  edits-beside (Close tag texts next) v b c k =
      then (Beside v) v _ _ _ _ (ends.add_closing_lines v tt true tag tag texts refl refl b c k) (edits-beside next v)

  -- THE LAW: with overflow off no line passes the width of a block that was empty, after any sequence of operations.
  pub edits_within : (edits : Edits T) (setting : BlockSetting) (padding : Option T) → setting.overflow ≡ false →
      IfSome (edited operations ending edits (empty_block definition setting padding)) (λ block. AllWithinWidth setting.width block.lines)
  edits_within edits setting padding off =
      first _ _ (edits-beside edits setting.width _ _ (empty-beside T (Unit {0}) false true tt setting padding off))
    where
      first : (x y : Option (DefinedBlock T ℕ)) → BothBeside setting.width x y → IfSome x (λ block. AllWithinWidth setting.width block.lines)
      first None y k = tt
      first (Some b) None k = absurd k
      first (Some b) (Some c) k = (lines-beside T (Unit {0}) false true setting.width tt b c k).1 (refl, refl)
