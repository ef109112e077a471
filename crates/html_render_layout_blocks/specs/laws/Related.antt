-- THE THEOREM: each operation keeps two blocks related whose paragraphs, pictures and lines are related.
use Rattle.std.proofs.Common.{◌≡◌, ℕ, Bool, true, false, not, cond, eqb, ◌==◌, ◌&&◌, List, [], ◌∷◌, ◌++◌, length, Option, Some, None}
use Rattle.std.proofs.Common.{refl, sym, ap, ◌∙◌, subst, subst₂, option_map, slice_index_or, arith}
use Rattle.std.proofs.lemmas.Option.{same_Some}
use Rattle.html_render_dom_values.specs.declared.white_space.WhiteSpace.{WhiteSpace}
use Rattle.html_render_layout_lines.specs.Line.{Line, is_empty}
use Rattle.html_render_layout_lines.specs.TaggedText.{under}
use Rattle.html_render_layout_paragraphs.specs.Paragraph.{Setting, all_lines}
use Rattle.html_render_layout_paragraphs.specs.Stream.{styled}
use Rattle.html_render_parts.specs.declared.table.PlacedCell.{PlacedCell}
use Rattle.html_render_parts_widths.specs.declared.shares.ColumnNeed.{ColumnNeed}
use Rattle.html_render_parts_widths.specs.Shares.{widths_across}
use Rattle.html_render_parts.specs.TableCells.{CellGrid, rows_on}
use Rattle.html_render_layout_buffer.specs.Marked.{marked_before, marked_behind}
use Rattle.html_render_layout_buffer.specs.Padding.{filled, repeated}
use Rattle.html_render_layout_pictures.specs.laws.Glyphs.{joint_width, slash_width}
use Rattle.html_render_layout_pictures.specs.declared.borders.TheConstants.{BORDERS}
use Rattle.html_render_layout_lines.specs.Character.{width_of}
use Rattle.html_render_layout_blocks.specs.declared.block.BlockSetting.{BlockSetting}
use Rattle.html_render_layout_blocks.specs.declared.block.tables.OpenTable.{OpenTable}
use Rattle.html_render_layout_blocks.specs.declared.block.tables.OpenTable.TheVariants.{Across, Stacked}
use Rattle.html_render_layout_blocks.specs.Block.{Block, paragraph_setting, is_collapsible_text, inner_width, mark_items, empty_block, flush, add_lines, unended}
use Rattle.html_render_layout_blocks.specs.Block.{start_block, feed, inner_block, put_lines, end_open, end_table, add_border, stacked_begun}
use Rattle.html_render_layout_blocks.specs.Block.{with_table_begun, put_stacked, cell_added, row_ended, append}
use Rattle.html_render_layout_blocks.specs.Block.{finish, add_closing_lines, operations}
use Rattle.html_render_layout_blocks.specs.Ends.{DocumentEnd, ending}
use Rattle.html_render_layout_blocks.specs.Closing.{closing_lines}
use Rattle.html_render_layout_blocks.specs.RowSteps.{on_one_line}
use Rattle.html_render_layout_paragraphs.specs.CutText.{text_lines}
use Rattle.html_render_layout_buffer.specs.Prefixed.{prefixed}
use Rattle.html_render_layout_blocks.specs.Joined.{fitting}
use Rattle.html_render_layout_blocks.specs.OpenRows.{OpenRow, open_row, next_width, past_cell, whole_row}
use Rattle.html_render_layout_blocks.specs.Parts.{Parts}
use Rattle.html_render_layout_blocks.specs.Operations.{Operations}
use Rattle.html_render_layout_blocks.specs.Tables.{frame_of, with_row_open, next_cell_width, skipped, with_open, with_ahead}
use Rattle.html_render_layout_paragraphs.specs.laws.Answers.{Both, Both-then, Both-map, Both-weaken}

-- Whether each operation keeps blocks related. Each block has an index i, such as its width. W is the type of
-- meanings of tags, and `Later` relates meanings to all later ones.
pub record Relates {I W B C T U : Type 0} (o : Operations B T ℕ) (p : Operations C U ℕ) (N M : Type 0) (Later : W → W → Type 0)
    (Tags : W → T → U → Type 0) (Blocks : I → W → B → C → Type 0) : Type 0 where
  pub add_inline_text : (i : I) (w : W) (mode : WhiteSpace) (t t' : T) (u u' : U) (cs : List ℕ) → Tags w t u → Tags w t' u' →
      (b : B) (c : C) → Blocks i w b c → Both N M (Blocks i w)
      (o.add_inline_text b (record { mode = mode; tag = t; continuation_tag = t' }) cs)
      (p.add_inline_text c (record { mode = mode; tag = u; continuation_tag = u' }) cs)
  pub add_mark : (i : I) (w : W) (m : ℕ) (b : B) (c : C) → Blocks i w b c → Blocks i w (o.add_mark b m) (p.add_mark c m)
  pub new_line : (i : I) (w : W) (b : B) (c : C) → Blocks i w b c → Both N M (Blocks i w) (o.new_line b) (p.new_line c)
  pub new_line_hard : (i : I) (w : W) (b : B) (c : C) → Blocks i w b c → Both N M (Blocks i w) (o.new_line_hard b) (p.new_line_hard c)
  pub start_block : (i : I) (w : W) (b : B) (c : C) → Blocks i w b c → Both N M (Blocks i w) (o.start_block b) (p.start_block c)
  pub end_block : (i : I) (w : W) (b : B) (c : C) → Blocks i w b c → Blocks i w (o.end_block b) (p.end_block c)
  -- A sub-block, and the outer block after its lines are appended.
  pub nested : (i : I) (w : W) (t : T) (u : U) (first later : List ℕ) (prefix min_width : ℕ) → Tags w t u → (b : B) (c : C) → Blocks i w b c →
      Both N M (λ e f. (j : I) × (Blocks j w e f × ((v : W) → Later w v → Tags v t u → Blocks i v b c →
      (e : B) (f : C) → Blocks j v e f → Both N M (Blocks i v) (o.append b e t first later) (p.append c f u first later))))
      (o.sub_block b t first later prefix min_width) (p.sub_block c u first later prefix min_width)
  pub begin_table : (i : I) (w : W) (t : T) (u : U) (borders stacked : Bool) (grid : CellGrid) (needs : List ColumnNeed) → Tags w t u →
      (b : B) (c : C) → Blocks i w b c →
      Both N M (Blocks i w) (o.begin_table b t borders stacked grid needs) (p.begin_table c u borders stacked grid needs)
  pub begin_row : (i : I) (w : W) (b : B) (c : C) → Blocks i w b c → Blocks i w (o.begin_row b) (p.begin_row c)
  pub cell : (i : I) (w : W) (b : B) (c : C) → Blocks i w b c →
      Both (Unit {0}) ⊥ (λ e f. (j : I) × (Blocks j w e f × ((v : W) → Later w v → Blocks i v b c →
      (e : B) (f : C) → Blocks j v e f → Both N M (Blocks i v) (o.add_cell b e) (p.add_cell c f)))) (o.cell_block b) (p.cell_block c)
  pub skip_cell : (i : I) (w : W) (b : B) (c : C) → Blocks i w b c → Blocks i w (o.skip_cell b) (p.skip_cell c)
  pub end_row : (i : I) (w : W) (b : B) (c : C) → Blocks i w b c → Both N M (Blocks i w) (o.end_row b) (p.end_row c)
  pub end_table : (i : I) (w : W) (b : B) (c : C) → Blocks i w b c → Blocks i w (o.end_table b) (p.end_table c)

-- Whether the operations at the end of a document keep blocks related. `Cut` says whether closing lines may be cut and
-- whether they may be left whole.
pub record RelatesEnds {I W B C T U : Type 0} (o : DocumentEnd B T) (p : DocumentEnd C U) (N M : Type 0) (Cut : Bool → Type 0)
    (Tags : W → T → U → Type 0) (Blocks : I → W → B → C → Type 0) : Type 0 where
  pub finish : (i : I) (w : W) (b : B) (c : C) → Blocks i w b c → Both N M (Blocks i w) (o.finish b) (p.finish c)
  pub add_closing_lines : (i : I) (w : W) (cut : Bool) (t : T) (u : U) (texts : List (List ℕ)) → Cut cut → Tags w t u → (b : B) (c : C) →
      Blocks i w b c → Both N M (Blocks i w) (o.add_closing_lines b cut t texts) (p.add_closing_lines c cut u texts)

-- Whether two optional tags, of borders or of padding, are related: both exist and are related, or neither exists.
abbrev pub OptionTags : {W T U : Type 0} → (W → T → U → Type 0) → W → Option T → Option U → Type 0
OptionTags Tags w None None = Unit {0}
OptionTags Tags w None (Some u) = ⊥
OptionTags Tags w (Some t) None = ⊥
OptionTags Tags w (Some t) (Some u) = Tags w t u

-- A choice by equal conditions on both sides.
pub either : {X Y : Type 0} (E : X → Y → Type 0) (z y : Bool) (a b : X) (c d : Y) → y ≡ z → E a c → E b d → E (cond z a b) (cond y c d)
either E true y a b c d same k l = rw same k
either E false y a b c d same k l = rw same l

-- Setting of lines that aren't a paragraph's: the width of the block.
abbrev pub line_setting : BlockSetting → Setting
line_setting s = record { width = s.width; overflow = s.overflow }

-- Requirements on relations of settings, lines, paragraphs, pictures and open rows, in blocks of v columns. `Clear`
-- relates paragraphs to which nothing is fed.
pub record RelatesParts {P R Q S T U W : Type 0} (from : Parts P R T ℕ) (to : Parts Q S U ℕ) (N M : Type 0) (Tags : W → T → U → Type 0)
    (Settings : ℕ → BlockSetting → BlockSetting → Type 0) (Lines : ℕ → W → List (Line T ℕ) → List (Line U ℕ) → Type 0)
    (Paragraphs Clear : ℕ → W → P → Q → Type 0) (Pictures : ℕ → W → List ℕ → R → S → Type 0)
    (Rows : ℕ → W → OpenRow T ℕ → OpenRow U ℕ → Type 0) : Type 0 where
  -- Settings.
  pub width : (v : ℕ) (s r : BlockSetting) → Settings v s r → (s.width ≡ v) × (r.width ≡ v)
  pub inner_width : (v : ℕ) (s r : BlockSetting) (prefix inner : ℕ) → Settings v s r →
      Both N M (λ x y. x ≡ y) (inner_width s prefix inner) (inner_width r prefix inner)
  pub inner : (v x : ℕ) (s r : BlockSetting) → Settings v s r → Settings x (record s { width = x }) (record r { width = x })
  -- Lines.
  pub none : (v : ℕ) (w : W) → Lines v w [] []
  pub gap : (v : ℕ) (w : W) → Lines v w ([] ∷ []) ([] ∷ [])
  pub behind : (v : ℕ) (w : W) (a e : List (Line T ℕ)) (b f : List (Line U ℕ)) → Lines v w a b → Lines v w e f → Lines v w (a ++ e) (b ++ f)
  pub count : (v : ℕ) (w : W) (a : List (Line T ℕ)) (b : List (Line U ℕ)) → Lines v w a b → length a ≡ length b
  pub before_marks : (v : ℕ) (w : W) (ms : List ℕ) (a : List (Line T ℕ)) (b : List (Line U ℕ)) → Lines v w a b →
      Lines v w (marked_before ms a) (marked_before ms b)
  pub behind_marks : (v : ℕ) (w : W) (ms : List ℕ) (a : List (Line T ℕ)) (b : List (Line U ℕ)) → Lines v w a b →
      Lines v w (marked_behind ms a) (marked_behind ms b)
  pub rule : (v : ℕ) (w : W) (t : T) (u : U) (character : ℕ) → width_of character ≡ 1 → Tags w t u →
      Lines v w (repeated t character v ∷ []) (repeated u character v ∷ [])
  pub joined : (v x : ℕ) (w : W) (s r : BlockSetting) (t : T) (u : U) (first later : List ℕ) (a : List (Line T ℕ)) (b : List (Line U ℕ)) →
      Settings v s r → Tags w t u → Lines x w a b → Both N M (Lines v w) (fitting s.width s.overflow (prefixed (under t first) (under t later) a))
      (fitting r.width r.overflow (prefixed (under u first) (under u later) b))
  -- Paragraphs.
  pub start : (v : ℕ) (w : W) (s r : BlockSetting) → Settings v s r →
      Clear v w (from.start (paragraph_setting s) []) (to.start (paragraph_setting r) [])
  pub feed_text : (v : ℕ) (w : W) (p : P) (q : Q) (mode : WhiteSpace) (t t' : T) (u u' : U) (cs : List ℕ) → Tags w t u → Tags w t' u' →
      Paragraphs v w p q → Paragraphs v w (from.feed p (styled (record { mode = mode; tag = t; continuation_tag = t' }) cs))
      (to.feed q (styled (record { mode = mode; tag = u; continuation_tag = u' }) cs))
  pub feed_marks : (v : ℕ) (w : W) (p : P) (q : Q) (ms : List ℕ) → Paragraphs v w p q →
      Paragraphs v w (from.feed p (mark_items ms)) (to.feed q (mark_items ms))
  pub page : (v : ℕ) (w : W) (s r : BlockSetting) (padding : Option T) (other : Option U) (p : P) (q : Q) → Settings v s r →
      OptionTags Tags w padding other → Paragraphs v w p q →
      Both N M (λ g k. Lines v w (filled padding s.width (all_lines g)) (filled other r.width (all_lines k))
      × Clear v w (from.next p g.waiting) (to.next q k.waiting)) (from.finish p) (to.finish q)
  pub clear : (v : ℕ) (w : W) (p : P) (q : Q) → Clear v w p q → Paragraphs v w p q
  pub waiting : (v : ℕ) (w : W) (p : P) (q : Q) → Clear v w p q → to.waiting q ≡ from.waiting p
  pub without : (v : ℕ) (w : W) (p : P) (q : Q) → Clear v w p q → Clear v w (from.without_waiting p) (to.without_waiting q)
  -- Pictures, and open rows.
  pub begun : (v : ℕ) (w : W) (needs : List ColumnNeed) (widths : List ℕ) (borders : Bool) (t : T) (u : U) (ms : List ℕ) → Tags w t u →
      widths_across v needs ≡ Some widths →
      Pictures v w widths (from.begun (frame_of t borders widths) ms) (to.begun (frame_of u borders widths) ms)
  pub with_row : (v : ℕ) (w : W) (widths : List ℕ) (p : R) (q : S) (r : OpenRow T ℕ) (k : OpenRow U ℕ) → Pictures v w widths p q → Rows v w r k →
      Pictures v w widths (from.with_row p (whole_row r)) (to.with_row q (whole_row k))
  pub drawn : (v : ℕ) (w : W) (widths : List ℕ) (p : R) (q : S) → Pictures v w widths p q →
      Lines v w (from.drawn p).0 (to.drawn q).0 × ((to.drawn q).1 ≡ (from.drawn p).1)
  pub opened : (v : ℕ) (w : W) (widths : List ℕ) (p : R) (q : S) (cells : List PlacedCell) → Pictures v w widths p q →
      Rows v w (open_row widths cells) (open_row widths cells)
  pub ahead : (v : ℕ) (w : W) (r : OpenRow T ℕ) (k : OpenRow U ℕ) → Rows v w r k → k.ahead ≡ r.ahead
  pub kept : (v x : ℕ) (w : W) (r : OpenRow T ℕ) (k : OpenRow U ℕ) (a : List (Line T ℕ)) (b : List (Line U ℕ)) (ms : List ℕ) → Rows v w r k →
      next_width r.ahead ≡ Some x → Lines x w a b →
      Rows v w (past_cell r (record { width = x; lines = a; marks = ms } ∷ [])) (past_cell k (record { width = x; lines = b; marks = ms } ∷ []))
  pub skipped : (v : ℕ) (w : W) (r : OpenRow T ℕ) (k : OpenRow U ℕ) → Rows v w r k → Rows v w (past_cell r []) (past_cell k [])

module _ {P R Q S T U W : Type 0} (from : Parts P R T ℕ) (to : Parts Q S U ℕ) (N M : Type 0) (weak : M → N) (Later : W → W → Type 0)
    (Tags : W → T → U → Type 0) (Settings : ℕ → BlockSetting → BlockSetting → Type 0)
    (Lines : ℕ → W → List (Line T ℕ) → List (Line U ℕ) → Type 0) (Paragraphs Clear : ℕ → W → P → Q → Type 0)
    (Pictures : ℕ → W → List ℕ → R → S → Type 0) (Rows : ℕ → W → OpenRow T ℕ → OpenRow U ℕ → Type 0)
    (h : RelatesParts from to N M Tags Settings Lines Paragraphs Clear Pictures Rows) where
  abbrev First : Type 0
  First = Block P R T ℕ

  abbrev Second : Type 0
  Second = Block Q S U ℕ

  -- Whether two optional open rows are related.
  abbrev OpenRows : ℕ → W → Option (OpenRow T ℕ) → Option (OpenRow U ℕ) → Type 0
  OpenRows v w None o = o ≡ None
  OpenRows v w (Some r) o = (k : OpenRow U ℕ) × ((o ≡ Some k) × Rows v w r k)

  -- Whether the second table is side by side and related to the first one, which has these parts.
  pub record IsAcross (v : ℕ) (w : W) (picture : R) (widths : List ℕ) (ahead : List (List PlacedCell)) (row : Option (OpenRow T ℕ))
      (o : Option (OpenTable S U ℕ)) : Type 0 where
    pub other : S
    pub other_row : Option (OpenRow U ℕ)
    pub is : o ≡ Some (Across other widths ahead other_row)
    pub pictures : Pictures v w widths picture other
    pub rows : OpenRows v w row other_row

  -- Whether the second table is stacked and related to the first one, which has these parts.
  pub record IsStacked (w : W) (border : Option T) (has_lines : Bool) (o : Option (OpenTable S U ℕ)) : Type 0 where
    pub other : Option U
    pub is : o ≡ Some (Stacked other has_lines)
    pub borders : OptionTags Tags w border other

  abbrev Tables : ℕ → W → Option (OpenTable R T ℕ) → Option (OpenTable S U ℕ) → Type 0
  Tables v w None o = o ≡ None
  Tables v w (Some (Across picture widths ahead row)) o = IsAcross v w picture widths ahead row o
  Tables v w (Some (Stacked border has_lines)) o = IsStacked w border has_lines o

  -- Whether two blocks of v columns are related.
  pub record Related (v : ℕ) (w : W) (b : First) (c : Second) : Type 0 where
    pub settings : Settings v b.setting c.setting
    pub padding : OptionTags Tags w b.padding c.padding
    pub lines : Lines v w b.lines c.lines
    pub paragraph : Paragraphs v w b.paragraph c.paragraph
    pub at_block_end : c.at_block_end ≡ b.at_block_end
    pub table : Tables v w b.table c.table

  -- Whether two blocks of v columns are related, and nothing is fed to their paragraphs.
  abbrev Flushed : ℕ → W → First → Second → Type 0
  Flushed v w b c = Related v w b c × Clear v w b.paragraph c.paragraph

  -- Related blocks with other lines, another paragraph, another end and another table.
  rebuilt : (v : ℕ) (w : W) (b : First) (c : Second) (a : List (Line T ℕ)) (e : List (Line U ℕ)) (p : P) (q : Q) (z y : Bool)
      (o : Option (OpenTable R T ℕ)) (n : Option (OpenTable S U ℕ)) → Related v w b c → Lines v w a e → Paragraphs v w p q → y ≡ z → Tables v w o n →
      Related v w (record b { lines = a; paragraph = p; at_block_end = z; table = o }) (record c { lines = e; paragraph = q; at_block_end = y; table = n })
  rebuilt v w b c a e p q z y o n k l x same t =
      record { settings = k.settings; padding = k.padding; lines = l; paragraph = x; at_block_end = same; table = t }

  with_table : (v : ℕ) (w : W) (b : First) (c : Second) (o : Option (OpenTable R T ℕ)) (p : Option (OpenTable S U ℕ)) → Related v w b c →
      Tables v w o p → Related v w (record b { table = o }) (record c { table = p })
  with_table v w b c o p k t = rebuilt v w b c _ _ _ _ _ _ _ _ k k.lines k.paragraph k.at_block_end t

  with_end : (v : ℕ) (w : W) (b : First) (c : Second) (z : Bool) → Related v w b c →
      Related v w (record b { at_block_end = z }) (record c { at_block_end = z })
  with_end v w b c z k = rebuilt v w b c _ _ _ _ _ _ _ _ k k.lines k.paragraph refl k.table

  with_paragraph : (v : ℕ) (w : W) (b : First) (c : Second) (p : P) (q : Q) → Related v w b c → Paragraphs v w p q →
      Related v w (record b { paragraph = p }) (record c { paragraph = q })
  with_paragraph v w b c p q k x = rebuilt v w b c _ _ _ _ _ _ _ _ k k.lines x k.at_block_end k.table

  -- Related blocks with other lines, and with paragraphs to which nothing is fed.
  with_lines : (v : ℕ) (w : W) (b : First) (c : Second) (a : List (Line T ℕ)) (e : List (Line U ℕ)) (p : P) (q : Q) → Related v w b c →
      Lines v w a e → Clear v w p q → Flushed v w (record b { lines = a; paragraph = p }) (record c { lines = e; paragraph = q })
  with_lines v w b c a e p q k l x = (rebuilt v w b c _ _ _ _ _ _ _ _ k l (h.clear v w p q x) k.at_block_end k.table, x)

  -- ---- Flushed blocks

  pub flush-related : (v : ℕ) (w : W) (b : First) (c : Second) → Related v w b c → Both N M (Flushed v w) (flush from b) (flush to c)
  flush-related v w b c k =
      Both-map N M _ (Flushed v w) _ _ (from.finish b.paragraph) (to.finish c.paragraph)
      (h.page v w b.setting c.setting b.padding c.padding b.paragraph c.paragraph k.settings k.padding k.paragraph) (λ g e m.
      with_lines v w b c _ _ _ _ k (h.behind v w b.lines _ c.lines _ k.lines m.0) m.1)

  add_lines-related : (v : ℕ) (w : W) (b : First) (c : Second) (a : List (Line T ℕ)) (e : List (Line U ℕ)) → Flushed v w b c → Lines v w a e →
      Flushed v w (add_lines from b a) (add_lines to c e)
  add_lines-related v w b c a e k l =
      with_lines v w b c _ _ _ _ k.0
      (rw (h.waiting v w b.paragraph c.paragraph k.1)
      (h.behind v w b.lines _ c.lines _ k.0.lines (h.before_marks v w (from.waiting b.paragraph) a e l)))
      (h.without v w b.paragraph c.paragraph k.1)

  unended-related : (v : ℕ) (w : W) (gap other : Bool) (b : First) (c : Second) → other ≡ gap → Flushed v w b c →
      Flushed v w (unended from gap b) (unended to other c)
  unended-related v w gap other b c same k =
      let m = either (Flushed v w) gap other _ _ _ _ same (add_lines-related v w b c ([] ∷ []) ([] ∷ []) k (h.gap v w)) k in
      (with_end v w _ _ false m.0, m.1)

  -- Related blocks have equally many lines.
  counted : (v : ℕ) (w : W) (b : First) (c : Second) → Related v w b c → length c.lines ≡ length b.lines
  counted v w b c k = sym (h.count v w b.lines c.lines k.lines)

  pub start_block-related : (v : ℕ) (w : W) (b : First) (c : Second) → Related v w b c → Both N M (Flushed v w) (start_block from b) (start_block to c)
  start_block-related v w b c k =
      Both-map N M (Flushed v w) (Flushed v w) _ _ (flush from b) (flush to c) (flush-related v w b c k) (λ e f m.
      unended-related v w (not (is_empty e.lines)) (not (is_empty f.lines)) e f (ap (λ n. not (n == 0)) (counted v w e f m.0)) m)

  new_line_hard-related : (v : ℕ) (w : W) (b : First) (c : Second) → Related v w b c →
      Both N M (Flushed v w) ((operations from).new_line_hard b) ((operations to).new_line_hard c)
  new_line_hard-related v w b c k =
      Both-map N M (Flushed v w) (Flushed v w) _ _ (flush from b) (flush to c) (flush-related v w b c k) (λ e f m.
      unended-related v w (length e.lines == length b.lines) (length f.lines == length c.lines) e f
      (ap (λ n. n == length c.lines) (counted v w e f m.0) ∙ ap (λ n. length e.lines == n) (counted v w b c k)) m)

  -- Flushed blocks are related.
  flushed : (v : ℕ) (w : W) (a : Option First) (e : Option Second) → Both N M (Flushed v w) a e → Both N M (Related v w) a e
  flushed v w a e k = Both-weaken N M (Flushed v w) (Related v w) a e k (λ b c m. m.0)

  marks-related : (v : ℕ) (w : W) (b : First) (c : Second) (ms : List ℕ) → Related v w b c →
      Related v w (feed from b (mark_items ms)) (feed to c (mark_items ms))
  marks-related v w b c ms k = with_paragraph v w b c _ _ k (h.feed_marks v w b.paragraph c.paragraph ms k.paragraph)

  text-related : (v : ℕ) (w : W) (mode : WhiteSpace) (t t' : T) (u u' : U) (cs : List ℕ) → Tags w t u → Tags w t' u' → (b : First) (c : Second) →
      Related v w b c → Related v w (feed from b (styled (record { mode = mode; tag = t; continuation_tag = t' }) cs))
      (feed to c (styled (record { mode = mode; tag = u; continuation_tag = u' }) cs))
  text-related v w mode t t' u u' cs x y b c k =
      with_paragraph v w b c _ _ k (h.feed_text v w b.paragraph c.paragraph mode t t' u u' cs x y k.paragraph)

  add_inline_text-related : (v : ℕ) (w : W) (mode : WhiteSpace) (t t' : T) (u u' : U) (cs : List ℕ) → Tags w t u → Tags w t' u' →
      (b : First) (c : Second) → Related v w b c →
      Both N M (Related v w) ((operations from).add_inline_text b (record { mode = mode; tag = t; continuation_tag = t' }) cs)
      ((operations to).add_inline_text c (record { mode = mode; tag = u; continuation_tag = u' }) cs)
  add_inline_text-related v w mode t t' u u' cs x y b c k =
      either (Both N M (Related v w)) (eqb (length cs) 0) _ (Some b) _ (Some c) _ refl k
      (either (Both N M (Related v w)) (not b.at_block_end) _ (Some _) _ (Some _) _ (ap not k.at_block_end)
      (text-related v w mode t t' u u' cs x y b c k)
      (either (Both N M (Related v w)) (is_collapsible_text mode cs) _ (Some b) _ (Some c) _ refl k
      (Both-map N M (Flushed v w) (Related v w) _ _ (start_block from b) (start_block to c) (start_block-related v w b c k) (λ e f m.
      text-related v w mode t t' u u' cs x y e f m.0))))

  -- ---- Blocks in blocks

  pub empty-related : (v : ℕ) (w : W) (s r : BlockSetting) (padding : Option T) (other : Option U) → Settings v s r → OptionTags Tags w padding other →
      Related v w (empty_block from s padding) (empty_block to r other)
  empty-related v w s r padding other k x = record {
    settings = k;
    padding = x;
    lines = h.none v w;
    paragraph = h.clear v w _ _ (h.start v w s r k);
    at_block_end = refl;
    table = refl;
  }

  inner_block-related : (v x : ℕ) (w : W) (b : First) (c : Second) → Related v w b c → Related x w (inner_block from b x) (inner_block to c x)
  inner_block-related v x w b c k = empty-related x w _ _ b.padding c.padding (h.inner v x b.setting c.setting k.settings) k.padding

  put_lines-related : (v : ℕ) (w : W) (a : List (Line T ℕ)) (e : List (Line U ℕ)) (ms ns : List ℕ) → ns ≡ ms → Lines v w a e →
      (b : First) (c : Second) → Flushed v w b c → Related v w (put_lines from b a ms) (put_lines to c e ns)
  put_lines-related v w a e ms ns same l b c k = rw same (by a e l)
    where
      by : (a : List (Line T ℕ)) (e : List (Line U ℕ)) → Lines v w a e → Related v w (put_lines from b a ms) (put_lines to c e ms)
      by [] [] l = marks-related v w b c ms k.0
      by [] (e ∷ others) l = absurd (let n = h.count v w [] (e ∷ others) l in omega arith)
      by (a ∷ rest) [] l = absurd (let n = h.count v w (a ∷ rest) [] l in omega arith)
      by (a ∷ rest) (e ∷ others) l = (add_lines-related v w b c _ _ k (h.behind_marks v w ms (a ∷ rest) (e ∷ others) l)).0

  -- ---- Tables

  -- Pictures with rows ahead.
  with_ahead-related : (v : ℕ) (w : W) (widths : List ℕ) (ahead : List (List PlacedCell)) (p : R) (q : S) → Pictures v w widths p q →
      Pictures v w widths (with_ahead from widths ahead p) (with_ahead to widths ahead q)
  with_ahead-related v w widths [] p q k = k
  with_ahead-related v w widths (cells ∷ rest) p q k =
      with_ahead-related v w widths rest _ _
      (h.with_row v w widths p q (open_row widths cells) (open_row widths cells) k (h.opened v w widths p q cells k))

  with_open-related : (v : ℕ) (w : W) (widths : List ℕ) (p : R) (q : S) (row : Option (OpenRow T ℕ)) (other : Option (OpenRow U ℕ)) →
      Pictures v w widths p q → OpenRows v w row other → Pictures v w widths (with_open from p row) (with_open to q other)
  with_open-related v w widths p q None other k o = rw o k
  with_open-related v w widths p q (Some r) other k o =
      rw o.1.0 (h.with_row v w widths p q r o.0 k o.1.1)

  end_open-related : (v : ℕ) (w : W) (b : First) (c : Second) (o : Option (OpenTable R T ℕ)) (p : Option (OpenTable S U ℕ)) → Related v w b c →
      Tables v w o p → Related v w (end_open from b o) (end_open to c p)
  end_open-related v w b c None p k t = rw t k
  end_open-related v w b c (Some (Across picture widths ahead row)) p k t =
      let done = h.drawn v w widths _ _ (with_ahead-related v w widths ahead _ _
      (with_open-related v w widths picture t.other row t.other_row t.pictures t.rows)) in
      rw (t.is, done.1) (marks-related v w _ _ _
      (rebuilt v w b c _ _ _ _ _ _ _ _ k (h.behind v w b.lines _ c.lines _ k.lines done.0) k.paragraph k.at_block_end refl))
  end_open-related v w b c (Some (Stacked border has_lines)) p k t =
      rw t.is (with_table v w b c None None k refl)

  pub end_table-related : (v : ℕ) (w : W) (b : First) (c : Second) → Related v w b c → Related v w (end_table from b) (end_table to c)
  end_table-related v w b c k = end_open-related v w b c b.table c.table k k.table

  -- Flushed blocks, once their open tables are ended.
  ended_flush : (v : ℕ) (w : W) (b : First) (c : Second) → Related v w b c →
      Both N M (Flushed v w) (flush from (end_table from b)) (flush to (end_table to c))
  ended_flush v w b c k = flush-related v w (end_table from b) (end_table to c) (end_table-related v w b c k)

  append-related : (v x : ℕ) (w : W) (t : T) (u : U) (first later : List ℕ) → Tags w t u → (b : First) (c : Second) → Related v w b c →
      (e : First) (f : Second) → Related x w e f → Both N M (Related v w) (append from b e t first later) (append to c f u first later)
  append-related v x w t u first later y b c k e f l =
      Both-then N M weak (Flushed v w) (Related v w) _ _ (flush from b) (flush to c) (flush-related v w b c k) (λ d g m.
      Both-then N M weak (Flushed x w) (Related v w)
      (λ e. option_map (λ ls. put_lines from d ls (from.waiting e.paragraph))
      (fitting d.setting.width d.setting.overflow (prefixed (under t first) (under t later) e.lines)))
      (λ f. option_map (λ ls. put_lines to g ls (to.waiting f.paragraph))
      (fitting g.setting.width g.setting.overflow (prefixed (under u first) (under u later) f.lines)))
      (flush from (end_table from e)) (flush to (end_table to f)) (ended_flush x w e f l) (λ a i n.
      Both-map N M (Lines v w) (Related v w) _ _ _ _ (h.joined v x w d.setting g.setting t u first later a.lines i.lines m.0.settings y n.0.lines)
      (λ p q o. put_lines-related v w p q _ _ (h.waiting x w a.paragraph i.paragraph n.1) o d g m)))

  -- Sub-blocks, whose lines can be appended to the outer blocks under all later meanings of tags.
  abbrev Nested : (v : ℕ) (w : W) (t : T) (u : U) (first later : List ℕ) → First → Second → First → Second → Type 0
  Nested v w t u first later b c e f = (x : ℕ) × (Related x w e f × ((z : W) → Later w z → Tags z t u → Related v z b c →
      (e : First) (f : Second) → Related x z e f → Both N M (Related v z) (append from b e t first later) (append to c f u first later)))

  nested-related : (v : ℕ) (w : W) (t : T) (u : U) (first later : List ℕ) (prefix min_width : ℕ) → Tags w t u → (b : First) (c : Second) → Related v w b c →
      Both N M (Nested v w t u first later b c) ((operations from).sub_block b t first later prefix min_width)
      ((operations to).sub_block c u first later prefix min_width)
  nested-related v w t u first later prefix min_width y b c k =
      Both-map N M (λ x z. x ≡ z) (Nested v w t u first later b c) _ _ (inner_width b.setting prefix min_width) (inner_width c.setting prefix min_width)
      (h.inner_width v b.setting c.setting prefix min_width k.settings) (λ x o same.
      (x, rw (sym same) (inner_block-related v x w b c k, λ z l a m e f n. append-related v x z t u first later a b c m e f n)))

  -- Blocks with a border of one character.
  add_border-related : (v : ℕ) (w : W) (character : ℕ) → width_of character ≡ 1 →
      (border : Option T) (other : Option U) → OptionTags Tags w border other → (b : First) (c : Second) → Flushed v w b c →
      Flushed v w (add_border from b border character) (add_border to c other character)
  add_border-related v w character one None None x b c k = k
  add_border-related v w character one None (Some u) x b c k = absurd x
  add_border-related v w character one (Some t) None x b c k = absurd x
  add_border-related v w character one (Some t) (Some u) x b c k =
      let wide = h.width v b.setting c.setting k.0.settings in
      add_lines-related v w b c (repeated t character b.setting.width ∷ []) (repeated u character c.setting.width ∷ []) k
      (rw (wide.0, wide.1) (h.rule v w t u character one x))

  stacked_begun-related : (v : ℕ) (w : W) (border : Option T) (other : Option U) → OptionTags Tags w border other → (b : First) (c : Second) →
      Flushed v w b c → Related v w (stacked_begun from b border) (stacked_begun to c other)
  stacked_begun-related v w border other x b c k =
      with_table v w _ _ _ _ (add_border-related v w BORDERS.line (joint_width false false) border other x b c k).0
      (record { other = other; is = refl; borders = x })

  with_table_begun-related : (v : ℕ) (w : W) (t : T) (u : U) (borders : Bool) (needs : List ColumnNeed) (ahead : List (List PlacedCell)) → Tags w t u →
      (b : First) (c : Second) → Flushed v w b c → (o : Option (List ℕ)) → ((widths : List ℕ) → o ≡ Some widths → widths_across v needs ≡ Some widths) →
      Related v w (with_table_begun from b t borders ahead o) (with_table_begun to c u borders ahead o)
  with_table_begun-related v w t u borders needs ahead x b c k None is =
      let wide = h.width v b.setting c.setting k.0.settings in
      stacked_begun-related v w _ _ (rw (wide.0, wide.1) (either (OptionTags Tags w) (borders && not (v == 0)) _ _ _ _ _ refl x tt)) b c k
  with_table_begun-related v w t u borders needs ahead x b c k (Some widths) is =
      let q = h.without v w b.paragraph c.paragraph k.1 in
      rebuilt v w b c _ _ _ _ _ _ _ _ k.0 k.0.lines (h.clear v w _ _ q) k.0.at_block_end (record {
        other = _;
        other_row = None;
        is = refl;
        pictures = rw (h.waiting v w b.paragraph c.paragraph k.1) (h.begun v w needs widths borders t u (from.waiting b.paragraph) x (is widths refl));
        rows = refl;
      })

  begin_table-related : (v : ℕ) (w : W) (t : T) (u : U) (borders stacked : Bool) (grid : CellGrid) (needs : List ColumnNeed) → Tags w t u →
      (b : First) (c : Second) → Related v w b c →
      Both N M (Related v w) ((operations from).begin_table b t borders stacked grid needs) ((operations to).begin_table c u borders stacked grid needs)
  begin_table-related v w t u borders stacked grid needs x b c k =
      Both-map N M (Flushed v w) (Related v w) _ _ (flush from (end_table from b)) (flush to (end_table to c)) (ended_flush v w b c k) (λ e f m.
      let wide = h.width v e.setting f.setting m.0.settings in
      subst₂ (λ n i. Related v w (with_table_begun from e t borders (rows_on grid) (cond stacked None (widths_across n needs)))
      (with_table_begun to f u borders (rows_on grid) (cond stacked None (widths_across i needs)))) (sym wide.0) (sym wide.1)
      (with_table_begun-related v w t u borders needs (rows_on grid) x e f m (cond stacked None (widths_across v needs)) (across stacked)))
    where
      across : (z : Bool) (widths : List ℕ) → cond z None (widths_across v needs) ≡ Some widths → widths_across v needs ≡ Some widths
      across true widths e = cc
      across false widths e = e

  begin_row-related : (v : ℕ) (w : W) (o : Option (OpenTable R T ℕ)) (p : Option (OpenTable S U ℕ)) → Tables v w o p →
      Tables v w (option_map with_row_open o) (option_map with_row_open p)
  begin_row-related v w None p t = rw t refl
  begin_row-related v w (Some (Across picture widths ahead None)) p t =
      let cells = slice_index_or ahead 0 [] in record {
        other = t.other;
        other_row = Some (open_row widths cells);
        is = rw (t.is, t.rows) refl;
        pictures = t.pictures;
        rows = (open_row widths cells, (refl, h.opened v w widths picture t.other cells t.pictures));
      }
  begin_row-related v w (Some (Across picture widths ahead (Some row))) p t = record {
    other = t.other;
    other_row = t.other_row;
    is = rw (t.is, t.rows.1.0) refl;
    pictures = t.pictures;
    rows = t.rows;
  }
  begin_row-related v w (Some (Stacked border has_lines)) p t =
      record { other = t.other; is = rw t.is refl; borders = t.borders }

  skipped-related : (v : ℕ) (w : W) (o : Option (OpenTable R T ℕ)) (p : Option (OpenTable S U ℕ)) → Tables v w o p →
      Tables v w (option_map skipped o) (option_map skipped p)
  skipped-related v w None p t = rw t refl
  skipped-related v w (Some (Across picture widths ahead None)) p t = record {
    other = t.other;
    other_row = None;
    is = rw (t.is, t.rows) refl;
    pictures = t.pictures;
    rows = refl;
  }
  skipped-related v w (Some (Across picture widths ahead (Some row))) p t = record {
    other = t.other;
    other_row = Some (past_cell t.rows.0 []);
    is = rw (t.is, t.rows.1.0) refl;
    pictures = t.pictures;
    rows = (past_cell t.rows.0 [], (refl, h.skipped v w row t.rows.0 t.rows.1.1));
  }
  skipped-related v w (Some (Stacked border has_lines)) p t =
      record { other = t.other; is = rw t.is refl; borders = t.borders }

  put_stacked-related : (v : ℕ) (w : W) (border : Option T) (other : Option U) (has_lines more : Bool) → OptionTags Tags w border other →
      (e : First) (f : Second) → Flushed v w e f → (b : First) (c : Second) → Flushed v w b c →
      Related v w (put_stacked from b border has_lines more e) (put_stacked to c other has_lines more f)
  put_stacked-related v w border other has_lines more x e f l b c k =
      with_table v w _ _ _ _ (put_lines-related v w e.lines f.lines _ _ (h.waiting v w e.paragraph f.paragraph l.1) l.0.lines _ _
      (either (Flushed v w) (has_lines && more) _ _ _ _ _ refl (add_border-related v w BORDERS.slash slash_width border other x b c k) k))
      (record { other = other; is = refl; borders = x })

  -- A cell of x columns whose lines are added below those of the block.
  below : (v x : ℕ) (w : W) (b : First) (c : Second) → Related v w b c → (e : First) (f : Second) → Flushed x w e f → Some v ≡ Some x →
      Both N M (Related v w) (option_map (λ d. put_lines from d e.lines (from.waiting e.paragraph)) (flush from b))
      (option_map (λ d. put_lines to d f.lines (to.waiting f.paragraph)) (flush to c))
  below v x w b c k e f l n =
      let m : Flushed v w e f = rw (same_Some v x n) l in
      Both-map N M (Flushed v w) (Related v w) _ _ (flush from b) (flush to c) (flush-related v w b c k)
      (put_lines-related v w e.lines f.lines _ _ (h.waiting v w e.paragraph f.paragraph m.1) m.0.lines)

  -- A cell of x columns at its place.
  cell_added-related : (v x : ℕ) (w : W) (b : First) (c : Second) → Related v w b c → (e : First) (f : Second) → Flushed x w e f →
      (o : Option (OpenTable R T ℕ)) (p : Option (OpenTable S U ℕ)) → Tables v w o p → next_cell_width v o ≡ Some x →
      Both N M (Related v w) (cell_added from b o e) (cell_added to c p f)
  cell_added-related v x w b c k e f l None p t n =
      rw t (below v x w b c k e f l n)
  cell_added-related v x w b c k e f l (Some (Across picture widths ahead None)) p t n =
      rw (t.is, t.rows) (below v x w b c k e f l n)
  cell_added-related v x w b c k e f l (Some (Across picture widths ahead (Some row))) p t n =
      let wide = h.width x e.setting f.setting l.0.settings in
      rw (t.is, t.rows.1.0) (with_table v w b c _ _ k (record {
        other = t.other;
        other_row = _;
        is = refl;
        pictures = t.pictures;
        rows = (
          _,
          (
            refl,
            rw (wide.0, wide.1, h.waiting x w e.paragraph f.paragraph l.1)
                (h.kept v x w row t.rows.0 e.lines f.lines (from.waiting e.paragraph) t.rows.1.1 n l.0.lines),
          ),
        );
      }))
  cell_added-related v x w b c k e f l (Some (Stacked border has_lines)) p t n =
      let m : Flushed v w e f = rw (same_Some v x n) l in
      rw (t.is, counted x w e f l.0)
      (Both-map N M (Flushed v w) (Related v w) _ _ (flush from b) (flush to c) (flush-related v w b c k) (λ d g y.
      put_stacked-related v w border t.other has_lines (not (is_empty e.lines)) t.borders e f m d g y))

  add_cell-related : (v x : ℕ) (w : W) (b : First) (c : Second) → Related v w b c → (e : First) (f : Second) → Related x w e f →
      next_cell_width v b.table ≡ Some x → Both N M (Related v w) ((operations from).add_cell b e) ((operations to).add_cell c f)
  add_cell-related v x w b c k e f l n =
      Both-then N M weak (Flushed x w) (Related v w) _ _ (flush from (end_table from e)) (flush to (end_table to f)) (ended_flush x w e f l)
      (λ d g m. cell_added-related v x w b c k d g m b.table c.table k.table n)

  next_width-related : (v : ℕ) (w : W) (o : Option (OpenTable R T ℕ)) (p : Option (OpenTable S U ℕ)) → Tables v w o p →
      next_cell_width v p ≡ next_cell_width v o
  next_width-related v w None p t = rw t refl
  next_width-related v w (Some (Across picture widths ahead None)) p t = rw (t.is, t.rows) refl
  next_width-related v w (Some (Across picture widths ahead (Some row))) p t =
      rw (t.is, t.rows.1.0, h.ahead v w row t.rows.0 t.rows.1.1) refl
  next_width-related v w (Some (Stacked border has_lines)) p t = rw t.is refl

  cell-related : (v : ℕ) (w : W) (b : First) (c : Second) → Related v w b c →
      Both (Unit {0}) ⊥ (λ e f. (j : ℕ) × (Related j w e f × ((z : W) → Later w z → Related v z b c →
      (e : First) (f : Second) → Related j z e f → Both N M (Related v z) ((operations from).add_cell b e) ((operations to).add_cell c f))))
      ((operations from).cell_block b) ((operations to).cell_block c)
  cell-related v w b c k =
      let wide = h.width v b.setting c.setting k.settings in
      subst (λ o. Both (Unit {0}) ⊥ Inner (option_map (λ x. inner_block from b x) o) ((operations to).cell_block c))
      (ap (λ n. next_cell_width n b.table) (sym wide.0))
      (subst (λ o. Both (Unit {0}) ⊥ Inner (option_map (λ x. inner_block from b x) (next_cell_width v b.table)) (option_map (λ x. inner_block to c x) o))
      (sym (ap (λ n. next_cell_width n c.table) wide.1 ∙ next_width-related v w b.table c.table k.table)) (by (next_cell_width v b.table) refl))
    where
      Inner : First → Second → Type 0
      Inner e f = (j : ℕ) × (Related j w e f × ((z : W) → Later w z → Related v z b c →
          (e : First) (f : Second) → Related j z e f → Both N M (Related v z) ((operations from).add_cell b e) ((operations to).add_cell c f)))

      by : (o : Option ℕ) → next_cell_width v b.table ≡ o →
          Both (Unit {0}) ⊥ Inner (option_map (λ x. inner_block from b x) o) (option_map (λ x. inner_block to c x) o)
      by None e = tt
      by (Some x) e = (x, (inner_block-related v x w b c k, λ z l m f g n. add_cell-related v x z b c m f g n e))

  row_ended-related : (v : ℕ) (w : W) (b : First) (c : Second) → Related v w b c → (o : Option (OpenTable R T ℕ)) (p : Option (OpenTable S U ℕ)) →
      Tables v w o p → Both N M (Related v w) (row_ended from b o) (row_ended to c p)
  row_ended-related v w b c k None p t = rw t k
  row_ended-related v w b c k (Some (Across picture widths ahead row)) p t =
      rw t.is (with_table v w b c _ _ k (record {
        other = _;
        other_row = None;
        is = refl;
        pictures = with_open-related v w widths picture t.other row t.other_row t.pictures t.rows;
        rows = refl;
      }))
  row_ended-related v w b c k (Some (Stacked border true)) p t =
      rw t.is (Both-map N M (Flushed v w) (Related v w) _ _ (flush from b) (flush to c) (flush-related v w b c k)
      (stacked_begun-related v w border t.other t.borders))
  row_ended-related v w b c k (Some (Stacked border false)) p t = rw t.is k

  -- THE THEOREM: each operation keeps blocks related.
  pub operations-related : Relates (operations from) (operations to) N M Later Tags (λ v w b c. Related v w b c)
  operations-related = record {
    add_inline_text = add_inline_text-related;
    add_mark = λ v w m b c k. marks-related v w b c (m ∷ []) k;
    new_line = λ v w b c k. flushed v w _ _ (flush-related v w b c k);
    new_line_hard = λ v w b c k. flushed v w _ _ (new_line_hard-related v w b c k);
    start_block = λ v w b c k. flushed v w _ _ (start_block-related v w b c k);
    end_block = λ v w b c k. with_end v w b c true k;
    nested = nested-related;
    begin_table = begin_table-related;
    begin_row = λ v w b c k. with_table v w b c _ _ k (begin_row-related v w b.table c.table k.table);
    cell = cell-related;
    skip_cell = λ v w b c k. with_table v w b c _ _ k (skipped-related v w b.table c.table k.table);
    end_row = λ v w b c k. row_ended-related v w b c k b.table c.table k.table;
    end_table = end_table-related;
  }

  -- ---- The end of a document

  ended-related : (v : ℕ) (w : W) (b : First) (c : Second) → Flushed v w b c → Related v w
      (cond (is_empty b.lines) b (record b { lines = marked_behind (from.waiting b.paragraph) b.lines; paragraph = from.without_waiting b.paragraph }))
      (cond (is_empty c.lines) c (record c { lines = marked_behind (to.waiting c.paragraph) c.lines; paragraph = to.without_waiting c.paragraph }))
  ended-related v w b c k = either (Related v w) (is_empty b.lines) _ _ _ _ _ (ap (λ n. n == 0) (counted v w b c k.0)) k.0 (with_lines v w b c _ _ _ _ k.0
      (rw (h.waiting v w b.paragraph c.paragraph k.1) (h.behind_marks v w (from.waiting b.paragraph) b.lines c.lines k.0.lines))
      (h.without v w b.paragraph c.paragraph k.1)).0

  pub finish-related : (v : ℕ) (w : W) (b : First) (c : Second) → Related v w b c → Both N M (Related v w) (finish from b) (finish to c)
  finish-related v w b c k =
      Both-map N M (Flushed v w) (Related v w) _ _ (flush from (end_table from b)) (flush to (end_table to c)) (ended_flush v w b c k)
      (ended-related v w)

  -- Closing lines, if the lines of each text are related.
  module _ (Cut : Bool → Type 0) (text : (v : ℕ) (w : W) (cut : Bool) (s r : BlockSetting) (t : T) (u : U) (cs : List ℕ) → Cut cut → Settings v s r →
      Tags w t u → Both N M (Lines v w) (text_lines (line_setting s) cut t cs) (text_lines (line_setting r) cut u cs)) where
    texts-related : (v : ℕ) (w : W) (cut : Bool) (s r : BlockSetting) (t : T) (u : U) → Cut cut → Settings v s r → Tags w t u →
        (ts : List (List ℕ)) → Both N M (Lines v w) (closing_lines s cut t ts) (closing_lines r cut u ts)
    texts-related v w cut s r t u x k y [] = h.none v w
    texts-related v w cut s r t u x k y (cs ∷ rest) =
        Both-then N M weak (Lines v w) (Lines v w) _ _ (text_lines (line_setting s) cut t (on_one_line cs))
        (text_lines (line_setting r) cut u (on_one_line cs)) (text v w cut s r t u (on_one_line cs) x k y) (λ a b l.
        Both-then N M weak (Lines v w) (Lines v w) (λ later. Some (a ++ later)) (λ later. Some (b ++ later))
        (closing_lines s cut t rest) (closing_lines r cut u rest) (texts-related v w cut s r t u x k y rest)
        (λ e f m. h.behind v w a e b f l m))

    closing-related : (v : ℕ) (w : W) (cut : Bool) (t : T) (u : U) (ts : List (List ℕ)) → Cut cut → Tags w t u → (b : First) (c : Second) →
        Related v w b c → Both N M (Related v w) (add_closing_lines from b cut t ts) (add_closing_lines to c cut u ts)
    closing-related v w cut t u [] x y b c k = k
    closing-related v w cut t u (cs ∷ rest) x y b c k =
        Both-then N M weak (Flushed v w) (Related v w) _ _ (start_block from b) (start_block to c) (start_block-related v w b c k) (λ e f m.
        Both-then N M weak (Lines v w) (Related v w) (λ ls. Some (add_lines from e ls)) (λ ls. Some (add_lines to f ls)) _ _
        (texts-related v w cut e.setting f.setting t u x m.0.settings y (cs ∷ rest)) (λ a i l. (add_lines-related v w e f a i m l).0))

    -- THE THEOREM: the operations at the end of a document keep blocks related.
    pub ends-related : RelatesEnds (ending from) (ending to) N M Cut Tags (λ v w b c. Related v w b c)
    ends-related = record { finish = finish-related; add_closing_lines = closing-related }

  -- ---- Later meanings of tags

  module _ (tags_later : (w z : W) (t : T) (u : U) → Tags w t u → Later w z → Tags z t u)
      (lines_later : (v : ℕ) (w z : W) (a : List (Line T ℕ)) (b : List (Line U ℕ)) → Lines v w a b → Later w z → Lines v z a b)
      (paragraphs_later : (v : ℕ) (w z : W) (p : P) (q : Q) → Paragraphs v w p q → Later w z → Paragraphs v z p q)
      (pictures_later : (v : ℕ) (w z : W) (widths : List ℕ) (p : R) (q : S) → Pictures v w widths p q → Later w z → Pictures v z widths p q)
      (rows_later : (v : ℕ) (w z : W) (r : OpenRow T ℕ) (k : OpenRow U ℕ) → Rows v w r k → Later w z → Rows v z r k) where
    tags-later : (w z : W) (a : Option T) (b : Option U) → OptionTags Tags w a b → Later w z → OptionTags Tags z a b
    tags-later w z None None x l = tt
    tags-later w z None (Some u) x l = absurd x
    tags-later w z (Some t) None x l = absurd x
    tags-later w z (Some t) (Some u) x l = tags_later w z t u x l

    rows-later : (v : ℕ) (w z : W) (row : Option (OpenRow T ℕ)) (o : Option (OpenRow U ℕ)) → OpenRows v w row o → Later w z → OpenRows v z row o
    rows-later v w z None o x l = x
    rows-later v w z (Some r) o x l = (x.0, (x.1.0, rows_later v w z r x.0 x.1.1 l))

    tables-later : (v : ℕ) (w z : W) (o : Option (OpenTable R T ℕ)) (p : Option (OpenTable S U ℕ)) → Tables v w o p → Later w z → Tables v z o p
    tables-later v w z None p t l = t
    tables-later v w z (Some (Across picture widths ahead row)) p t l = record {
      other = t.other;
      other_row = t.other_row;
      is = t.is;
      pictures = pictures_later v w z widths picture t.other t.pictures l;
      rows = rows-later v w z row t.other_row t.rows l;
    }
    tables-later v w z (Some (Stacked border has_lines)) p t l =
        record { other = t.other; is = t.is; borders = tags-later w z border t.other t.borders l }

    pub later-related : (v : ℕ) (w z : W) (b : First) (c : Second) → Related v w b c → Later w z → Related v z b c
    later-related v w z b c k l = record {
      settings = k.settings;
      padding = tags-later w z b.padding c.padding k.padding l;
      lines = lines_later v w z b.lines c.lines k.lines l;
      paragraph = paragraphs_later v w z b.paragraph c.paragraph k.paragraph l;
      at_block_end = k.at_block_end;
      table = tables-later v w z b.table c.table k.table l;
    }
