-- A BLOCK BESIDE ANOTHER that was fed the same with overflow on: both have the same lines. With overflow on no operation
-- refuses. With overflow off no line passes the width, if closing lines are cut.
use Rattle.std.proofs.Common.{◌≡◌, ℕ, ◌-◌, ◌≤◌, ◌+◌, sum, Bool, true, false, cond, leb, ◌||◌, List, [], ◌∷◌, length, Option, Some, None}
use Rattle.std.proofs.Common.{refl, sym, ap, subst, arith, IfSome, All, min, option_map}
use Rattle.std.specs.List.{list_all}
use Rattle.std.specs.Option.{unwrap_or}
use Rattle.std.proofs.lemmas.Bool.{leb-true, and_parts}
use Rattle.std.proofs.lemmas.List.Elements.{All-append, All-nil, All-cons, All-push, All-weaker}
use Rattle.std.proofs.lemmas.List.Sums.{sum_by-cons}
use Rattle.html_render_layout_lines.specs.declared.character.Item.{Item}
use Rattle.html_render_layout_lines.specs.Line.{Line, columns, AllWithinWidth}
use Rattle.html_render_layout_paragraphs.specs.CutText.{text_lines}
use Rattle.html_render_layout_paragraphs.specs.Paragraph.{LineBuffer, with_overflow, paragraph, all_lines}
use Rattle.html_render_layout_paragraphs.specs.laws.Answers.{Both, Both-weaken}
use Rattle.html_render_layout_paragraphs.specs.laws.Beside.{IsWithin, all_lines_within, paragraph-beside, cut-beside}
use Rattle.html_render_parts_widths.specs.laws.Needs.{across_within}
use Rattle.html_render_layout_buffer.specs.Padding.{filled, repeated}
use Rattle.html_render_layout_pictures.specs.Picture.{KeptCell}
use Rattle.html_render_layout_pictures.specs.Widths.{KeepsToWidth, RowWithin}
use Rattle.html_render_layout_pictures.specs.laws.Padding.{filled-within, repeated-columns}
use Rattle.html_render_layout_pictures.specs.laws.Widths.{marked_before-within, marked_behind-within, picture_within}
use Rattle.html_render_layout_blocks.specs.declared.block.BlockSetting.{BlockSetting}
use Rattle.html_render_layout_blocks.specs.Block.{empty_block}
use Rattle.html_render_layout_blocks.specs.Definition.{Fed, definition, DefinedBlock, operations, ending}
use Rattle.html_render_layout_blocks.specs.OpenRows.{OpenRow, whole_row}
use Rattle.html_render_layout_blocks.specs.Tables.{Rows}
use Rattle.html_render_layout_blocks.specs.laws.Related.{OptionTags, Relates, RelatesEnds, RelatesParts, Related, operations-related, ends-related}
use Rattle.html_render_layout_blocks.specs.laws.Related.{empty-related}
use Rattle.html_render_layout_blocks.specs.laws.TableWithin.{OpenWithin, columns_room, place_room, open-within, cell-within, whole-within}
use Rattle.html_render_layout_blocks.specs.laws.TableWithin.{frame_width_within, columns_room-within}

wrap-within : (w : ℕ) (most : Option ℕ) → unwrap_or (option_map (min w) most) w ≤ w
wrap-within w None = omega arith
wrap-within w (Some most) = omega arith

-- No line passes the width if the test of `fitting` says so.
within-test : {T M : Type 0} (w : ℕ) (ls : List (Line T M)) → list_all (λ (l : Line T M). leb (columns l) w) ls ≡ true → AllWithinWidth w ls
within-test {T} {M} w [] e = All-nil (λ (l : Line T M). columns l ≤ w)
within-test {T} {M} w (l ∷ ls) e =
    let h = and_parts (leb (columns l) w) (list_all (λ (l : Line T M). leb (columns l) w) ls) e in
    All-cons (λ (l : Line T M). columns l ≤ w) l ls (leb-true _ _ h.0) (within-test w ls h.1)

-- `o` says whether the first block's overflow is on, and `cut` whether closing lines are cut. W are the meanings of tags.
module _ (T W : Type 0) (o cut : Bool) where
  -- Condition under which no line passes the width: overflow is off, and closing lines are cut.
  abbrev Limited : Type 0
  Limited = (o ≡ false) × (cut ≡ true)

  abbrev pub Tags : W → T → T → Type 0
  Tags w t u = u ≡ t

  abbrev pub Later : W → W → Type 0
  Later w v = Unit {0}

  abbrev pub Settings : ℕ → BlockSetting → BlockSetting → Type 0
  Settings v s r = (s.width ≡ v) × ((s.overflow ≡ o) × (r ≡ record s { overflow = true }))

  abbrev pub Lines : ℕ → W → List (Line T ℕ) → List (Line T ℕ) → Type 0
  Lines v w a b = (b ≡ a) × (Limited → AllWithinWidth v a)

  abbrev pub Paragraphs : ℕ → W → Fed T ℕ → Fed T ℕ → Type 0
  Paragraphs v w p q =
      (q ≡ record p { setting = record p.setting { overflow = true } }) × ((p.setting.width ≤ v) × (p.setting.overflow ≡ o))

  abbrev pub Clear : ℕ → W → Fed T ℕ → Fed T ℕ → Type 0
  Clear v w p q = Paragraphs v w p q × (p.items ≡ [])

  abbrev pub Pictures : ℕ → W → List ℕ → Rows T ℕ → Rows T ℕ → Type 0
  Pictures v w widths p q =
      (q ≡ p) × (Limited → ((p.frame.width ≤ v) × All (RowWithin v) p.rows) × (columns_room widths ≤ v + 1))

  abbrev pub OpenRows : ℕ → W → OpenRow T ℕ → OpenRow T ℕ → Type 0
  OpenRows v w r k = (k ≡ r) × (Limited → OpenWithin v r)

  tags-same : (w : W) (a b : Option T) → OptionTags Tags w a b → b ≡ a
  tags-same w None None x = refl
  tags-same w None (Some u) x = absurd x
  tags-same w (Some t) None x = absurd x
  tags-same w (Some t) (Some u) x = ap Some x

  -- A value under the condition that overflow is on or a test is met.
  chosen : {X : Type 0} (R : X → X → Type 0) (z b : Bool) (x : X) → z ≡ o → (z ≡ true → R x x) → (b ≡ true → R x x) →
      Both (o ≡ false) (o ≡ false) R (cond (z || b) (Some x) None) (Some x)
  chosen R true b x e on met = on refl
  chosen R false true x e on met = met refl
  chosen R false false x e on met = sym e

  abbrev Pages : ℕ → LineBuffer T ℕ → LineBuffer T ℕ → Type 0
  Pages v p q = (q ≡ p) × (Limited → (padding : Option T) → AllWithinWidth v (filled padding v (all_lines p)))

  pages : (v w : ℕ) (z : Bool) (ms : List ℕ) (xs : List (Item T ℕ)) → w ≤ v → z ≡ o →
      Both (o ≡ false) (o ≡ false) (Pages v) (paragraph (record { width = w; overflow = z }) ms xs) (paragraph (with_overflow w) ms xs)
  pages v w z ms xs le e =
      subst (λ y. Both (o ≡ false) (o ≡ false) (Pages v) (paragraph (record { width = w; overflow = y }) ms xs) (paragraph (with_overflow w) ms xs)) (sym e)
      (Both-weaken (o ≡ false) (o ≡ false) (λ p q. (q ≡ p) × (o ≡ false → IsWithin w p)) (Pages v) (paragraph (record { width = w; overflow = o }) ms xs)
      (paragraph (with_overflow w) ms xs) (paragraph-beside w o ms xs) (λ p q k. (
        k.0,
        λ n padding. filled-within padding v (all_lines p)
            (All-weaker (λ (l : Line T ℕ). columns l ≤ w) (λ (l : Line T ℕ). columns l ≤ v) (λ l n. omega (arith, n, le)) (all_lines p)
            (all_lines_within w p (k.1 n.0))),
      )))

  abbrev Cuts : ℕ → List (Line T ℕ) → List (Line T ℕ) → Type 0
  Cuts v a b = (b ≡ a) × (Limited → AllWithinWidth v a)

  texts : (v : ℕ) (z c : Bool) (t : T) (cs : List ℕ) → c ≡ cut → z ≡ o →
      Both (o ≡ false) (o ≡ false) (Cuts v) (text_lines (record { width = v; overflow = z }) c t cs) (text_lines (with_overflow v) c t cs)
  texts v z true t cs c e =
      subst (λ y. Both (o ≡ false) (o ≡ false) (Cuts v) (text_lines (record { width = v; overflow = y }) true t cs) (text_lines (with_overflow v) true t cs)) (sym e)
      (Both-weaken (o ≡ false) (o ≡ false) (λ a b. (b ≡ a) × (o ≡ false → AllWithinWidth v a)) (Cuts v)
      (text_lines (record { width = v; overflow = o }) true t cs) (text_lines (with_overflow v) true t cs) (cut-beside ℕ v o t cs) (λ a b k. (k.0, λ n. k.1 n.0)))
  texts v z false t cs c e = (refl, λ n. absurd (let whole = n.1 in cc))

  pub parts-beside : RelatesParts definition definition (o ≡ false) (o ≡ false) Tags Settings Lines Paragraphs Clear Pictures OpenRows
  parts-beside = record {
    width = λ v s r k. (k.0, rw k.1.1 k.0);
    inner_width = λ v s r prefix inner k. rw k.1.1 (chosen (λ x y. x ≡ y) s.overflow _ _ k.1.0 (λ e. refl) (λ e. refl));
    inner = λ v x s r k. (refl, (k.1.0, rw k.1.1 refl));
    none = λ v w. (refl, λ n. All-nil (λ (l : Line T ℕ). columns l ≤ v));
    gap = λ v w. (refl, λ n. All-cons (λ (l : Line T ℕ). columns l ≤ v) [] [] (omega arith) (All-nil (λ (l : Line T ℕ). columns l ≤ v)));
    behind = λ v w a e b f k l. (rw (k.0, l.0) refl, λ n. All-append (λ (l : Line T ℕ). columns l ≤ v) a e (k.1 n) (l.1 n));
    count = λ v w a b k. rw k.0 refl;
    before_marks = λ v w ms a b k. (rw k.0 refl, λ n. marked_before-within v ms a (k.1 n));
    behind_marks = λ v w ms a b k. (rw k.0 refl, λ n. marked_behind-within v ms a (k.1 n));
    rule = λ v w t u character one x. (
      rw x refl,
      λ n. All-cons (λ (l : Line T ℕ). columns l ≤ v) (repeated t character v) []
          (let e = repeated-columns ℕ t character v one in omega (arith, e)) (All-nil (λ (l : Line T ℕ). columns l ≤ v)),
    );
    joined = λ v x w s r t u first later a b k y l. rw (k.1.1, y, l.0, k.0)
        (chosen (Lines v w) s.overflow _ _ k.1.0 (λ e. (refl, λ n. absurd (let off = n.0 in let own = k.1.0 in cc)))
        (λ e. (refl, λ n. within-test v _ e)));
    start = λ v w s r k. ((rw k.1.1 refl, (rw (sym k.0) (wrap-within s.width s.max_wrap_width), k.1.0)), refl);
    feed_text = λ v w p q mode t t' u u' cs x y k. (rw (k.0, x, y) refl, k.1);
    feed_marks = λ v w p q ms k. (rw k.0 refl, k.1);
    page = λ v w s r padding other p q k x l. rw (tags-same w padding other x, k.1.1, l.0, k.0)
        (Both-weaken (o ≡ false) (o ≡ false) _ _ (paragraph p.setting p.waiting p.items) (paragraph (with_overflow p.setting.width) p.waiting p.items)
        (pages v p.setting.width p.setting.overflow p.waiting p.items l.1.0 l.1.1)
        (λ g i m. ((rw m.0 refl, λ n. m.1 n padding), ((rw m.0 refl, l.1), refl))));
    clear = λ v w p q k. k.0;
    waiting = λ v w p q k. rw k.0.0 refl;
    without = λ v w p q k. ((rw k.0.0 refl, k.0.1), k.1);
    begun = λ v w needs widths borders t u ms x e. (
      rw x refl,
      λ n.
          let k : sum widths + (length widths - 1) ≤ v =
          subst (λ o. IfSome o (λ ws. sum ws + (length ws - 1) ≤ v)) e (across_within v needs) in (
            (let w = frame_width_within widths in omega (arith, w, k), All-nil (RowWithin {T = T} {M = ℕ} v)),
            columns_room-within v widths k,
          ),
    );
    with_row = λ v w widths p q r k x y. (
      rw (x.0, y.0) refl,
      λ n.
          ((let p = x.1 n in p.0.0, All-push (RowWithin v) p.rows (whole_row r) (x.1 n).0.1 (whole-within v r (y.1 n))), (x.1 n).1),
    );
    drawn = λ v w widths p q k. (
      (rw k.0 refl, λ n. picture_within p.frame v p.waiting p.rows (k.1 n).0.0 (k.1 n).0.1),
      rw k.0 refl,
    );
    opened = λ v w widths p q cells k. (refl, λ n. open-within v widths cells (k.1 n).1);
    ahead = λ v w r k x. rw x.0 refl;
    kept = λ v x w r k a b ms y e l. (
      rw (y.0, l.0) refl,
      λ n.
          let cell : KeptCell T ℕ = record { width = x; lines = a; marks = ms } in
          cell-within v r (cell ∷ []) (y.1 n) (All-cons KeepsToWidth cell [] (l.1 n) (All-nil KeepsToWidth))
          (let room = ap place_room e in let one = sum_by-cons (λ (c : KeptCell T ℕ). 1 + c.width) cell [] in omega (arith, room, one)),
    );
    skipped = λ v w r k x. (rw x.0 refl, λ n. cell-within v r [] (x.1 n) (All-nil KeepsToWidth) (omega arith));
  }

  -- ---- Blocks

  abbrev pub Blocks : ℕ → W → DefinedBlock T ℕ → DefinedBlock T ℕ → Type 0
  Blocks v w b c = Related definition definition (o ≡ false) (o ≡ false) (λ x. x) Later Tags Settings Lines Paragraphs Clear Pictures OpenRows parts-beside v w b c

  -- THE THEOREM: each operation keeps two blocks beside each other.
  pub operations-beside : Relates operations operations (o ≡ false) (o ≡ false) Later Tags Blocks
  unfolding operations
  operations-beside =
      operations-related definition definition (o ≡ false) (o ≡ false) (λ x. x) Later Tags Settings Lines Paragraphs Clear Pictures OpenRows parts-beside

  pub ends-beside : RelatesEnds ending ending (o ≡ false) (o ≡ false) (λ c. c ≡ cut) Tags Blocks
  ends-beside =
      ends-related definition definition (o ≡ false) (o ≡ false) (λ x. x) Later Tags Settings Lines Paragraphs Clear Pictures OpenRows parts-beside (λ c. c ≡ cut)
      (λ v w c s r t u cs x k y. rw (k.1.1, y, k.0) (texts v s.overflow c t cs x k.1.0))

  pub empty-beside : (w : W) (s : BlockSetting) (padding : Option T) → s.overflow ≡ o →
      Blocks s.width w (empty_block definition s padding) (empty_block definition (record s { overflow = true }) padding)
  empty-beside w s padding e =
      empty-related definition definition (o ≡ false) (o ≡ false) (λ x. x) Later Tags Settings Lines Paragraphs Clear Pictures OpenRows parts-beside s.width w s
      (record s { overflow = true }) padding padding (refl, (e, refl)) (own padding)
    where
      own : (padding : Option T) → OptionTags Tags w padding padding
      own None = tt
      own (Some tag) = refl

  -- Both blocks have the same lines, and these keep to the width.
  pub lines-beside : (v : ℕ) (w : W) (b c : DefinedBlock T ℕ) → Blocks v w b c → Lines v w b.lines c.lines
  lines-beside v w b c k = k.lines
