-- Each operation keeps what is seen of a machine's block, which is fed character by character, equal to what is seen of
-- the definition's block.
use Rattle.std.proofs.Common.{◌≡◌, ℕ, Bool, true, false, leb, ◌||◌, ◌&&◌, List, [], ◌∷◌, ◌++◌, map, length, Option, Some, None}
use Rattle.std.proofs.Common.{refl, sym, ap, ap₂, ◌∙◌, option_map, IfSome}
use Rattle.std.specs.List.{list_all}
use Rattle.std.proofs.lemmas.List.{map-append, length-map}
use Rattle.std.proofs.lemmas.List.Sums.{fold_push}
use Rattle.std.proofs.lemmas.Option.{same_Some}
use Rattle.html_render_layout_lines.specs.declared.character.Item.{Item}
use Rattle.html_render_layout_lines.specs.declared.character.Item.TheVariants.{Mark}
use Rattle.html_render_layout_lines.specs.declared.line.Element.TheVariants.{Character}
use Rattle.html_render_layout_lines.specs.Line.{Line, columns}
use Rattle.html_render_layout_lines.specs.TaggedText.{under}
use Rattle.html_render_layout_lines.specs.Tags.{element_with, line_with, lines_with}
use Rattle.html_render_layout_lines.specs.laws.Tags.{if_with, then_with, columns-with}
use Rattle.html_render_layout_paragraphs.specs.CutText.{text_lines}
use Rattle.html_render_layout_paragraphs.specs.Paragraph.{Setting, LineBuffer, paragraph, all_lines}
use Rattle.html_render_layout_paragraphs.specs.Stream.{State, start, after, finished}
use Rattle.html_render_layout_paragraphs.specs.laws.CutText.{cut-with}
use Rattle.html_render_layout_paragraphs.specs.laws.Kept.{setting-after}
use Rattle.html_render_layout_paragraphs.specs.laws.Tags.{item_with, page_with, state_with, after-with, finished-with, styled-with, all_lines-with}
use Rattle.html_render_layout_paragraphs.specs.laws.Whole.{finished-after, after-append}
use Rattle.html_render_layout_pictures.specs.Drawing.{Drawing, begun, with_row, with_rows}
use Rattle.html_render_layout_buffer.specs.Padding.{filled}
use Rattle.html_render_layout_pictures.specs.Picture.{KeptCell}
use Rattle.html_render_layout_pictures.specs.Tags.{cell_with, row_with, drawing_with, drawn_with}
use Rattle.html_render_layout_pictures.specs.laws.Lines.{marked_behind-with}
use Rattle.html_render_layout_pictures.specs.laws.Padding.{filled-with, repeated-with}
use Rattle.html_render_layout_pictures.specs.laws.Rows.{drawn_is}
use Rattle.html_render_layout_pictures.specs.laws.Tags.{lines-append, marked_before-with, with_row-with, begun-with, finished-with as picture-with}
use Rattle.html_render_layout_blocks.specs.declared.block.BlockSetting.{BlockSetting}
use Rattle.html_render_layout_blocks.specs.declared.block.rows.RowPlace.{RowPlace}
use Rattle.html_render_layout_blocks.specs.Block.{paragraph_setting, inner_width, mark_items, empty_block}
use Rattle.html_render_layout_blocks.specs.Definition as defined
use Rattle.html_render_layout_blocks.specs.Definition.{Fed, definition, DefinedBlock}
use Rattle.html_render_layout_buffer.specs.Prefixed.{prefixed}
use Rattle.html_render_layout_blocks.specs.Joined.{fitting}
use Rattle.html_render_layout_blocks.specs.Machine as worked
use Rattle.html_render_layout_blocks.specs.Machine.{machine, MachineBlock}
use Rattle.html_render_layout_blocks.specs.OpenRows.{OpenRow, empty_cells, past_cell, whole_row}
use Rattle.html_render_layout_blocks.specs.RowSteps.{before_cell, empty_cell}
use Rattle.html_render_layout_blocks.specs.Tables.{Rows, frame_of}
use Rattle.html_render_layout_paragraphs.specs.laws.Answers.{Both}
use Rattle.html_render_layout_blocks.specs.laws.Related.{line_setting, OptionTags, Relates, RelatesEnds, RelatesParts, Related, operations-related, ends-related}
use Rattle.html_render_layout_blocks.specs.laws.Related.{empty-related, later-related}

-- ---- Lines under other tags

module _ {T U M : Type 0} (f : T → U) where
  under-with : (t : T) (cs : List ℕ) → under (f t) cs ≡ line_with f (under {M = M} t cs)
  under-with t [] = refl
  under-with t (c ∷ cs) = ap (λ l. Character c (f t) ∷ l) (under-with t cs)

  behind-with : (p : Line T M) (ls : List (Line T M)) → lines_with f (map (◌++◌ p) ls) ≡ map (◌++◌ (line_with f p)) (lines_with f ls)
  behind-with p [] = refl
  behind-with p (l ∷ ls) = ap₂ (λ x xs. x ∷ xs) (map-append (element_with f) p l) (behind-with p ls)

  prefixed-with : (p q : Line T M) (ls : List (Line T M)) →
      lines_with f (prefixed p q ls) ≡ prefixed (line_with f p) (line_with f q) (lines_with f ls)
  prefixed-with p q [] = refl
  prefixed-with p q (l ∷ ls) = ap₂ (λ x xs. x ∷ xs) (map-append (element_with f) p l) (behind-with q ls)

  within-with : (w : ℕ) (ls : List (Line T M)) →
      list_all (λ (l : Line U M). leb (columns l) w) (lines_with f ls) ≡ list_all (λ (l : Line T M). leb (columns l) w) ls
  within-with w [] = refl
  within-with w (l ∷ ls) = ap₂ (λ n b. leb n w && b) (columns-with f l) (within-with w ls)

  fitting-with : (w : ℕ) (o : Bool) (ls : List (Line T M)) → fitting w o (lines_with f ls) ≡ option_map (lines_with f) (fitting w o ls)
  fitting-with w o ls = if_with (option_map (lines_with f)) _ _ _ _ _ _ (ap (λ b. o || b) (within-with w ls)) refl refl

  mark_items-with : (ms : List M) → mark_items ms ≡ map (item_with f) (mark_items {T = T} ms)
  mark_items-with [] = refl
  mark_items-with (m ∷ ms) = ap (λ xs. Mark m ∷ xs) (mark_items-with ms)

  text-with : (s : Setting) (cut : Bool) (tag : T) (cs : List ℕ) →
      text_lines s cut (f tag) cs ≡ option_map (lines_with {M = M} f) (text_lines s cut tag cs)
  text-with s true tag cs = cut-with f s tag cs
  text-with s false tag cs = ap (λ l. Some (l ∷ [])) (under-with tag cs)

-- ---- Rows under other tags

module _ {T U M : Type 0} (f : T → U) where
  abbrev pub open_row_with : OpenRow T M → OpenRow U M
  open_row_with r = record { ahead = r.ahead; cells = map (cell_with f) r.cells; placeholder = r.placeholder }

  empty_cells-with : (ps : List RowPlace) → map (cell_with f) (empty_cells {M = M} ps) ≡ empty_cells ps
  empty_cells-with [] = refl
  empty_cells-with (p ∷ ps) = by p.width (empty_cells-with ps)
    where
      by : (o : Option ℕ) → map (cell_with f) (empty_cells {M = M} ps) ≡ empty_cells ps →
          map (cell_with f) (empty_cell {M = M} o ++ empty_cells ps) ≡ empty_cell o ++ empty_cells ps
      by None h = h
      by (Some width) h = let blank : KeptCell U M = record { width = width; lines = []; marks = [] } in ap (λ cs. blank ∷ cs) h

  past_cell-with : (r : OpenRow T M) (cell : List (KeptCell T M)) →
      past_cell (open_row_with r) (map (cell_with f) cell) ≡ open_row_with (past_cell r cell)
  past_cell-with r cell =
      let before : List (KeptCell T M) = empty_cells (before_cell r.ahead) in
      ap (λ cs. record (open_row_with (past_cell r cell)) { cells = cs })
      (rw (map-append (cell_with f) (r.cells ++ before) cell, map-append (cell_with f) r.cells before, empty_cells-with (before_cell r.ahead)) refl)

  whole_row-with : (r : OpenRow T M) → whole_row (open_row_with r) ≡ row_with f (whole_row r)
  whole_row-with r = ap (λ cs. record (row_with f (whole_row r)) { cells = cs })
      (rw (map-append (cell_with f) r.cells (empty_cells r.ahead), empty_cells-with r.ahead) refl)

-- ---- The machine and the definition under the same tags

-- The machine's paragraph that was fed this list.
abbrev paragraph_of : {T M : Type 0} → Fed T M → Option (State T M)
paragraph_of p = after (start p.setting p.waiting) p.items

-- The machine's drawing of all these rows.
abbrev drawing_of : {T M : Type 0} → Rows T M → Drawing T M
drawing_of p = with_rows (begun p.frame p.waiting) p.rows

module _ {T M : Type 0} where
  finish-fed : (p : Fed T M) → machine.finish (paragraph_of p) ≡ definition.finish p
  finish-fed p = finished-after p.setting p.waiting p.items

  next-fed : (p : Fed T M) → IfSome (definition.finish p)
      (λ g. machine.next (paragraph_of p) g.waiting ≡ paragraph_of (definition.next p g.waiting))
  next-fed p = by (paragraph_of p) (paragraph p.setting p.waiting p.items) (finish-fed p) (setting-after (start p.setting p.waiting) p.items)
    where
      by : (o : Option (State T M)) (r : Option (LineBuffer T M)) → machine.finish o ≡ r → IfSome o (λ q. q.setting ≡ p.setting) →
          IfSome r (λ g. machine.next o g.waiting ≡ paragraph_of (definition.next p g.waiting))
      by o None e s = tt
      by None (Some g) e s = cc
      by (Some q) (Some g) e s = ap (λ t. Some (start t g.waiting)) s

-- ---- The machine under other tags

module _ {T U M : Type 0} (f : T → U) where
  feed-with : (o : Option (State T M)) (xs : List (Item T M)) →
      machine.feed (option_map (state_with f) o) (map (item_with f) xs) ≡ option_map (state_with f) (machine.feed o xs)
  feed-with o xs = then_with (state_with f) (state_with f) (λ q. after q xs) (λ q. after q (map (item_with f) xs)) o _ refl (λ q. after-with f q xs)

  finish-with : (o : Option (State T M)) → machine.finish (option_map (state_with f) o) ≡ option_map (page_with f) (machine.finish o)
  finish-with o = then_with (state_with f) (page_with f) (λ q. finished q) (λ q. finished q) o _ refl (λ q. finished-with f q)

  next-with : (o : Option (State T M)) (ms : List M) →
      machine.next (option_map (state_with f) o) ms ≡ option_map (state_with f) (machine.next o ms)
  next-with None ms = refl
  next-with (Some q) ms = refl

  waiting-with : (o : Option (State T M)) → machine.waiting (option_map (state_with f) o) ≡ machine.waiting o
  waiting-with None = refl
  waiting-with (Some q) = refl

  without-with : (o : Option (State T M)) →
      machine.without_waiting (option_map (state_with f) o) ≡ option_map (state_with f) (machine.without_waiting o)
  without-with None = refl
  without-with (Some q) = refl

-- ---- Views of tags

-- `shown` gives what is seen of a machine's tag, by the meanings of tags; `seen` gives what is seen of a definition's tag.
-- `Later` relates meanings of tags to all later ones.
module _ {W T A V : Type 0} (shown : W → T → V) (seen : A → V) (Later : W → W → Type 0) (stays : (w : W) → Later w w)
    (goes : (w v u : W) → Later w v → Later v u → Later w u) where
  -- Whether the same is seen of both from now on.
  abbrev Seen : {X Y Z : Type 0} → (W → X → Z) → (Y → Z) → W → X → Y → Type 0
  Seen f g w x y = (l : W) → Later w l → f l x ≡ g y

  abbrev pub Tags : W → T → A → Type 0
  Tags w t u = Seen shown seen w t u

  abbrev pub Settings : ℕ → BlockSetting → BlockSetting → Type 0
  Settings v s r = (s.width ≡ v) × (r ≡ s)

  abbrev pub Lines : ℕ → W → List (Line T ℕ) → List (Line A ℕ) → Type 0
  Lines v w a b = Seen (λ l. lines_with (shown l)) (lines_with seen) w a b

  abbrev pub Paragraphs : ℕ → W → Option (State T ℕ) → Fed A ℕ → Type 0
  Paragraphs v w p q = Seen (λ l. option_map (state_with (shown l))) (λ q. option_map (state_with seen) (paragraph_of q)) w p q

  abbrev pub Clear : ℕ → W → Option (State T ℕ) → Fed A ℕ → Type 0
  Clear v w p q = Paragraphs v w p q × (q.items ≡ [])

  abbrev pub Pictures : ℕ → W → List ℕ → Drawing T ℕ → Rows A ℕ → Type 0
  Pictures v w widths p q = Seen (λ l. drawing_with (shown l)) (λ q. drawing_with seen (drawing_of q)) w p q

  abbrev pub OpenRows : ℕ → W → OpenRow T ℕ → OpenRow A ℕ → Type 0
  OpenRows v w r k = Seen (λ l. open_row_with (shown l)) (open_row_with seen) w r k

  -- Whether the same is seen of two partial results.
  alike : {X Y Z : Type 0} (f : W → X → Z) (g : Y → Z) (w : W) (x : Option X) (y : Option Y) →
      ((l : W) → Later w l → option_map (f l) x ≡ option_map g y) → Both (Unit {0}) ⊥ (Seen f g w) x y
  alike f g w None None e = tt
  alike f g w None (Some y) e = let z = e w (stays w) in cc
  alike f g w (Some x) None e = let z = e w (stays w) in cc
  alike f g w (Some x) (Some y) e = λ l a. same_Some _ _ (e l a)

  -- A text under a tag.
  under-seen : (w : W) (t : T) (u : A) (cs : List ℕ) → Tags w t u → (l : W) → Later w l →
      line_with (shown l) (under {M = ℕ} t cs) ≡ line_with seen (under u cs)
  under-seen w t u cs x l a = sym (under-with (shown l) t cs) ∙ ap (λ z. under z cs) (x l a) ∙ under-with seen u cs

  option-seen : (w : W) (a : Option T) (b : Option A) → OptionTags Tags w a b → (l : W) → Later w l → option_map (shown l) a ≡ option_map seen b
  option-seen w None None x l k = refl
  option-seen w None (Some u) x l k = absurd x
  option-seen w (Some t) None x l k = absurd x
  option-seen w (Some t) (Some u) x l k = ap Some (x l k)

  feed-seen : (v : ℕ) (w : W) (p : Option (State T ℕ)) (q : Fed A ℕ) (xs : List (Item T ℕ)) (ys : List (Item A ℕ)) → Paragraphs v w p q →
      ((l : W) → Later w l → map (item_with (shown l)) xs ≡ map (item_with seen) ys) → Paragraphs v w (machine.feed p xs) (definition.feed q ys)
  feed-seen v w p q xs ys k e l a =
      sym (feed-with (shown l) p xs)
      ∙ ap (λ z. machine.feed z (map (item_with (shown l)) xs)) (k l a)
      ∙ ap (machine.feed (option_map (state_with seen) (paragraph_of q))) (e l a)
      ∙ feed-with seen (paragraph_of q) ys
      ∙ ap (option_map (state_with seen)) (sym (after-append (start q.setting q.waiting) q.items ys))

  -- Line buffers of which the same is seen.
  page-seen : (v : ℕ) (w : W) (s r : BlockSetting) (padding : Option T) (other : Option A) (p : Option (State T ℕ)) (q : Fed A ℕ) →
      Settings v s r → OptionTags Tags w padding other → Paragraphs v w p q →
      Both (Unit {0}) ⊥ (λ g k. Lines v w (filled padding s.width (all_lines g)) (filled other r.width (all_lines k))
      × Clear v w (machine.next p g.waiting) (definition.next q k.waiting)) (machine.finish p) (definition.finish q)
  page-seen v w s r padding other p q k x y =
      by (machine.finish p) (definition.finish q) (next-fed q)
      (alike (λ l. page_with (shown l)) (page_with seen) w (machine.finish p) (definition.finish q) (λ l a.
      sym (finish-with (shown l) p) ∙ ap machine.finish (y l a) ∙ finish-with seen (paragraph_of q)
      ∙ ap (option_map (page_with seen)) (finish-fed q)))
    where
      wide : r.width ≡ s.width
      wide = ap (λ (z : BlockSetting). z.width) k.1

      by : (a : Option (LineBuffer T ℕ)) (b : Option (LineBuffer A ℕ)) →
          IfSome b (λ g. machine.next (paragraph_of q) g.waiting ≡ paragraph_of (definition.next q g.waiting)) →
          Both (Unit {0}) ⊥ (Seen (λ l. page_with (shown l)) (page_with seen) w) a b →
          Both (Unit {0}) ⊥ (λ g k. Lines v w (filled padding s.width (all_lines g)) (filled other r.width (all_lines k))
          × Clear v w (machine.next p g.waiting) (definition.next q k.waiting)) a b
      by None None n e = tt
      by None (Some h) n e = absurd e
      by (Some g) None n e = absurd e
      by (Some g) (Some h) n e = (
        λ l a. filled-with (shown l) padding s.width (all_lines g)
            ∙ ap (λ z. filled z s.width (lines_with (shown l) (all_lines g))) (option-seen w padding other x l a)
            ∙ ap (filled (option_map seen other) s.width)
            (sym (all_lines-with (shown l) g) ∙ ap (λ z. all_lines z) (e l a) ∙ all_lines-with seen h)
            ∙ ap (λ n. filled (option_map seen other) n (lines_with seen (all_lines h))) (sym wide)
            ∙ sym (filled-with seen other r.width (all_lines h)),
        (
          λ l a. sym (next-with (shown l) p g.waiting)
              ∙ ap (λ z. machine.next z g.waiting) (y l a)
              ∙ ap (λ (z : LineBuffer V ℕ). machine.next (option_map (state_with seen) (paragraph_of q)) z.waiting) (e l a)
              ∙ next-with seen (paragraph_of q) h.waiting
              ∙ ap (option_map (state_with seen)) n,
          refl,
        ),
      )

  pub parts-seen : RelatesParts machine definition (Unit {0}) ⊥ Tags Settings Lines Paragraphs Clear Pictures OpenRows
  parts-seen = record {
    width = λ v s r k. (k.0, ap (λ (z : BlockSetting). z.width) k.1 ∙ k.0);
    inner_width = λ v s r prefix inner k.
        rw k.1 (itself (inner_width s prefix inner));
    inner = λ v x s r k. (refl, ap (λ (z : BlockSetting). record z { width = x }) k.1);
    none = λ v w l a. refl;
    gap = λ v w l a. refl;
    behind = λ v w a e b f k m l x. rw (lines-append (shown l) a e, lines-append seen b f, k l x, m l x) refl;
    count = λ v w a b k.
        sym (length-map a (line_with (shown w))) ∙ ap (λ z. length z) (k w (stays w)) ∙ length-map b (line_with seen);
    before_marks = λ v w ms a b k l x. rw (← marked_before-with (shown l) ms a, ← marked_before-with seen ms b, k l x) refl;
    behind_marks = λ v w ms a b k l x. rw (marked_behind-with (shown l) ms a, marked_behind-with seen ms b, k l x) refl;
    rule = λ v w t u character one x l a.
        ap (λ z. z ∷ []) (rw (repeated-with (shown l) t character v, repeated-with seen u character v, x l a) refl);
    joined = λ v x w s r t u first later a b k y m.
        rw k.1 (alike (λ l. lines_with (shown l)) (lines_with seen) w _ _ (λ l z.
        sym (fitting-with (shown l) s.width s.overflow (prefixed (under t first) (under t later) a))
        ∙ ap (fitting s.width s.overflow)
        (rw (
          prefixed-with (shown l) (under t first) (under t later) a,
          prefixed-with seen (under u first) (under u later) b,
          under-seen w t u first y l z,
          under-seen w t u later y l z,
          m l z,
        ) refl)
        ∙ fitting-with seen s.width s.overflow (prefixed (under u first) (under u later) b)));
    start = λ v w s r k. (
      λ l a. ap (λ (z : BlockSetting). option_map (state_with seen) (paragraph_of (definition.start (paragraph_setting z) []))) (sym k.1),
      refl,
    );
    feed_text = λ v w p q mode t t' u u' cs x y k. feed-seen v w p q _ _ k (λ l a.
        styled-with (shown l) (record { mode = mode; tag = t; continuation_tag = t' }) cs ∙ rw (x l a, y l a) refl
        ∙ sym (styled-with seen (record { mode = mode; tag = u; continuation_tag = u' }) cs));
    feed_marks = λ v w p q ms k. feed-seen v w p q _ _ k (λ l a. sym (mark_items-with (shown l) ms) ∙ mark_items-with seen ms);
    page = page-seen;
    clear = λ v w p q k. k.0;
    waiting = λ v w p q k.
        sym (ap (λ xs. machine.waiting (option_map (state_with seen) (paragraph_of (record q { items = xs })))) k.1)
        ∙ ap machine.waiting (sym (k.0 w (stays w)))
        ∙ waiting-with (shown w) p;
    without = λ v w p q k. (
      λ l a. sym (without-with (shown l) p)
          ∙ ap machine.without_waiting (k.0 l a)
          ∙ ap (λ xs. machine.without_waiting (option_map (state_with seen) (paragraph_of (record q { items = xs })))) k.1
          ∙ ap (λ xs. option_map (state_with seen) (paragraph_of (record q { waiting = []; items = xs }))) (sym k.1),
      k.1,
    );
    begun = λ v w needs widths borders t u ms x e l a.
        sym (begun-with (shown l) (frame_of t borders widths) ms) ∙ rw (x l a) refl ∙ begun-with seen (frame_of u borders widths) ms;
    with_row = λ v w widths p q r k x y l a.
        sym (with_row-with (shown l) p (whole_row r))
        ∙ ap (λ z. with_row z (row_with (shown l) (whole_row r))) (x l a)
        ∙ ap (with_row (drawing_with seen (drawing_of q)))
        (sym (whole_row-with (shown l) r) ∙ ap (λ z. whole_row z) (y l a) ∙ whole_row-with seen k)
        ∙ with_row-with seen (drawing_of q) (whole_row k)
        ∙ ap (drawing_with seen) (sym (fold_push with_row (begun q.frame q.waiting) q.rows (whole_row k)));
    drawn = λ v w widths p q k. (
      λ l a. ap (λ (z : List (Line V ℕ) × List ℕ). z.0) (pictures w p q k l a),
      sym (ap (λ (z : List (Line V ℕ) × List ℕ). z.1) (pictures w p q k w (stays w))),
    );
    opened = λ v w widths p q cells k l a. refl;
    ahead = λ v w r k x. sym (ap (λ (z : OpenRow V ℕ). z.ahead) (x w (stays w)));
    kept = λ v x w r k a b ms y e m l z.
        sym (past_cell-with (shown l) r (record { width = x; lines = a; marks = ms } ∷ []))
        ∙ ap (λ i. past_cell i (record { width = x; lines = lines_with (shown l) a; marks = ms } ∷ [])) (y l z)
        ∙ ap (λ i. past_cell (open_row_with seen k) (record { width = x; lines = i; marks = ms } ∷ [])) (m l z)
        ∙ past_cell-with seen k (record { width = x; lines = b; marks = ms } ∷ []);
    skipped = λ v w r k x l a. sym (past_cell-with (shown l) r []) ∙ ap (λ z. past_cell z []) (x l a) ∙ past_cell-with seen k [];
  }
    where
      itself : (o : Option ℕ) → Both (Unit {0}) ⊥ (λ x y. x ≡ y) o o
      itself None = tt
      itself (Some x) = refl

      pictures : (w : W) (p : Drawing T ℕ) (q : Rows A ℕ) → Seen (λ l. drawing_with (shown l)) (λ q. drawing_with seen (drawing_of q)) w p q →
          Seen (λ l p. drawn_with (shown l) (machine.drawn p)) (λ q. drawn_with seen (definition.drawn q)) w p q
      pictures w p q k l a =
          sym (picture-with (shown l) p) ∙ ap machine.drawn (k l a) ∙ picture-with seen (drawing_of q)
          ∙ ap (drawn_with seen) (drawn_is q.frame q.waiting q.rows)

  text-seen : (v : ℕ) (w : W) (cut : Bool) (s r : BlockSetting) (t : T) (u : A) (cs : List ℕ) → Unit {0} → Settings v s r → Tags w t u →
      Both (Unit {0}) ⊥ (Lines v w) (text_lines (line_setting s) cut t cs) (text_lines (line_setting r) cut u cs)
  text-seen v w cut s r t u cs x k y =
      rw k.1 (alike (λ l. lines_with (shown l)) (lines_with seen) w _ _ (λ l a.
      sym (text-with (shown l) (line_setting s) cut t cs) ∙ ap (λ z. text_lines (line_setting s) cut z cs) (y l a)
      ∙ text-with seen (line_setting s) cut u cs))

  -- ---- Blocks

  abbrev pub Blocks : ℕ → W → MachineBlock T ℕ → DefinedBlock A ℕ → Type 0
  Blocks v w b c =
      Related machine definition (Unit {0}) ⊥ (λ x. tt) Later Tags Settings Lines Paragraphs Clear Pictures OpenRows parts-seen v w b c

  -- THE THEOREM: each operation keeps what is seen of both blocks equal.
  pub operations-seen : Relates worked.operations defined.operations (Unit {0}) ⊥ Later Tags Blocks
  unfolding worked.operations defined.operations
  operations-seen =
      operations-related machine definition (Unit {0}) ⊥ (λ x. tt) Later Tags Settings Lines Paragraphs Clear Pictures OpenRows parts-seen

  pub ends-seen : RelatesEnds worked.ending defined.ending (Unit {0}) ⊥ (λ cut. Unit {0}) Tags Blocks
  unfolding worked.ending
  ends-seen =
      ends-related machine definition (Unit {0}) ⊥ (λ x. tt) Later Tags Settings Lines Paragraphs Clear Pictures OpenRows parts-seen
      (λ cut. Unit {0}) text-seen

  pub empty-seen : (w : W) (s : BlockSetting) (padding : Option T) (other : Option A) → OptionTags Tags w padding other →
      Blocks s.width w (empty_block machine s padding) (empty_block definition s other)
  empty-seen w s padding other x =
      empty-related machine definition (Unit {0}) ⊥ (λ x. tt) Later Tags Settings Lines Paragraphs Clear Pictures OpenRows parts-seen s.width w s s
      padding other (refl, refl) x

  pub later-seen : (v : ℕ) (w z : W) (b : MachineBlock T ℕ) (c : DefinedBlock A ℕ) → Blocks v w b c → Later w z → Blocks v z b c
  later-seen v w z b c k l =
      later-related machine definition (Unit {0}) ⊥ (λ x. tt) Later Tags Settings Lines Paragraphs Clear Pictures OpenRows parts-seen
      (λ w z t u x l i a. x i (goes w z i l a)) (λ v w z a b x l i y. x i (goes w z i l y)) (λ v w z p q x l i a. x i (goes w z i l a))
      (λ v w z widths p q x l i a. x i (goes w z i l a)) (λ v w z r k x l i a. x i (goes w z i l a)) v w z b c k l

  -- Lines of both blocks, of which the same is seen.
  pub lines-seen : (v : ℕ) (w : W) (b : MachineBlock T ℕ) (c : DefinedBlock A ℕ) → Blocks v w b c → lines_with (shown w) b.lines ≡ lines_with seen c.lines
  lines-seen v w b c k = k.lines w (stays w)
