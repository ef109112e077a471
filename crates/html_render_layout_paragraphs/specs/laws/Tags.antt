-- Wrapping doesn't depend on tags: it commutes with a map of them.
use Rattle.std.proofs.Common.{◌≡◌, ℕ, ◌+◌, ◌-◌, ◌%◌, Bool, true, false, leb, eqb, sym, List, [], ◌∷◌, ◌++◌, map, fold, replicate, refl, option_map}
use Rattle.std.proofs.Common.{Option, None, Some, is_some, ap, ◌∙◌, suc, zero}
use Rattle.std.proofs.lemmas.List.{map-append, length-map}
use Rattle.std.specs.Option.{option_or}
use Rattle.html_render_dom_values.specs.WhiteSpace.{preserves}
use Rattle.html_render_layout_lines.specs.declared.character.Kind.{Kind}
use Rattle.html_render_layout_lines.specs.declared.character.Kind.TheVariants.{Letter, Space, Divider, Dropped, Preserved, Newline, Tab, SoftSpace, SoftTab}
use Rattle.html_render_layout_lines.specs.declared.character.Character.{Character}
use Rattle.html_render_layout_lines.specs.declared.character.TextStyle.{TextStyle}
use Rattle.html_render_layout_lines.specs.declared.character.Item.{Item}
use Rattle.html_render_layout_lines.specs.declared.character.Item.TheVariants as item
use Rattle.html_render_layout_lines.specs.declared.line.Element.TheVariants as element
use Rattle.html_render_layout_lines.specs.Character.{kind, width_of, tag_on}
use Rattle.html_render_layout_lines.specs.Line.{Line, columns, item_width, word_columns, is_empty}
use Rattle.html_render_layout_paragraphs.specs.Paragraph.{LineBuffer, Setting, with_waiting_mark, with_character, put_character, put_items}
use Rattle.html_render_layout_paragraphs.specs.Placing.{with_line_break, put_word}
use Rattle.html_render_layout_paragraphs.specs.Paragraph.{put_fitting, put_single, page_for_word, with_due_space, continued, page_for_single}
use Rattle.html_render_layout_paragraphs.specs.Paragraph.{tab_spaces, fits, all_lines}
use Rattle.html_render_layout_lines.specs.Tags.{element_with, line_with, lines_with}
use Rattle.html_render_layout_lines.specs.laws.Tags.{if_with, then_with, map_with, sum_same, columns-with, marks-with}
use Rattle.html_render_layout_paragraphs.specs.Stream.{State, end_word, joins, begin_word, letter_step, single_step, then_single, with_pending}
use Rattle.html_render_layout_paragraphs.specs.Stream.{character_step, mark_step, step, after, finished, styled}

-- Character with its tags mapped.
abbrev pub character_with : {T U : Type 0} → (T → U) → Character T → Character U
character_with f c = record { code = c.code; mode = c.mode; tag = f c.tag; continuation_tag = f c.continuation_tag }

-- Style with its tags mapped.
abbrev pub style_with : {T U : Type 0} → (T → U) → TextStyle T → TextStyle U
style_with f style = record { mode = style.mode; tag = f style.tag; continuation_tag = f style.continuation_tag }

tag_on-with : {T U : Type 0} (f : T → U) (b : Bool) (c : Character T) → tag_on b (character_with f c) ≡ f (tag_on b c)
tag_on-with f true c = refl
tag_on-with f false c = refl

replicate-with : {T U : Type 0} (f : T → U) (n : ℕ) (c : Character T) →
    map (character_with f) (replicate n c) ≡ replicate n (character_with f c)
replicate-with f zero c = refl
replicate-with f (suc n) c = ap (λ l. character_with f c ∷ l) (replicate-with f n c)

module _ {T U M : Type 0} (f : T → U) where
  -- Character with its tags mapped, or a mark.
  abbrev pub item_with : Item T M → Item U M
  item_with (item.Character c) = item.Character (character_with f c)
  item_with (item.Mark m) = item.Mark m

  -- Line buffer with its tags mapped.
  abbrev pub page_with : LineBuffer T M → LineBuffer U M
  page_with p = record { lines = lines_with f p.lines; line = line_with f p.line; continues = p.continues; waiting = p.waiting }

  -- State of a paragraph with its tags mapped.
  abbrev pub state_with : State T M → State U M
  state_with st = record {
    setting = st.setting;
    page = page_with st.page;
    pending = option_map (character_with f) st.pending;
    word = map item_with st.word;
    open_word = st.open_word;
  }

  item_same : (x : Item T M) → item_width (item_with x) ≡ item_width x
  item_same (item.Character c) = refl
  item_same (item.Mark m) = refl

  word_columns-with : (w : List (Item T M)) → word_columns (map item_with w) ≡ word_columns w
  word_columns-with w = sum_same item_with (λ e. item_width e) (λ e. item_width e) item_same 0 w

  with_character-with : (p : LineBuffer T M) (c : Character T) →
      with_character (page_with p) (character_with f c) ≡ page_with (with_character p c)
  with_character-with p c =
      let marks : Line T M = map (λ (m : M). element.Mark m) p.waiting in
      ap (λ l. record (page_with p) { line = l; waiting = [] })
      (ap (λ t. line_with f p.line ++ (map (λ (m : M). element.Mark m) p.waiting ++ element.Character c.code t ∷ []))
      (tag_on-with f p.continues c)
      ∙ ap (λ l. line_with f p.line ++ (l ++ element.Character c.code (f (tag_on p.continues c)) ∷ [])) (sym (marks-with f p.waiting))
      ∙ ap (λ l. line_with f p.line ++ l) (sym (map-append (element_with f) marks (element.Character c.code (tag_on p.continues c) ∷ [])))
      ∙ sym (map-append (element_with f) p.line (marks ++ element.Character c.code (tag_on p.continues c) ∷ [])))

  empty-with : (l : Line T M) → is_empty (line_with f l) ≡ is_empty l
  empty-with l = ap (λ n. eqb n 0) (length-map l (element_with f))

  continued-with : (p : LineBuffer T M) → continued (page_with p) ≡ page_with (continued p)
  continued-with p = if_with page_with (is_empty p.line) _ _ _ _ _ (empty-with p.line) refl
      (ap (λ ls. record { lines = ls; line = []; continues = true; waiting = p.waiting }) (sym (map-append (line_with f) p.lines (p.line ∷ []))))

  with_line_break-with : (p : LineBuffer T M) → with_line_break (page_with p) ≡ page_with (with_line_break p)
  with_line_break-with p = ap (λ ls. record { lines = ls; line = []; continues = false; waiting = p.waiting })
      (sym (map-append (line_with f) p.lines (p.line ∷ [])))

  module _ (s : Setting) where
    fits-with : (p : LineBuffer T M) (n : ℕ) → fits s (page_with p) n ≡ fits s p n
    fits-with p n = ap (λ c. leb (c + n) s.width) (columns-with f p.line)

    put_character-with : (p : LineBuffer T M) (c : Character T) →
        put_character s (page_with p) (character_with f c) ≡ option_map page_with (put_character s p c)
    put_character-with p c =
        if_with (option_map page_with) (fits s p (width_of c.code)) (fits s (page_with p) (width_of c.code)) _ _ _ _
        (fits-with p (width_of c.code)) (ap Some (with_character-with p c))
        (if_with (option_map page_with) _ _ _ _ _ _ refl
        (ap (λ q. Some (with_character q (character_with f c))) (continued-with p)
        ∙ ap Some (with_character-with (continued p) c)) refl)

    items-with : (cs : List (Character T)) → map item_with (map (λ d. item.Character d) cs) ≡ map (λ d. item.Character d) (map (character_with f) cs)
    items-with [] = refl
    items-with (c ∷ cs) = ap (λ xs. item.Character (character_with f c) ∷ xs) (items-with cs)

    pub put_items-with : (p : LineBuffer T M) (xs : List (Item T M)) →
        put_items s (page_with p) (map item_with xs) ≡ option_map page_with (put_items s p xs)
    put_items-with p [] = refl
    put_items-with p (item.Character c ∷ xs) =
        then_with page_with page_with (λ q. put_items s q xs) (λ q. put_items s q (map item_with xs)) (put_character s p c) _
        (put_character-with p c) (λ q. put_items-with q xs)
    put_items-with p (item.Mark m ∷ xs) = put_items-with (with_waiting_mark p m) xs

    put_fitting-with : (p : LineBuffer T M) (c : Character T) → put_fitting s (page_with p) (character_with f c) ≡ page_with (put_fitting s p c)
    put_fitting-with p c = if_with page_with (fits s p (width_of c.code)) (fits s (page_with p) (width_of c.code)) _ _ _ _
        (fits-with p (width_of c.code)) (with_character-with p c) refl

    put_all_fitting-with : (p : LineBuffer T M) (cs : List (Character T)) →
        fold (put_fitting s) (page_with p) (map (character_with f) cs) ≡ page_with (fold (put_fitting s) p cs)
    put_all_fitting-with p [] = refl
    put_all_fitting-with p (c ∷ cs) = ap (λ q. fold (put_fitting s) q (map (character_with f) cs)) (put_fitting-with p c)
        ∙ put_all_fitting-with (put_fitting s p c) cs

    with_due_space-with : (p : LineBuffer T M) (o : Option (Character T)) →
        with_due_space (page_with p) (option_map (character_with f) o) ≡ page_with (with_due_space p o)
    with_due_space-with p None = refl
    with_due_space-with p (Some c) = if_with page_with (is_empty p.line) _ _ _ _ _ (empty-with p.line) refl
        (ap (λ l. record (page_with p) { line = l })
        (ap (λ t. line_with f p.line ++ element.Character 32 t ∷ []) (tag_on-with f p.continues c)
        ∙ sym (map-append (element_with f) p.line (element.Character 32 (tag_on p.continues c) ∷ []))))

    due_fits-with : (p : LineBuffer T M) (o : Option (Character T)) (n : ℕ) →
        fits s (with_due_space (page_with p) (option_map (character_with f) o)) n ≡ fits s (with_due_space p o) n
    due_fits-with p o n = ap (λ q. fits s q n) (with_due_space-with p o) ∙ fits-with (with_due_space p o) n

    page_for_word-with : (p : LineBuffer T M) (o : Option (Character T)) (w : List (Item T M)) →
        page_for_word s (page_with p) (option_map (character_with f) o) (map item_with w) ≡ page_with (page_for_word s p o w)
    page_for_word-with p o w =
        if_with page_with (fits s (with_due_space p o) (word_columns w)) _ _ _ _ _
        (ap (λ n. fits s (with_due_space (page_with p) (option_map (character_with f) o)) n) (word_columns-with w)
        ∙ due_fits-with p o (word_columns w))
        (with_due_space-with p o) (continued-with p)

    put_word-with : (p : LineBuffer T M) (o : Option (Character T)) (w : List (Item T M)) →
        put_word s (page_with p) (option_map (character_with f) o) (map item_with w) ≡ option_map page_with (put_word s p o w)
    put_word-with p o w = ap (λ q. put_items s q (map item_with w)) (page_for_word-with p o w) ∙ put_items-with (page_for_word s p o w) w

    page_for_single-with : (p : LineBuffer T M) (o : Option (Character T)) (k : Kind) →
        page_for_single s (page_with p) (option_map (character_with f) o) k ≡ page_with (page_for_single s p o k)
    page_for_single-with p o Newline = refl
    page_for_single-with p o k =
        if_with page_with (fits s (with_due_space p o) 0) _ _ _ _ _ (due_fits-with p o 0) (with_due_space-with p o) refl

    tab_spaces-with : (p : LineBuffer T M) (c : Character T) →
        tab_spaces (page_with p) (character_with f c) ≡ map (character_with f) (tab_spaces p c)
    tab_spaces-with p c = ap (λ n. replicate (8 - n % 8) (record (character_with f c) { code = 32 })) (columns-with f p.line)
        ∙ sym (replicate-with f (8 - columns p.line % 8) (record c { code = 32 }))

    put_single-with : (p : LineBuffer T M) (k : Kind) (c : Character T) →
        put_single s (page_with p) k (character_with f c) ≡ option_map page_with (put_single s p k c)
    put_single-with p Preserved c = put_character-with p c
    put_single-with p SoftSpace c = ap Some (put_fitting-with p c)
    put_single-with p Newline c = ap Some (with_line_break-with p)
    put_single-with p Tab c = ap (λ cs. put_items s (page_with p) (map (λ d. item.Character d) cs)) (tab_spaces-with p c)
        ∙ ap (put_items s (page_with p)) (sym (items-with (tab_spaces p c))) ∙ put_items-with p (map (λ d. item.Character d) (tab_spaces p c))
    put_single-with p SoftTab c = ap (λ cs. Some (fold (put_fitting s) (page_with p) cs)) (tab_spaces-with p c)
        ∙ ap Some (put_all_fitting-with p (tab_spaces p c))
    put_single-with p k c = refl

  end_word-with : (st : State T M) → end_word (state_with st) ≡ option_map state_with (end_word st)
  end_word-with st = if_with (option_map state_with) (is_some st.open_word) _ _ _ _ _ refl
      (map_with page_with state_with _ _ (put_word st.setting st.page st.pending st.word) _
      (put_word-with st.setting st.page st.pending st.word) (λ p. refl)) refl

  letter_step-with : (st : State T M) (c : Character T) →
      letter_step (state_with st) (character_with f c) ≡ option_map state_with (letter_step st c)
  letter_step-with st c = if_with (option_map state_with) (joins st.open_word (preserves c.mode)) _ _ _ _ _ refl
      (ap (λ w. Some (record (state_with st) { word = w })) (sym (map-append item_with st.word (item.Character c ∷ []))))
      (map_with state_with state_with (λ t. begin_word t c) (λ t. begin_word t (character_with f c)) (end_word st) _ (end_word-with st)
      (λ t. refl))

  single_step-with : (st : State T M) (k : Kind) (c : Character T) →
      single_step (state_with st) k (character_with f c) ≡ option_map state_with (single_step st k c)
  single_step-with st k c = map_with page_with state_with _ _
      (put_single st.setting (page_for_single st.setting st.page st.pending k) k c) _
      (ap (λ p. put_single st.setting p k (character_with f c)) (page_for_single-with st.setting st.page st.pending k)
      ∙ put_single-with st.setting (page_for_single st.setting st.page st.pending k) k c) (λ p. refl)

  then_single-with : (st : State T M) (k : Kind) (c : Character T) →
      then_single (state_with st) k (character_with f c) ≡ option_map state_with (then_single st k c)
  then_single-with st k c = then_with state_with state_with (λ t. single_step t k c) (λ t. single_step t k (character_with f c))
      (end_word st) _ (end_word-with st) (λ t. single_step-with t k c)

  pending-with : (st : State T M) (c : Character T) (o : Option (Character T)) →
      record (state_with st) { pending = option_or (option_map (character_with f) o) (Some (character_with f c)) }
      ≡ state_with (record st { pending = option_or o (Some c) })
  pending-with st c None = refl
  pending-with st c (Some d) = refl

  character_step-with : (k : Kind) (st : State T M) (c : Character T) →
      character_step k (state_with st) (character_with f c) ≡ option_map state_with (character_step k st c)
  character_step-with Letter st c = letter_step-with st c
  character_step-with Space st c =
      map_with state_with state_with (λ t. with_pending t c) (λ t. with_pending t (character_with f c)) (end_word st) _ (end_word-with st)
      (λ t. pending-with t c t.pending)
  character_step-with Divider st c = end_word-with st
  character_step-with Dropped st c = refl
  character_step-with k st c = then_single-with st k c

  mark_step-with : (st : State T M) (m : M) → mark_step (state_with st) m ≡ state_with (mark_step st m)
  mark_step-with st m = if_with state_with (is_some st.open_word) _ _ _ _ _ refl
      (ap (λ w. record (state_with st) { word = w }) (sym (map-append item_with st.word (item.Mark m ∷ [])))) refl

  step-with : (st : State T M) (x : Item T M) → step (state_with st) (item_with x) ≡ option_map state_with (step st x)
  step-with st (item.Character c) = character_step-with (kind c.mode c.code) st c
  step-with st (item.Mark m) = ap Some (mark_step-with st m)

  -- THE LAW: feeding commutes with a map of tags.
  pub after-with : (st : State T M) (xs : List (Item T M)) → after (state_with st) (map item_with xs) ≡ option_map state_with (after st xs)
  after-with st [] = refl
  after-with st (x ∷ xs) = then_with state_with state_with (λ t. after t xs) (λ t. after t (map item_with xs)) (step st x) _
      (step-with st x) (λ t. after-with t xs)

  -- THE LAW: finishing commutes with a map of tags.
  pub finished-with : (st : State T M) → finished (state_with st) ≡ option_map page_with (finished st)
  finished-with st = map_with state_with page_with (λ t. t.page) (λ t. t.page) (end_word st) _ (end_word-with st) (λ t. refl)

  pub styled-with : (style : TextStyle T) (cs : List ℕ) → map item_with (styled style cs) ≡ styled (style_with f style) cs
  styled-with style [] = refl
  styled-with style (c ∷ cs) =
      ap (λ l. item_with (item.Character
      (record { code = c; mode = style.mode; tag = style.tag; continuation_tag = style.continuation_tag })) ∷ l) (styled-with style cs)

  pub all_lines-with : (p : LineBuffer T M) → all_lines (page_with p) ≡ lines_with f (all_lines p)
  all_lines-with p = if_with (lines_with f) (is_empty p.line) _ _ _ _ _ (empty-with p.line) refl
      (sym (map-append (line_with f) p.lines (p.line ∷ [])))
