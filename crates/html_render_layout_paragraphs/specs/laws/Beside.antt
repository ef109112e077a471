-- A PARAGRAPH BESIDE ANOTHER that was fed the same with overflow on: both have the same line buffer. With overflow on there is
-- always one. With overflow off no line passes the width.
use Rattle.std.proofs.Common.{◌≡◌, ℕ, ◌+◌, ◌≤◌, Bool, true, false, cond, ◌||◌, List, [], ◌∷◌, ◌++◌, map, fold, Option, Some, None, IfSome, IsSome}
use Rattle.std.proofs.Common.{refl, sym, ap, ◌∙◌, subst, arith, leb, option_and_then}
use Rattle.std.proofs.lemmas.Bool.{leb-true, le-leb}
use Rattle.std.proofs.lemmas.List.Elements.{All-push, All-nil}
use Rattle.std.specs.Option.{option_or}
use Rattle.html_render_layout_lines.specs.declared.character.Kind.{Kind}
use Rattle.html_render_layout_lines.specs.declared.character.Kind.TheVariants.{Preserved, Newline, Tab, SoftSpace, SoftTab}
use Rattle.html_render_layout_lines.specs.declared.character.Character.{Character}
use Rattle.html_render_layout_lines.specs.declared.character.Item.{Item}
use Rattle.html_render_layout_lines.specs.declared.character.Item.TheVariants as item
use Rattle.html_render_layout_lines.specs.Character.{width_of, tag_on}
use Rattle.html_render_layout_lines.specs.Line.{Line, columns, is_empty, word_columns, AllWithinWidth}
use Rattle.html_render_layout_lines.specs.laws.Cases.{if_cases, nil_from_is_empty}
use Rattle.html_render_layout_lines.specs.laws.Columns.{columns-push}
use Rattle.html_render_layout_paragraphs.specs.CutText.{kept_style, text_lines}
use Rattle.html_render_layout_paragraphs.specs.Paragraph.{Piece, Word, Gap, Cut, Single, Loose, pieces, LineBuffer, Setting, with_waiting_mark}
use Rattle.html_render_layout_paragraphs.specs.Placing.{put_word}
use Rattle.html_render_layout_paragraphs.specs.Paragraph.{put_character, put_items, put_single, page_for_word, page_for_single, put_fitting}
use Rattle.html_render_layout_paragraphs.specs.Paragraph.{tab_spaces, place, paragraph, empty_buffer, continued, with_character, with_due_space, fits}
use Rattle.html_render_layout_paragraphs.specs.Paragraph.{without_overflow, with_overflow, all_lines}
use Rattle.html_render_layout_paragraphs.specs.Stream.{styled}
use Rattle.html_render_layout_paragraphs.specs.laws.Answers.{Both, Both-then, Both-map}
use Rattle.html_render_layout_paragraphs.specs.laws.Cases.{page_for_single_cases}

pub columns-continued : {T M : Type 0} (page : LineBuffer T M) → columns (continued page).line ≡ 0
columns-continued {T} {M} page =
    if_cases (λ (p : LineBuffer T M). columns p.line ≡ 0) (is_empty page.line) _ _ (λ e. ap columns (nil_from_is_empty page.line e)) (λ _. refl)

-- Whether no line of a line buffer passes a width.
pub record IsWithin {T M : Type 0} (w : ℕ) (page : LineBuffer T M) : Type 0 where
  pub lines : AllWithinWidth w page.lines
  pub line : columns page.line ≤ w

pub all_lines_within : {T M : Type 0} (w : ℕ) (page : LineBuffer T M) → IsWithin w page → AllWithinWidth w (all_lines page)
all_lines_within {T} {M} w page h =
    if_cases (AllWithinWidth w) (is_empty page.line) _ _ (λ _. h.lines)
    (λ _. All-push (λ (l : Line T M). columns l ≤ w) page.lines page.line h.lines h.line)

-- A result that a test allows, or a second test or overflow allows another result, beside the same with overflow on.
allowed : {X : Type 0} (P : X → Type 0) (z a b : Bool) (x y : X) → (a ≡ true → z ≡ false → P x) → (b ≡ true → z ≡ false → P y) →
    Both (z ≡ false) (z ≡ false) (λ p q. (q ≡ p) × (z ≡ false → P p)) (cond a (Some x) (cond (b || z) (Some y) None))
    (cond a (Some x) (cond (b || true) (Some y) None))
allowed P z true b x y f g = (refl, f refl)
allowed P z false true x y f g = (refl, g refl)
allowed P true false false x y f g = (refl, λ on. absurd (cc))
allowed P false false false x y f g = refl

abbrev set : (width : ℕ) → (overflow : Bool) → Setting
set width overflow = record { width = width; overflow = overflow }

-- `z` says whether the first paragraph's overflow is on.
module _ {T M : Type 0} (w : ℕ) (z : Bool) where
  -- Property of a line buffer that each placing keeps: no line passes the width, if overflow is off.
  abbrev Stays : LineBuffer T M → Type 0
  Stays p = z ≡ false → IsWithin w p

  -- Whether two results are equal line buffers with this property. If overflow is off, the first may be missing, or both.
  abbrev Beside : Option (LineBuffer T M) → Option (LineBuffer T M) → Type 0
  Beside = Both (z ≡ false) (z ≡ false) (λ p q. (q ≡ p) × Stays p)

  marked : (p : LineBuffer T M) (m : M) → Stays p → Stays (with_waiting_mark p m)
  marked p m h = λ off. record { lines = (h off).lines; line = (h off).line }

  -- One step after another.
  then_beside : (f k : LineBuffer T M → Option (LineBuffer T M)) (a b : Option (LineBuffer T M)) → Beside a b →
      ((p : LineBuffer T M) → Stays p → Beside (f p) (k p)) → Beside (option_and_then f a) (option_and_then k b)
  then_beside f k a b e next = Both-then _ _ (λ off. off) _ _ f k a b e (λ p q r. subst (λ y. Beside (f p) (k y)) (sym r.0) (next p r.1))

  continued_stays : (p : LineBuffer T M) → Stays p → Stays (continued p)
  continued_stays p h =
      if_cases Stays (is_empty p.line) _ _ (λ _. h)
      (λ _ off. record { lines = All-push (λ (l : Line T M). columns l ≤ w) p.lines p.line (h off).lines (h off).line; line = omega arith })

  character_stays : (p : LineBuffer T M) (c : Character T) → Stays p → leb (columns p.line + width_of c.code) w ≡ true → z ≡ false →
      IsWithin w (with_character p c)
  character_stays p c h e off = record {
    lines = (h off).lines;
    line = let k = leb-true _ _ e in omega (arith, columns-push p.line p.waiting c.code (tag_on p.continues c));
  }

  character-beside : (p : LineBuffer T M) (c : Character T) → Stays p → Beside (put_character (set w z) p c) (put_character (set w true) p c)
  character-beside p c h =
      allowed (IsWithin w) z (leb (columns p.line + width_of c.code) w) (leb (width_of c.code) w) _ _ (character_stays p c h)
      (λ e. let k = leb-true _ _ e in
      character_stays (continued p) c (continued_stays p h) (le-leb _ _ (omega (arith, k, columns-continued p))))

  items-beside : (p : LineBuffer T M) (xs : List (Item T M)) → Stays p → Beside (put_items (set w z) p xs) (put_items (set w true) p xs)
  items-beside p [] h = (refl, h)
  items-beside p (item.Character c ∷ xs) h =
      then_beside (λ p. put_items (set w z) p xs) (λ p. put_items (set w true) p xs) (put_character (set w z) p c) (put_character (set w true) p c)
      (character-beside p c h) (λ q l. items-beside q xs l)
  items-beside p (item.Mark m ∷ xs) h = items-beside (with_waiting_mark p m) xs (marked p m h)

  fitting_stays : (p : LineBuffer T M) (c : Character T) → Stays p → Stays (put_fitting (set w z) p c)
  fitting_stays p c h = if_cases Stays (leb (columns p.line + width_of c.code) w) _ _ (character_stays p c h) (λ _. h)

  all_fitting_stays : (p : LineBuffer T M) (cs : List (Character T)) → Stays p → Stays (fold (put_fitting (set w z)) p cs)
  all_fitting_stays p [] h = h
  all_fitting_stays p (c ∷ cs) h = all_fitting_stays (put_fitting (set w z) p c) cs (fitting_stays p c h)

  single-beside : (p : LineBuffer T M) (k : Kind) (c : Character T) → Stays p → Beside (put_single (set w z) p k c) (put_single (set w true) p k c)
  single-beside p Preserved c h = character-beside p c h
  single-beside p SoftSpace c h = (refl, fitting_stays p c h)
  single-beside p Newline c h =
      (refl, λ off. record { lines = All-push (λ (l : Line T M). columns l ≤ w) p.lines p.line (h off).lines (h off).line; line = omega arith })
  single-beside p Tab c h = items-beside p (map (λ d. item.Character d) (tab_spaces p c)) h
  single-beside p SoftTab c h = (refl, all_fitting_stays p (tab_spaces p c) h)
  single-beside p x c h = (refl, h)

  due_stays : (p : LineBuffer T M) (pending : Option (Character T)) (n : ℕ) → Stays p → fits (set w z) (with_due_space p pending) n ≡ true →
      Stays (with_due_space p pending)
  due_stays p None n h e = h
  due_stays p (Some c) n h e = λ off. record {
    lines = if_cases (λ (q : LineBuffer T M). AllWithinWidth w q.lines) (is_empty p.line) _ _ (λ _. (h off).lines) (λ _. (h off).lines);
    line = let k = leb-true _ _ e in omega (arith, k);
  }

  word_stays : (p : LineBuffer T M) (pending : Option (Character T)) (xs : List (Item T M)) → Stays p → Stays (page_for_word (set w z) p pending xs)
  word_stays p pending xs h = if_cases Stays (fits (set w z) (with_due_space p pending) (word_columns xs)) _ _
      (due_stays p pending (word_columns xs) h) (λ _. continued_stays p h)

  place-beside : (p : LineBuffer T M) (pending : Option (Character T)) (ps : List (Piece T M)) → Stays p →
      Beside (place (set w z) p pending ps) (place (set w true) p pending ps)
  place-beside p pending [] h = (refl, h)
  place-beside p pending (Word x xs ∷ ps) h =
      then_beside (λ p. place (set w z) p None ps) (λ p. place (set w true) p None ps) (put_word (set w z) p pending xs)
      (put_word (set w true) p pending xs) (items-beside (page_for_word (set w z) p pending xs) xs (word_stays p pending xs h))
      (λ q l. place-beside q None ps l)
  place-beside p pending (Gap c ∷ ps) h = place-beside p (option_or pending (Some c)) ps h
  place-beside p pending (Cut ∷ ps) h = place-beside p pending ps h
  place-beside p pending (Single x c ∷ ps) h =
      then_beside (λ p. place (set w z) p None ps) (λ p. place (set w true) p None ps) (put_single (set w z) (page_for_single (set w z) p pending x) x c)
      (put_single (set w true) (page_for_single (set w true) p pending x) x c)
      (single-beside (page_for_single (set w z) p pending x) x c (page_for_single_cases Stays (set w z) p pending x h (due_stays p pending 0 h)))
      (λ q l. place-beside q None ps l)
  place-beside p pending (Loose m ∷ ps) h = place-beside (with_waiting_mark p m) pending ps (marked p m h)

  blank_stays : (marks : List M) → Stays (empty_buffer marks)
  blank_stays marks off = record { lines = All-nil (λ (l : Line T M). columns l ≤ w); line = omega arith }

  -- THE THEOREM of a paragraph.
  pub paragraph-beside : (marks : List M) (xs : List (Item T M)) → Beside (paragraph (set w z) marks xs) (paragraph (set w true) marks xs)
  paragraph-beside marks xs = place-beside (empty_buffer marks) None (pieces xs) (blank_stays marks)

-- THE THEOREM of a text that is cut into lines: both have the same lines. With overflow off no line passes the width.
pub cut-beside : {T : Type 0} (M : Type 0) (w : ℕ) (z : Bool) (tag : T) (cs : List ℕ) →
    Both (z ≡ false) (z ≡ false) (λ a b. (b ≡ a) × (z ≡ false → AllWithinWidth {M = M} w a)) (text_lines (set w z) true tag cs)
    (text_lines (set w true) true tag cs)
cut-beside {T} M w z tag cs =
    Both-map _ _ _ _ (λ (p : LineBuffer T M). p.lines ++ p.line ∷ []) (λ (p : LineBuffer T M). p.lines ++ p.line ∷ [])
    (put_items (set w z) (empty_buffer []) (styled (kept_style tag) cs)) (put_items (set w true) (empty_buffer []) (styled (kept_style tag) cs))
    (items-beside w z (empty_buffer []) (styled (kept_style tag) cs) (blank_stays w z []))
    (λ p q k. (
      ap (λ (y : LineBuffer T M). y.lines ++ y.line ∷ []) k.0,
      λ off. All-push (λ (l : Line T M). columns l ≤ w) p.lines p.line (k.1 off).lines (k.1 off).line,
    ))

-- THE LAW of a paragraph: with overflow on it is never too narrow.
pub paragraph_some : {T M : Type 0} (w : ℕ) (marks : List M) (xs : List (Item T M)) → IsSome (paragraph (with_overflow w) marks xs)
paragraph_some {T} {M} w marks xs = by (paragraph (with_overflow w) marks xs) (paragraph-beside w true marks xs)
  where
    by : (o : Option (LineBuffer T M)) → Both (true ≡ false) (true ≡ false) (λ p q. (q ≡ p) × (true ≡ false → IsWithin w p)) o o → IsSome o
    by None on = absurd (cc)
    by (Some p) k = refl

-- THE LAW of a paragraph: where it has a line buffer with overflow off, it has the same line buffer with overflow on.
pub paragraph_same : {T M : Type 0} (w : ℕ) (marks : List M) (xs : List (Item T M)) (q : LineBuffer T M) →
    paragraph (without_overflow w) marks xs ≡ Some q → paragraph (with_overflow w) marks xs ≡ Some q
paragraph_same {T} {M} w marks xs q e =
    by (paragraph (without_overflow w) marks xs) (paragraph (with_overflow w) marks xs) e (paragraph-beside w false marks xs)
  where
    by : (o p : Option (LineBuffer T M)) → o ≡ Some q →
        Both (false ≡ false) (false ≡ false) (λ p q. (q ≡ p) × (false ≡ false → IsWithin w p)) o p → p ≡ Some q
    by None p e k = cc
    by (Some x) None e k = absurd k
    by (Some x) (Some y) e k = ap Some k.0 ∙ e

-- THE LAW of a paragraph: with overflow off no line passes the width.
pub paragraph_within : {T M : Type 0} (w : ℕ) (marks : List M) (xs : List (Item T M)) →
    IfSome (paragraph (without_overflow w) marks xs) (λ p. AllWithinWidth w (all_lines p))
paragraph_within {T} {M} w marks xs =
    by (paragraph (without_overflow w) marks xs) (paragraph (with_overflow w) marks xs) (paragraph-beside w false marks xs)
  where
    by : (o q : Option (LineBuffer T M)) → Both (false ≡ false) (false ≡ false) (λ p q. (q ≡ p) × (false ≡ false → IsWithin w p)) o q →
        IfSome o (λ p. AllWithinWidth w (all_lines p))
    by None q k = tt
    by (Some p) None k = absurd k
    by (Some p) (Some q) k = all_lines_within w p (k.1 refl)
