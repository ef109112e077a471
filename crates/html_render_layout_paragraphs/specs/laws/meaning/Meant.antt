-- The laid lines are those of the parts.
use Rattle.std.proofs.Common.{◌≡◌, ◌<◌, Bool, true, false, leb, List, [], ◌∷◌, ◌++◌, map, Option, Some, None, refl, sym, ap, ◌∙◌, arith, subst, append-nil, inl, inr}
use Rattle.std.proofs.Common.{◌+◌, ◌≤◌, ◌||◌, option_and_then, append_assoc, ◌⊎◌}
use Rattle.std.proofs.lemmas.Bool.{cases_Bool, leb-true, leb-false, lt-leb}
use Rattle.std.proofs.lemmas.Option.{same_Some}
use Rattle.html_render_layout_lines.specs.declared.character.Character.{Character}
use Rattle.html_render_layout_lines.specs.declared.character.Item.{Item}
use Rattle.html_render_layout_lines.specs.declared.character.Item.TheVariants as item
use Rattle.html_render_layout_lines.specs.Line.{Line, columns, word_columns}
use Rattle.html_render_layout_paragraphs.specs.Paragraph.{LineBuffer, Setting, all_lines, pieces, paragraph, empty_buffer, put_items, put_character}
use Rattle.html_render_layout_paragraphs.specs.Placing.{put_word}
use Rattle.html_render_layout_paragraphs.specs.Meaning.{Part, Whole, Between, Soft, Break, Stop, SoftStop, Marked, letter, spaced, with_whole, with_letter, IsNotEmpty}
use Rattle.html_render_layout_paragraphs.specs.Meaning.{StandOn, nothing, whole, between, no_between, soft, no_soft, marked, none, last, broken, full, stop, soft_stop}
use Rattle.html_render_layout_paragraphs.specs.Meaning.{spaces_behind, parts, IsParagraph, character_count, alone, cut}
use Rattle.html_render_layout_paragraphs.specs.laws.meaning.Words.{page_of, page_with_word, word_columns-one, count-append, columns-with_letter, columns-with_word}
use Rattle.html_render_layout_paragraphs.specs.laws.meaning.Words.{no-characters, page-append}
use Rattle.html_render_layout_paragraphs.specs.laws.meaning.Laying.{lay, lay-parts, put_character-next}
use Rattle.html_render_layout_paragraphs.specs.laws.meaning.Standing.{page_for_word-start, put_word-fitting, space-fitting, space-full, soft-fitting, soft-full}
use Rattle.html_render_layout_paragraphs.specs.laws.meaning.Standing.{spaced-start}
use Rattle.html_render_layout_paragraphs.specs.laws.meaning.Placed.{put_word-full, lay-letters, lay-soft, last-line, continued-full}
use Rattle.html_render_layout_paragraphs.specs.laws.meaning.Behind.{Meant, Completes, then_rest, behind_part, behind_line, empty-or-not}
use Rattle.html_render_layout_lines.specs.Character.{width_of}
use Rattle.html_render_layout_paragraphs.specs.Word.{line_with_word, marks_behind_word}
use Rattle.html_render_layout_lines.specs.laws.Cases.{if_true, if_cases}
use Rattle.html_render_layout_lines.specs.laws.Columns.{word_columns-cons, word_columns-append}

-- whether a word fits a line of its own, or is a single character with overflow on
abbrev pub IsAlone : {T M : Type 0} → Setting → List (Item T M) → Type 0
IsAlone s word = (word_columns word ≤ s.width) ⊎ ((character_count word ≡ 1) × (s.overflow ≡ true))

stands-alone : {T M : Type 0} (s : Setting) (b : Bool) (before : List M) (front : List (Part T M)) (ms : List M)
    (space : Option (Character T)) (word : List (Item T M)) → StandOn s b before front [] ms → IsAlone s word →
    StandOn s b before (front ++ Whole space word ∷ []) (line_with_word b [] ms word) (marks_behind_word ms word)
stands-alone {T} {M} s b before front ms space word st h =
    let start = spaced-start M b space in
    let same : with_whole b [] ms space word ≡ line_with_word b [] ms word = ap (λ l. line_with_word b l ms word) start in
    let wide = columns-with_word b [] ms word in
    let narrow = ap columns same in
    subst (λ l. StandOn s b before (front ++ Whole space word ∷ []) l (marks_behind_word ms word)) same (elim h [
      | inl k ↦ whole space word st (omega (arith, wide, narrow, k))
      | inr k ↦ alone space word st k.0 k.1
    ])

-- a first character of a line is placed there, or the paragraph is too narrow
first-character : {T M : Type 0} (s : Setting) (lines : List (Line T M)) (b : Bool) (ms : List M) (c : Character T) →
    ((put_character s (page_of lines [] b ms) c ≡ Some (page_of lines (with_letter b [] ms c) b [])) × IsAlone {M = M} s (item.Character c ∷ []))
    ⊎ (put_character s (page_of lines [] b ms) c ≡ None)
first-character {T} {M} s lines b ms c =
    let one = word_columns-one M c in
    let Stands : Option (LineBuffer T M) → Type 0 =
    λ o. ((o ≡ Some (page_of lines (with_letter b [] ms c) b [])) × IsAlone {M = M} s (item.Character c ∷ [])) ⊎ (o ≡ None) in
    if_cases Stands (leb (columns {T = T} {M = M} [] + width_of c.code) s.width) _ _
    (λ e. let h = leb-true _ _ e in inl (refl, inl (omega (arith, h, one))))
    (λ e. if_cases Stands (leb (width_of c.code) s.width || s.overflow) _ _
    (λ f. let h = leb-false _ _ e in
    let wide : leb (width_of c.code) s.width ≡ false = lt-leb _ _ (omega (arith, h)) in
    let over : s.overflow ≡ true = rw wide at f in inl (refl, inr (omega arith, over)))
    (λ _. inr refl))

alone-mark : {T M : Type 0} (s : Setting) (head : List (Item T M)) (m : M) → IsAlone s head → IsAlone s (head ++ item.Mark m ∷ [])
alone-mark {T} s head m h =
    let e = word_columns-append head (item.Mark m ∷ []) in
    let f = word_columns-cons {T = T} (item.Mark m) [] in
    let g = count-append head (item.Mark m ∷ []) in
    elim h [ inl k ↦ inl (omega (arith, e, f, k)) | inr k ↦ inr (omega (arith, g, k.0), k.1) ]

-- a character after marks alone, or after nothing
alone-first : {T M : Type 0} (s : Setting) (head : List (Item T M)) (c : Character T) → character_count head ≡ 0 → word_columns head ≡ 0 →
    IsAlone {M = M} s (item.Character c ∷ []) → IsAlone s (head ++ item.Character c ∷ [])
alone-first {T} {M} s head c no_characters narrow h =
    let e = word_columns-append head (item.Character c ∷ []) in
    let g = count-append head (item.Character c ∷ []) in
    elim h [ inl k ↦ inl (omega (arith, e, narrow, k)) | inr k ↦ inr (omega (arith, g, no_characters, k.0), k.1) ]

no-page : {A B : Type 0} (f : A → Option B) (o : Option A) (y : B) → o ≡ None → option_and_then f o ≡ Some y → ⊥
no-page f None y e h = cc
no-page f (Some x) y e h = cc

module _ {T M : Type 0} (s : Setting) (rest : List (Part T M)) (q : LineBuffer T M) where
  -- whether the parts before a word that begins a line, the word and the rest have the laid lines
  abbrev BeginsWith : List (Line T M) → Bool → List M → List (Part T M) → Option (Character T) → List (Item T M) → Type 0
  BeginsWith lines b before front space word = Meant s lines b before (front ++ Whole space word ∷ rest) q

  -- whether a word of a head and this tail has the laid lines, with the parts before it and the rest; the head is alone on a
  -- line
  abbrev Begins : List (Item T M) → Type 0
  Begins tail =
      (lines : List (Line T M)) (b : Bool) (before : List M) (front : List (Part T M)) (ms : List M) (space : Option (Character T))
      (head : List (Item T M)) → StandOn s b before front [] ms → IsAlone s head →
      then_rest s rest (put_items s (page_with_word lines [] b ms head) tail) ≡ Some q → BeginsWith lines b before front space (head ++ tail)

  begins-nil : Completes s rest q → Begins []
  begins-nil k lines b before front ms space head st h e =
      subst (BeginsWith lines b before front space) (sym (append-nil head))
      (behind_part s lines b before front (Whole space head) rest q
      (k lines b before (front ++ Whole space head ∷ []) (line_with_word b [] ms head) (marks_behind_word ms head)
      (stands-alone s b before front ms space head st h) e))

  begins-mark : (m : M) (tail : List (Item T M)) → Begins tail → Begins (item.Mark m ∷ tail)
  begins-mark m tail k lines b before front ms space head st h e =
      subst (BeginsWith lines b before front space) (append_assoc head (item.Mark m ∷ []) tail)
      (k lines b before front ms space (head ++ item.Mark m ∷ []) st (alone-mark s head m h)
      (ap (λ p. then_rest s rest (put_items s p tail)) (page-append lines [] b ms head (item.Mark m ∷ [])) ∙ e))

  -- a character after the head of a word on a line
  module _ (c : Character T) (tail : List (Item T M)) (k : Begins tail) (lines : List (Line T M)) (b : Bool) (before : List M)
      (front : List (Part T M)) (ms : List M) (space : Option (Character T)) (head : List (Item T M)) (st : StandOn s b before front [] ms)
      (h : IsAlone s head) (e : then_rest s rest (put_items s (page_with_word lines [] b ms head) (item.Character c ∷ tail)) ≡ Some q) where
    abbrev line : Line T M
    line = line_with_word b [] ms head

    abbrev waiting : List M
    waiting = marks_behind_word ms head

    abbrev then_tail : Option (LineBuffer T M) → Option (LineBuffer T M)
    then_tail o = then_rest s rest (option_and_then (λ (p : LineBuffer T M). put_items s p tail) o)

    never : put_character s (page_of lines line b waiting) c ≡ None → ⊥
    never n = no-page (λ (p : LineBuffer T M). lay s p rest) _ q (ap (option_and_then (λ (p : LineBuffer T M). put_items s p tail)) n) e

    -- the character is on the line of the head
    here : put_character s (page_of lines line b waiting) c ≡ Some (page_of lines (with_letter b line waiting c) b []) →
        IsAlone s (head ++ item.Character c ∷ []) → BeginsWith lines b before front space (head ++ item.Character c ∷ tail)
    here f a =
        subst (BeginsWith lines b before front space) (append_assoc head (item.Character c ∷ []) tail)
        (k lines b before front ms space (head ++ item.Character c ∷ []) st a
        (ap (λ p. then_rest s rest (put_items s p tail)) (page-append lines [] b ms head (item.Character c ∷ [])) ∙ sym (ap then_tail f) ∙ e))

    fitting : leb (columns line + width_of c.code) s.width ≡ true → BeginsWith lines b before front space (head ++ item.Character c ∷ tail)
    fitting g =
        let low = leb-true _ _ g in
        let wide = columns-with_word b [] ms head in
        let more = word_columns-append head (item.Character c ∷ []) in
        let one = word_columns-one M c in
        here (if_true _ _ _ g) (inl (omega (arith, low, wide, more, one)))

    -- the character is the first of the line
    first : line ≡ [] → BeginsWith lines b before front space (head ++ item.Character c ∷ tail)
    first f =
        let wide = columns-with_word b [] ms head in
        let no_columns = ap columns f in
        elim (first-character s lines b waiting c) [
          | inl r ↦
              here (subst (λ l. put_character s (page_of lines l b waiting) c ≡ Some (page_of lines (with_letter b l waiting c) b [])) (sym f) r.0)
              (alone-first s head c (no-characters b ms head f) (omega (arith, wide, no_columns)) r.1)
          | inr n ↦ absurd (never (ap (λ l. put_character s (page_of lines l b waiting) c) f ∙ n))
        ]

    -- the character begins the next line
    next : s.width < columns line + width_of c.code → IsNotEmpty line →
        BeginsWith lines b before front space (head ++ item.Character c ∷ tail)
    next w i =
        let moves : put_character s (page_of lines line b waiting) c ≡ put_character s (page_of (lines ++ line ∷ []) [] true waiting) c =
        put_character-next s lines line b waiting c w ∙ ap (λ p. put_character s p c) (continued-full lines line b waiting i) in
        let more = columns-with_letter b line waiting c in
        elim (first-character s (lines ++ line ∷ []) true waiting c) [
          | inl r ↦ behind_line s lines line b true before waiting (front ++ Whole space (head ++ item.Character c ∷ tail) ∷ rest)
              (Whole None (item.Character c ∷ tail) ∷ rest) q
              (λ ls d. cut space head c tail st (stands-alone s b before front ms space head st h) i (omega (arith, more, w)) d)
              (k (lines ++ line ∷ []) true waiting [] waiting None (item.Character c ∷ []) nothing r.1 (sym (ap then_tail (moves ∙ r.0)) ∙ e))
          | inr n ↦ absurd (never (moves ∙ n))
        ]

    begins-character : BeginsWith lines b before front space (head ++ item.Character c ∷ tail)
    begins-character =
        elim (cases_Bool (leb (columns line + width_of c.code) s.width)) [
          | inl g ↦ fitting g
          | inr g ↦ elim (empty-or-not line) [ inl f ↦ first f | inr i ↦ next (leb-false _ _ g) i ]
        ]

  pub begins : Completes s rest q → (tail : List (Item T M)) → Begins tail
  begins k [] = begins-nil k
  begins k (item.Character c ∷ tail) = begins-character c tail (begins k tail)
  begins k (item.Mark m ∷ tail) = begins-mark m tail (begins k tail)

-- ---- the laid lines are those of the parts

nothing-left : {T M : Type 0} (s : Setting) (q : LineBuffer T M) → Completes s [] q
nothing-left {T} {M} s q lines b before front line ms st e =
    subst (λ (p : LineBuffer T M). Meant s lines b before (front ++ []) p) (same_Some _ _ e)
    (subst (λ ps. Meant s lines b before ps (page_of lines line b ms)) (sym (append-nil front))
    (elim (empty-or-not line) [ inl f ↦ empty f | inr i ↦ record { own = line ∷ []; are_broken = last st i; are_all = last-line lines line i } ]))
  where
    empty : line ≡ [] → Meant s lines b before front (page_of lines line b ms)
    empty f = subst (λ l. Meant s lines b before front (page_of lines l b ms)) (sym f) (record {
      own = [];
      are_broken = none (subst (λ l. StandOn s b before front l ms) f st);
      are_all = sym (append-nil lines);
    })

with-whole : {T M : Type 0} (s : Setting) (space : Option (Character T)) (word : List (Item T M)) (rest : List (Part T M)) (q : LineBuffer T M) →
    Completes s rest q → Completes s (Whole space word ∷ rest) q
with-whole {T} {M} s space word rest q k lines b before front line ms st e =
    elim (cases_Bool (leb (columns (with_whole b line ms space word)) s.width)) [
      | inl g ↦
          let h = leb-true _ _ g in
          behind_part s lines b before front (Whole space word) rest q
          (k lines b before (front ++ Whole space word ∷ []) _ _ (whole space word st h)
          (sym (ap (then_rest s rest) (put_word-fitting s lines line b ms space word h)) ∙ e))
      | inr g ↦ elim (empty-or-not line) [ inl f ↦ first f (leb-false _ _ g) | inr i ↦ next (leb-false _ _ g) i ]
    ]
  where
    start : (ls : List (Line T M)) (c : Bool) (ns : List M) (fs : List (Part T M)) (gap : Option (Character T)) (bs : List M) →
        StandOn s c bs fs [] ns → then_rest s rest (put_word s (page_of ls [] c ns) gap word) ≡ Some q →
        Meant s ls c bs (fs ++ Whole gap word ∷ rest) q
    start ls c ns fs gap bs h d =
        let empty : word_columns {T = T} {M = M} [] ≡ 0 = refl in
        begins s rest q k word ls c bs fs ns gap [] h (inl (omega (arith, empty)))
        (sym (ap (λ p. then_rest s rest (put_items s p word)) (page_for_word-start s ls c ns gap word)) ∙ d)

    first : line ≡ [] → s.width < columns (with_whole b line ms space word) → Meant s lines b before (front ++ Whole space word ∷ rest) q
    first f w =
        start lines b ms front space before (subst (λ l. StandOn s b before front l ms) f st)
        (ap (λ l. then_rest s rest (put_word s (page_of lines l b ms) space word)) (sym f) ∙ e)

    next : s.width < columns (with_whole b line ms space word) → IsNotEmpty line →
        Meant s lines b before (front ++ Whole space word ∷ rest) q
    next w i =
        behind_line s lines line b true before ms (front ++ Whole space word ∷ rest) (Whole space word ∷ rest) q
        (λ ls d. full space word st i w d)
        (start (lines ++ line ∷ []) true ms [] space ms nothing
        (sym (ap (then_rest s rest) (put_word-full s lines line b ms space word i w)) ∙ e))

with-between-space : {T M : Type 0} (s : Setting) (c : Character T) (rest : List (Part T M)) (q : LineBuffer T M) →
    Completes s rest q → Completes s (Between c ∷ rest) q
with-between-space s c rest q k lines b before front line ms st e =
    behind_part s lines b before front (Between c) rest q
    (elim (cases_Bool (leb (columns (spaced b line (Some c))) s.width)) [
      | inl g ↦
          let h = leb-true _ _ g in
          k lines b before (front ++ Between c ∷ []) (spaced b line (Some c)) ms (between c st h)
          (sym (ap (λ p. lay s p rest) (space-fitting s lines line b ms c h)) ∙ e)
      | inr g ↦
          let h = leb-false _ _ g in
          k lines b before (front ++ Between c ∷ []) line ms (no_between c st h)
          (sym (ap (λ p. lay s p rest) (space-full s lines line b ms c h)) ∙ e)
    ])

with-soft : {T M : Type 0} (s : Setting) (c : Character T) (rest : List (Part T M)) (q : LineBuffer T M) →
    Completes s rest q → Completes s (Soft c ∷ rest) q
with-soft s c rest q k lines b before front line ms st e =
    behind_part s lines b before front (Soft c) rest q
    (elim (cases_Bool (leb (columns (with_letter b line ms c)) s.width)) [
      | inl g ↦
          let h = leb-true _ _ g in
          k lines b before (front ++ Soft c ∷ []) (with_letter b line ms c) [] (soft c st h)
          (sym (ap (λ p. lay s p rest) (soft-fitting s lines line b ms c h)) ∙ e)
      | inr g ↦
          let h = leb-false _ _ g in
          k lines b before (front ++ Soft c ∷ []) line ms (no_soft c st h)
          (sym (ap (λ p. lay s p rest) (soft-full s lines line b ms c h)) ∙ e)
    ])

with-letters : {T M : Type 0} (s : Setting) (cs : List (Character T)) (rest : List (Part T M)) (q : LineBuffer T M) →
    Completes s rest q → Completes s (map letter cs ++ rest) q
with-letters s [] rest q k = k
with-letters s (c ∷ cs) rest q k = with-whole s None (item.Character c ∷ []) (map letter cs ++ rest) q (with-letters s cs rest q k)

with-softs : {T M : Type 0} (s : Setting) (cs : List (Character T)) (rest : List (Part T M)) (q : LineBuffer T M) →
    Completes s rest q → Completes s (map Soft cs ++ rest) q
with-softs s [] rest q k = k
with-softs s (c ∷ cs) rest q k = with-soft s c (map Soft cs ++ rest) q (with-softs s cs rest q k)

with-break : {T M : Type 0} (s : Setting) (rest : List (Part T M)) (q : LineBuffer T M) → Completes s rest q → Completes s (Break ∷ rest) q
with-break s rest q k lines b before front line ms st e =
    behind_line s lines line b false before ms (front ++ Break ∷ rest) rest q (λ ls d. broken st d)
    (k (lines ++ line ∷ []) false ms [] [] ms nothing e)

with-stop : {T M : Type 0} (s : Setting) (c : Character T) (rest : List (Part T M)) (q : LineBuffer T M) →
    Completes s rest q → Completes s (Stop c ∷ rest) q
with-stop {T} {M} s c rest q k lines b before front line ms st e =
    let m : Meant s lines b before (front ++ (map letter (spaces_behind line c) ++ rest)) q =
    with-letters s (spaces_behind line c) rest q k lines b before front line ms st
    (lay-letters s (page_of lines line b ms) (spaces_behind line c) rest ∙ e) in
    record { own = m.own; are_broken = stop c rest st m.are_broken; are_all = m.are_all }

with-soft_stop : {T M : Type 0} (s : Setting) (c : Character T) (rest : List (Part T M)) (q : LineBuffer T M) →
    Completes s rest q → Completes s (SoftStop c ∷ rest) q
with-soft_stop {T} {M} s c rest q k lines b before front line ms st e =
    let m : Meant s lines b before (front ++ (map Soft (spaces_behind line c) ++ rest)) q =
    with-softs s (spaces_behind line c) rest q k lines b before front line ms st
    (lay-soft s (page_of lines line b ms) (spaces_behind line c) rest ∙ e) in
    record { own = m.own; are_broken = soft_stop c rest st m.are_broken; are_all = m.are_all }

with-marked : {T M : Type 0} (s : Setting) (m : M) (rest : List (Part T M)) (q : LineBuffer T M) →
    Completes s rest q → Completes s (Marked m ∷ rest) q
with-marked s m rest q k lines b before front line ms st e =
    behind_part s lines b before front (Marked m) rest q (k lines b before (front ++ Marked m ∷ []) line (ms ++ m ∷ []) (marked m st) e)

meant : {T M : Type 0} (s : Setting) (ps : List (Part T M)) (q : LineBuffer T M) → Completes s ps q
meant s [] q = nothing-left s q
meant s (Whole space word ∷ ps) q = with-whole s space word ps q (meant s ps q)
meant s (Between c ∷ ps) q = with-between-space s c ps q (meant s ps q)
meant s (Soft c ∷ ps) q = with-soft s c ps q (meant s ps q)
meant s (Break ∷ ps) q = with-break s ps q (meant s ps q)
meant s (Stop c ∷ ps) q = with-stop s c ps q (meant s ps q)
meant s (SoftStop c ∷ ps) q = with-soft_stop s c ps q (meant s ps q)
meant s (Marked m ∷ ps) q = with-marked s m ps q (meant s ps q)

-- the lines that `paragraph` places satisfy `IsParagraph`
pub placed_paragraph : {T M : Type 0} (s : Setting) (marks : List M) (xs : List (Item T M)) (q : LineBuffer T M) →
    paragraph s marks xs ≡ Some q → IsParagraph s marks xs (all_lines q) q.waiting
placed_paragraph s marks xs q e =
    let m : Meant s [] false marks (parts None (pieces xs)) q =
    meant s (parts None (pieces xs)) q [] false marks [] [] marks nothing (sym (lay-parts s (empty_buffer marks) None (pieces xs)) ∙ e) in
    subst (λ ls. IsParagraph s marks xs ls q.waiting) (sym m.are_all) m.are_broken
