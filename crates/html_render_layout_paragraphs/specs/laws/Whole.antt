-- Feeding character by character gives the paragraph of all characters.
use Rattle.std.proofs.Common.{◌≡◌, Bool, true, false, cond, sym, List, [], ◌∷◌, ◌++◌, refl, append_assoc, option_map, Option, None, Some}
use Rattle.std.proofs.Common.{ap, ◌∙◌, option_and_then, arith}
use Rattle.std.specs.Bool.{beq}
use Rattle.html_render_dom_values.specs.WhiteSpace.{preserves}
use Rattle.html_render_layout_lines.specs.declared.character.Kind.{Kind}
use Rattle.html_render_layout_lines.specs.declared.character.Kind.TheVariants.{Letter, Space, Divider, Dropped}
use Rattle.html_render_layout_lines.specs.declared.character.Character.{Character}
use Rattle.html_render_layout_lines.specs.declared.character.Item.{Item}
use Rattle.html_render_layout_lines.specs.declared.character.Item.TheVariants as item
use Rattle.html_render_layout_lines.specs.Character.{kind}
use Rattle.html_render_layout_lines.specs.Line.{word_columns, is_empty}
use Rattle.html_render_layout_lines.specs.laws.Columns.{word_columns-append}
use Rattle.html_render_layout_paragraphs.specs.Paragraph.{Piece, Word, Gap, Cut, Single, pieces, with_kind, with_mark, LineBuffer, Setting, fits}
use Rattle.html_render_layout_paragraphs.specs.Paragraph.{with_waiting_mark, put_character, put_items, put_single, page_for_word, with_due_space}
use Rattle.html_render_layout_paragraphs.specs.Placing.{put_word}
use Rattle.html_render_layout_paragraphs.specs.Paragraph.{continued, page_for_single, place, paragraph}
use Rattle.html_render_layout_paragraphs.specs.Stream.{State, start, end_word, begin_word, letter_step, single_step, then_single, with_pending, character_step}
use Rattle.html_render_layout_paragraphs.specs.Stream.{mark_step, step, after, finished}
use Rattle.html_render_layout_lines.specs.laws.Cases.{if_cases}

-- ---- Options

pub then_assoc : {A B C : Type 0} (f : A → Option B) (g : B → Option C) (o : Option A) →
    option_and_then g (option_and_then f o) ≡ option_and_then (λ x. option_and_then g (f x)) o
then_assoc f g None = refl
then_assoc f g (Some x) = refl

map_and_then : {A B C : Type 0} (f : A → B) (g : B → Option C) (o : Option A) →
    option_and_then g (option_map f o) ≡ option_and_then (λ x. g (f x)) o
map_and_then f g None = refl
map_and_then f g (Some x) = refl

pub then_same : {A B : Type 0} (f g : A → Option B) (o : Option A) → ((x : A) → f x ≡ g x) → option_and_then f o ≡ option_and_then g o
then_same f g None e = refl
then_same f g (Some x) e = e x

map_is_then : {A B : Type 0} (f : A → B) (o : Option A) → option_map f o ≡ option_and_then (λ x. Some (f x)) o
map_is_then f None = refl
map_is_then f (Some x) = refl

-- ---- Marks and words

-- A mark at the end of a word takes no column.
word_columns-push_mark : {T M : Type 0} (w : List (Item T M)) (m : M) → word_columns (w ++ item.Mark m ∷ []) ≡ word_columns w
word_columns-push_mark {T} {M} w m = omega (arith, word_columns-append w (item.Mark m ∷ []))

if_with_waiting_mark : {T M : Type 0} (b : Bool) (p q p' q' : LineBuffer T M) (m : M) → p ≡ with_waiting_mark p' m → q ≡ with_waiting_mark q' m →
    cond b p q ≡ with_waiting_mark (cond b p' q') m
if_with_waiting_mark true p q p' q' m e f = e
if_with_waiting_mark false p q p' q' m e f = f

with_due_space-with_waiting_mark : {T M : Type 0} (page : LineBuffer T M) (m : M) (pending : Option (Character T)) →
    with_due_space (with_waiting_mark page m) pending ≡ with_waiting_mark (with_due_space page pending) m
with_due_space-with_waiting_mark page m None = refl
with_due_space-with_waiting_mark page m (Some c) = if_with_waiting_mark (is_empty page.line) _ _ _ _ m refl refl

page_for_word-with_waiting_mark : {T M : Type 0} (s : Setting) (page : LineBuffer T M) (pending : Option (Character T)) (m : M)
    (w : List (Item T M)) → page_for_word s (with_waiting_mark page m) pending w
    ≡ with_waiting_mark (page_for_word s page pending (item.Mark m ∷ w)) m
page_for_word-with_waiting_mark {T} {M} s page pending m w =
    ap (λ (p : LineBuffer T M). cond (fits s p (word_columns w)) p (continued (with_waiting_mark page m)))
    (with_due_space-with_waiting_mark page m pending)
    ∙ if_with_waiting_mark (fits s (with_due_space page pending) (word_columns w)) _ _ _ _ m refl
    (if_with_waiting_mark (is_empty page.line) _ _ _ _ m refl refl)

-- A mark that waits before a word is placed like one at the word's start.
put_word-with_waiting_mark : {T M : Type 0} (s : Setting) (page : LineBuffer T M) (pending : Option (Character T)) (m : M)
    (w : List (Item T M)) → put_word s (with_waiting_mark page m) pending w ≡ put_word s page pending (item.Mark m ∷ w)
put_word-with_waiting_mark s page pending m w = ap (λ p. put_items s p w) (page_for_word-with_waiting_mark s page pending m w)

pub put_items-append : {T M : Type 0} (s : Setting) (page : LineBuffer T M) (v w : List (Item T M)) →
    put_items s page (v ++ w) ≡ option_and_then (λ p. put_items s p w) (put_items s page v)
put_items-append s page [] w = refl
put_items-append {T} {M} s page (item.Character c ∷ v) w =
    then_same _ _ (put_character s page c) (λ p. put_items-append s p v w)
    ∙ sym (then_assoc (λ (p : LineBuffer T M). put_items s p v) (λ (q : LineBuffer T M). put_items s q w) (put_character s page c))
put_items-append s page (item.Mark m ∷ v) w = put_items-append s (with_waiting_mark page m) v w

-- A mark at the end of a word waits after it.
put_word-push_mark : {T M : Type 0} (s : Setting) (page : LineBuffer T M) (pending : Option (Character T)) (w : List (Item T M)) (m : M) →
    put_word s page pending (w ++ item.Mark m ∷ []) ≡ option_map (λ (p : LineBuffer T M). with_waiting_mark p m) (put_word s page pending w)
put_word-push_mark {T} {M} s page pending w m =
    let e : page_for_word s page pending (w ++ item.Mark m ∷ []) ≡ page_for_word s page pending w =
    ap (λ n. cond (fits s (with_due_space page pending) n) (with_due_space page pending) (continued page))
    (word_columns-push_mark w m) in
    ap (λ p. put_items s p (w ++ item.Mark m ∷ [])) e
    ∙ put_items-append s (page_for_word s page pending w) w (item.Mark m ∷ [])
    ∙ sym (map_is_then (λ (p : LineBuffer T M). with_waiting_mark p m) (put_word s page pending w))

place-mark : {T M : Type 0} (s : Setting) (page : LineBuffer T M) (pending : Option (Character T)) (m : M) (ps : List (Piece T M)) →
    place s (with_waiting_mark page m) pending ps ≡ place s page pending (with_mark m ps)
place-mark {T} {M} s page pending m (Word k w ∷ ps) =
    ap (λ o. option_and_then (λ (p : LineBuffer T M). place s p None ps) o) (put_word-with_waiting_mark s page pending m w)
place-mark s page pending m ps = refl

-- A mark at the end of a word is placed like one after the word.
place-word_mark : {T M : Type 0} (s : Setting) (page : LineBuffer T M) (pending : Option (Character T)) (k : Bool) (w : List (Item T M)) (m : M)
    (ps : List (Piece T M)) → place s page pending (Word k (w ++ item.Mark m ∷ []) ∷ ps) ≡ place s page pending (Word k w ∷ with_mark m ps)
place-word_mark {T} {M} s page pending k w m ps =
    ap (λ o. option_and_then (λ (p : LineBuffer T M). place s p None ps) o) (put_word-push_mark s page pending w m)
    ∙ map_and_then (λ (p : LineBuffer T M). with_waiting_mark p m) (λ (p : LineBuffer T M). place s p None ps) (put_word s page pending w)
    ∙ then_same _ _ (put_word s page pending w) (λ p. place-mark s p None m ps)

-- ---- The open word before the pieces

-- Pieces with an open word in front of them. It is joined with a first word in whose text white space is treated the
-- same.
abbrev glue_word : {T M : Type 0} → Bool → List (Item T M) → List (Piece T M) → List (Piece T M)
glue_word k w (Word j v ∷ ps) = cond (beq k j) (Word k (w ++ v) ∷ ps) (Word k w ∷ Word j v ∷ ps)
glue_word k w ps = Word k w ∷ ps

-- Pieces with the open word in front of them, if there is one.
abbrev glue : {T M : Type 0} → Option Bool → List (Item T M) → List (Piece T M) → List (Piece T M)
glue None w ps = ps
glue (Some k) w ps = glue_word k w ps

-- State of a paragraph by its parts.
abbrev state : {T M : Type 0} → Setting → LineBuffer T M → Option (Character T) → List (Item T M) → Option Bool → State T M
state s page pending w k = record { setting = s; page = page; pending = pending; word = w; open_word = k }

-- Line buffer with the pieces placed after all that a state has.
abbrev resume : {T M : Type 0} → State T M → List (Piece T M) → Option (LineBuffer T M)
resume st ps = place st.setting st.page st.pending (glue st.open_word st.word ps)

-- Line buffer after feeding and finishing.
abbrev run : {T M : Type 0} → State T M → List (Item T M) → Option (LineBuffer T M)
run st xs = option_and_then finished (after st xs)

-- Placing the open word and then applying g is placing the word and the pieces, if g places the pieces where no word is
-- open.
end_resumes : {T M : Type 0} (g : State T M → Option (LineBuffer T M)) (ps : List (Piece T M)) (s : Setting) →
    ((p : LineBuffer T M) (pending : Option (Character T)) (w : List (Item T M)) → g (state s p pending w None) ≡ place s p pending ps)
    → (page : LineBuffer T M) (pending : Option (Character T)) (w : List (Item T M)) (k : Bool) →
    option_and_then g (end_word (state s page pending w (Some k))) ≡ place s page pending (Word k w ∷ ps)
end_resumes {T} {M} g ps s e page pending w k =
    map_and_then (λ (p : LineBuffer T M). state s p None [] None) g (put_word s page pending w)
    ∙ then_same _ _ (put_word s page pending w) (λ p. e p None [])

-- Finishing is placing the open word, and no piece after it.
finish_resumes : {T M : Type 0} (s : Setting) (page : LineBuffer T M) (pending : Option (Character T)) (w : List (Item T M)) (k : Option Bool) →
    finished (state s page pending w k) ≡ resume (state s page pending w k) []
finish_resumes s page pending w None = refl
finish_resumes {T} {M} s page pending w (Some k) = map_is_then (λ (t : State T M). t.page) (end_word (state s page pending w (Some k)))
    ∙ end_resumes (λ (t : State T M). Some t.page) [] s (λ p pend v. refl) page pending w k

-- Ending the open word and then applying g is placing the word, if there is one, and pieces whose first one ends a
-- word.
after_word : {T M : Type 0} (g : State T M → Option (LineBuffer T M)) (q : Piece T M) (ps : List (Piece T M)) (s : Setting) →
    ((p : LineBuffer T M) (pending : Option (Character T)) (w : List (Item T M)) → g (state s p pending w None) ≡ place s p pending (q ∷ ps)) →
    ((k : Bool) (w : List (Item T M)) → glue_word k w (q ∷ ps) ≡ Word k w ∷ q ∷ ps)
    → (page : LineBuffer T M) (pending : Option (Character T)) (w : List (Item T M)) (k : Option Bool) →
    option_and_then g (end_word (state s page pending w k)) ≡ resume (state s page pending w k) (q ∷ ps)
after_word g q ps s e ends page pending w None = e page pending w
after_word g q ps s e ends page pending w (Some k) = end_resumes g (q ∷ ps) s e page pending w k
    ∙ ap (λ x. place s page pending x) (sym (ends k w))

-- A letter as a word of its own.
glue-letter : {T M : Type 0} (c : Character T) (ps : List (Piece T M)) →
    glue_word (preserves c.mode) (item.Character c ∷ []) ps ≡ with_kind Letter c ps
glue-letter c (Word j v ∷ ps) = refl
glue-letter c ps = refl

-- A letter that joins the open word.
joined : {T M : Type 0} (k j : Bool) (w : List (Item T M)) (c : Character T) (ps : List (Piece T M)) → beq k j ≡ true →
    glue_word j (w ++ item.Character c ∷ []) ps ≡ glue_word j w (glue_word k (item.Character c ∷ []) ps)
joined true false w c ps e = cc
joined false true w c ps e = cc
joined true true w c (Word true v ∷ ps) e = ap (λ x. Word true x ∷ ps) (append_assoc w (item.Character c ∷ []) v)
joined false false w c (Word false v ∷ ps) e = ap (λ x. Word false x ∷ ps) (append_assoc w (item.Character c ∷ []) v)
joined k j w c ps e = refl

-- A letter that doesn't join the open word.
apart : {T M : Type 0} (k j : Bool) (w : List (Item T M)) (c : Character T) (ps : List (Piece T M)) → beq k j ≡ false →
    Word j w ∷ glue_word k (item.Character c ∷ []) ps ≡ glue_word j w (glue_word k (item.Character c ∷ []) ps)
apart true true w c ps e = cc
apart false false w c ps e = cc
apart k j w c (Word true v ∷ ps) e = refl
apart k j w c (Word false v ∷ ps) e = refl
apart k j w c ps e = refl

-- A letter that begins a word.
began : {T M : Type 0} (c : Character T) (xs : List (Item T M)) (ps : List (Piece T M)) → ((t : State T M) → run t xs ≡ resume t ps) →
    (s : Setting) (p : LineBuffer T M) (pending : Option (Character T)) (w : List (Item T M)) →
    run (begin_word (state s p pending w None) c) xs ≡ place s p pending (with_kind Letter c ps)
began c xs ps ih s p pending w = ih (begin_word (state s p pending w None) c) ∙ ap (λ x. place s p pending x) (glue-letter c ps)

letter_resumes : {T M : Type 0} (c : Character T) (xs : List (Item T M)) (ps : List (Piece T M)) →
    ((t : State T M) → run t xs ≡ resume t ps) →
    (s : Setting) (page : LineBuffer T M) (pending : Option (Character T)) (w : List (Item T M)) (k : Option Bool) →
    option_and_then (λ t. run t xs) (letter_step (state s page pending w k) c) ≡ resume (state s page pending w k) (with_kind Letter c ps)
letter_resumes c xs ps ih s page pending w None = began c xs ps ih s page pending w
letter_resumes {T} {M} c xs ps ih s page pending w (Some j) =
    if_cases (λ o. option_and_then (λ (t : State T M). run t xs) o ≡ place s page pending (glue_word j w (with_kind Letter c ps)))
    (beq (preserves c.mode) j) _ _
    (λ e. ih (state s page pending (w ++ item.Character c ∷ []) (Some j))
    ∙ ap (λ x. place s page pending x) (joined (preserves c.mode) j w c ps e ∙ ap (λ x. glue_word j w x) (glue-letter c ps)))
    (λ e. map_and_then (λ (t : State T M). begin_word t c) (λ (t : State T M). run t xs) (end_word (state s page pending w (Some j)))
    ∙ end_resumes (λ (t : State T M). run (begin_word t c) xs) (with_kind Letter c ps) s
    (λ p pend v. began c xs ps ih s p pend v) page pending w j
    ∙ ap (λ x. place s page pending x) (ap (λ x. Word j w ∷ x) (sym (glue-letter c ps)) ∙ apart (preserves c.mode) j w c ps e
    ∙ ap (λ x. glue_word j w x) (glue-letter c ps)))

single_resumes : {T M : Type 0} (k : Kind) (c : Character T) (xs : List (Item T M)) (ps : List (Piece T M)) →
    ((t : State T M) → run t xs ≡ resume t ps) →
    (s : Setting) (page : LineBuffer T M) (pending : Option (Character T)) (w : List (Item T M)) (o : Option Bool) →
    option_and_then (λ t. run t xs) (then_single (state s page pending w o) k c) ≡ resume (state s page pending w o) (Single k c ∷ ps)
single_resumes {T} {M} k c xs ps ih s page pending w o =
    then_assoc (λ (t : State T M). single_step t k c) (λ (t : State T M). run t xs) (end_word (state s page pending w o))
    ∙ after_word (λ (t : State T M). option_and_then (λ (u : State T M). run u xs) (single_step t k c)) (Single k c) ps s
    (λ p pend v. map_and_then (λ (q : LineBuffer T M). state s q None v None) (λ (u : State T M). run u xs)
    (put_single s (page_for_single s p pend k) k c)
    ∙ then_same (λ (q : LineBuffer T M). run (state s q None v None) xs) (λ (q : LineBuffer T M). place s q None ps)
    (put_single s (page_for_single s p pend k) k c) (λ q. ih (state s q None v None)))
    (λ j v. refl) page pending w o

character_resumes : {T M : Type 0} (k : Kind) (c : Character T) (xs : List (Item T M)) (ps : List (Piece T M)) →
    ((t : State T M) → run t xs ≡ resume t ps) →
    (s : Setting) (page : LineBuffer T M) (pending : Option (Character T)) (w : List (Item T M)) (o : Option Bool) →
    option_and_then (λ t. run t xs) (character_step k (state s page pending w o) c) ≡ resume (state s page pending w o) (with_kind k c ps)
character_resumes Letter c xs ps ih s page pending w o = letter_resumes c xs ps ih s page pending w o
character_resumes {T} {M} Space c xs ps ih s page pending w o =
    map_and_then (λ (t : State T M). with_pending t c) (λ (t : State T M). run t xs) (end_word (state s page pending w o))
    ∙ after_word (λ (t : State T M). run (with_pending t c) xs) (Gap c) ps s (λ p pend v. ih (with_pending (state s p pend v None) c))
    (λ j v. refl) page pending w o
character_resumes {T} {M} Divider c xs ps ih s page pending w o =
    after_word (λ (t : State T M). run t xs) Cut ps s (λ p pend v. ih (state s p pend v None)) (λ j v. refl) page pending w o
character_resumes Dropped c xs ps ih s page pending w o = ih (state s page pending w o)
character_resumes k c xs ps ih s page pending w o = single_resumes k c xs ps ih s page pending w o

glue-mark : {T M : Type 0} (s : Setting) (page : LineBuffer T M) (pending : Option (Character T)) (k : Bool) (w : List (Item T M)) (m : M)
    (ps : List (Piece T M)) → place s page pending (glue_word k (w ++ item.Mark m ∷ []) ps)
    ≡ place s page pending (glue_word k w (with_mark m ps))
glue-mark s page pending true w m (Word true v ∷ ps) =
    ap (λ x. place s page pending (Word true x ∷ ps)) (append_assoc w (item.Mark m ∷ []) v)
glue-mark s page pending false w m (Word false v ∷ ps) =
    ap (λ x. place s page pending (Word false x ∷ ps)) (append_assoc w (item.Mark m ∷ []) v)
glue-mark s page pending k w m ps = place-word_mark s page pending k w m ps

mark_resumes : {T M : Type 0} (m : M) (xs : List (Item T M)) (ps : List (Piece T M)) → ((t : State T M) → run t xs ≡ resume t ps) →
    (s : Setting) (page : LineBuffer T M) (pending : Option (Character T)) (w : List (Item T M)) (o : Option Bool) →
    run (mark_step (state s page pending w o) m) xs ≡ resume (state s page pending w o) (with_mark m ps)
mark_resumes m xs ps ih s page pending w None = ih (state s (with_waiting_mark page m) pending w None) ∙ place-mark s page pending m ps
mark_resumes m xs ps ih s page pending w (Some k) = ih (state s page pending (w ++ item.Mark m ∷ []) (Some k))
    ∙ glue-mark s page pending k w m ps

pub run_resumes : {T M : Type 0} (st : State T M) (xs : List (Item T M)) → run st xs ≡ resume st (pieces xs)
run_resumes st [] = finish_resumes st.setting st.page st.pending st.word st.open_word
run_resumes {T} {M} st (item.Character c ∷ xs) =
    then_assoc (λ (t : State T M). after t xs) finished (character_step (kind c.mode c.code) st c)
    ∙ character_resumes (kind c.mode c.code) c xs (pieces xs) (λ t. run_resumes t xs) st.setting st.page st.pending st.word st.open_word
run_resumes st (item.Mark m ∷ xs) = mark_resumes m xs (pieces xs) (λ t. run_resumes t xs) st.setting st.page st.pending st.word st.open_word

-- THE THEOREM: feeding and then finishing gives the paragraph of all that was fed.
pub finished-after : {T M : Type 0} (s : Setting) (marks : List M) (xs : List (Item T M)) →
    option_and_then finished (after (start s marks) xs) ≡ paragraph s marks xs
finished-after s marks xs = run_resumes (start s marks) xs

pub after-append : {T M : Type 0} (st : State T M) (xs ys : List (Item T M)) →
    after st (xs ++ ys) ≡ option_and_then (λ t. after t ys) (after st xs)
after-append st [] ys = refl
after-append {T} {M} st (x ∷ xs) ys =
    then_same _ _ (step st x) (λ t. after-append t xs ys)
    ∙ sym (then_assoc (λ (t : State T M). after t xs) (λ (t : State T M). after t ys) (step st x))

pub ruleset fed = (finished-after)
