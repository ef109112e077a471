-- Stretches, and words with the space after them, as slices of a text.
use Rattle.std.proofs.Common.{◌≡◌, ℕ, ◌+◌, ◌<◌, ◌≤◌, Bool, true, false, cond, leb, List, [], ◌∷◌, ◌++◌, take, drop, length, Option, None, Some, is_some, refl}
use Rattle.std.proofs.Common.{sym, ap, ◌∙◌, arith, subst, zero, ◌⊎◌, inl, inr, ◌==◌, if◌then◌else◌, length-append, option_map, option_and_then, append_assoc, append-nil, All, ◌-◌, get_or, suc, drop-cons}
use Rattle.std.specs.Bool.{beq}
use Rattle.std.proofs.lemmas.List.Sums.{sum_by-append}
use Rattle.std.proofs.lemmas.List.Folds.{list_all-append}
use Rattle.std.proofs.lemmas.List.{take-append-drop, map-append, length-take, length-drop, get_or-take, take-append-le, take_all}
use Rattle.std.proofs.lemmas.List.Elements.{All-nil, All-cons}
use Rattle.std.proofs.lemmas.Bool.{and_parts, leb-true}
use Rattle.std.proofs.lemmas.Str.{chars-append, chars-nil, chars-IsAscii, encodes-chars, IsUtf8-from_ascii, IsUtf8-take}
use Rattle.std.proofs.lemmas.Str.{IsCharBoundary-at_seam, IsCharBoundary-after_ascii, IsCharBoundary-start, IsCharBoundary-from_rest}
use Rattle.std.proofs.lemmas.Str.Ascii.{IsAscii-from_all}
use Rattle.std.proofs.Math.Seq.{take-add}
use Rattle.std.proofs.lemmas.Grind.{common_steps}
use Rattle.std.specs.Str.{chars, IsAscii, IsUtf8, IsCharBoundary, encode_utf8_all}
use Rattle.std.specs.List.{list_all}
use Rattle.std.specs.Prelude.{encode_utf8}
use Rattle.html_render_layout_lines.specs.laws.Characters.{chars-one}
use Rattle.unicode_width.specs.Width.{char_width}
use Rattle.html_render_dom_values.specs.declared.white_space.WhiteSpace.{WhiteSpace}
use Rattle.html_render_dom_values.specs.declared.white_space.WhiteSpace.TheVariants.{Normal, Pre, PreWrap}
use Rattle.html_render_dom_values.specs.WhiteSpace.{preserves, wraps}
use Rattle.html_render_layout_lines.specs.declared.character.Kind.{Kind}
use Rattle.html_render_layout_lines.specs.declared.character.Kind.TheVariants.{Letter, Space, Preserved}
use Rattle.html_render_layout_lines.specs.declared.character.Item.{Item}
use Rattle.html_render_layout_lines.specs.declared.character.Item.TheVariants as item
use Rattle.html_render_layout_lines.specs.declared.character.TextStyle.{TextStyle}
use Rattle.html_render_layout_lines.specs.Character.{kind, width_of, character_of, is_collapsible, has_no_width}
use Rattle.html_render_layout_lines.specs.declared.character.Character.{Character}
use Rattle.html_render_layout_paragraphs.specs.Feeding.{is_ascii_from, is_in_stretch, is_stretch_kind, IsStretch, IsFront, placed_text_and_space}
use Rattle.html_render_layout_paragraphs.specs.Paragraph.{LineBuffer, Setting, fits, page_for_single, put_character, put_items}
use Rattle.html_render_layout_paragraphs.specs.Placing.{put_word}
use Rattle.html_render_layout_lines.specs.TaggedText.{text_columns}
use Rattle.html_render_layout_lines.specs.laws.Cases.{if_true, if_false, if_cases}
use Rattle.html_render_layout_paragraphs.specs.laws.Whole.{after-append}
use Rattle.html_render_layout_paragraphs.specs.Stream.{State, end_word, placed_word, begin_word, joins, after, step, character_step, letter_step, letters_step, on_page}
use Rattle.html_render_layout_paragraphs.specs.Stream.{single_step, then_single, singles_step, then_singles, stretch_step}
use Rattle.html_render_layout_paragraphs.specs.Stream.{styled, with_pending}

-- ---- Printable ASCII characters

pub ascii-low : (least c : ℕ) → is_ascii_from least c ≡ true → least ≤ c
ascii-low least c e = leb-true least c (and_parts (leb least c) (leb c 126) e).0

pub ascii-high : (least c : ℕ) → is_ascii_from least c ≡ true → c ≤ 126
ascii-high least c e = leb-true c 126 (and_parts (leb least c) (leb c 126) e).1

normal_kind : (c : ℕ) → 33 ≤ c → c ≤ 126 → kind Normal c ≡ Letter
unfolding kind char_width
normal_kind c low high = grind (arith, common_steps)

pre_wrap_kind : (c : ℕ) → 33 ≤ c → c ≤ 126 → kind PreWrap c ≡ Letter
unfolding kind char_width
pre_wrap_kind c low high = grind (arith, common_steps)

pre_kind : (c : ℕ) → 32 ≤ c → c ≤ 126 → kind Pre c ≡ Preserved
unfolding kind char_width
pre_kind c low high = grind (arith, common_steps)

-- The first printable ASCII character that is in a stretch. The space is in one only if lines aren't wrapped between words.
abbrev pub least_in : WhiteSpace → ℕ
least_in mode = if wraps mode then 33 else 32

ascii_kind : (mode : WhiteSpace) (c : ℕ) → least_in mode ≤ c → c ≤ 126 → is_in_stretch mode c ≡ true
ascii_kind Normal c low high = ap is_stretch_kind (normal_kind c low high)
ascii_kind Pre c low high = ap is_stretch_kind (pre_kind c low high)
ascii_kind PreWrap c low high = ap is_stretch_kind (pre_wrap_kind c low high)

ascii_width : (c : ℕ) → 32 ≤ c → c ≤ 126 → width_of c ≡ 1
unfolding width_of char_width
ascii_width c low high = grind (arith, common_steps)

ascii_bytes : (least : ℕ) (bs : List ℕ) → list_all (is_ascii_from least) bs ≡ true → IsAscii bs
ascii_bytes least bs e = IsAscii-from_all bs (by bs e)
  where
    by : (bs : List ℕ) → list_all (is_ascii_from least) bs ≡ true → All (λ b. b < 128) bs
    by [] e = All-nil (λ b. b < 128)
    by (c ∷ cs) e =
        let parts = and_parts (is_ascii_from least c) (list_all (is_ascii_from least) cs) e in
        let high = ascii-high least c parts.0 in
        All-cons (λ b. b < 128) c cs (omega arith) (by cs parts.1)

chars-ascii_bytes : (least : ℕ) (bs : List ℕ) → list_all (is_ascii_from least) bs ≡ true → chars bs ≡ bs
chars-ascii_bytes least bs e = chars-IsAscii bs (ascii_bytes least bs e)

ascii_in_stretch : (mode : WhiteSpace) (cs : List ℕ) → list_all (is_ascii_from (least_in mode)) cs ≡ true →
    list_all (is_in_stretch mode) cs ≡ true
ascii_in_stretch mode [] e = refl
ascii_in_stretch mode (c ∷ cs) e =
    let parts = and_parts (is_ascii_from (least_in mode) c) (list_all (is_ascii_from (least_in mode)) cs) e in
    rw (ascii_kind mode c (ascii-low (least_in mode) c parts.0) (ascii-high (least_in mode) c parts.0)) (ascii_in_stretch mode cs parts.1)

ascii_columns : (least : ℕ) (cs : List ℕ) → 32 ≤ least → list_all (is_ascii_from least) cs ≡ true → text_columns cs ≡ length cs
ascii_columns least [] h e = refl
ascii_columns least (c ∷ cs) h e =
    let parts = and_parts (is_ascii_from least c) (list_all (is_ascii_from least) cs) e in
    let front = sum_by-append width_of (c ∷ []) cs in
    let low = ascii-low least c parts.0 in
    let one = ascii_width c (omega arith) (ascii-high least c parts.0) in
    omega (arith, front, one, ascii_columns least cs h parts.1)

ascii_boundary : (least : ℕ) (bs : List ℕ) (n : ℕ) → IsUtf8 bs → list_all (is_ascii_from least) (take n bs) ≡ true → n ≤ length bs →
    IsCharBoundary bs n
ascii_boundary least bs zero u e high = IsCharBoundary-start bs u
ascii_boundary least bs (suc k) u e high =
    let n : ℕ = suc k in
    let last : n - 1 < length bs = omega arith in
    let same : get_or (take n bs) (n - 1) 0 ≡ get_or bs (n - 1) 0 = get_or-take n bs (n - 1) 0 (omega arith) in
    let small : get_or bs (n - 1) 0 < 128 = rw (sym same) (ascii_bytes least (take n bs) e (n - 1)) in
    let back : n - 1 + 1 ≡ n = omega arith in
    rw (sym back) (IsCharBoundary-after_ascii bs (n - 1) u last small)

pub ascii-front : (least : ℕ) (bs : List ℕ) (n : ℕ) → 32 ≤ least → IsUtf8 bs → list_all (is_ascii_from least) (take n bs) ≡ true →
    n ≤ length bs → IsFront bs n n
ascii-front least bs n h u e high = record {
  within = high;
  boundary = ascii_boundary least bs n u e high;
  columns = sym (ap text_columns (chars-ascii_bytes least (take n bs) e) ∙ ascii_columns least (take n bs) h e
      ∙ simp length-take (omega arith));
}

-- ---- Stretches of a text

pub no-stretch : (mode : WhiteSpace) (bs : List ℕ) → IsUtf8 bs → IsStretch mode bs 0 0
no-stretch mode bs u = record {
  within = omega arith;
  boundary = IsCharBoundary-start bs u;
  characters = ap (list_all (is_in_stretch mode)) chars-nil;
  columns = sym (ap text_columns chars-nil);
}

least_low : (mode : WhiteSpace) → 32 ≤ least_in mode
least_low Normal = omega arith
least_low Pre = omega arith
least_low PreWrap = omega arith

pub ascii-stretch : (mode : WhiteSpace) (least : ℕ) (bs : List ℕ) (n : ℕ) → least_in mode ≡ least → IsUtf8 bs →
    list_all (is_ascii_from least) (take n bs) ≡ true → n ≤ length bs → IsStretch mode bs n n
ascii-stretch mode least bs n is u e high =
    let all : list_all (is_ascii_from (least_in mode)) (take n bs) ≡ true = ap (λ m. list_all (is_ascii_from m) (take n bs)) is ∙ e in
    let front = ascii-front (least_in mode) bs n (least_low mode) u all high in
    record {
      within = high;
      boundary = front.boundary;
      characters = ap (list_all (is_in_stretch mode)) (chars-ascii_bytes (least_in mode) (take n bs) all)
          ∙ ascii_in_stretch mode (take n bs) all;
      columns = front.columns;
    }

-- Bytes from `least` on, and more of them in the rest of a text.
pub more-ascii : (least : ℕ) (bs : List ℕ) (n k : ℕ) → list_all (is_ascii_from least) (take n bs) ≡ true →
    list_all (is_ascii_from least) (take k (take (length bs - n) (drop n bs))) ≡ true → list_all (is_ascii_from least) (take (n + k) bs) ≡ true
more-ascii least bs n k e f =
    let rest : take (length bs - n) (drop n bs) ≡ drop n bs = take_all (length bs - n) (drop n bs) (omega (arith, length-drop n bs)) in
    let more : list_all (is_ascii_from least) (take k (drop n bs)) ≡ true =
    ap (λ r. list_all (is_ascii_from least) (take k r)) (sym rest) ∙ f in
    ap (list_all (is_ascii_from least)) (take-add n k bs)
    ∙ list_all-append (is_ascii_from least) (take n bs) (take k (drop n bs))
    ∙ rw (e, more) refl

-- Both kinds of characters are in stretches.
pub stretch-kinds : (k : Kind) → (k ≡ Letter) ⊎ (k ≡ Preserved) → is_stretch_kind k ≡ true
stretch-kinds k (inl e) = ap is_stretch_kind e
stretch-kinds k (inr e) = ap is_stretch_kind e

-- The first character of a text, in bytes.
pub first-character : (bs rest : List ℕ) (c : ℕ) → IsUtf8 bs → IsUtf8 rest → bs ≡ encode_utf8 c ++ rest →
    IsCharBoundary bs (length (encode_utf8 c)) × (chars (take (length (encode_utf8 c)) bs) ≡ c ∷ [])
first-character bs rest c u v e =
    let boundary = IsCharBoundary-at_seam bs (encode_utf8 c) rest e v in
    let front : take (length (encode_utf8 c)) bs ≡ encode_utf8 c = ap (take (length (encode_utf8 c))) e
    ∙ take-append-le (length (encode_utf8 c)) (encode_utf8 c) rest (omega arith)
    ∙ take_all (length (encode_utf8 c)) (encode_utf8 c) (omega arith) in
    (boundary, ap chars front ∙ chars-one c (subst IsUtf8 front (IsUtf8-take bs (length (encode_utf8 c)) u boundary)))

pub first-stretch : (mode : WhiteSpace) (bs rest : List ℕ) (c w : ℕ) → IsUtf8 bs → IsUtf8 rest → bs ≡ encode_utf8 c ++ rest →
    is_in_stretch mode c ≡ true → w ≡ width_of c → IsStretch mode bs (length bs - length rest) w
first-stretch mode bs rest c w u v e k f =
    let one = first-character bs rest c u v e in
    let count : length bs - length rest ≡ length (encode_utf8 c) = omega (arith, ap length e, length-append (encode_utf8 c) rest) in
    subst (λ n. IsStretch mode bs n w) (sym count) (record {
      within = omega (arith, count);
      boundary = one.0;
      characters = ap (list_all (is_in_stretch mode)) one.1 ∙ rw k refl;
      columns = omega (arith, f, ap text_columns one.1);
    })

split_take : (mode : WhiteSpace) (bs : List ℕ) (n k : ℕ) {w v : ℕ} → IsUtf8 bs → IsStretch mode bs n w → IsStretch mode (drop n bs) k v →
    chars (take (n + k) bs) ≡ chars (take n bs) ++ chars (take k (drop n bs))
split_take mode bs n k u front rest =
    ap chars (take-add n k bs) ∙ chars-append (take n bs) (take k (drop n bs)) (IsUtf8-take bs n u front.boundary)

pub longer-stretch : (mode : WhiteSpace) (bs : List ℕ) (n k w v : ℕ) → IsUtf8 bs → IsStretch mode bs n w → IsStretch mode (drop n bs) k v →
    IsStretch mode bs (n + k) (w + v)
longer-stretch mode bs n k w v u front rest =
    let whole = split_take mode bs n k u front rest in
    record {
      within = omega (arith, front.within, rest.within, length-drop n bs);
      boundary = IsCharBoundary-from_rest bs n k front.within rest.boundary;
      characters = ap (list_all (is_in_stretch mode)) whole
          ∙ list_all-append (is_in_stretch mode) (chars (take n bs)) (chars (take k (drop n bs)))
          ∙ rw (front.characters, rest.characters) refl;
      columns = omega (
        arith,
        front.columns,
        rest.columns,
        ap text_columns whole,
        sum_by-append width_of (chars (take n bs)) (chars (take k (drop n bs))),
      );
    }

-- ---- Steps

same-refl : (k : Bool) → beq k k ≡ true
same-refl true = refl
same-refl false = refl

-- Whether a kind is `k`, if characters of it are in stretches.
abbrev IsIf : Kind → Kind → Type 0
IsIf k this = is_stretch_kind this ≡ true → this ≡ k

letter_kind : (mode : WhiteSpace) (c : ℕ) → wraps mode ≡ true → is_in_stretch mode c ≡ true → kind mode c ≡ Letter
unfolding kind
letter_kind Normal c w e =
    let is : IsIf Letter (kind Normal c) =
    if_cases (IsIf Letter) (is_collapsible c) _ _ (λ _ e. cc) (λ _.
    if_cases (IsIf Letter) (c == 0x200B) _ _ (λ _ e. cc) (λ _.
    if_cases (IsIf Letter) (has_no_width c) _ _ (λ _ e. cc) (λ _ e. refl))) in
    is e
letter_kind Pre c w e = cc
letter_kind PreWrap c w e =
    let is : IsIf Letter (kind PreWrap c) =
    if_cases (IsIf Letter) (c == 10) _ _ (λ _ e. cc) (λ _.
    if_cases (IsIf Letter) (c == 9) _ _ (λ _ e. cc) (λ _.
    if_cases (IsIf Letter) (has_no_width c) _ _ (λ _ e. cc) (λ _.
    if_cases (IsIf Letter) (is_collapsible c) _ _ (λ _ e. cc) (λ _.
    if_cases (IsIf Letter) (c == 0x200B) _ _ (λ _ e. cc) (λ _ e. refl))))) in
    is e

preserved_kind : (mode : WhiteSpace) (c : ℕ) → wraps mode ≡ false → is_in_stretch mode c ≡ true → kind mode c ≡ Preserved
unfolding kind
preserved_kind Normal c w e = cc
preserved_kind Pre c w e =
    let is : IsIf Preserved (kind Pre c) =
    if_cases (IsIf Preserved) (c == 10) _ _ (λ _ e. cc) (λ _.
    if_cases (IsIf Preserved) (c == 9) _ _ (λ _ e. cc) (λ _.
    if_cases (IsIf Preserved) (has_no_width c) _ _ (λ _ e. cc) (λ _ e. refl))) in
    is e
preserved_kind PreWrap c w e = cc

one_letter : {T M : Type 0} (st : State T M) (style : TextStyle T) (c : ℕ) → wraps style.mode ≡ true → is_in_stretch style.mode c ≡ true →
    step st (item.Character (character_of style c)) ≡ letter_step st (character_of style c)
one_letter st style c w e = ap (λ k. character_step k st (character_of style c)) (letter_kind style.mode c w e)

letters_join : {T M : Type 0} (st : State T M) (style : TextStyle T) (cs : List ℕ) → wraps style.mode ≡ true →
    list_all (is_in_stretch style.mode) cs ≡ true → joins st.open_word (preserves style.mode) ≡ true → after st (styled style cs) ≡ Some (record st { word = st.word ++ styled style cs })
letters_join st style [] w e j = ap (λ x. Some (record st { word = x })) (sym (append-nil st.word))
letters_join {T} {M} st style (c ∷ cs) w e j =
    let parts = and_parts (is_in_stretch style.mode c) (list_all (is_in_stretch style.mode) cs) e in
    let next : State T M = record st { word = st.word ++ item.Character (character_of style c) ∷ [] } in
    ap (option_and_then (λ (t : State T M). after t (styled style cs))) (one_letter st style c w parts.0
    ∙ if_true (joins st.open_word (preserves style.mode)) (Some next) _ j)
    ∙ letters_join next style cs w parts.1 j
    ∙ ap (λ x. Some (record st { word = x })) (append_assoc st.word (item.Character (character_of style c) ∷ []) (styled style cs))

letters_begin : {T M : Type 0} (st : State T M) (style : TextStyle T) (c : ℕ) (cs : List ℕ) → wraps style.mode ≡ true →
    list_all (is_in_stretch style.mode) (c ∷ cs) ≡ true → joins st.open_word (preserves style.mode) ≡ false → after st (styled style (c ∷ cs))
    ≡ option_map (λ (t : State T M). record t { word = styled style (c ∷ cs); open_word = Some (preserves style.mode) }) (end_word st)
letters_begin {T} {M} st style c cs w e j =
    let parts = and_parts (is_in_stretch style.mode c) (list_all (is_in_stretch style.mode) cs) e in
    ap (option_and_then (λ (t : State T M). after t (styled style cs))) (one_letter st style c w parts.0
    ∙ if_false (joins st.open_word (preserves style.mode)) _
    (option_map (λ (t : State T M). begin_word t (character_of style c)) (end_word st)) j)
    ∙ by (end_word st) parts.1
  where
    by : (o : Option (State T M)) → list_all (is_in_stretch style.mode) cs ≡ true →
        option_and_then (λ (t : State T M). after t (styled style cs))
        (option_map (λ (t : State T M). begin_word t (character_of style c)) o)
        ≡ option_map (λ (t : State T M). record t { word = styled style (c ∷ cs); open_word = Some (preserves style.mode) }) o
    by None p = refl
    by (Some t) p = letters_join (begin_word t (character_of style c)) style cs w p (same-refl (preserves style.mode))

after-letters : {T M : Type 0} (st : State T M) (style : TextStyle T) (cs : List ℕ) → wraps style.mode ≡ true →
    list_all (is_in_stretch style.mode) cs ≡ true → 0 < length cs → after st (styled style cs) ≡ letters_step st style cs
after-letters st style [] w e h = absurd (omega arith)
after-letters {T} {M} st style (c ∷ cs) w e h = by (joins st.open_word (preserves style.mode)) refl
  where
    by : (b : Bool) → joins st.open_word (preserves style.mode) ≡ b → after st (styled style (c ∷ cs))
        ≡ cond b (Some (record st { word = st.word ++ styled style (c ∷ cs) }))
        (option_map (λ (t : State T M). record t { word = styled style (c ∷ cs); open_word = Some (preserves style.mode) }) (end_word st))
    by true j = letters_join st style (c ∷ cs) w e j
    by false j = letters_begin st style c cs w e j

-- ---- Characters placed by themselves

-- State in which no word is open.
abbrev closed_state : {T M : Type 0} → Setting → LineBuffer T M → Option (Character T) → List (Item T M) → State T M
closed_state s page pending word = record { setting = s; page = page; pending = pending; word = word; open_word = None }

-- A first character placed by itself, and then others.
singles_first : {T M : Type 0} (s : Setting) (page : LineBuffer T M) (pending : Option (Character T)) (word : List (Item T M))
    (style : TextStyle T) (c : ℕ) (cs : List ℕ) → ((p : LineBuffer T M) → after (closed_state s p None word) (styled style cs)
    ≡ on_page (closed_state s p None word) (put_items s p (styled style cs))) →
    option_and_then (λ (t : State T M). after t (styled style cs)) (single_step (closed_state s page pending word) Preserved (character_of style c))
    ≡ singles_step (closed_state s page pending word) style (c ∷ cs)
singles_first {T} {M} s page pending word style c cs rest =
    by (put_character s (page_for_single s page pending Preserved) (character_of style c))
  where
    by : (o : Option (LineBuffer T M)) → option_and_then (λ (t : State T M). after t (styled style cs))
        (option_map (λ (p : LineBuffer T M). closed_state s p None word) o)
        ≡ option_map (λ (p : LineBuffer T M). closed_state s p None word)
        (option_and_then (λ (p : LineBuffer T M). put_items s p (styled style cs)) o)
    by None = refl
    by (Some p) = rest p

one_single : {T M : Type 0} (st : State T M) (style : TextStyle T) (c : ℕ) → wraps style.mode ≡ false → is_in_stretch style.mode c ≡ true →
    step st (item.Character (character_of style c)) ≡ then_single st Preserved (character_of style c)
one_single st style c w e = ap (λ k. character_step k st (character_of style c)) (preserved_kind style.mode c w e)

singles_rest : {T M : Type 0} (s : Setting) (page : LineBuffer T M) (word : List (Item T M)) (style : TextStyle T) (cs : List ℕ) →
    wraps style.mode ≡ false → list_all (is_in_stretch style.mode) cs ≡ true → after (closed_state s page None word) (styled style cs)
    ≡ on_page (closed_state s page None word) (put_items s page (styled style cs))
singles_rest s page word style [] w e = refl
singles_rest {T} {M} s page word style (c ∷ cs) w e =
    let parts = and_parts (is_in_stretch style.mode c) (list_all (is_in_stretch style.mode) cs) e in
    let same : page_for_single s page None Preserved ≡ page = if_cases (λ p. p ≡ page) (fits s page 0) page page (λ _. refl) (λ _. refl) in
    ap (option_and_then (λ (t : State T M). after t (styled style cs))) (one_single (closed_state s page None word) style c w parts.0)
    ∙ singles_first s page None word style c cs (λ p. singles_rest s p word style cs w parts.1)
    ∙ ap (λ p. on_page (closed_state s page None word) (put_items s p (styled style (c ∷ cs)))) same

-- Placing a word leaves none open.
end_word_then : {T M Z : Type 0} (f g : State T M → Option Z) (st : State T M) →
    ((s : Setting) (page : LineBuffer T M) (pending : Option (Character T)) (word : List (Item T M)) →
    f (closed_state s page pending word) ≡ g (closed_state s page pending word)) →
    option_and_then f (end_word st) ≡ option_and_then g (end_word st)
end_word_then {T} {M} {Z} f g st same = by st.open_word
  where
    placed : (o : Option (LineBuffer T M)) → option_and_then f (option_map (λ (p : LineBuffer T M). closed_state st.setting p None []) o)
        ≡ option_and_then g (option_map (λ (p : LineBuffer T M). closed_state st.setting p None []) o)
    placed None = refl
    placed (Some p) = same st.setting p None []

    by : (o : Option Bool) →
        option_and_then f (cond (is_some o) (placed_word st) (Some (record st { open_word = o })))
        ≡ option_and_then g (cond (is_some o) (placed_word st) (Some (record st { open_word = o })))
    by None = same st.setting st.page st.pending st.word
    by (Some k) = placed (put_word st.setting st.page st.pending st.word)

after-singles : {T M : Type 0} (st : State T M) (style : TextStyle T) (cs : List ℕ) → wraps style.mode ≡ false →
    list_all (is_in_stretch style.mode) cs ≡ true → 0 < length cs → after st (styled style cs) ≡ then_singles st style cs
after-singles st style [] w e h = absurd (omega arith)
after-singles {T} {M} st style (c ∷ cs) w e h =
    let parts = and_parts (is_in_stretch style.mode c) (list_all (is_in_stretch style.mode) cs) e in
    ap (option_and_then (λ (t : State T M). after t (styled style cs))) (one_single st style c w parts.0)
    ∙ then_step (end_word st)
    ∙ end_word_then (λ (t : State T M). option_and_then (λ (u : State T M). after u (styled style cs)) (single_step t Preserved (character_of style c)))
    (λ (t : State T M). singles_step t style (c ∷ cs)) st
    (λ s page pending word. singles_first s page pending word style c cs (λ p. singles_rest s p word style cs w parts.1))
  where
    then_step : (o : Option (State T M)) →
        option_and_then (λ (t : State T M). after t (styled style cs))
        (option_and_then (λ (t : State T M). single_step t Preserved (character_of style c)) o)
        ≡ option_and_then (λ (t : State T M). option_and_then (λ (u : State T M). after u (styled style cs)) (single_step t Preserved (character_of style c))) o
    then_step None = refl
    then_step (Some t) = refl

-- THE LAW OF STRETCHES: feeding a stretch is feeding its characters.
pub after-stretch : {T M : Type 0} (st : State T M) (style : TextStyle T) (cs : List ℕ) → list_all (is_in_stretch style.mode) cs ≡ true →
    0 < length cs → after st (styled style cs) ≡ stretch_step st style cs
after-stretch {T} {M} st style cs e h = by (wraps style.mode) refl
  where
    by : (b : Bool) → wraps style.mode ≡ b → after st (styled style cs) ≡ cond b (letters_step st style cs) (then_singles st style cs)
    by true w = after-letters st style cs w e h
    by false w = after-singles st style cs w e h

-- ---- Texts

-- A text that isn't empty has a character.
pub some-chars : (bs : List ℕ) → IsUtf8 bs → 0 < length bs → 0 < length (chars bs)
some-chars bs u h = by (chars bs) refl
  where
    by : (cs : List ℕ) → chars bs ≡ cs → 0 < length cs
    by [] e = absurd (let none : bs ≡ [] = sym (encodes-chars bs u) ∙ ap encode_utf8_all e in omega (arith, ap length none))
    by (c ∷ cs) e = omega arith

cut : (bs : List ℕ) (n : ℕ) → IsUtf8 (take n bs) → chars bs ≡ chars (take n bs) ++ chars (drop n bs)
cut bs n u = ap chars (sym (take-append-drop n bs)) ∙ chars-append (take n bs) (drop n bs) u

-- Feeding a text is feeding the stretch at its start and then the rest.
pub after-front : {T M : Type 0} (st : State T M) (style : TextStyle T) (bs stretch : List ℕ) (n w : ℕ) → IsUtf8 bs →
    IsStretch style.mode bs n w → 0 < n → stretch ≡ take (n - 0) bs → after st (styled style (chars bs))
    ≡ option_and_then (λ t. after t (styled style (chars (drop n bs)))) (stretch_step st style (chars stretch))
after-front {T} {M} st style bs stretch n w u are low e =
    let all : n - 0 ≡ n = omega arith in
    let same : take n bs ≡ stretch = sym (e ∙ ap (λ k. take k bs) all) in
    let front : IsUtf8 (take n bs) = IsUtf8-take bs n u are.boundary in
    let within = are.within in
    let some : 0 < length (chars (take n bs)) = some-chars (take n bs) front (simp length-take (omega arith)) in
    ap (λ cs. after st (styled style cs)) (cut bs n front)
    ∙ ap (after st) (map-append (λ c. item.Character (character_of style c)) (chars (take n bs)) (chars (drop n bs)))
    ∙ after-append st (styled style (chars (take n bs))) (styled style (chars (drop n bs)))
    ∙ ap (option_and_then (λ (t : State T M). after t (styled style (chars (drop n bs)))))
    (after-stretch st style (chars (take n bs)) are.characters some ∙ ap (λ y. stretch_step st style (chars y)) same)

-- ---- A word and the space after it

pub chars-ascii : (b : ℕ) (bs : List ℕ) → b < 128 → chars (b ∷ bs) ≡ b ∷ chars bs
chars-ascii b bs h =
    let one : IsAscii (b ∷ []) = IsAscii-from_all (b ∷ []) (All-cons (λ b. b < 128) b [] h (All-nil (λ b. b < 128))) in
    chars-append (b ∷ []) bs (IsUtf8-from_ascii (b ∷ []) one) ∙ ap (λ cs. cs ++ chars bs) (chars-IsAscii (b ∷ []) one)

abbrev open_state : {T M : Type 0} → State T M → TextStyle T → List ℕ → State T M
open_state st style cs = record st { word = styled style cs; open_word = Some (preserves style.mode) }

fresh_word : {T M : Type 0} (st : State T M) (style : TextStyle T) (cs : List ℕ) → st.open_word ≡ None →
    letters_step st style cs ≡ Some (open_state st style cs)
fresh_word {T} {M} st style cs none = by st.open_word none
  where
    by : (o : Option Bool) → o ≡ None → cond (joins o (preserves style.mode)) (Some (record st { word = st.word ++ styled style cs }))
        (option_map (λ (t : State T M). record t { word = styled style cs; open_word = Some (preserves style.mode) })
        (cond (is_some o) (placed_word st) (Some st)))
        ≡ Some (open_state st style cs)
    by None e = refl
    by (Some k) e = cc

-- Letters while no word is open, and then a space, are a placed word and a pending space.
word_space : {T M : Type 0} (st : State T M) (style : TextStyle T) (cs : List ℕ) (b : ℕ) → st.open_word ≡ None → st.word ≡ [] →
    style.mode ≡ Normal → kind Normal b ≡ Space →
    option_and_then (λ t. step t (item.Character (character_of style b))) (letters_step st style cs) ≡ placed_text_and_space st style cs b
word_space {T} {M} st style cs b none empty mode space =
    let fresh : letters_step st style cs ≡ Some (open_state st style cs) = fresh_word st style cs none in
    let kind_is : kind style.mode b ≡ Space = rw mode space in
    ap (option_and_then (λ (t : State T M). step t (item.Character (character_of style b)))) fresh
    ∙ ap (λ k. character_step k (open_state st style cs) (character_of style b)) kind_is
    ∙ by st.word st.open_word empty none (put_word st.setting st.page st.pending (styled style cs))
  where
    by : (xs : List (Item T M)) (o : Option Bool) → xs ≡ [] → o ≡ None → (p : Option (LineBuffer T M)) →
        option_map (λ (t : State T M). with_pending t (character_of style b))
        (option_map (λ (p : LineBuffer T M). record { setting = st.setting; page = p; pending = None; word = []; open_word = None }) p)
        ≡ option_map (λ (t : State T M). with_pending t (character_of style b))
        (option_map (λ (p : LineBuffer T M). record { setting = st.setting; page = p; pending = None; word = xs; open_word = o }) p)
    by xs o e f p = rw (e, f) refl

after_first : {T M : Type 0} (style : TextStyle T) (b : ℕ) (cs : List ℕ) (o : Option (State T M)) →
    option_and_then (λ (t : State T M). after t (styled style (b ∷ cs))) o
    ≡ option_and_then (λ (t : State T M). after t (styled style cs))
    (option_and_then (λ t. step t (item.Character (character_of style b))) o)
after_first style b cs None = refl
after_first style b cs (Some t) = refl

pub after-word : {T M : Type 0} (st : State T M) (style : TextStyle T) (bs word : List ℕ) (n w : ℕ) → IsUtf8 bs → style.mode ≡ Normal →
    IsStretch style.mode bs n w → 0 < n → n < length bs → get_or bs n 0 < 128 → kind Normal (get_or bs n 0) ≡ Space →
    st.open_word ≡ None → st.word ≡ [] → word ≡ take (n - 0) bs → after st (styled style (chars bs))
    ≡ option_and_then (λ t. after t (styled style (chars (drop (n + 1) bs)))) (placed_text_and_space st style (chars word) (get_or bs n 0))
after-word {T} {M} st style bs word n w u mode are low high byte space none empty e =
    let b : ℕ = get_or bs n 0 in
    let rest : List ℕ = drop (n + 1) bs in
    let next : n + 1 ≡ suc n = omega arith in
    let whole : drop n bs ≡ b ∷ rest = drop-cons bs n 0 high ∙ rw next refl in
    after-front st style bs word n w u are low e
    ∙ ap (option_and_then (λ t. after t (styled style (chars (drop n bs)))))
    (if_true (wraps style.mode) (letters_step st style (chars word)) (then_singles st style (chars word)) (ap wraps mode))
    ∙ ap (λ cs. option_and_then (λ (t : State T M). after t (styled style cs)) (letters_step st style (chars word)))
    (ap chars whole ∙ chars-ascii b rest byte)
    ∙ after_first style b (chars rest) (letters_step st style (chars word))
    ∙ ap (option_and_then (λ (t : State T M). after t (styled style (chars rest))))
    (word_space st style (chars word) b none empty mode space)
