-- Words that follow each other on a line, each after one space.
use Rattle.std.proofs.Common.{◌≡◌, ℕ, ◌+◌, ◌-◌, ◌<◌, ◌≤◌, Bool, true, List, [], ◌∷◌, ◌++◌, take, drop, length, Option, None, Some, refl, sym, ap, ◌∙◌, arith}
use Rattle.std.proofs.Common.{length-append, option_map, option_and_then, append_assoc, append-nil, if◌then◌else◌, map, get_or, suc, drop-cons, subst}
use Rattle.std.proofs.lemmas.List.Sums.{sum_by-append}
use Rattle.std.proofs.lemmas.List.{map-append, length-drop, length-take, drop-drop, get_or-drop, take-append-drop}
use Rattle.std.proofs.lemmas.Bool.{le-leb, ne_eqb}
use Rattle.std.proofs.lemmas.Str.{chars-append, chars-nil, IsUtf8-take, IsUtf8-drop, IsCharBoundary-after_ascii, IsCharBoundary-from_rest, IsCharBoundary-start}
use Rattle.std.proofs.Math.Seq.{take-add}
use Rattle.std.specs.Str.{chars, IsUtf8}
use Rattle.html_render_dom_values.specs.declared.white_space.WhiteSpace.{WhiteSpace}
use Rattle.html_render_dom_values.specs.declared.white_space.WhiteSpace.TheVariants.{Normal}
use Rattle.html_render_layout_lines.specs.declared.character.Character.{Character}
use Rattle.html_render_layout_lines.specs.declared.character.Kind.TheVariants.{Space}
use Rattle.html_render_layout_lines.specs.declared.character.TextStyle.{TextStyle}
use Rattle.html_render_layout_lines.specs.declared.line.Element.TheVariants as element
use Rattle.html_render_layout_lines.specs.Character.{kind, width_of, tag_on, character_of}
use Rattle.html_render_layout_paragraphs.specs.Feeding.{IsStretch, IsFront, placed_text_and_space, with_words}
use Rattle.html_render_layout_lines.specs.Line.{Line, columns, word_columns, is_empty}
use Rattle.html_render_layout_paragraphs.specs.Paragraph.{LineBuffer, Setting, fits, put_items, continued}
use Rattle.html_render_layout_paragraphs.specs.Placing.{put_word}
use Rattle.html_render_layout_paragraphs.specs.Stream.{State, after, styled, with_pending}
use Rattle.html_render_layout_lines.specs.TaggedText.{text_columns, under, style_tag}
use Rattle.html_render_layout_lines.specs.laws.Cases.{if_true, if_false}
use Rattle.html_render_layout_lines.specs.laws.Columns.{width-space, columns-append, columns-under}
use Rattle.html_render_layout_paragraphs.proofs.Stretches.{after-word, some-chars, chars-ascii, first-character}
use Rattle.html_render_layout_paragraphs.proofs.PageColumns.{columns-push_space}
use Rattle.html_render_layout_paragraphs.proofs.WordColumns.{word_columns-styled}
use Rattle.html_render_layout_paragraphs.proofs.WholeWords.{put_items-text}
use Rattle.std.specs.Prelude.{encode_utf8}
use Rattle.html_render_layout_lines.specs.declared.character.Item.TheVariants as item
use Rattle.html_render_layout_paragraphs.specs.laws.Whole.{put_items-append}

-- ---- One word after a space

-- A word after a space, both of which fit on a line that isn't empty.
put_word-here : {T M : Type 0} (s : Setting) (lines : List (Line T M)) (line : Line T M) (k : Bool) (style : TextStyle T)
    (a : ℕ) (cs : List ℕ) → 0 < length line → columns line + (1 + text_columns cs) ≤ s.width → 0 < length cs →
    put_word s (record { lines = lines; line = line; continues = k; waiting = [] }) (Some (character_of style a)) (styled style cs)
    ≡ Some (record {
      lines = lines;
      line = line ++ element.Character 32 (style_tag k style) ∷ under (style_tag k style) cs;
      continues = k;
      waiting = [];
    })
put_word-here {T} {M} s lines line k style a cs long room some =
    let page : LineBuffer T M = record { lines = lines; line = line; continues = k; waiting = [] } in
    let space : Line T M = element.Character 32 (tag_on k (character_of style a)) ∷ [] in
    let next : LineBuffer T M = record page { line = line ++ space } in
    let text : Line T M = under (style_tag k style) cs in
    let width : word_columns {M = M} (styled style cs) ≡ text_columns cs = word_columns-styled M style cs in
    let grown : columns next.line ≡ columns line + 1 = columns-push_space line (tag_on k (character_of style a)) in
    let here : fits s next (word_columns {M = M} (styled style cs)) ≡ true = le-leb _ _ (omega (arith, room, width, grown)) in
    let there : fits s next (text_columns cs) ≡ true = le-leb _ _ (omega (arith, room, grown)) in
    ap (λ (p : LineBuffer T M). put_items s (if fits s p (word_columns {M = M} (styled style cs)) then p else continued page) (styled style cs))
    (if_false (is_empty line) page next (ne_eqb (length line) 0 (λ e. omega (arith, e))))
    ∙ ap (λ (p : LineBuffer T M). put_items s p (styled style cs)) (if_true _ next (continued page) here)
    ∙ put_items-text s next style cs there some
    ∙ ap (λ (l : Line T M). Some (record page { line = l })) (append_assoc next.line [] text ∙ append_assoc line space text)

-- A word after a space, both of which fit, and the space after the word.
fitting_word : {T M : Type 0} (st : State T M) (style : TextStyle T) (a b : ℕ) (cs : List ℕ) → 0 < length st.page.line →
    st.page.waiting ≡ [] →
    st.pending ≡ Some (character_of style a) → columns st.page.line + (1 + text_columns cs) ≤ st.setting.width → 0 < length cs →
    placed_text_and_space st style cs b
    ≡ Some (record st {
      page = record st.page {
        line = st.page.line ++ element.Character 32 (style_tag st.page.continues style) ∷ under (style_tag st.page.continues style) cs;
      };
      pending = Some (character_of style b);
    })
fitting_word {T} {M} st style a b cs some none due room low = by st.page.line st.page.waiting st.pending some none due room
  where
    by : (line : Line T M) (ms : List M) (pending : Option (Character T)) → 0 < length line → ms ≡ [] →
        pending ≡ Some (character_of style a) → columns line + (1 + text_columns cs) ≤ st.setting.width →
        option_map (λ (t : State T M). with_pending t (character_of style b))
        (option_map (λ (p : LineBuffer T M). record st { page = p; pending = None })
        (put_word st.setting (record { lines = st.page.lines; line = line; continues = st.page.continues; waiting = ms }) pending
        (styled style cs)))
        ≡ Some (record st {
          page = record {
            lines = st.page.lines;
            line = line ++ element.Character 32 (style_tag st.page.continues style) ∷ under (style_tag st.page.continues style) cs;
            continues = st.page.continues;
            waiting = ms;
          };
          pending = Some (character_of style b);
        })
    by line ms pending some none due room =
        rw (none, due) (ap (λ (o : Option (LineBuffer T M)). option_map (λ (t : State T M). with_pending t (character_of style b))
        (option_map (λ (p : LineBuffer T M). record st { page = p; pending = None }) o))
        (put_word-here st.setting st.page.lines line st.page.continues style a cs some room low))

-- ---- Words of a text

split : (bs : List ℕ) (n k : ℕ) → IsUtf8 (take n bs) → n < length bs → get_or bs n 0 ≡ 32 →
    chars (take (n + 1 + k) bs) ≡ chars (take n bs) ++ 32 ∷ chars (take k (drop (n + 1) bs))
split bs n k u high space =
    let next : n + 1 ≡ suc n = omega arith in
    let sum : n + 1 + k ≡ n + suc k = omega arith in
    let whole : drop n bs ≡ 32 ∷ drop (n + 1) bs = drop-cons bs n 0 high ∙ rw (next, space) refl in
    ap (λ m. chars (take m bs)) sum
    ∙ ap chars (take-add n (suc k) bs ∙ ap (λ r. take n bs ++ take (suc k) r) whole)
    ∙ chars-append (take n bs) (32 ∷ take k (drop (n + 1) bs)) u
    ∙ ap (λ cs. chars (take n bs) ++ cs) (chars-ascii 32 (take k (drop (n + 1) bs)) (omega arith))

-- A leading part of a text, with a space and the letters after it.
pub next-words : (mode : WhiteSpace) (bs : List ℕ) (n w k v : ℕ) → IsUtf8 bs → IsFront bs n w → n < length bs → get_or bs n 0 ≡ 32 →
    IsStretch mode (drop (n + 1) bs) k v → IsFront bs (n + 1 + k) (w + 1 + v)
next-words mode bs n w k v u front high space are =
    let whole = split bs n k (IsUtf8-take bs n u front.boundary) high space in
    let longer : n + 1 ≤ length bs = omega arith in
    record {
      within = omega (arith, are.within, length-drop (n + 1) bs);
      boundary = IsCharBoundary-from_rest bs (n + 1) k longer are.boundary;
      columns = omega (
        arith,
        front.columns,
        are.columns,
        ap text_columns whole,
        sum_by-append width_of (chars (take n bs)) (32 ∷ chars (take k (drop (n + 1) bs))),
        sum_by-append width_of (32 ∷ []) (chars (take k (drop (n + 1) bs))),
        width-space,
      );
    }

-- State with one more word on the line.
one_more : {T M : Type 0} (st : State T M) (style : TextStyle T) (bs : List ℕ) (n k : ℕ) → IsUtf8 (take n bs) → n < length bs →
    get_or bs n 0 ≡ 32 → record (with_words st style bs n) {
      page = record (with_words st style bs n).page {
        line =
            (with_words st style bs n).page.line
            ++ element.Character 32 (style_tag st.page.continues style)
            ∷ under (style_tag st.page.continues style) (chars (take k (drop (n + 1) bs)));
      };
      pending = Some (character_of style (get_or (drop (n + 1) bs) k 0));
    }
    ≡ with_words st style bs (n + 1 + k)
one_more {T} {M} st style bs n k u high space =
    let tag : T = style_tag st.page.continues style in
    let front : List ℕ = chars (take n bs) in
    let word : List ℕ = chars (take k (drop (n + 1) bs)) in
    let line : (st.page.line ++ under tag front) ++ element.Character 32 tag ∷ under tag word
    ≡ st.page.line ++ under {M = M} tag (chars (take (n + 1 + k) bs)) =
    append_assoc st.page.line (under tag front) (element.Character 32 tag ∷ under tag word)
    ∙ ap (λ (l : Line T M). st.page.line ++ l) (sym (map-append (λ c. element.Character c tag) front (32 ∷ word)))
    ∙ ap (λ cs. st.page.line ++ under {M = M} tag cs) (sym (split bs n k u high space)) in
    ap (λ (l : Line T M). record (with_words st style bs n) {
      page = record (with_words st style bs n).page { line = l };
      pending = Some (character_of style (get_or (drop (n + 1) bs) k 0));
    }) line
    ∙ ap (λ b. record (with_words st style bs (n + 1 + k)) { pending = Some (character_of style b) }) (get_or-drop (n + 1) bs k 0)

pub next-fed : {T M : Type 0} (st : State T M) (style : TextStyle T) (bs : List ℕ) (n w k v : ℕ) → IsUtf8 bs → style.mode ≡ Normal →
    IsFront bs n w → n < length bs → get_or bs n 0 ≡ 32 →
    IsStretch style.mode (drop (n + 1) bs) k v → 0 < k → n + 1 + k < length bs → get_or bs (n + 1 + k) 0 < 128 →
    kind Normal (get_or bs (n + 1 + k) 0) ≡ Space → st.open_word ≡ None → st.word ≡ [] → 0 < length st.page.line → st.page.waiting ≡ [] →
    columns st.page.line + (w + (1 + v)) ≤ st.setting.width → after (with_words st style bs n) (styled style (chars (drop (n + 1) bs)))
    ≡ after (with_words st style bs (n + 1 + k)) (styled style (chars (drop (n + 1 + k + 1) bs)))
next-fed {T} {M} st style bs n w k v u mode front high space are low more byte behind closed empty some none room =
    let rest : List ℕ = drop (n + 1) bs in
    let now : State T M = with_words st style bs n in
    let small : get_or bs n 0 < 128 = omega (arith, space) in
    let text : IsUtf8 rest = IsUtf8-drop bs (n + 1) u (IsCharBoundary-after_ascii bs n u high small) in
    let before : IsUtf8 (take n bs) = IsUtf8-take bs n u front.boundary in
    let there : get_or rest k 0 ≡ get_or bs (n + 1 + k) 0 = get_or-drop (n + 1) bs k 0 in
    let within : k < length rest = omega (arith, length-drop (n + 1) bs) in
    let word : List ℕ = chars (take k rest) in
    let letters : 0 < length word =
    some-chars (take k rest) (IsUtf8-take rest k text are.boundary) (simp length-take (omega (arith, within))) in
    let tag : T = style_tag st.page.continues style in
    let line : Line T M = under tag (chars (take n bs)) in
    let grown : columns now.page.line ≡ columns st.page.line + w =
    omega (arith, columns-append st.page.line line, columns-under M tag (chars (take n bs)), front.columns) in
    let longer : 0 < length now.page.line = omega (arith, length-append st.page.line line) in
    let fit : columns now.page.line + (1 + text_columns word) ≤ now.setting.width = omega (arith, grown, are.columns) in
    let end : n + 1 + (k + 1) ≡ n + 1 + k + 1 = omega arith in
    let all : k ≡ k - 0 = omega arith in
    after-word now style rest (take k rest) k v text mode are low within (rw there byte) (rw there behind) closed empty (ap (λ m. take m rest) all)
    ∙ ap (option_and_then (λ (t : State T M). after t (styled style (chars (drop (k + 1) rest)))))
    (fitting_word now style (get_or bs n 0) (get_or rest k 0) word longer none refl fit letters)
    ∙ ap (λ (t : State T M). after t (styled style (chars (drop (k + 1) rest)))) (one_more st style bs n k before high space)
    ∙ ap (λ r. after (with_words st style bs (n + 1 + k)) (styled style (chars r)))
    (drop-drop (k + 1) (n + 1) bs ∙ ap (λ m. drop m bs) end)

-- ---- No word, and placed words

pub no-words : {T M : Type 0} (st : State T M) (style : TextStyle T) (bs : List ℕ) → st.pending ≡ Some (character_of style (get_or bs 0 0)) →
    with_words st style bs 0 ≡ st
no-words {T} {M} st style bs due =
    let tag : T = style_tag st.page.continues style in
    let line : st.page.line ++ under {M = M} tag (chars []) ≡ st.page.line =
    ap (λ cs. st.page.line ++ under {M = M} tag cs) chars-nil ∙ append-nil st.page.line in
    ap (λ (l : Line T M). record st { page = record st.page { line = l }; pending = Some (character_of style (get_or bs 0 0)) }) line
    ∙ ap (λ (p : Option (Character T)). record st { pending = p }) (sym due)

pub put-words : {T M : Type 0} (st : State T M) (style : TextStyle T) (bs : List ℕ) (n : ℕ) → st.page.waiting ≡ [] → record st {
  page = record st.page {
    line =
        (st.page.line ++ map (λ (m : M). element.Mark m) st.page.waiting)
        ++ under (style_tag st.page.continues style) (chars (take n bs));
    waiting = [];
  };
  pending = Some (character_of style (get_or bs n 0));
}
    ≡ with_words st style bs n
put-words {T} {M} st style bs n none = by st.page.waiting none
  where
    by : (ms : List M) → ms ≡ [] → record st {
      page = record st.page {
        line =
            (st.page.line ++ map (λ (m : M). element.Mark m) ms)
            ++ under (style_tag st.page.continues style) (chars (take n bs));
        waiting = [];
      };
      pending = Some (character_of style (get_or bs n 0));
    }
        ≡ record st {
          page = record st.page {
            line = st.page.line ++ under (style_tag st.page.continues style) (chars (take n bs));
            waiting = ms;
          };
          pending = Some (character_of style (get_or bs n 0));
        }
    by ms e =
        rw e (ap (λ (l : Line T M). record st {
          page = record st.page {
            line = l ++ under (style_tag st.page.continues style) (chars (take n bs));
            waiting = [];
          };
          pending = Some (character_of style (get_or bs n 0));
        }) (append-nil st.page.line))

-- State after a placed word and the space after it.
pub after-placed : {T M : Type 0} (st t : State T M) (style : TextStyle T) (cs : List ℕ) (b : ℕ) →
    placed_text_and_space st style cs b ≡ Some t →
    (t.open_word ≡ st.open_word) × (t.word ≡ st.word) × (t.pending ≡ Some (character_of style b))
after-placed {T} {M} st t style cs b e = by (put_word st.setting st.page st.pending (styled style cs)) e
  where
    by : (o : Option (LineBuffer T M)) → option_map (λ (t : State T M). with_pending t (character_of style b))
        (option_map (λ (p : LineBuffer T M). record st { page = p; pending = None }) o)
        ≡ Some t → (t.open_word ≡ st.open_word) × (t.word ≡ st.word) × (t.pending ≡ Some (character_of style b))
    by None e = cc
    by (Some p) e =
        let same : record st { page = p; pending = Some (character_of style b) } ≡ t = cc in
        (ap (λ (x : State T M). x.open_word) (sym same), ap (λ (x : State T M). x.word) (sym same), ap (λ (x : State T M). x.pending) (sym same))

-- ---- leading parts of a text that are appended to a line as a whole

pub no-front : (bs : List ℕ) → IsUtf8 bs → IsFront bs 0 0
no-front bs u = record {
  within = omega arith;
  boundary = IsCharBoundary-start bs u;
  columns = sym (ap text_columns chars-nil);
}

-- A leading part of a text, and a leading part of the rest.
pub more-front : (bs : List ℕ) (n k w v : ℕ) → IsUtf8 bs → IsFront bs n w → IsFront (drop n bs) k v → IsFront bs (n + k) (w + v)
more-front bs n k w v u front rest =
    let whole : chars (take (n + k) bs) ≡ chars (take n bs) ++ chars (take k (drop n bs)) =
    ap chars (take-add n k bs) ∙ chars-append (take n bs) (take k (drop n bs)) (IsUtf8-take bs n u front.boundary) in
    record {
      within = omega (arith, front.within, rest.within, length-drop n bs);
      boundary = IsCharBoundary-from_rest bs n k front.within rest.boundary;
      columns = omega (
        arith,
        front.columns,
        rest.columns,
        ap text_columns whole,
        sum_by-append width_of (chars (take n bs)) (chars (take k (drop n bs))),
      );
    }

-- A leading part with the character after it.
pub next-front : (bs rest : List ℕ) (n w c v : ℕ) → IsUtf8 bs → IsFront bs n w → drop n bs ≡ encode_utf8 c ++ rest → IsUtf8 rest →
    v ≡ width_of c → IsFront bs (length bs - length rest) (w + v)
next-front bs rest n w c v u front e behind f =
    let one = first-character (drop n bs) rest c (IsUtf8-drop bs n u front.boundary) behind e in
    let longer : length bs ≡ n + (length (encode_utf8 c) + length rest) =
    omega (arith, front.within, length-drop n bs, ap length e, length-append (encode_utf8 c) rest) in
    let count : length bs - length rest ≡ n + length (encode_utf8 c) = omega (arith, longer) in
    subst (λ m. IsFront bs m (w + v)) (sym count) (more-front bs n (length (encode_utf8 c)) w v u front (record {
      within = omega (arith, ap length e, length-append (encode_utf8 c) rest);
      boundary = one.0;
      columns = omega (arith, f, ap text_columns one.1);
    }))

-- Placing a text whose leading part fits is appending that part and then placing the rest.
pub put_items-front : {T M : Type 0} (s : Setting) (page : LineBuffer T M) (style : TextStyle T) (bs : List ℕ) (n w : ℕ) → IsUtf8 bs →
    IsFront bs n w → fits s page w ≡ true → 0 < length (chars (take n bs)) → put_items s page (styled style (chars bs))
    ≡ put_items s (record page {
      line =
          (page.line ++ map (λ (m : M). element.Mark m) page.waiting)
          ++ under (style_tag page.continues style) (chars (take n bs));
      waiting = [];
    }) (styled style (chars (drop n bs)))
put_items-front {T} {M} s page style bs n w u front e some =
    let cs : List ℕ = chars (take n bs) in
    let ds : List ℕ = chars (drop n bs) in
    let split : chars bs ≡ cs ++ ds =
    ap chars (sym (take-append-drop n bs)) ∙ chars-append (take n bs) (drop n bs) (IsUtf8-take bs n u front.boundary) in
    ap (λ xs. put_items s page (styled style xs)) split
    ∙ ap (put_items s page) (map-append (λ c. item.Character (character_of style c)) cs ds)
    ∙ put_items-append s page (styled style cs) (styled style ds)
    ∙ ap (option_and_then (λ (p : LineBuffer T M). put_items s p (styled style ds)))
    (put_items-text s page style cs (ap (fits s page) (sym front.columns) ∙ e) some)
