-- Lines in the fields of a buffer: they are read back, and what is appended to the fields is appended to them.
use Rattle.std.proofs.Common.{◌≡◌, ℕ, zero, suc, ◌+◌, ◌-◌, ◌<◌, ◌≤◌, ◌&&◌, true, Option, Some, List, [], ◌∷◌, ◌++◌, map, take, drop, length, get_or, refl, sym, ap, ◌∙◌, subst, arith, append_assoc, append-nil, length-append}
use Rattle.std.specs.Prelude.{replicate, encode_utf8}
use Rattle.std.specs.Str.{chars, IsUtf8, IsCharBoundary, encode_utf8_all}
use Rattle.std.proofs.Math.Seq.{drop-cons}
use Rattle.std.proofs.Math.Utf8.{scalar, scalars}
use Rattle.std.proofs.lemmas.List.{take_at, drop_at, replicate-append-replicate, take-append-drop, take_more, drop-take, take_all, length-take-le}
use Rattle.std.proofs.lemmas.List.Concat.{flat_map-append}
use Rattle.std.proofs.lemmas.Str.{chars_past_char, IsUtf8-past_char, IsUtf8-append, IsUtf8-nil, IsUtf8-from_ascii, IsCharBoundary-at_seam, encodes-chars, length-encode, len_utf8_bounds}
use Rattle.html_render_layout_lines.specs.declared.line.Element.{Element}
use Rattle.html_render_layout_lines.specs.declared.line.Element.TheVariants as element
use Rattle.html_render_layout_lines.specs.Line.{Line, columns, text_bytes, bytes_of}
use Rattle.html_render_layout_lines.specs.TaggedText.{counted, under, text_columns}
use Rattle.html_render_layout_lines.specs.laws.Columns.{columns-append, columns-under, columns-single}
use Rattle.html_render_layout_lines.specs.Character.{width_of}
use Rattle.html_render_layout_buffer.specs.declared.slot.Slot.{Slot}
use Rattle.html_render_layout_buffer.specs.declared.slot.Slot.TheVariants as slot
use Rattle.html_render_layout_buffer.specs.declared.ends.LineEnd.{LineEnd}
use Rattle.html_render_layout_buffer.specs.declared.ends.LinePlace.{LinePlace}
use Rattle.html_render_layout_buffer.specs.Lines.{BufferedLines, lines_bytes}
use Rattle.html_render_layout_buffer.specs.Moved.{moved}
use Rattle.html_render_layout_buffer.specs.Fields.{slots_of, line_slots, lines_slots, line_ends, AllUtf8, Fields, IsStored, elements_read, lines_read, buffered, HoldLines, no_end, place_after, place_of, IsTextPlace}

-- ---- the lines are read back

-- the other bytes of a character
read-skipped : {T M : Type 0} (k : ℕ) (tag : T) (cs : List ℕ) (ss : List (Slot T M)) →
    elements_read k cs (replicate k (slot.Byte tag) ++ ss) ≡ elements_read 0 cs ss
read-skipped zero tag cs ss = refl
read-skipped (suc k) tag cs ss = read-skipped k tag cs ss

-- a character has one byte at least
read-character : {T M : Type 0} (c : ℕ) (tag : T) (cs : List ℕ) (n : ℕ) (ss : List (Slot T M)) → n ≡ length (encode_utf8 c) →
    elements_read 0 (c ∷ cs) (replicate n (slot.Byte tag) ++ ss) ≡ element.Character c tag ∷ elements_read 0 cs ss
read-character c tag cs zero ss e = absurd (omega (arith, e, length-encode c, (len_utf8_bounds c).0))
read-character {T} {M} c tag cs (suc n) ss e =
    let k : length (encode_utf8 c) - 1 ≡ n = omega (arith, e) in
    ap (λ (y : Line T M). element.Character c tag ∷ y)
    (ap (λ i. elements_read i cs (replicate n (slot.Byte tag) ++ ss)) k ∙ read-skipped n tag cs ss)

pub line-read : {T M : Type 0} (l : Line T M) → IsUtf8 (text_bytes l) → elements_read 0 (chars (text_bytes l)) (line_slots l) ≡ l
line-read [] utf8 = refl
line-read {T} {M} (element.Mark m ∷ l) utf8 = ap (λ (y : Line T M). element.Mark m ∷ y) (line-read l utf8)
line-read {T} {M} (element.Character c tag ∷ l) utf8 =
    let whole : List ℕ = encode_utf8 c ++ text_bytes l in
    let rest = line-read l (IsUtf8-past_char whole (text_bytes l) c utf8 refl) in
    ap (λ cs. elements_read {T = T} {M = M} 0 cs (replicate (length (encode_utf8 c)) (slot.Byte tag) ++ line_slots l))
    (chars_past_char whole (text_bytes l) c utf8 refl)
    ∙ read-character c tag (chars (text_bytes l)) (length (encode_utf8 c)) (line_slots l) refl
    ∙ ap (λ (y : Line T M). element.Character c tag ∷ y) rest

lines-read : {T M : Type 0} (ls : List (Line T M)) (front rest : List ℕ) (before after : List (Slot T M)) (at from : ℕ) → length front ≡ at →
    length before ≡ from → AllUtf8 ls →
    lines_read at from (line_ends at from ls) (front ++ (lines_bytes ls ++ rest)) (before ++ (lines_slots ls ++ after)) ≡ ls
lines-read [] front rest before after at from e f utf8 = refl
lines-read {T} {M} (x ∷ ls) front rest before after at from e f utf8 =
    let bs : List ℕ = front ++ (((text_bytes x ++ 10 ∷ []) ++ lines_bytes ls) ++ rest) in
    let ss : List (Slot T M) = before ++ ((line_slots x ++ lines_slots ls) ++ after) in
    let end = at + length (text_bytes x) + 1 in
    let last = from + length (line_slots x) in
    let whole : bs ≡ (front ++ text_bytes x) ++ (10 ∷ (lines_bytes ls ++ rest)) = simp append_assoc in
    let next : bs ≡ (front ++ (text_bytes x ++ 10 ∷ [])) ++ (lines_bytes ls ++ rest) = simp append_assoc in
    let slots : ss ≡ (before ++ line_slots x) ++ (lines_slots ls ++ after) = simp append_assoc in
    let text : drop at (take (end - 1) bs) ≡ text_bytes x = ap (λ y. drop at (take (end - 1) y)) whole
    ∙ ap (λ y. drop at y) (take_at (front ++ text_bytes x) (10 ∷ (lines_bytes ls ++ rest)) (end - 1) (omega (arith, e, length-append front (text_bytes x))))
    ∙ drop_at front (text_bytes x) at e in
    let own : drop from (take last ss) ≡ line_slots x = ap (λ y. drop from (take last y)) slots
    ∙ ap (λ y. drop from y) (take_at (before ++ line_slots x) (lines_slots ls ++ after) last (omega (arith, f, length-append before (line_slots x))))
    ∙ drop_at before (line_slots x) from f in
    let first : elements_read 0 (chars (drop at (take (end - 1) bs))) (drop from (take last ss)) ≡ x =
    ap (λ y. elements_read 0 (chars y) (drop from (take last ss))) text
    ∙ ap (λ (y : List (Slot T M)). elements_read 0 (chars (text_bytes x)) y) own ∙ line-read x utf8.0 in
    let others : lines_read end last (line_ends end last ls) bs ss ≡ ls =
    ap (λ y. lines_read end last (line_ends end last ls) y ss) next
    ∙ ap (λ (y : List (Slot T M)). lines_read end last (line_ends end last ls) ((front ++ (text_bytes x ++ 10 ∷ [])) ++ (lines_bytes ls ++ rest)) y) slots
    ∙ lines-read ls (front ++ (text_bytes x ++ 10 ∷ [])) rest (before ++ line_slots x) after end last
    (omega (arith, e, length-append front (text_bytes x ++ 10 ∷ []), length-append (text_bytes x) (10 ∷ [])))
    (omega (arith, f, length-append before (line_slots x))) utf8.1 in
    cc (first, others)

pub made : {T M : Type 0} (f : Fields T M) (ls : List (Line T M)) (l : Line T M) → IsStored f ls l → buffered f ≡ record { lines = ls; line = l }
made {T} {M} f ls l is =
    let lines : lines_read 0 0 f.ends f.text f.slots ≡ ls =
    rw (is.ends, is.text, is.slots) (lines-read ls [] (text_bytes l) [] (line_slots l) 0 0 refl refl is.ended_utf8) in
    let text : drop f.start f.text ≡ text_bytes l = rw is.text (drop_at (lines_bytes ls) (text_bytes l) f.start (sym is.start)) in
    let slots : drop f.slot_start f.slots ≡ line_slots l = rw is.slots (drop_at (lines_slots ls) (line_slots l) f.slot_start (sym is.slot_start)) in
    let line : elements_read 0 (chars (drop f.start f.text)) (drop f.slot_start f.slots) ≡ l =
    ap (λ y. elements_read 0 (chars y) (drop f.slot_start f.slots)) text
    ∙ ap (λ (y : List (Slot T M)). elements_read 0 (chars (text_bytes l)) y) slots ∙ line-read l is.open_utf8 in
    cc (lines, line)

pub is-stored : {T M : Type 0} (f : Fields T M) (ls : List (Line T M)) (l : Line T M) → IsStored f ls l → HoldLines f
is-stored {T} {M} f ls l is = subst (λ (b : BufferedLines T M). IsStored f b.lines b.line) (sym (made f ls l is)) is

pub opened : {T M : Type 0} (f : Fields T M) (b : BufferedLines T M) → HoldLines f → buffered f ≡ b → IsStored f b.lines b.line
opened {T} {M} f b is e = subst (λ (b : BufferedLines T M). IsStored f b.lines b.line) e is

-- the same where the open line is empty
pub closed : {T M : Type 0} (f : Fields T M) (b : BufferedLines T M) → HoldLines f → buffered f ≡ b → b.line ≡ [] → IsStored f b.lines []
closed {T} {M} f b e is none = subst (λ (l : Line T M). IsStored f b.lines l) none (opened f b e is)

-- ---- parts that are put together

pub bytes-append : {T M : Type 0} (l m : Line T M) → text_bytes (l ++ m) ≡ text_bytes l ++ text_bytes m
bytes-append {T} {M} l m = flat_map-append (λ (e : Element T M). bytes_of e) l m

pub slots-append : {T M : Type 0} (l m : Line T M) → line_slots (l ++ m) ≡ line_slots l ++ line_slots m
slots-append {T} {M} l m = flat_map-append (λ (e : Element T M). slots_of e) l m

pub lines_bytes-append : {T M : Type 0} (ls ms : List (Line T M)) → lines_bytes (ls ++ ms) ≡ lines_bytes ls ++ lines_bytes ms
lines_bytes-append {T} {M} ls ms = flat_map-append (λ (l : Line T M). text_bytes l ++ 10 ∷ []) ls ms

pub lines_slots-append : {T M : Type 0} (ls ms : List (Line T M)) → lines_slots (ls ++ ms) ≡ lines_slots ls ++ lines_slots ms
lines_slots-append {T} {M} ls ms = flat_map-append (λ (l : Line T M). line_slots l) ls ms

utf8-append : {T M : Type 0} (ls ms : List (Line T M)) → AllUtf8 ls → AllUtf8 ms → AllUtf8 (ls ++ ms)
utf8-append [] ms t u = u
utf8-append (l ∷ ls) ms t u = (t.0, utf8-append ls ms t.1 u)

utf8-at : {T M : Type 0} (ls : List (Line T M)) (n : ℕ) → AllUtf8 ls → n < length ls → IsUtf8 (text_bytes (get_or ls n []))
utf8-at [] n t h = absurd (omega arith)
utf8-at (l ∷ ls) zero t h = t.0
utf8-at (l ∷ ls) (suc n) t h = utf8-at ls n t.1 (omega arith)

IsUtf8-newline : IsUtf8 (10 ∷ [])
IsUtf8-newline = IsUtf8-from_ascii (10 ∷ []) low
  where
    low : (i : ℕ) → get_or (10 ∷ []) i 0 < 128
    low zero = omega arith
    low (suc i) = omega arith

utf8-lines : {T M : Type 0} (ls : List (Line T M)) (rest : List ℕ) → AllUtf8 ls → IsUtf8 rest → IsUtf8 (lines_bytes ls ++ rest)
utf8-lines [] rest t u = u
utf8-lines {T} {M} (l ∷ ls) rest t u =
    let whole : text_bytes l ++ ((10 ∷ []) ++ (lines_bytes ls ++ rest)) ≡ ((text_bytes l ++ 10 ∷ []) ++ lines_bytes ls) ++ rest = simp append_assoc in
    subst IsUtf8 whole
    (IsUtf8-append (text_bytes l) ((10 ∷ []) ++ (lines_bytes ls ++ rest)) t.0
    (IsUtf8-append (10 ∷ []) (lines_bytes ls ++ rest) IsUtf8-newline (utf8-lines ls rest t.1 u)))

pub ends-append : {T M : Type 0} (ls ms : List (Line T M)) (at from : ℕ) →
    line_ends at from (ls ++ ms) ≡ line_ends at from ls ++ line_ends (at + length (lines_bytes ls)) (from + length (lines_slots ls)) ms
ends-append [] ms at from =
    let e : at ≡ at + 0 = omega arith in
    let f : from ≡ from + 0 = omega arith in
    ap (λ k. line_ends k from ms) e ∙ ap (λ k. line_ends (at + 0) k ms) f
ends-append {T} {M} (x ∷ ls) ms at from =
    let end = at + length (text_bytes x) + 1 in
    let last = from + length (line_slots x) in
    let e : end + length (lines_bytes ls) ≡ at + length ((text_bytes x ++ 10 ∷ []) ++ lines_bytes ls) =
    omega (arith, length-append (text_bytes x ++ 10 ∷ []) (lines_bytes ls), length-append (text_bytes x) (10 ∷ [])) in
    let f : last + length (lines_slots ls) ≡ from + length (line_slots x ++ lines_slots ls) = omega (arith, length-append (line_slots x) (lines_slots ls)) in
    let own : LineEnd = record { text = end; slots = last; columns = counted (columns x) } in
    ap (λ ks. own ∷ ks) (ends-append ls ms end last
    ∙ ap (λ k. line_ends end last ls ++ line_ends k (last + length (lines_slots ls)) ms) e
    ∙ ap (λ k. line_ends end last ls ++ line_ends (at + length ((text_bytes x ++ 10 ∷ []) ++ lines_bytes ls)) k ms) f)

pub ends-moved : {T M : Type 0} (ms : List (Line T M)) (text slots at from : ℕ) →
    line_ends (text + at) (slots + from) ms ≡ map (moved text slots) (line_ends at from ms)
ends-moved [] text slots at from = refl
ends-moved (x ∷ ms) text slots at from =
    let e : text + at + length (text_bytes x) + 1 ≡ text + (at + length (text_bytes x) + 1) = omega arith in
    let f : slots + from + length (line_slots x) ≡ slots + (from + length (line_slots x)) = omega arith in
    let rest = ends-moved ms text slots (at + length (text_bytes x) + 1) (from + length (line_slots x)) in
    rw (e, f, rest) refl

-- ---- the fields grow

-- elements on the open line
pub added : {T M : Type 0} (f : Fields T M) (ls : List (Line T M)) (l m : Line T M) (bs : List ℕ) (ss : List (Slot T M)) (count : Option ℕ) →
    IsStored f ls l → IsUtf8 (text_bytes m) → bs ≡ f.text ++ text_bytes m → ss ≡ f.slots ++ line_slots m → count ≡ counted (columns l + columns m) →
    IsStored (record f { text = bs; slots = ss; columns = count }) ls (l ++ m)
added f ls l m bs ss count is utf8 e g h = record {
  text = rw (e, is.text, bytes-append l m) (append_assoc (lines_bytes ls) (text_bytes l) (text_bytes m));
  slots = rw (g, is.slots, slots-append l m) (append_assoc (lines_slots ls) (line_slots l) (line_slots m));
  ends = is.ends;
  start = is.start;
  slot_start = is.slot_start;
  columns = h ∙ ap counted (sym (columns-append l m));
  ended_utf8 = is.ended_utf8;
  open_utf8 = subst IsUtf8 (sym (bytes-append l m)) (IsUtf8-append (text_bytes l) (text_bytes m) is.open_utf8 utf8);
}

-- the end of the open line
pub line-ended : {T M : Type 0} (f : Fields T M) (ls : List (Line T M)) (l : Line T M) (bs : List ℕ) (es : List LineEnd) (end last : ℕ) →
    IsStored f ls l → bs ≡ f.text ++ 10 ∷ [] → end ≡ length bs → last ≡ length f.slots →
    es ≡ f.ends ++ record { text = end; slots = last; columns = f.columns } ∷ [] →
    IsStored (record f { text = bs; ends = es; start = end; slot_start = last; columns = Some 0 }) (ls ++ l ∷ []) []
line-ended {T} {M} f ls l bs es end last is e g h k =
    let whole : bs ≡ lines_bytes (ls ++ l ∷ []) = rw (e, is.text, lines_bytes-append ls (l ∷ [])) (simp (append_assoc, append-nil)) in
    let slots : f.slots ≡ lines_slots (ls ++ l ∷ []) = rw (is.slots, lines_slots-append ls (l ∷ [])) (simp append-nil) in
    let place : end ≡ 0 + length (lines_bytes ls) + length (text_bytes l) + 1 =
    omega (arith, g, ap length e, length-append f.text (10 ∷ []), ap length is.text, length-append (lines_bytes ls) (text_bytes l)) in
    let slot_place : last ≡ 0 + length (lines_slots ls) + length (line_slots l) =
    omega (arith, h, ap length is.slots, length-append (lines_slots ls) (line_slots l)) in
    record {
      text = whole ∙ sym (append-nil (lines_bytes (ls ++ l ∷ [])));
      slots = slots ∙ sym (append-nil (lines_slots (ls ++ l ∷ [])));
      ends = rw (k, is.ends, is.columns, place, slot_place) (sym (ends-append ls (l ∷ []) 0 0));
      start = g ∙ ap length whole;
      slot_start = h ∙ ap length slots;
      columns = refl;
      ended_utf8 = utf8-append ls (l ∷ []) is.ended_utf8 (is.open_utf8, tt);
      open_utf8 = IsUtf8-nil;
    }

-- others' lines and their open line
pub appended : {T M : Type 0} (f g : Fields T M) (ls ms : List (Line T M)) (m : Line T M) (start slot_start : ℕ) → IsStored f ls [] → IsStored g ms m →
    start ≡ length f.text + g.start → slot_start ≡ length f.slots + g.slot_start →
    IsStored (record {
      text = f.text ++ g.text;
      slots = f.slots ++ g.slots;
      ends = f.ends ++ map (moved (length f.text) (length f.slots)) g.ends;
      start = start;
      slot_start = slot_start;
      columns = g.columns;
    }) (ls ++ ms) m
appended {T} {M} f g ls ms m start slot_start is other e h =
    let text : f.text ≡ lines_bytes ls = is.text ∙ append-nil (lines_bytes ls) in
    let slots : f.slots ≡ lines_slots ls = is.slots ∙ append-nil (lines_slots ls) in
    let zero_text : length f.text ≡ length f.text + 0 = omega arith in
    let zero_slots : length f.slots ≡ length f.slots + 0 = omega arith in
    let place : 0 + length (lines_bytes ls) ≡ length f.text + 0 = omega (arith, ap length text) in
    let slot_place : 0 + length (lines_slots ls) ≡ length f.slots + 0 = omega (arith, ap length slots) in
    record {
      text = rw (text, other.text, lines_bytes-append ls ms) (sym (append_assoc (lines_bytes ls) (lines_bytes ms) (text_bytes m)));
      slots = rw (slots, other.slots, lines_slots-append ls ms) (sym (append_assoc (lines_slots ls) (lines_slots ms) (line_slots m)));
      ends = ap (λ y. y ++ map (moved (length f.text) (length f.slots)) g.ends) is.ends
          ∙ ap (λ y. line_ends 0 0 ls ++ map (moved (length f.text) (length f.slots)) y) other.ends
          ∙ ap (λ y. line_ends 0 0 ls ++ y) (sym (ends-moved ms (length f.text) (length f.slots) 0 0))
          ∙ ap (λ k. line_ends 0 0 ls ++ line_ends k (length f.slots + 0) ms) (sym place)
          ∙ ap (λ k. line_ends 0 0 ls ++ line_ends (0 + length (lines_bytes ls)) k ms) (sym slot_place)
          ∙ sym (ends-append ls ms 0 0);
      start = omega (arith, e, ap length text, other.start, ap length (lines_bytes-append ls ms), length-append (lines_bytes ls) (lines_bytes ms));
      slot_start = omega (arith, h, ap length slots, other.slot_start, ap length (lines_slots-append ls ms), length-append (lines_slots ls) (lines_slots ms));
      columns = other.columns;
      ended_utf8 = utf8-append ls ms is.ended_utf8 other.ended_utf8;
      open_utf8 = other.open_utf8;
    }

-- ---- a text under a tag

bytes-encoded : {T : Type 0} (M : Type 0) (tag : T) (cs : List ℕ) → text_bytes (under {M = M} tag cs) ≡ encode_utf8_all cs
bytes-encoded M tag [] = refl
bytes-encoded M tag (c ∷ cs) = ap (λ y. encode_utf8 c ++ y) (bytes-encoded M tag cs)

pub bytes-under : {T : Type 0} (M : Type 0) (tag : T) (bs : List ℕ) → IsUtf8 bs → text_bytes (under {M = M} tag (chars bs)) ≡ bs
bytes-under M tag bs utf8 = bytes-encoded M tag (chars bs) ∙ encodes-chars bs utf8

slots-encoded : {T : Type 0} (M : Type 0) (tag : T) (cs : List ℕ) →
    line_slots (under {M = M} tag cs) ≡ replicate (length (encode_utf8_all cs)) (slot.Byte tag)
slots-encoded M tag [] = refl
slots-encoded {T} M tag (c ∷ cs) =
    ap (λ (y : List (Slot T M)). replicate (length (encode_utf8 c)) (slot.Byte tag) ++ y) (slots-encoded M tag cs)
    ∙ replicate-append-replicate (length (encode_utf8 c)) (length (encode_utf8_all cs)) (slot.Byte tag)
    ∙ ap (λ n. replicate n (slot.Byte tag)) (sym (length-append (encode_utf8 c) (encode_utf8_all cs)))

pub slots-under : {T : Type 0} (M : Type 0) (tag : T) (bs : List ℕ) → IsUtf8 bs →
    line_slots (under {M = M} tag (chars bs)) ≡ replicate (length bs) (slot.Byte tag)
slots-under {T} M tag bs utf8 =
    let one : Slot T M = slot.Byte tag in
    slots-encoded M tag (chars bs) ∙ ap (λ (y : List ℕ). replicate (length y) one) (encodes-chars bs utf8)

-- a text on the open line
pub pushed : {T M : Type 0} (f : Fields T M) (ls : List (Line T M)) (l : Line T M) (bs : List ℕ) (ss : List (Slot T M)) (count : Option ℕ)
    (text : List ℕ) (tag : T) → IsUtf8 text → IsStored f ls l → bs ≡ f.text ++ text → ss ≡ f.slots ++ replicate (length text) (slot.Byte tag) →
    count ≡ counted (columns l + text_columns (chars text)) →
    IsStored (record f { text = bs; slots = ss; columns = count }) ls (l ++ under tag (chars text))
pushed {T} {M} f ls l bs ss count text tag utf8 is e g h =
    let bytes : text_bytes (under {M = M} tag (chars text)) ≡ text = bytes-under M tag text utf8 in
    added f ls l (under tag (chars text)) bs ss count is (subst IsUtf8 (sym bytes) utf8) (e ∙ ap (λ y. f.text ++ y) (sym bytes))
    (g ∙ ap (λ (y : List (Slot T M)). f.slots ++ y) (sym (slots-under M tag text utf8)))
    (h ∙ ap (λ k. counted (columns l + k)) (sym (columns-under M tag (chars text))))

-- a mark on the open line
pub marked : {T M : Type 0} (f : Fields T M) (ls : List (Line T M)) (l : Line T M) (ss : List (Slot T M)) (m : M) → IsStored f ls l →
    ss ≡ f.slots ++ replicate 1 (slot.Mark m) → IsStored (record f { slots = ss }) ls (l ++ element.Mark m ∷ [])
marked {T} {M} f ls l ss m is e =
    let same : columns l + 0 ≡ columns l = omega arith in
    added f ls l (element.Mark m ∷ []) f.text ss f.columns is IsUtf8-nil (sym (append-nil f.text)) e
    (is.columns ∙ ap counted (sym same))

-- ---- counts

length-ends : {T M : Type 0} (ls : List (Line T M)) (at from : ℕ) → length (line_ends at from ls) ≡ length ls
length-ends [] at from = refl
length-ends (x ∷ ls) at from = ap suc (length-ends ls (at + length (text_bytes x) + 1) (from + length (line_slots x)))

pub count-is : {T M : Type 0} (f : Fields T M) (ls : List (Line T M)) (l : Line T M) → IsStored f ls l → length f.ends ≡ length ls
count-is f ls l is = ap length is.ends ∙ length-ends ls 0 0

-- an ended line has an end
pub has-end : {T M : Type 0} (f : Fields T M) (ls : List (Line T M)) (l : Line T M) (es : List LineEnd) (n : ℕ) → IsStored f ls l → es ≡ f.ends →
    n < length ls → n < length es
has-end f ls l es n is e h = omega (arith, h, ap length e, count-is f ls l is)

-- ---- the place of an ended line

-- a line in the text and in the slots
pub record IsLineAt {T M : Type 0} (f : Fields T M) (p : LinePlace) (l : Line T M) : Type 0 where
  pub place : IsTextPlace f.text p
  pub text : drop p.text (take (p.text_end - 1) f.text) ≡ text_bytes l
  pub ended : drop p.text (take p.text_end f.text) ≡ text_bytes l ++ 10 ∷ []
  pub slots : drop p.slots (take p.slots_end f.slots) ≡ line_slots l
  pub range : p.slots ≤ p.slots_end
  pub within : p.slots_end ≤ length f.slots

pub utf8-after : {T M : Type 0} (ls ms : List (Line T M)) → AllUtf8 (ls ++ ms) → AllUtf8 ms
utf8-after [] ms t = t
utf8-after (l ∷ ls) ms t = utf8-after ls ms t.1

place-cut : {T M : Type 0} (f : Fields T M) (front : List (Line T M)) (x : Line T M) (rest : List (Line T M)) (l : Line T M) (p : LinePlace) →
    IsStored f (front ++ x ∷ rest) l → p ≡ record {
      text = length (lines_bytes front);
      slots = length (lines_slots front);
      text_end = length (lines_bytes front) + length (text_bytes x) + 1;
      slots_end = length (lines_slots front) + length (line_slots x);
    } → IsLineAt f p x
place-cut {T} {M} f front x rest l p is e =
    let at = length (lines_bytes front) in
    let end = at + length (text_bytes x) + 1 in
    let from = length (lines_slots front) in
    let last = from + length (line_slots x) in
    let after : List ℕ = lines_bytes rest ++ text_bytes l in
    let slots_after : List (Slot T M) = lines_slots rest ++ line_slots l in
    let parts : (lines_bytes front ++ ((text_bytes x ++ 10 ∷ []) ++ lines_bytes rest)) ++ text_bytes l ≡ lines_bytes front ++ (text_bytes x ++ 10 ∷ after) =
    simp append_assoc in
    let whole : f.text ≡ lines_bytes front ++ (text_bytes x ++ 10 ∷ after) =
    is.text ∙ ap (λ y. y ++ text_bytes l) (lines_bytes-append front (x ∷ rest)) ∙ parts in
    let with_text : f.text ≡ (lines_bytes front ++ text_bytes x) ++ 10 ∷ after =
    whole ∙ sym (append_assoc (lines_bytes front) (text_bytes x) (10 ∷ after)) in
    let newline : lines_bytes front ++ (text_bytes x ++ 10 ∷ after) ≡ (lines_bytes front ++ (text_bytes x ++ 10 ∷ [])) ++ after = simp append_assoc in
    let with_newline : f.text ≡ (lines_bytes front ++ (text_bytes x ++ 10 ∷ [])) ++ after = whole ∙ newline in
    let slot_parts : (lines_slots front ++ (line_slots x ++ lines_slots rest)) ++ line_slots l ≡ (lines_slots front ++ line_slots x) ++ slots_after =
    simp append_assoc in
    let slots : f.slots ≡ (lines_slots front ++ line_slots x) ++ slots_after =
    is.slots ∙ ap (λ y. y ++ line_slots l) (lines_slots-append front (x ∷ rest)) ∙ slot_parts in
    let utf8 = utf8-after front (x ∷ rest) is.ended_utf8 in
    let after_utf8 : IsUtf8 after = utf8-lines rest (text_bytes l) utf8.1 is.open_utf8 in
    let newline_utf8 : IsUtf8 ((10 ∷ []) ++ after) = IsUtf8-append (10 ∷ []) after IsUtf8-newline after_utf8 in
    let text_utf8 : IsUtf8 (text_bytes x ++ 10 ∷ after) = IsUtf8-append (text_bytes x) (10 ∷ after) utf8.0 newline_utf8 in
    let text_len : length (lines_bytes front ++ text_bytes x) ≡ end - 1 = omega (arith, length-append (lines_bytes front) (text_bytes x)) in
    let end_len : length (lines_bytes front ++ (text_bytes x ++ 10 ∷ [])) ≡ end =
    omega (arith, length-append (lines_bytes front) (text_bytes x ++ 10 ∷ []), length-append (text_bytes x) (10 ∷ [])) in
    let last_len : length (lines_slots front ++ line_slots x) ≡ last = length-append (lines_slots front) (line_slots x) in
    let stops : IsCharBoundary f.text (end - 1) =
    subst (IsCharBoundary f.text) text_len (IsCharBoundary-at_seam f.text (lines_bytes front ++ text_bytes x) (10 ∷ after) with_text newline_utf8) in
    let ends : IsCharBoundary f.text end =
    subst (IsCharBoundary f.text) end_len (IsCharBoundary-at_seam f.text (lines_bytes front ++ (text_bytes x ++ 10 ∷ [])) after with_newline after_utf8) in
    rw e (record {
      place = record {
        ordered = omega arith;
        within = omega (arith, ap length with_newline, end_len, length-append (lines_bytes front ++ (text_bytes x ++ 10 ∷ [])) after);
        begins = IsCharBoundary-at_seam f.text (lines_bytes front) (text_bytes x ++ 10 ∷ after) whole text_utf8;
        stops = stops;
        ends = ends;
      };
      text = ap (λ y. drop at (take (end - 1) y)) with_text
          ∙ ap (λ y. drop at y) (take_at (lines_bytes front ++ text_bytes x) (10 ∷ after) (end - 1) text_len)
          ∙ drop_at (lines_bytes front) (text_bytes x) at refl;
      ended = ap (λ y. drop at (take end y)) with_newline
          ∙ ap (λ y. drop at y) (take_at (lines_bytes front ++ (text_bytes x ++ 10 ∷ [])) after end end_len)
          ∙ drop_at (lines_bytes front) (text_bytes x ++ 10 ∷ []) at refl;
      slots = ap (λ y. drop from (take last y)) slots
          ∙ ap (λ y. drop from y) (take_at (lines_slots front ++ line_slots x) slots_after last last_len)
          ∙ drop_at (lines_slots front) (line_slots x) from refl;
      range = omega arith;
      within = omega (arith, ap length slots, last_len, length-append (lines_slots front ++ line_slots x) slots_after);
    })

more-bytes : {T M : Type 0} (ls : List (Line T M)) (n : ℕ) → n < length ls →
    length (lines_bytes (take (suc n) ls)) ≡ length (lines_bytes (take n ls)) + length (text_bytes (get_or ls n [])) + 1
more-bytes {T} {M} ls n h =
    let x : Line T M = get_or ls n [] in
    let next : suc n ≡ n + 1 = omega arith in
    let whole : lines_bytes (take (suc n) ls) ≡ lines_bytes (take n ls) ++ ((text_bytes x ++ 10 ∷ []) ++ []) =
    ap (λ k. lines_bytes (take k ls)) next ∙ ap lines_bytes (take_more ls n [] h) ∙ lines_bytes-append (take n ls) (x ∷ []) in
    omega (
      arith,
      ap length whole,
      length-append (lines_bytes (take n ls)) ((text_bytes x ++ 10 ∷ []) ++ []),
      length-append (text_bytes x ++ 10 ∷ []) [],
      length-append (text_bytes x) (10 ∷ []),
    )

more-slots : {T M : Type 0} (ls : List (Line T M)) (n : ℕ) → n < length ls →
    length (lines_slots (take (suc n) ls)) ≡ length (lines_slots (take n ls)) + length (line_slots (get_or ls n []))
more-slots {T} {M} ls n h =
    let x : Line T M = get_or ls n [] in
    let next : suc n ≡ n + 1 = omega arith in
    let whole : lines_slots (take (suc n) ls) ≡ lines_slots (take n ls) ++ (line_slots x ++ []) =
    ap (λ k. lines_slots (take k ls)) next ∙ ap lines_slots (take_more ls n [] h) ∙ lines_slots-append (take n ls) (x ∷ []) in
    omega (arith, ap length whole, length-append (lines_slots (take n ls)) (line_slots x ++ []), length-append (line_slots x) [])

end-at : {T M : Type 0} (ls : List (Line T M)) (n at from : ℕ) (d : LineEnd) → n < length ls → get_or (line_ends at from ls) n d ≡ record {
  text = at + length (lines_bytes (take n ls)) + length (text_bytes (get_or ls n [])) + 1;
  slots = from + length (lines_slots (take n ls)) + length (line_slots (get_or ls n []));
  columns = counted (columns (get_or ls n []));
}
end-at [] n at from d h = absurd (omega arith)
end-at (x ∷ ls) zero at from d h =
    let e : at + length (text_bytes x) + 1 ≡ at + 0 + length (text_bytes x) + 1 = omega arith in
    let f : from + length (line_slots x) ≡ from + 0 + length (line_slots x) = omega arith in
    cc (e, f)
end-at (x ∷ ls) (suc n) at from d h =
    let e : at + length (text_bytes x) + 1 + length (lines_bytes (take n ls)) + length (text_bytes (get_or ls n [])) + 1
    ≡ at + length ((text_bytes x ++ 10 ∷ []) ++ lines_bytes (take n ls)) + length (text_bytes (get_or ls n [])) + 1 =
    omega (arith, length-append (text_bytes x ++ 10 ∷ []) (lines_bytes (take n ls)), length-append (text_bytes x) (10 ∷ [])) in
    let f : from + length (line_slots x) + length (lines_slots (take n ls)) + length (line_slots (get_or ls n []))
    ≡ from + length (line_slots x ++ lines_slots (take n ls)) + length (line_slots (get_or ls n [])) =
    omega (arith, length-append (line_slots x) (lines_slots (take n ls))) in
    end-at ls n (at + length (text_bytes x) + 1) (from + length (line_slots x)) d (omega arith)
    ∙ rw (e, f) refl

first-end-at : {T M : Type 0} (ls : List (Line T M)) (n : ℕ) (d : LineEnd) → n < length ls → get_or (line_ends 0 0 ls) n d ≡ record {
  text = length (lines_bytes (take n ls)) + length (text_bytes (get_or ls n [])) + 1;
  slots = length (lines_slots (take n ls)) + length (line_slots (get_or ls n []));
  columns = counted (columns (get_or ls n []));
}
first-end-at ls n d h =
    let e : 0 + length (lines_bytes (take n ls)) ≡ length (lines_bytes (take n ls)) = omega arith in
    let f : 0 + length (lines_slots (take n ls)) ≡ length (lines_slots (take n ls)) = omega arith in
    end-at ls n 0 0 d h ∙ rw (e, f) refl

pub place-is : {T M : Type 0} (ls : List (Line T M)) (n : ℕ) → n < length ls → place_of (line_ends 0 0 ls) n ≡ record {
  text = length (lines_bytes (take n ls));
  slots = length (lines_slots (take n ls));
  text_end = length (lines_bytes (take n ls)) + length (text_bytes (get_or ls n [])) + 1;
  slots_end = length (lines_slots (take n ls)) + length (line_slots (get_or ls n []));
}
place-is ls zero h = ap (λ e. place_after no_end e) (first-end-at ls 0 no_end h)
place-is ls (suc n) h =
    let k : n < length ls = omega (arith, h) in
    ap (λ e. place_after (get_or (line_ends 0 0 ls) n no_end) e) (first-end-at ls (suc n) no_end h)
    ∙ ap (λ e. place_after e (record {
      text = length (lines_bytes (take (suc n) ls)) + length (text_bytes (get_or ls (suc n) [])) + 1;
      slots = length (lines_slots (take (suc n) ls)) + length (line_slots (get_or ls (suc n) []));
      columns = counted (columns (get_or ls (suc n) []));
    })) (first-end-at ls n no_end k)
    ∙ rw (more-bytes ls n k, more-slots ls n k) refl

pub line-at : {T M : Type 0} (f : Fields T M) (ls : List (Line T M)) (l : Line T M) (n : ℕ) → IsStored f ls l → n < length ls →
    IsLineAt f (place_of f.ends n) (get_or ls n [])
line-at {T} {M} f ls l n is h =
    let x : Line T M = get_or ls n [] in
    let parts : ls ≡ take n ls ++ x ∷ drop (suc n) ls = sym (take-append-drop n ls) ∙ ap (λ y. take n ls ++ y) (drop-cons ls n [] h) in
    place-cut f (take n ls) x (drop (suc n) ls) l (place_of f.ends n) (subst (λ (y : List (Line T M)). IsStored f y l) parts is)
    (ap (λ y. place_of y n) is.ends ∙ place-is ls n h)

pub columns-at : {T M : Type 0} (f : Fields T M) (ls : List (Line T M)) (l : Line T M) (n : ℕ) → IsStored f ls l → n < length ls →
    (get_or f.ends n no_end).columns ≡ counted (columns (get_or ls n []))
columns-at f ls l n is h = ap (λ (y : List LineEnd). (get_or y n no_end).columns) is.ends ∙ ap (λ (e : LineEnd). e.columns) (first-end-at ls n no_end h)

pub line-utf8 : {T M : Type 0} (f : Fields T M) (ls : List (Line T M)) (l : Line T M) (n : ℕ) → IsStored f ls l → n < length ls →
    IsUtf8 (text_bytes (get_or ls n []))
line-utf8 f ls l n is h = utf8-at ls n is.ended_utf8 h

pub slice-is : (xs : List ℕ) (s e : ℕ) → s ≤ e → take (e - s) (drop s xs) ≡ drop s (take e xs)
slice-is xs s e h =
    let whole : e ≡ s + (e - s) = omega (arith, h) in
    sym (ap (λ k. drop s (take k xs)) whole ∙ drop-take s (e - s) xs)

-- ---- ended lines of others

-- a line that ends with elements
pub added-ended : {T M : Type 0} (f : Fields T M) (ls : List (Line T M)) (l m : Line T M) (bs : List ℕ) (ss : List (Slot T M)) (es : List LineEnd)
    (count : Option ℕ) (end last : ℕ) → IsStored f ls l → IsUtf8 (text_bytes m) → bs ≡ f.text ++ (text_bytes m ++ 10 ∷ []) → ss ≡ f.slots ++ line_slots m →
    count ≡ counted (columns l + columns m) → end ≡ length bs → last ≡ length ss → es ≡ f.ends ++ record { text = end; slots = last; columns = count } ∷ [] →
    IsStored (record { text = bs; slots = ss; ends = es; start = end; slot_start = last; columns = Some 0 }) (ls ++ (l ++ m) ∷ []) []
added-ended {T} {M} f ls l m bs ss es count end last is utf8 e g h p q k =
    line-ended (record f { text = f.text ++ text_bytes m; slots = ss; columns = count }) ls (l ++ m) bs es end last
    (added f ls l m (f.text ++ text_bytes m) ss count is utf8 refl g h) (e ∙ sym (append_assoc f.text (text_bytes m) (10 ∷ []))) p q k

-- another's line after a prefix
pub line-prefixed : {T M : Type 0} (f : Fields T M) (ls : List (Line T M)) (l m : Line T M) (bs : List ℕ) (ss : List (Slot T M)) (es : List LineEnd)
    (count : Option ℕ) (end last : ℕ) (text ended : List ℕ) (tag : T) (slots : List (Slot T M)) → IsStored f ls l → IsUtf8 text → IsUtf8 (text_bytes m) →
    ended ≡ text_bytes m ++ 10 ∷ [] → slots ≡ line_slots m → bs ≡ f.text ++ (text ++ ended) →
    ss ≡ f.slots ++ (replicate (length text) (slot.Byte tag) ++ slots) → count ≡ counted (columns l + text_columns (chars text) + columns m) →
    end ≡ length bs → last ≡ length ss → es ≡ f.ends ++ record { text = end; slots = last; columns = count } ∷ [] →
    IsStored (record { text = bs; slots = ss; ends = es; start = end; slot_start = last; columns = Some 0 })
    (ls ++ (l ++ (under tag (chars text) ++ m)) ∷ []) []
line-prefixed {T} {M} f ls l m bs ss es count end last text ended tag slots is utf8 own a b e g h p q k =
    let front : Line T M = under tag (chars text) in
    let bytes : text_bytes front ≡ text = bytes-under M tag text utf8 in
    let all : text_bytes (front ++ m) ≡ text ++ text_bytes m = bytes-append front m ∙ ap (λ y. y ++ text_bytes m) bytes in
    let all_slots : line_slots (front ++ m) ≡ replicate (length text) (slot.Byte tag) ++ line_slots m =
    slots-append front m ∙ ap (λ (y : List (Slot T M)). y ++ line_slots m) (slots-under M tag text utf8) in
    let count_sum : columns l + text_columns (chars text) + columns m ≡ columns l + columns (front ++ m) =
    omega (arith, columns-append front m, columns-under M tag (chars text)) in
    added-ended f ls l (front ++ m) bs ss es count end last is (subst IsUtf8 (sym all) (IsUtf8-append text (text_bytes m) utf8 own))
    (e ∙ ap (λ y. f.text ++ (text ++ y)) a ∙ ap (λ y. f.text ++ y) (sym (append_assoc text (text_bytes m) (10 ∷ []))) ∙ ap (λ y. f.text ++ (y ++ 10 ∷ [])) (sym all))
    (g ∙ ap (λ (y : List (Slot T M)). f.slots ++ (replicate (length text) (slot.Byte tag) ++ y)) b ∙ ap (λ (y : List (Slot T M)). f.slots ++ y) (sym all_slots))
    (h ∙ ap counted count_sum) p q k

-- a part of a list of numbers is within their bound
pub ends-within : {T M : Type 0} (f : Fields T M) (ls : List (Line T M)) (l : Line T M) (xs : List LineEnd) → IsStored f ls l → xs ≡ f.ends →
    (k : ℕ) (d : LineEnd) → k < length xs → ((get_or xs k d).text ≤ length f.text) × ((get_or xs k d).slots ≤ length f.slots)
ends-within {T} {M} f ls l xs is e k d h =
    let count : length xs ≡ length ls = ap length e ∙ count-is f ls l is in
    let within : k < length ls = omega (arith, count, h) in
    let end : get_or xs k d ≡ _ = ap (λ (y : List LineEnd). get_or y k d) (e ∙ is.ends) ∙ first-end-at ls k d within in
    let at = line-at f ls l k is within in
    let place : place_of f.ends k ≡ _ = ap (λ y. place_of y k) is.ends ∙ place-is ls k within in
    let text_end : (place_of f.ends k).text_end ≡ (get_or xs k d).text = ap (λ (p : LinePlace). p.text_end) place ∙ sym (ap (λ (e : LineEnd). e.text) end) in
    let slots_end : (place_of f.ends k).slots_end ≡ (get_or xs k d).slots = ap (λ (p : LinePlace). p.slots_end) place ∙ sym (ap (λ (e : LineEnd). e.slots) end) in
    (subst (λ n. n ≤ length f.text) text_end at.place.within, subst (λ n. n ≤ length f.slots) slots_end at.within)

-- a line in a text and ends that are those of the fields
pub line-held : {T M : Type 0} (f : Fields T M) (ls : List (Line T M)) (l : Line T M) (n : ℕ) (bs : List ℕ) (es : List LineEnd) (p : LinePlace) →
    IsStored f ls l → n < length ls → bs ≡ f.text → es ≡ f.ends → p ≡ place_of es n → IsLineAt (record f { text = bs }) p (get_or ls n [])
line-held f ls l n bs es p is h e g k = rw (e, k, g) (line-at f ls l n is h)

-- others' lines and their open line, where each field is known by an equation
pub appended-to : {T M : Type 0} (f g : Fields T M) (ls ms : List (Line T M)) (m : Line T M) (bs cs : List ℕ) (ss : List (Slot T M)) (es fs : List LineEnd)
    (start slot_start : ℕ) → IsStored f ls [] → IsStored g ms m → bs ≡ f.text ++ cs → cs ≡ g.text → ss ≡ f.slots ++ g.slots →
    es ≡ f.ends ++ map (moved (length f.text) (length f.slots)) fs → fs ≡ g.ends → start ≡ length bs - (length cs - g.start) →
    slot_start ≡ length ss - (length g.slots - g.slot_start) →
    IsStored (record { text = bs; slots = ss; ends = es; start = start; slot_start = slot_start; columns = g.columns }) (ls ++ ms) m
appended-to f g ls ms m bs cs ss es fs start slot_start is other e c s h k p q =
    let text : bs ≡ f.text ++ g.text = e ∙ ap (λ y. f.text ++ y) c in
    let ends : es ≡ f.ends ++ map (moved (length f.text) (length f.slots)) g.ends = h ∙ ap (λ y. f.ends ++ map (moved (length f.text) (length f.slots)) y) k in
    let at : start ≡ length f.text + g.start =
    omega (arith, p, ap length text, ap length c, length-append f.text g.text, other.start, ap length other.text, length-append (lines_bytes ms) (text_bytes m)) in
    let from : slot_start ≡ length f.slots + g.slot_start =
    omega (arith, q, ap length s, length-append f.slots g.slots, other.slot_start, ap length other.slots, length-append (lines_slots ms) (line_slots m)) in
    rw (text, s, ends) (appended f g ls ms m start slot_start is other at from)

-- the text of the open line
pub record IsOpenAt {T M : Type 0} (bs : List ℕ) (start : ℕ) (l : Line T M) : Type 0 where
  pub within : start ≤ length bs
  pub begins : IsCharBoundary bs start
  pub rest : drop start bs ≡ text_bytes l

pub open-at : {T M : Type 0} (f : Fields T M) (ls : List (Line T M)) (l : Line T M) (bs : List ℕ) → IsStored f ls l → bs ≡ f.text → IsOpenAt bs f.start l
open-at f ls l bs is e =
    let whole : bs ≡ lines_bytes ls ++ text_bytes l = e ∙ is.text in
    record {
      within = omega (arith, ap length whole, length-append (lines_bytes ls) (text_bytes l), is.start);
      begins = subst (IsCharBoundary bs) (sym is.start) (IsCharBoundary-at_seam bs (lines_bytes ls) (text_bytes l) whole is.open_utf8);
      rest = ap (λ y. drop f.start y) whole ∙ drop_at (lines_bytes ls) (text_bytes l) f.start (sym is.start);
    }

-- a character on the open line
pub character-pushed : {T M : Type 0} (f : Fields T M) (ls : List (Line T M)) (l : Line T M) (bs : List ℕ) (ss : List (Slot T M)) (count : Option ℕ)
    (c : ℕ) (tag : T) (width : ℕ) → IsUtf8 (encode_utf8 c) → IsStored f ls l → bs ≡ f.text ++ encode_utf8 c →
    ss ≡ f.slots ++ replicate (length (encode_utf8 c)) (slot.Byte tag) → width ≡ width_of c → count ≡ counted (columns l + width) →
    IsStored (record f { text = bs; slots = ss; columns = count }) ls (l ++ element.Character c tag ∷ [])
character-pushed {T} {M} f ls l bs ss count c tag width utf8 is e g w h =
    let one : Element T M = element.Character c tag in
    let bytes : encode_utf8 c ≡ text_bytes (one ∷ []) = sym (append-nil (encode_utf8 c)) in
    let own : replicate (length (encode_utf8 c)) (slot.Byte tag) ≡ line_slots (one ∷ []) = sym (append-nil _) in
    let sum : columns l + width ≡ columns l + columns (one ∷ []) = omega (arith, w, columns-single one) in
    added f ls l (one ∷ []) bs ss count is (subst IsUtf8 bytes utf8) (e ∙ ap (λ y. f.text ++ y) bytes)
    (g ∙ ap (λ (y : List (Slot T M)). f.slots ++ y) own) (h ∙ ap counted sum)

pub ends-named : (es : List LineEnd) (a b x y : ℕ) (count : Option ℕ) → a ≡ x → b ≡ y →
    es ++ record { text = x; slots = y; columns = count } ∷ [] ≡ es ++ record { text = a; slots = b; columns = count } ∷ []
ends-named es a b x y count e f = rw (e, f) refl

pub start-is : (bs now cs : List ℕ) (start : ℕ) → now ≡ bs → length now - (length cs - start) ≡ length bs - (length cs - start)
start-is bs now cs start e = ap (λ (y : List ℕ). length y - (length cs - start)) e

pub slot-start-is : {X : Type 0} (a b : ℕ) (ss us : List X) (start : ℕ) → a ≡ length ss → b ≡ length us →
    a - (b - start) ≡ length ss - (length us - start)
slot-start-is a b ss us start e f = rw (e, f) refl

pub character-utf8 : (c : ℕ) → scalar c ≡ true → IsUtf8 (encode_utf8 c)
character-utf8 c s = (c ∷ [], (ap (λ b. b && scalars []) s, append-nil (encode_utf8 c)))

-- ---- the last ended line is open again

utf8-before : {T M : Type 0} (ls ms : List (Line T M)) → AllUtf8 (ls ++ ms) → AllUtf8 ls
utf8-before [] ms t = tt
utf8-before (l ∷ ls) ms t = (t.0, utf8-before ls ms t.1)

pub last-parts : {T M : Type 0} (ls : List (Line T M)) (n : ℕ) → n + 1 ≡ length ls → ls ≡ take n ls ++ get_or ls n [] ∷ []
last-parts ls n e = sym (take_all (n + 1) ls (omega (arith, e))) ∙ take_more ls n [] (omega (arith, e))

pub reopened : {T M : Type 0} (f : Fields T M) (ls : List (Line T M)) (n : ℕ) (p : LinePlace) → IsStored f ls [] → n + 1 ≡ length ls → p ≡ place_of f.ends n →
    IsStored (record {
      text = take (p.text_end - 1) f.text;
      slots = f.slots;
      ends = take n f.ends;
      start = p.text;
      slot_start = p.slots;
      columns = (get_or f.ends n no_end).columns;
    }) (take n ls) (get_or ls n [])
reopened {T} {M} f ls n p is e g =
    let h : n < length ls = omega (arith, e) in
    let x : Line T M = get_or ls n [] in
    let front : List (Line T M) = take n ls in
    let parts : ls ≡ front ++ x ∷ [] = last-parts ls n e in
    let place : p ≡ _ = g ∙ ap (λ y. place_of y n) is.ends ∙ place-is ls n h in
    let tail : lines_bytes front ++ ((text_bytes x ++ 10 ∷ []) ++ []) ≡ (lines_bytes front ++ text_bytes x) ++ 10 ∷ [] =
    ap (λ y. lines_bytes front ++ y) (append-nil (text_bytes x ++ 10 ∷ [])) ∙ sym (append_assoc (lines_bytes front) (text_bytes x) (10 ∷ [])) in
    let whole : f.text ≡ (lines_bytes front ++ text_bytes x) ++ 10 ∷ [] =
    is.text ∙ append-nil (lines_bytes ls) ∙ ap (λ (y : List (Line T M)). lines_bytes y) parts ∙ lines_bytes-append front (x ∷ []) ∙ tail in
    let slots : f.slots ≡ lines_slots front ++ line_slots x =
    is.slots ∙ append-nil (lines_slots ls) ∙ ap (λ (y : List (Line T M)). lines_slots y) parts ∙ lines_slots-append front (x ∷ [])
    ∙ ap (λ y. lines_slots front ++ y) (append-nil (line_slots x)) in
    let front_len : length front ≡ n = length-take-le n ls (omega (arith, e)) in
    let ends : take n f.ends ≡ line_ends 0 0 front =
    ap (λ y. take n y) (is.ends ∙ ap (λ (y : List (Line T M)). line_ends 0 0 y) parts ∙ ends-append front (x ∷ []) 0 0)
    ∙ take_at (line_ends 0 0 front) _ n (length-ends front 0 0 ∙ front_len) in
    let text_end : length (lines_bytes front ++ text_bytes x) ≡ p.text_end - 1 =
    omega (arith, ap (λ (q : LinePlace). q.text_end) place, length-append (lines_bytes front) (text_bytes x)) in
    let text : take (p.text_end - 1) f.text ≡ lines_bytes front ++ text_bytes x =
    ap (λ y. take (p.text_end - 1) y) whole ∙ take_at (lines_bytes front ++ text_bytes x) (10 ∷ []) (p.text_end - 1) text_end in
    let all : AllUtf8 (front ++ x ∷ []) = subst (λ (y : List (Line T M)). AllUtf8 y) parts is.ended_utf8 in
    record {
      text = text;
      slots = slots;
      ends = ends;
      start = ap (λ (q : LinePlace). q.text) place;
      slot_start = ap (λ (q : LinePlace). q.slots) place;
      columns = columns-at f ls [] n is h;
      ended_utf8 = utf8-before front (x ∷ []) all;
      open_utf8 = (utf8-after front (x ∷ []) all).0;
    }

pub reopened-to : {T M : Type 0} (f : Fields T M) (ls : List (Line T M)) (n : ℕ) (p : LinePlace) (bs : List ℕ) (es xs : List LineEnd) (count : Option ℕ) →
    IsStored f ls [] → n + 1 ≡ length ls → xs ≡ f.ends → p ≡ place_of xs n → bs ≡ take (p.text_end - 1) f.text → es ≡ take n f.ends →
    count ≡ (get_or xs n no_end).columns →
    IsStored (record { text = bs; slots = f.slots; ends = es; start = p.text; slot_start = p.slots; columns = count }) (take n ls) (get_or ls n [])
reopened-to f ls n p bs es xs count is e x g b k h =
    let place : p ≡ place_of f.ends n = g ∙ ap (λ y. place_of y n) x in
    let columns : count ≡ (get_or f.ends n no_end).columns = h ∙ ap (λ (y : List LineEnd). (get_or y n no_end).columns) x in
    rw (b, k, columns) (reopened f ls n p is e place)

pub last-opened : {T M : Type 0} (b : BufferedLines T M) (n : ℕ) → b.line ≡ [] → n + 1 ≡ length b.lines →
    b ≡ record { lines = take n b.lines ++ get_or b.lines n [] ∷ []; line = [] }
last-opened {T} {M} b n e h =
    ap (λ (ls : List (Line T M)). record { lines = ls; line = b.line }) (last-parts b.lines n h)
    ∙ ap (λ (l : Line T M). record { lines = take n b.lines ++ get_or b.lines n [] ∷ []; line = l }) e

pub reopened-is : {T M : Type 0} (f : Fields T M) (b : BufferedLines T M) (n : ℕ) → IsStored f (take n b.lines) (get_or b.lines n []) → b.line ≡ [] →
    n + 1 ≡ length b.lines → b ≡ record { lines = (buffered f).lines ++ (buffered f).line ∷ []; line = [] }
reopened-is {T} {M} f b n is e h =
    last-opened b n e h
    ∙ ap (λ (c : BufferedLines T M). record { lines = c.lines ++ c.line ∷ []; line = [] })
    (sym (made f (take n b.lines) (get_or b.lines n []) is))
