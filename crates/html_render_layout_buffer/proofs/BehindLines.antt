-- Lines after a prefix, in the fields of a buffer.
use Rattle.std.proofs.Common.{◌≡◌, ℕ, ◌+◌, ◌*◌, ◌≤◌, ◌<◌, Option, Some, List, [], ◌∷◌, ◌++◌, map, take, drop, length, get_or, refl, sym, ap, ◌∙◌, subst, arith, append_assoc, append-nil, length-append, zero, suc, Bool, true, false}
use Rattle.std.specs.Prelude.{replicate, encode_utf8}
use Rattle.std.specs.Str.{chars, IsUtf8}
use Rattle.std.proofs.Math.Nat.{suc-mul}
use Rattle.std.proofs.lemmas.List.{map-append, length-replicate, length-take-le, take-append-drop, drop-append-le, replicate-append-replicate}
use Rattle.std.proofs.lemmas.Bool.{false≢true}
use Rattle.std.proofs.lemmas.List.Elements.{All-nil, All-cons}
use Rattle.std.proofs.lemmas.Str.{IsUtf8-append, IsUtf8-nil, IsUtf8-past_char, chars_past_char, chars-nil, length-encode, len_utf8_bounds}
use Rattle.html_render_layout_lines.specs.declared.line.Element.TheVariants as element
use Rattle.html_render_layout_lines.specs.Line.{Line, columns, text_bytes}
use Rattle.html_render_layout_lines.specs.TaggedText.{counted, under, text_columns}
use Rattle.html_render_layout_lines.specs.laws.Columns.{columns-append, columns-under}
use Rattle.html_render_layout_buffer.specs.declared.slot.Slot.{Slot}
use Rattle.html_render_layout_buffer.specs.declared.slot.Slot.TheVariants as slot
use Rattle.html_render_layout_buffer.specs.declared.ends.LineEnd.{LineEnd}
use Rattle.html_render_layout_buffer.specs.declared.ends.LinePlace.{LinePlace}
use Rattle.html_render_layout_buffer.specs.Lines.{lines_bytes, ArePlain}
use Rattle.html_render_layout_buffer.specs.Moved.{moved}
use Rattle.html_render_layout_buffer.specs.Fields.{line_slots, lines_slots, line_ends, AllUtf8, Fields, IsStored, place_of}
use Rattle.html_render_layout_buffer.proofs.Growing.{part-more}
use Rattle.html_render_layout_buffer.proofs.Stored.{bytes-append, slots-append, bytes-under, slots-under, lines_bytes-append, lines_slots-append, ends-append, ends-moved, appended, utf8-after, place-is}

-- lines, each after a prefix
abbrev pub behind : {T M : Type 0} → T → List ℕ → List (Line T M) → List (Line T M)
behind {T} {M} tag text ls = map (λ (l : Line T M). under tag (chars text) ++ l) ls

bytes-behind : {T M : Type 0} (tag : T) (text : List ℕ) (l : Line T M) → IsUtf8 text → text_bytes (under tag (chars text) ++ l) ≡ text ++ text_bytes l
bytes-behind {T} {M} tag text l utf8 = bytes-append (under tag (chars text)) l ∙ ap (λ y. y ++ text_bytes l) (bytes-under M tag text utf8)

slots-behind : {T M : Type 0} (tag : T) (text : List ℕ) (l : Line T M) → IsUtf8 text →
    line_slots (under tag (chars text) ++ l) ≡ replicate (length text) (slot.Byte tag) ++ line_slots l
slots-behind {T} {M} tag text l utf8 =
    slots-append (under tag (chars text)) l ∙ ap (λ (y : List (Slot T M)). y ++ line_slots l) (slots-under M tag text utf8)

one-behind : {T M : Type 0} (tag : T) (text : List ℕ) (ls : List (Line T M)) (from n : ℕ) → from ≤ n → n < length ls →
    behind tag text (drop from (take (n + 1) ls)) ≡ behind tag text (drop from (take n ls)) ++ (under tag (chars text) ++ get_or ls n []) ∷ []
one-behind {T} {M} tag text ls from n p h =
    let f : Line T M → Line T M = λ l. under tag (chars text) ++ l in
    ap (map f) (part-more ls from n [] p h) ∙ map-append f (drop from (take n ls)) (get_or ls n [] ∷ [])

-- ---- one line more

pub text-more : {T M : Type 0} (tag : T) (text old bs cs : List ℕ) (ended : List ℕ) (ls : List (Line T M)) (from n : ℕ) → IsUtf8 text → from ≤ n → n < length ls →
    bs ≡ old ++ lines_bytes (behind tag text (drop from (take n ls))) → ended ≡ text_bytes (get_or ls n []) ++ 10 ∷ [] →
    cs ≡ (bs ++ text) ++ ended → cs ≡ old ++ lines_bytes (behind tag text (drop from (take (n + 1) ls)))
text-more {T} {M} tag text old bs cs ended ls from n utf8 p h e g k =
    let before : List (Line T M) = behind tag text (drop from (take n ls)) in
    let l : Line T M = get_or ls n [] in
    let own : lines_bytes (behind tag text (drop from (take (n + 1) ls))) ≡ lines_bytes before ++ ((text ++ text_bytes l) ++ 10 ∷ []) =
    ap (λ (y : List (Line T M)). lines_bytes y) (one-behind tag text ls from n p h)
    ∙ lines_bytes-append before ((under tag (chars text) ++ l) ∷ [])
    ∙ ap (λ y. lines_bytes before ++ y) (append-nil (text_bytes (under tag (chars text) ++ l) ++ 10 ∷ []))
    ∙ ap (λ y. lines_bytes before ++ (y ++ 10 ∷ [])) (bytes-behind tag text l utf8) in
    rw (k, e, g, own) (simp append_assoc)

pub slots-more : {T M : Type 0} (tag : T) (text : List ℕ) (old ss us own : List (Slot T M)) (ls : List (Line T M)) (from n : ℕ) → IsUtf8 text → from ≤ n → n < length ls →
    ss ≡ old ++ lines_slots (behind tag text (drop from (take n ls))) → own ≡ line_slots (get_or ls n []) →
    us ≡ (ss ++ replicate (length text) (slot.Byte tag)) ++ own → us ≡ old ++ lines_slots (behind tag text (drop from (take (n + 1) ls)))
slots-more {T} {M} tag text old ss us own ls from n utf8 p h e g k =
    let before : List (Line T M) = behind tag text (drop from (take n ls)) in
    let l : Line T M = get_or ls n [] in
    let one : List (Slot T M) = replicate (length text) (slot.Byte tag) in
    let more : lines_slots (behind tag text (drop from (take (n + 1) ls))) ≡ lines_slots before ++ (one ++ line_slots l) =
    ap (λ (y : List (Line T M)). lines_slots y) (one-behind tag text ls from n p h)
    ∙ lines_slots-append before ((under tag (chars text) ++ l) ∷ [])
    ∙ ap (λ (y : List (Slot T M)). lines_slots before ++ y) (append-nil (line_slots (under tag (chars text) ++ l)))
    ∙ ap (λ (y : List (Slot T M)). lines_slots before ++ y) (slots-behind tag text l utf8) in
    rw (k, e, g, more) (simp append_assoc)

-- where ends are put: after the texts and the slots of the lines before
pub record AreEnds {T M : Type 0} (old es : List LineEnd) (at slot_at end slot_end : ℕ) (ls : List (Line T M)) : Type 0 where
  pub ends : es ≡ old ++ line_ends at slot_at ls
  pub text : end ≡ at + length (lines_bytes ls)
  pub slots : slot_end ≡ slot_at + length (lines_slots ls)

-- the bytes and slots that one more line adds
pub record IsMore {T M : Type 0} (tag : T) (text : List ℕ) (ls : List (Line T M)) (from n : ℕ) : Type 0 where
  pub bytes : length (lines_bytes (behind tag text (drop from (take (n + 1) ls))))
      ≡ length (lines_bytes (behind tag text (drop from (take n ls)))) + (length text + (length (text_bytes (get_or ls n [])) + 1))
  pub slots : length (lines_slots (behind tag text (drop from (take (n + 1) ls))))
      ≡ length (lines_slots (behind tag text (drop from (take n ls)))) + (length text + length (line_slots (get_or ls n [])))
  pub all_bytes : length (lines_bytes (behind tag text (drop from (take (n + 1) ls)))) ≤ length (lines_bytes (behind tag text (drop from ls)))
  pub all_slots : length (lines_slots (behind tag text (drop from (take (n + 1) ls)))) ≤ length (lines_slots (behind tag text (drop from ls)))

-- the first of the lines from a place on, and the others
behind-parts : {T M : Type 0} (tag : T) (text : List ℕ) (ls : List (Line T M)) (from n : ℕ) → from ≤ n → n ≤ length ls →
    behind tag text (drop from ls) ≡ behind tag text (drop from (take n ls)) ++ behind tag text (drop n ls)
behind-parts {T} {M} tag text ls from n p h =
    ap (λ (y : List (Line T M)). behind tag text (drop from y)) (sym (take-append-drop n ls))
    ∙ ap (λ (y : List (Line T M)). behind tag text y) (drop-append-le from (take n ls) (drop n ls) (omega (arith, p, h, length-take-le n ls h)))
    ∙ map-append (λ (l : Line T M). under tag (chars text) ++ l) (drop from (take n ls)) (drop n ls)

pub more-behind : {T M : Type 0} (tag : T) (text : List ℕ) (ls : List (Line T M)) (from n : ℕ) → IsUtf8 text → from ≤ n → n < length ls → IsMore tag text ls from n
more-behind {T} {M} tag text ls from n utf8 p h =
    let before : List (Line T M) = behind tag text (drop from (take n ls)) in
    let all : List (Line T M) = behind tag text (drop from (take (n + 1) ls)) in
    let rest : List (Line T M) = behind tag text (drop (n + 1) ls) in
    let l : Line T M = get_or ls n [] in
    let x : Line T M = under tag (chars text) ++ l in
    let one : Slot T M = slot.Byte tag in
    let front : List (Slot T M) = replicate (length text) one in
    let lines : all ≡ before ++ x ∷ [] = one-behind tag text ls from n p h in
    let parts : behind tag text (drop from ls) ≡ all ++ rest = behind-parts tag text ls from (n + 1) (omega (arith, p)) (omega (arith, h)) in
    let bytes : length (text_bytes x) ≡ length text + length (text_bytes l) =
    ap length (bytes-behind tag text l utf8) ∙ length-append text (text_bytes l) in
    let slots : length (line_slots x) ≡ length text + length (line_slots l) =
    omega (arith, ap length (slots-behind tag text l utf8), length-append front (line_slots l), length-replicate {A = Slot T M} (length text) one) in
    record {
      bytes = omega (
        arith,
        bytes,
        ap length (ap (λ (y : List (Line T M)). lines_bytes y) lines),
        ap length (lines_bytes-append before (x ∷ [])),
        length-append (lines_bytes before) ((text_bytes x ++ 10 ∷ []) ++ []),
        length-append (text_bytes x ++ 10 ∷ []) [],
        length-append (text_bytes x) (10 ∷ []),
      );
      slots = omega (
        arith,
        slots,
        ap length (ap (λ (y : List (Line T M)). lines_slots y) lines),
        ap length (lines_slots-append before (x ∷ [])),
        length-append (lines_slots before) (line_slots x ++ []),
        length-append (line_slots x) [],
      );
      all_bytes = omega (
        arith,
        ap length (ap (λ (y : List (Line T M)). lines_bytes y) parts),
        ap length (lines_bytes-append all rest),
        length-append (lines_bytes all) (lines_bytes rest),
      );
      all_slots = omega (
        arith,
        ap length (ap (λ (y : List (Line T M)). lines_slots y) parts),
        ap length (lines_slots-append all rest),
        length-append (lines_slots all) (lines_slots rest),
      );
    }

pub ends-more : {T M : Type 0} (tag : T) (text : List ℕ) (old es fs : List LineEnd) (at slot_at t0 s0 t1 s1 : ℕ) (count : Option ℕ) (ls : List (Line T M)) (from n : ℕ) →
    IsUtf8 text → from ≤ n → n < length ls →
    AreEnds old es at slot_at t0 s0 (behind tag text (drop from (take n ls))) →
    t1 ≡ t0 + (length text + (length (text_bytes (get_or ls n [])) + 1)) → s1 ≡ s0 + (length text + length (line_slots (get_or ls n []))) →
    count ≡ counted (text_columns (chars text) + columns (get_or ls n [])) →
    fs ≡ es ++ record { text = t1; slots = s1; columns = count } ∷ [] →
    AreEnds old fs at slot_at t1 s1 (behind tag text (drop from (take (n + 1) ls)))
ends-more {T} {M} tag text old es fs at slot_at t0 s0 t1 s1 count ls from n utf8 p h are e g c q =
    let before : List (Line T M) = behind tag text (drop from (take n ls)) in
    let l : Line T M = get_or ls n [] in
    let x : Line T M = under tag (chars text) ++ l in
    let lines : behind tag text (drop from (take (n + 1) ls)) ≡ before ++ x ∷ [] = one-behind tag text ls from n p h in
    let one : Slot T M = slot.Byte tag in
    let front : List (Slot T M) = replicate (length text) one in
    let more = more-behind tag text ls from n utf8 p h in
    let bytes : length (text_bytes x) ≡ length text + length (text_bytes l) =
    ap length (bytes-behind tag text l utf8) ∙ length-append text (text_bytes l) in
    let slots : length (line_slots x) ≡ length text + length (line_slots l) =
    omega (arith, ap length (slots-behind tag text l utf8), length-append front (line_slots l), length-replicate {A = Slot T M} (length text) one) in
    let t : t1 ≡ at + length (lines_bytes before) + length (text_bytes x) + 1 = omega (arith, e, are.text, bytes) in
    let s : s1 ≡ slot_at + length (lines_slots before) + length (line_slots x) = omega (arith, g, are.slots, slots) in
    let sum : count ≡ counted (columns x) =
    c ∙ ap counted (omega (arith, columns-append (under tag (chars text)) l, columns-under M tag (chars text))) in
    record {
      ends = q ∙ ap (λ y. y ++ record { text = t1; slots = s1; columns = count } ∷ []) are.ends
          ∙ append_assoc old (line_ends at slot_at before) _
          ∙ ap (λ y. old ++ y) (rw (t, s, sum) (sym (ends-append before (x ∷ []) at slot_at)))
          ∙ ap (λ (y : List (Line T M)). old ++ line_ends at slot_at y) (sym lines);
      text = omega (arith, e, are.text, more.bytes);
      slots = omega (arith, g, are.slots, more.slots);
    }

-- the number of slots of lines after a prefix
pub count-behind : {T M : Type 0} (tag : T) (text : List ℕ) (ls : List (Line T M)) → IsUtf8 text →
    length (lines_slots (behind tag text ls)) ≡ length ls * length text + length (lines_slots ls)
count-behind tag text [] utf8 = omega arith
count-behind {T} {M} tag text (l ∷ ls) utf8 =
    let one : Slot T M = slot.Byte tag in
    let front : List (Slot T M) = replicate (length text) one in
    let x : Line T M = under tag (chars text) ++ l in
    let slots : length (line_slots x) ≡ length text + length (line_slots l) =
    omega (arith, ap length (slots-behind tag text l utf8), length-append front (line_slots l), length-replicate {A = Slot T M} (length text) one) in
    omega (
      arith,
      suc-mul (length ls) (length text),
      slots,
      count-behind tag text ls utf8,
      length-append (line_slots x) (lines_slots (behind tag text ls)),
      length-append (line_slots l) (lines_slots ls),
    )

-- the slots of lines from a place on: those after the place's first slot
pub slots-left : {T M : Type 0} (f : Fields T M) (ls : List (Line T M)) (l : Line T M) (es : List LineEnd) (from : ℕ) → IsStored f ls l → es ≡ f.ends → from < length ls →
    f.slot_start ≡ (place_of es from).slots + length (lines_slots (drop from ls))
slots-left {T} {M} f ls l es from is e h =
    let place : (place_of es from).slots ≡ length (lines_slots (take from ls)) =
    ap (λ (y : List LineEnd). (place_of y from).slots) (e ∙ is.ends) ∙ ap (λ (p : LinePlace). p.slots) (place-is ls from h) in
    let parts : lines_slots ls ≡ lines_slots (take from ls) ++ lines_slots (drop from ls) =
    ap (λ (y : List (Line T M)). lines_slots y) (sym (take-append-drop from ls)) ∙ lines_slots-append (take from ls) (drop from ls) in
    omega (arith, is.slot_start, ap length parts, length-append (lines_slots (take from ls)) (lines_slots (drop from ls)), place)

-- ---- all slots are the same

same-left : {X : Type 0} (x : X) (xs ys : List X) → xs ++ ys ≡ replicate (length (xs ++ ys)) x → xs ≡ replicate (length xs) x
same-left x [] ys e = refl
same-left {X} x (y ∷ xs) ys e =
    let first : y ≡ x = ap (λ (zs : List X). get_or zs 0 x) e in
    let rest : xs ++ ys ≡ replicate (length (xs ++ ys)) x = ap (λ (zs : List X). drop 1 zs) e in
    rw first (ap (λ (zs : List X). x ∷ zs) (same-left x xs ys rest))

same-right : {X : Type 0} (x : X) (xs ys : List X) → xs ++ ys ≡ replicate (length (xs ++ ys)) x → ys ≡ replicate (length ys) x
same-right x [] ys e = e
same-right {X} x (y ∷ xs) ys e = same-right x xs ys (ap (λ (zs : List X). drop 1 zs) e)

same-join : {X : Type 0} (x : X) (xs ys : List X) → xs ≡ replicate (length xs) x → ys ≡ replicate (length ys) x → xs ++ ys ≡ replicate (length (xs ++ ys)) x
same-join {X} x xs ys e h =
    ap (λ (zs : List X). zs ++ ys) e ∙ ap (λ (zs : List X). replicate (length xs) x ++ zs) h
    ∙ replicate-append-replicate (length xs) (length ys) x ∙ ap (λ n. replicate n x) (sym (length-append xs ys))

same-replicate : {X : Type 0} (x : X) (n : ℕ) → replicate n x ≡ replicate (length (replicate n x)) x
same-replicate {X} x n = ap (λ k. replicate k x) (sym (length-replicate {A = X} n x))

same-behind : {T M : Type 0} (tag : T) (text : List ℕ) (ls : List (Line T M)) → IsUtf8 text →
    lines_slots ls ≡ replicate (length (lines_slots ls)) (slot.Byte tag) →
    lines_slots (behind tag text ls) ≡ replicate (length (lines_slots (behind tag text ls))) (slot.Byte tag)
same-behind tag text [] utf8 e = refl
same-behind {T} {M} tag text (l ∷ ls) utf8 e =
    let one : Slot T M = slot.Byte tag in
    let front : List (Slot T M) = replicate (length text) one in
    let own : line_slots l ≡ replicate (length (line_slots l)) one = same-left one (line_slots l) (lines_slots ls) e in
    let rest : lines_slots ls ≡ replicate (length (lines_slots ls)) one = same-right one (line_slots l) (lines_slots ls) e in
    let first : front ++ line_slots l ≡ replicate (length (front ++ line_slots l)) one = same-join one front (line_slots l) (same-replicate one (length text)) own in
    let all = same-join one (front ++ line_slots l) (lines_slots (behind tag text ls)) first (same-behind tag text ls utf8 rest) in
    subst (λ (y : List (Slot T M)). y ++ lines_slots (behind tag text ls) ≡ replicate (length (y ++ lines_slots (behind tag text ls))) one)
    (sym (slots-behind tag text l utf8)) all

-- slots of one tag stay slots of one tag
pub all-one : {T M : Type 0} (f : Fields T M) (ls : List (Line T M)) (l : Line T M) (tag : T) (text : List ℕ) (from : ℕ) →
    IsStored f ls l → IsUtf8 text → f.slots ≡ replicate (length f.slots) (slot.Byte tag) →
    lines_slots (behind tag text (drop from ls)) ≡ replicate (length (lines_slots (behind tag text (drop from ls)))) (slot.Byte tag)
all-one {T} {M} f ls l tag text from is utf8 e =
    let one : Slot T M = slot.Byte tag in
    let whole : lines_slots ls ++ line_slots l ≡ replicate (length (lines_slots ls ++ line_slots l)) one =
    subst (λ (y : List (Slot T M)). y ≡ replicate (length y) one) is.slots e in
    let ended : lines_slots ls ≡ replicate (length (lines_slots ls)) one = same-left one (lines_slots ls) (line_slots l) whole in
    let parts : lines_slots ls ≡ lines_slots (take from ls) ++ lines_slots (drop from ls) =
    ap (λ (y : List (Line T M)). lines_slots y) (sym (take-append-drop from ls)) ∙ lines_slots-append (take from ls) (drop from ls) in
    let later : lines_slots (drop from ls) ≡ replicate (length (lines_slots (drop from ls))) one =
    same-right one (lines_slots (take from ls)) (lines_slots (drop from ls)) (subst (λ (y : List (Slot T M)). y ≡ replicate (length y) one) parts ended) in
    same-behind tag text (drop from ls) utf8 later

-- ---- lines after a prefix, appended to others

utf8-behind : {T M : Type 0} (tag : T) (text : List ℕ) (ls : List (Line T M)) → IsUtf8 text → AllUtf8 ls → AllUtf8 (behind tag text ls)
utf8-behind tag text [] utf8 t = tt
utf8-behind tag text (l ∷ ls) utf8 t =
    (subst IsUtf8 (sym (bytes-behind tag text l utf8)) (IsUtf8-append text (text_bytes l) utf8 t.0), utf8-behind tag text ls utf8 t.1)

alone : {T M : Type 0} (ls : List (Line T M)) → AllUtf8 ls → IsStored (record {
  text = lines_bytes ls;
  slots = lines_slots ls;
  ends = line_ends 0 0 ls;
  start = length (lines_bytes ls);
  slot_start = length (lines_slots ls);
  columns = Some 0;
}) ls []
alone ls utf8 = record {
  text = sym (append-nil (lines_bytes ls));
  slots = sym (append-nil (lines_slots ls));
  ends = refl;
  start = refl;
  slot_start = refl;
  columns = refl;
  ended_utf8 = utf8;
  open_utf8 = IsUtf8-nil;
}

pub behind-stored : {T M : Type 0} (f g : Fields T M) (ls ms : List (Line T M)) (m : Line T M) (tag : T) (text : List ℕ) (from : ℕ) (bs : List ℕ) (ss : List (Slot T M))
    (es : List LineEnd) (start slot_start : ℕ) → IsStored f ls [] → IsStored g ms m → IsUtf8 text →
    bs ≡ f.text ++ lines_bytes (behind tag text (drop from ms)) → ss ≡ f.slots ++ lines_slots (behind tag text (drop from ms)) →
    es ≡ f.ends ++ line_ends (length f.text) (length f.slots) (behind tag text (drop from ms)) → start ≡ length bs → slot_start ≡ length ss →
    IsStored (record { text = bs; slots = ss; ends = es; start = start; slot_start = slot_start; columns = Some 0 }) (ls ++ behind tag text (drop from ms)) []
behind-stored {T} {M} f g ls ms m tag text from bs ss es start slot_start is other utf8 e h k p q =
    let xs : List (Line T M) = behind tag text (drop from ms) in
    let later : AllUtf8 (drop from ms) =
    utf8-after (take from ms) (drop from ms) (subst (λ (y : List (Line T M)). AllUtf8 y) (sym (take-append-drop from ms)) other.ended_utf8) in
    let own = alone xs (utf8-behind tag text (drop from ms) utf8 later) in
    let zero_text : length f.text + 0 ≡ length f.text = omega arith in
    let zero_slots : length f.slots + 0 ≡ length f.slots = omega arith in
    let ends : line_ends (length f.text) (length f.slots) xs ≡ map (moved (length f.text) (length f.slots)) (line_ends 0 0 xs) =
    ap (λ n. line_ends n (length f.slots) xs) (sym zero_text) ∙ ap (λ n. line_ends (length f.text + 0) n xs) (sym zero_slots)
    ∙ ends-moved xs (length f.text) (length f.slots) 0 0 in
    rw (k, ends, e, h)
    (appended f _ ls xs [] start slot_start is own (omega (arith, p, ap length e, length-append f.text (lines_bytes xs)))
    (omega (arith, q, ap length h, length-append f.slots (lines_slots xs))))

-- ---- lines under one tag

replicate-same : {X : Type 0} (x y : X) (n m : ℕ) → 0 < n → replicate n x ≡ replicate m y → x ≡ y
replicate-same x y zero m h e = absurd (omega arith)
replicate-same {X} x y (suc n) zero h e = absurd (omega (arith, ap length e))
replicate-same {X} x y (suc n) (suc m) h e = ap (λ (zs : List X). get_or zs 0 x) e

-- a line whose slots have one tag is its text under that tag
plain-line : {T M : Type 0} (tag : T) (l : Line T M) → IsUtf8 (text_bytes l) → line_slots l ≡ replicate (length (line_slots l)) (slot.Byte tag) →
    l ≡ under tag (chars (text_bytes l))
plain-line tag [] utf8 e = ap (under tag) (sym chars-nil)
plain-line {T} {M} tag (element.Mark m ∷ l) utf8 e = absurd (false≢true (ap is_byte here))
  where
    is_byte : Slot T M → Bool
    is_byte (slot.Byte t) = true
    is_byte (slot.Mark n) = false

    here : slot.Mark m ≡ slot.Byte tag
    here = ap (λ (zs : List (Slot T M)). get_or zs 0 (slot.Mark m)) e
plain-line {T} {M} tag (element.Character c own ∷ l) utf8 e =
    let n : ℕ = length (encode_utf8 c) in
    let one : Slot T M = slot.Byte tag in
    let mine : List (Slot T M) = replicate n (slot.Byte own) in
    let first : mine ≡ replicate (length mine) one = same-left one mine (line_slots l) e in
    let some : 0 < n = omega (arith, length-encode c, (len_utf8_bounds c).0) in
    let same : own ≡ tag = ap tag_of (replicate-same (slot.Byte own) one n (length mine) some first) in
    let whole : List ℕ = encode_utf8 c ++ text_bytes l in
    let rest = plain-line tag l (IsUtf8-past_char whole (text_bytes l) c utf8 refl) (same-right one mine (line_slots l) e) in
    ap (λ t. element.Character c t ∷ l) same ∙ ap (λ (y : Line T M). element.Character c tag ∷ y) rest
    ∙ ap (λ cs. under {M = M} tag cs) (sym (chars_past_char whole (text_bytes l) c utf8 refl))
  where
    tag_of : Slot T M → T
    tag_of (slot.Byte t) = t
    tag_of (slot.Mark m) = tag

plain-lines : {T M : Type 0} (tag : T) (ls : List (Line T M)) → AllUtf8 ls → lines_slots ls ≡ replicate (length (lines_slots ls)) (slot.Byte tag) → ArePlain tag ls
plain-lines {T} {M} tag [] utf8 e = All-nil (λ (l : Line T M). l ≡ under tag (chars (text_bytes l)))
plain-lines {T} {M} tag (l ∷ ls) utf8 e =
    let one : Slot T M = slot.Byte tag in
    All-cons (λ (m : Line T M). m ≡ under tag (chars (text_bytes m))) l ls (plain-line tag l utf8.0 (same-left one (line_slots l) (lines_slots ls) e))
    (plain-lines tag ls utf8.1 (same-right one (line_slots l) (lines_slots ls) e))

pub all-plain : {T M : Type 0} (f : Fields T M) (ls : List (Line T M)) (l : Line T M) (tag : T) → IsStored f ls l →
    f.slots ≡ replicate (length f.slots) (slot.Byte tag) → ArePlain tag ls
all-plain {T} {M} f ls l tag is e =
    let one : Slot T M = slot.Byte tag in
    let whole : lines_slots ls ++ line_slots l ≡ replicate (length (lines_slots ls ++ line_slots l)) one =
    subst (λ (y : List (Slot T M)). y ≡ replicate (length y) one) is.slots e in
    plain-lines tag ls is.ended_utf8 (same-left one (lines_slots ls) (line_slots l) whole)
