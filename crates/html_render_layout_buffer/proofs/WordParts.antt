-- Words on a line: their text and their slots.
use Rattle.std.proofs.Common.{◌≡◌, ℕ, ◌+◌, Bool, true, false, Option, Some, None, List, [], ◌∷◌, ◌++◌, map, take, drop, length, refl, sym, ap, ◌∙◌, subst, append_assoc}
use Rattle.std.specs.Prelude.{replicate, encode_utf8}
use Rattle.std.specs.List.{flat_map}
use Rattle.std.specs.Str.{chars, IsUtf8}
use Rattle.std.proofs.lemmas.List.{take-append-drop, length-take-le}
use Rattle.std.proofs.lemmas.Str.{IsUtf8-append}
use Rattle.html_render_layout_lines.specs.declared.character.TextStyle.{TextStyle}
use Rattle.html_render_layout_lines.specs.declared.line.Element.{Element}
use Rattle.html_render_layout_lines.specs.declared.line.Element.TheVariants as element
use Rattle.html_render_layout_lines.specs.declared.line.tagged_text.Run.{Run}
use Rattle.html_render_layout_lines.specs.declared.line.tagged_text.Run.TheVariants as run
use Rattle.html_render_layout_lines.specs.Character.{width_of}
use Rattle.html_render_layout_lines.specs.Line.{Line, columns, text_bytes, element_of}
use Rattle.html_render_layout_lines.specs.TaggedText.{Cuts, HasTag, elements_of, open_elements, items_of, style_tag, under}
use Rattle.html_render_layout_lines.specs.laws.Columns.{columns-cons}
use Rattle.html_render_layout_lines.specs.laws.Runs.{IsUtf8-Cuts}
use Rattle.html_render_layout_buffer.specs.declared.slot.Slot.{Slot}
use Rattle.html_render_layout_buffer.specs.declared.slot.Slot.TheVariants as slot
use Rattle.html_render_layout_buffer.specs.Fields.{line_slots, Fields, IsStored}
use Rattle.html_render_layout_buffer.specs.Words.{run_slots, open_slots}
use Rattle.html_render_layout_lines.specs.TaggedText.{counted}
use Rattle.html_render_layout_buffer.proofs.Stored.{bytes-append, slots-append, bytes-under, slots-under, added}

abbrev placed : {T M : Type 0} → Bool → Line (TextStyle T) M → Line T M
placed continues word = map (element_of continues) (items_of word)

placed-append : {T M : Type 0} (continues : Bool) (v w : Line (TextStyle T) M) → placed continues (v ++ w) ≡ placed continues v ++ placed continues w
placed-append continues [] w = refl
placed-append {T} {M} continues (e ∷ v) w =
    let one : Line T M = placed continues (e ∷ []) in
    ap (λ y. one ++ y) (placed-append continues v w)

placed-under : {T : Type 0} (M : Type 0) (continues : Bool) (style : TextStyle T) (cs : List ℕ) →
    placed {M = M} continues (under style cs) ≡ under (style_tag continues style) cs
placed-under M true style [] = refl
placed-under M false style [] = refl
placed-under {T} M true style (c ∷ cs) =
    let one : Element T M = element.Character c style.continuation_tag in
    ap (λ y. one ∷ y) (placed-under M true style cs)
placed-under {T} M false style (c ∷ cs) =
    let one : Element T M = element.Character c style.tag in
    ap (λ y. one ∷ y) (placed-under M false style cs)

placed-bytes : {T M : Type 0} (continues : Bool) (word : Line (TextStyle T) M) → text_bytes (placed continues word) ≡ text_bytes word
placed-bytes continues [] = refl
placed-bytes {T} {M} continues (element.Character c style ∷ word) =
    ap (λ y. encode_utf8 c ++ y) (placed-bytes continues word)
placed-bytes continues (element.Mark m ∷ word) = placed-bytes continues word

placed-columns : {T M : Type 0} (continues : Bool) (word : Line (TextStyle T) M) → columns (placed continues word) ≡ columns word
placed-columns continues [] = refl
placed-columns {T} {M} continues (element.Character c style ∷ word) =
    let own : Element (TextStyle T) M = element.Character c style in
    let put : Element T M = element.Character c (style_tag continues style) in
    columns-cons put (placed continues word) ∙ ap (λ k. width_of c + k) (placed-columns continues word) ∙ sym (columns-cons own word)
placed-columns continues (element.Mark m ∷ word) = placed-columns continues word

run-slots : {T M : Type 0} (continues : Bool) (rs : List (Run (TextStyle T) M)) (bs : List ℕ) → Cuts rs bs →
    line_slots (placed continues (elements_of rs bs)) ≡ flat_map (run_slots continues) rs
run-slots continues [] bs cuts = refl
run-slots {T} {M} continues (run.Mark m ∷ rs) bs cuts =
    let one : Slot T M = slot.Mark m in
    ap (λ y. one ∷ y) (run-slots continues rs bs cuts)
run-slots {T} {M} continues (run.Text n style ∷ rs) bs cuts =
    let tag : T = style_tag continues style in
    let front : Line (TextStyle T) M = under style (chars (take n bs)) in
    let rest : Line (TextStyle T) M = elements_of rs (drop n bs) in
    let one : Slot T M = slot.Byte tag in
    let len : length (take n bs) ≡ n = length-take-le n bs cuts.0 in
    ap (λ (y : Line T M). line_slots y) (placed-append continues front rest ∙ ap (λ y. y ++ placed continues rest) (placed-under M continues style (chars (take n bs))))
    ∙ slots-append (under tag (chars (take n bs))) (placed continues rest)
    ∙ ap (λ (y : List (Slot T M)). y ++ line_slots (placed continues rest)) (slots-under M tag (take n bs) cuts.1 ∙ ap (λ k. replicate k one) len)
    ∙ ap (λ (y : List (Slot T M)). replicate n one ++ y) (run-slots continues rs (drop n bs) cuts.2)

open-slots : {T : Type 0} (M : Type 0) (continues : Bool) (style : Option (TextStyle T)) (bs : List ℕ) → IsUtf8 bs →
    line_slots (placed {M = M} continues (open_elements style bs)) ≡ open_slots continues style (length bs)
open-slots M continues None bs utf8 = refl
open-slots {T} M continues (Some style) bs utf8 =
    ap (λ (y : Line T M). line_slots y) (placed-under M continues style (chars bs)) ∙ slots-under M (style_tag continues style) bs utf8

run-bytes : {T M : Type 0} (rs : List (Run T M)) (bs : List ℕ) → Cuts rs bs → text_bytes (elements_of rs bs) ≡ bs
run-bytes [] bs cuts = sym cuts
run-bytes (run.Mark m ∷ rs) bs cuts = run-bytes rs bs cuts
run-bytes {T} {M} (run.Text n tag ∷ rs) bs cuts =
    let front : Line T M = under tag (chars (take n bs)) in
    bytes-append front (elements_of rs (drop n bs))
    ∙ ap (λ y. y ++ text_bytes (elements_of rs (drop n bs))) (bytes-under M tag (take n bs) cuts.1)
    ∙ ap (λ y. take n bs ++ y) (run-bytes rs (drop n bs) cuts.2) ∙ take-append-drop n bs

open-bytes : {T : Type 0} (M : Type 0) (tag : Option T) (bs : List ℕ) → HasTag tag bs → IsUtf8 bs → text_bytes (open_elements {M = M} tag bs) ≡ bs
open-bytes M None bs none utf8 = sym none
open-bytes M (Some tag) bs none utf8 = bytes-under M tag bs utf8

-- a word by its parts
pub record IsWord {T M : Type 0} (rs : List (Run (TextStyle T) M)) (style : Option (TextStyle T)) (closed behind : List ℕ) (word : Line (TextStyle T) M) : Type 0 where
  pub cuts : Cuts rs closed
  pub has_tag : HasTag style behind
  pub utf8 : IsUtf8 behind
  pub elements : elements_of rs closed ++ open_elements style behind ≡ word

pub is-word : {T M : Type 0} (rs : List (Run (TextStyle T) M)) (style : Option (TextStyle T)) (closed behind : List ℕ) (word : Line (TextStyle T) M) →
    Cuts rs closed → HasTag style behind → IsUtf8 behind → elements_of rs closed ++ open_elements style behind ≡ word → IsWord rs style closed behind word
is-word rs style closed behind word a b u e = record { cuts = a; has_tag = b; utf8 = u; elements = e }

pub word-bytes : {T M : Type 0} (rs : List (Run (TextStyle T) M)) (style : Option (TextStyle T)) (closed behind : List ℕ) (word : Line (TextStyle T) M) →
    IsWord rs style closed behind word → text_bytes word ≡ closed ++ behind
word-bytes {T} {M} rs style closed behind word is =
    ap (λ (y : Line (TextStyle T) M). text_bytes y) (sym is.elements)
    ∙ bytes-append (elements_of rs closed) (open_elements style behind)
    ∙ ap (λ y. y ++ text_bytes (open_elements {M = M} style behind)) (run-bytes rs closed is.cuts)
    ∙ ap (λ y. closed ++ y) (open-bytes M style behind is.has_tag is.utf8)

pub word-utf8 : {T M : Type 0} (rs : List (Run (TextStyle T) M)) (style : Option (TextStyle T)) (closed behind : List ℕ) (word : Line (TextStyle T) M) →
    IsWord rs style closed behind word → IsUtf8 (text_bytes word)
word-utf8 rs style closed behind word is =
    subst IsUtf8 (sym (word-bytes rs style closed behind word is)) (IsUtf8-append closed behind (IsUtf8-Cuts rs closed is.cuts) is.utf8)

pub word-slots : {T M : Type 0} (continues : Bool) (rs : List (Run (TextStyle T) M)) (style : Option (TextStyle T)) (closed behind : List ℕ)
    (word : Line (TextStyle T) M) → IsWord rs style closed behind word →
    flat_map (run_slots continues) rs ++ open_slots continues style (length behind) ≡ line_slots (map (element_of continues) (items_of word))
word-slots {T} {M} continues rs style closed behind word is =
    let front : Line (TextStyle T) M = elements_of rs closed in
    let rest : Line (TextStyle T) M = open_elements style behind in
    sym (ap (λ (y : Line (TextStyle T) M). line_slots (placed continues y)) (sym is.elements)
    ∙ ap (λ (y : Line T M). line_slots y) (placed-append continues front rest)
    ∙ slots-append (placed continues front) (placed continues rest)
    ∙ ap (λ (y : List (Slot T M)). y ++ line_slots (placed continues rest)) (run-slots continues rs closed is.cuts)
    ∙ ap (λ (y : List (Slot T M)). flat_map (run_slots continues) rs ++ y) (open-slots M continues style behind is.utf8))

-- a word on the open line
pub worded : {T M : Type 0} (f : Fields T M) (ls : List (Line T M)) (l : Line T M) (bs : List ℕ) (ss : List (Slot T M)) (count : Option ℕ) (continues : Bool)
    (word : Line (TextStyle T) M) (width : ℕ) → IsStored f ls l → IsUtf8 (text_bytes word) → bs ≡ f.text ++ text_bytes word →
    ss ≡ f.slots ++ line_slots (map (element_of continues) (items_of word)) → width ≡ columns word → count ≡ counted (columns l + width) →
    IsStored (record f { text = bs; slots = ss; columns = count }) ls (l ++ map (element_of continues) (items_of word))
worded {T} {M} f ls l bs ss count continues word width is utf8 e g w h =
    let bytes : text_bytes word ≡ text_bytes (placed continues word) = sym (placed-bytes continues word) in
    added f ls l (placed continues word) bs ss count is (subst IsUtf8 bytes utf8) (e ∙ ap (λ y. f.text ++ y) bytes) g
    (h ∙ ap (λ k. counted (columns l + k)) (w ∙ sym (placed-columns continues word)))

-- a word's text and slots at the end of others
pub bytes-put : {T M : Type 0} (rs : List (Run (TextStyle T) M)) (style : Option (TextStyle T)) (closed behind : List ℕ) (word : Line (TextStyle T) M)
    (old a b : List ℕ) → IsWord rs style closed behind word → a ≡ old ++ closed → b ≡ a ++ behind → b ≡ old ++ text_bytes word
bytes-put rs style closed behind word old a b is e f =
    rw (f, e) (append_assoc old closed behind ∙ ap (λ y. old ++ y) (sym (word-bytes rs style closed behind word is)))

pub slots-put : {T M : Type 0} (continues : Bool) (rs : List (Run (TextStyle T) M)) (style : Option (TextStyle T)) (closed behind : List ℕ)
    (word : Line (TextStyle T) M) (old a b : List (Slot T M)) → IsWord rs style closed behind word → a ≡ old ++ flat_map (run_slots continues) rs →
    b ≡ a ++ open_slots continues style (length behind) → b ≡ old ++ line_slots (map (element_of continues) (items_of word))
slots-put {T} {M} continues rs style closed behind word old a b is e f =
    rw (f, e) (append_assoc old (flat_map (run_slots continues) rs) (open_slots continues style (length behind))
    ∙ ap (λ (y : List (Slot T M)). old ++ y) (word-slots continues rs style closed behind word is))
