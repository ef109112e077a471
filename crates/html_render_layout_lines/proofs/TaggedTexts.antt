-- A text under runs of tags: how its line grows, and its bytes.
use Rattle.std.proofs.Common.{◌≡◌, ℕ, suc, ◌-◌, ◌==◌, true, false, List, [], ◌∷◌, ◌++◌, Option, Some, None}
use Rattle.std.proofs.Common.{take, drop, length, refl, sym, ap, ◌∙◌, subst, arith, append_assoc, append-nil, length-append, length-drop}
use Rattle.std.proofs.lemmas.List.{take-append-le, drop-append-le, take-append-drop, map-append, drop_all, take_all, length-take}
use Rattle.std.proofs.lemmas.List.Concat.{flat_map-append}
use Rattle.std.proofs.lemmas.Bool.{eqb-true, ne_eqb}
use Rattle.std.proofs.lemmas.Str.{chars-append, chars-nil, IsUtf8-append, IsUtf8-nil, encodes-chars}
use Rattle.std.specs.Str.{chars, IsUtf8, encode_utf8_all}
use Rattle.std.specs.Prelude.{encode_utf8}
use Rattle.html_render_layout_lines.specs.declared.line.Element.{Element}
use Rattle.html_render_layout_lines.specs.declared.line.Element.TheVariants as element
use Rattle.html_render_layout_lines.specs.declared.line.tagged_text.Run.{Run}
use Rattle.html_render_layout_lines.specs.declared.line.tagged_text.Run.TheVariants as run
use Rattle.html_render_layout_lines.specs.Line.{Line, bytes_of, text_bytes}
use Rattle.html_render_layout_lines.specs.laws.Cases.{is_empty-cons}
use Rattle.html_render_layout_lines.specs.TaggedText.{under, elements_of, Cuts, open_elements, all_elements, HasTag, IsCut, closed_run}

-- ---- runs over a text, and more runs over more text

pub elements-append : {T M : Type 0} (rs qs : List (Run T M)) (xs bs : List ℕ) → Cuts rs xs →
    elements_of (rs ++ qs) (xs ++ bs) ≡ elements_of rs xs ++ elements_of qs bs
elements-append [] qs xs bs cuts = rw cuts refl
elements-append (run.Mark m ∷ rs) qs xs bs cuts = ap (λ es. element.Mark m ∷ es) (elements-append rs qs xs bs cuts)
elements-append (run.Text n tag ∷ rs) qs xs bs cuts =
    let front : take n (xs ++ bs) ≡ take n xs = take-append-le n xs bs cuts.0 in
    let rest : drop n (xs ++ bs) ≡ drop n xs ++ bs = drop-append-le n xs bs cuts.0 in
    let more = elements-append rs qs (drop n xs) bs cuts.2 in
    rw (front, rest, more) (sym (append_assoc (under tag (chars (take n xs))) (elements_of rs (drop n xs)) (elements_of qs bs)))

pub Cuts-append : {T M : Type 0} (rs qs : List (Run T M)) (xs bs : List ℕ) → Cuts rs xs → Cuts qs bs → Cuts (rs ++ qs) (xs ++ bs)
Cuts-append [] qs xs bs cuts more = rw cuts more
Cuts-append (run.Mark m ∷ rs) qs xs bs cuts more = Cuts-append rs qs xs bs cuts more
Cuts-append (run.Text n tag ∷ rs) qs xs bs cuts more =
    let front : take n xs ≡ take n (xs ++ bs) = sym (take-append-le n xs bs cuts.0) in
    let rest : drop n xs ++ bs ≡ drop n (xs ++ bs) = sym (drop-append-le n xs bs cuts.0) in (
      omega (arith, length-append xs bs, cuts.0),
      subst IsUtf8 front cuts.1,
      subst (Cuts (rs ++ qs)) rest (Cuts-append rs qs (drop n xs) bs cuts.2 more),
      cuts.3,
    )

-- ---- closing the open run

closed-elements : {T M : Type 0} (tag : Option T) (bs : List ℕ) → HasTag tag bs →
    elements_of {M = M} (closed_run tag (length bs)) bs ≡ open_elements tag bs
closed-elements None bs none = refl
closed-elements {T} {M} (Some tag) [] none = ap (under {M = M} tag) (sym chars-nil)
closed-elements {T} {M} (Some tag) (b ∷ bs) none =
    append-nil (under tag (chars (take (suc (length bs)) (b ∷ bs))))
    ∙ ap (λ cs. under tag (chars (b ∷ cs))) (take_all (length bs) bs (omega arith))

closed-cuts : {T : Type 0} (M : Type 0) (tag : Option T) (bs : List ℕ) → HasTag tag bs → IsUtf8 bs →
    Cuts {M = M} (closed_run tag (length bs)) bs
closed-cuts M None bs none utf8 = none
closed-cuts M (Some tag) [] none utf8 = refl
closed-cuts M (Some tag) (b ∷ bs) none utf8 = (
  omega arith,
  subst IsUtf8 (sym (ap (λ cs. b ∷ cs) (take_all (length bs) bs (omega arith)))) utf8,
  drop_all (length bs) bs (omega arith),
  omega arith,
)

closed-whole : {T M : Type 0} (rs : List (Run T M)) (tag : Option T) (start n : ℕ) (bs : List ℕ) → IsCut rs tag start bs →
    n ≡ length bs - start → all_elements (rs ++ closed_run tag n) None (length bs) bs ≡ all_elements rs tag start bs
closed-whole {T} {M} rs tag start n bs cut e =
    let whole : take (length bs) bs ≡ take start bs ++ drop start bs = take_all (length bs) bs (omega arith)
    ∙ sym (take-append-drop start bs) in
    let same : n ≡ length (drop start bs) = e ∙ sym (length-drop start bs) in
    append-nil (elements_of (rs ++ closed_run tag n) (take (length bs) bs))
    ∙ rw (whole, same) (elements-append rs (closed_run tag (length (drop start bs))) (take start bs) (drop start bs) cut.closed
    ∙ ap (λ es. elements_of rs (take start bs) ++ es) (closed-elements {M = M} tag (drop start bs) cut.has_tag))

closed-is : {T M : Type 0} (rs : List (Run T M)) (tag : Option T) (start n : ℕ) (bs : List ℕ) → IsCut rs tag start bs →
    n ≡ length bs - start → IsCut (rs ++ closed_run tag n) None (length bs) bs
closed-is rs tag start n bs cut e =
    let whole : take start bs ++ drop start bs ≡ take (length bs) bs =
    sym (take_all (length bs) bs (omega arith) ∙ sym (take-append-drop start bs)) in
    let same : length (drop start bs) ≡ n = sym (e ∙ sym (length-drop start bs)) in
    let none : [] ≡ drop (length bs) bs = sym (drop_all (length bs) bs (omega arith)) in
    record {
      within = omega arith;
      closed = subst (Cuts (rs ++ closed_run tag n)) whole
          (subst (λ k. Cuts (rs ++ closed_run tag k) (take start bs ++ drop start bs)) same
          (Cuts-append rs (closed_run tag (length (drop start bs))) (take start bs) (drop start bs) cut.closed
          (closed-cuts _ tag (drop start bs) cut.has_tag cut.ending)));
      ending = subst IsUtf8 none IsUtf8-nil;
      has_tag = sym none;
    }

pub all-closed : {T M : Type 0} (rs : List (Run T M)) (tag : Option T) (start end : ℕ) (bs : List ℕ) → IsCut rs tag start bs →
    end ≡ length bs → all_elements (rs ++ closed_run tag (end - start)) None end bs ≡ all_elements rs tag start bs
all-closed {T} {M} rs tag start end bs cut e =
    rw e (closed-whole rs tag start (length bs - start) bs cut refl)

pub is-closed : {T M : Type 0} (rs : List (Run T M)) (tag : Option T) (start end : ℕ) (bs : List ℕ) → IsCut rs tag start bs →
    end ≡ length bs → IsCut (rs ++ closed_run tag (end - start)) None end bs
is-closed rs tag start end bs cut e = rw e (closed-is rs tag start (length bs - start) bs cut refl)

-- ---- opening a run

pub all-opened : {T M : Type 0} (rs : List (Run T M)) (none : Option T) (tag : T) (start : ℕ) (bs : List ℕ) → IsCut rs none start bs →
    none ≡ None → all_elements rs (Some tag) start bs ≡ all_elements rs none start bs
all-opened rs (Some other) tag start bs cut e = cc
all-opened {T} {M} rs None tag start bs cut e =
    ap (λ es. elements_of rs (take start bs) ++ es) (ap (λ cs. under {M = M} tag (chars cs)) cut.has_tag ∙ ap (under {M = M} tag) chars-nil)

-- ---- text at the end of the open run

pub all-longer : {T M : Type 0} (rs : List (Run T M)) (some : Option T) (tag : T) (start : ℕ) (bs cs : List ℕ) → IsCut rs some start bs →
    some ≡ Some tag → all_elements rs some start (bs ++ cs) ≡ all_elements rs some start bs ++ under tag (chars cs)
all-longer rs None tag start bs cs cut e = cc
all-longer {T} {M} rs (Some own) tag start bs cs cut e =
    let same : own ≡ tag = cc in
    let front : take start (bs ++ cs) ≡ take start bs = take-append-le start bs cs cut.within in
    let rest : drop start (bs ++ cs) ≡ drop start bs ++ cs = drop-append-le start bs cs cut.within in
    rw (
      same,
      front,
      rest,
      chars-append (drop start bs) cs cut.ending,
      map-append {B = Element T M} (λ (c : ℕ). element.Character c tag) (chars (drop start bs)) (chars cs),
    )
    (sym (append_assoc (elements_of rs (take start bs)) (under tag (chars (drop start bs))) (under tag (chars cs))))

pub is-longer : {T M : Type 0} (rs : List (Run T M)) (some : Option T) (tag : T) (start : ℕ) (bs cs : List ℕ) → IsCut rs some start bs →
    some ≡ Some tag → IsUtf8 cs → IsCut rs some start (bs ++ cs)
is-longer rs None tag start bs cs cut e utf8 = cc
is-longer rs (Some own) tag start bs cs cut e utf8 = record {
  within = omega (arith, length-append bs cs, cut.within);
  closed = subst (Cuts rs) (sym (take-append-le start bs cs cut.within)) cut.closed;
  ending = subst IsUtf8 (sym (drop-append-le start bs cs cut.within)) (IsUtf8-append (drop start bs) cs cut.ending utf8);
  has_tag = tt;
}

-- ---- a mark behind the closed runs

pub all-marked : {T M : Type 0} (rs : List (Run T M)) (none : Option T) (m : M) (start : ℕ) (bs : List ℕ) → IsCut rs none start bs →
    none ≡ None → all_elements (rs ++ run.Mark m ∷ []) none start bs ≡ all_elements rs none start bs ++ element.Mark m ∷ []
all-marked rs (Some own) m start bs cut e = cc
all-marked rs None m start bs cut e =
    let more = elements-append rs (run.Mark m ∷ []) (take start bs) [] cut.closed in
    let whole : take start bs ++ [] ≡ take start bs = append-nil (take start bs) in
    append-nil (elements_of (rs ++ run.Mark m ∷ []) (take start bs)) ∙ (rw whole at more)
    ∙ ap (λ es. es ++ element.Mark m ∷ []) (sym (append-nil (elements_of rs (take start bs))))

pub is-marked : {T M : Type 0} (rs : List (Run T M)) (tag : Option T) (m : M) (start : ℕ) (bs : List ℕ) → IsCut rs tag start bs →
    IsCut (rs ++ run.Mark m ∷ []) tag start bs
is-marked rs tag m start bs cut = record {
  within = cut.within;
  closed = subst (Cuts (rs ++ run.Mark m ∷ [])) (append-nil (take start bs))
      (Cuts-append rs (run.Mark m ∷ []) (take start bs) [] cut.closed refl);
  ending = cut.ending;
  has_tag = cut.has_tag;
}

-- ---- the bytes

pub bytes-append : {T M : Type 0} (es fs : Line T M) → text_bytes (es ++ fs) ≡ text_bytes es ++ text_bytes fs
bytes-append {T} {M} es fs = flat_map-append (λ (e : Element T M). bytes_of e) es fs

bytes-characters : {T : Type 0} (M : Type 0) (tag : T) (cs : List ℕ) → text_bytes (under {M = M} tag cs) ≡ encode_utf8_all cs
bytes-characters M tag [] = refl
bytes-characters M tag (c ∷ cs) = ap (λ bs. encode_utf8 c ++ bs) (bytes-characters M tag cs)

bytes-under : {T : Type 0} (M : Type 0) (tag : T) (bs : List ℕ) → IsUtf8 bs → text_bytes (under {M = M} tag (chars bs)) ≡ bs
bytes-under M tag bs utf8 = bytes-characters M tag (chars bs) ∙ encodes-chars bs utf8

bytes-elements : {T M : Type 0} (rs : List (Run T M)) (bs : List ℕ) → Cuts rs bs → text_bytes (elements_of rs bs) ≡ bs
bytes-elements [] bs cuts = sym cuts
bytes-elements (run.Mark m ∷ rs) bs cuts = bytes-elements rs bs cuts
bytes-elements {T} {M} (run.Text n tag ∷ rs) bs cuts =
    bytes-append (under tag (chars (take n bs))) (elements_of rs (drop n bs))
    ∙ rw (bytes-under M tag (take n bs) cuts.1, bytes-elements rs (drop n bs) cuts.2) (take-append-drop n bs)

bytes-open : {T : Type 0} (M : Type 0) (tag : Option T) (bs : List ℕ) → HasTag tag bs → IsUtf8 bs →
    text_bytes (open_elements {M = M} tag bs) ≡ bs
bytes-open M None bs none utf8 = sym none
bytes-open M (Some tag) bs none utf8 = bytes-under M tag bs utf8

-- what is written is the text itself
pub bytes-all : {T M : Type 0} (rs : List (Run T M)) (tag : Option T) (start : ℕ) (bs : List ℕ) → IsCut rs tag start bs →
    text_bytes (all_elements rs tag start bs) ≡ bs
bytes-all {T} {M} rs tag start bs cut =
    bytes-append (elements_of rs (take start bs)) (open_elements tag (drop start bs))
    ∙ rw (bytes-elements rs (take start bs) cut.closed, bytes-open M tag (drop start bs) cut.has_tag cut.ending) (take-append-drop start bs)

-- ---- a text without bytes

empty-from : {T M : Type 0} (l : Line T M) (bs : List ℕ) → text_bytes l ≡ bs → (length bs == 0) ≡ false → (length l == 0) ≡ false
empty-from [] bs e h = cc
empty-from (x ∷ l) bs e h = is_empty-cons x l

pub some-bytes : {T M : Type 0} (rs : List (Run T M)) (tag : Option T) (start : ℕ) (bs : List ℕ) → IsCut rs tag start bs →
    (length bs == 0) ≡ false → (length (all_elements rs tag start bs) == 0) ≡ false
some-bytes rs tag start bs cut h = empty-from (all_elements rs tag start bs) bs (bytes-all rs tag start bs cut) h

nothing-open : {T : Type 0} (M : Type 0) (tag : Option T) → open_elements {M = M} tag [] ≡ []
nothing-open M None = refl
nothing-open M (Some tag) = ap (under {M = M} tag) chars-nil

pub no-bytes : {T M : Type 0} (rs : List (Run T M)) (tag : Option T) (start : ℕ) (bs : List ℕ) → IsCut rs tag start bs →
    (length bs == 0) ≡ true → (length rs == 0) ≡ (length (all_elements rs tag start bs) == 0)
no-bytes rs tag start (b ∷ bs) cut h = absurd (omega (arith, eqb-true (length (b ∷ bs)) 0 h))
no-bytes {T} {M} [] tag start [] cut h =
    let rest : drop start [] ≡ [] = drop_all {X = ℕ} start [] (omega arith) in
    rw (rest, nothing-open M tag) refl
no-bytes (run.Mark m ∷ rs) tag start [] cut h =
    is_empty-cons (run.Mark m) rs ∙ sym (ne_eqb (length (all_elements (run.Mark m ∷ rs) tag start [])) 0 (λ e. omega (arith, e)))
no-bytes (run.Text n own ∷ rs) tag start [] cut h =
    absurd (omega (arith, cut.closed.0, cut.closed.3, cut.within, length-take {A = ℕ} start []))
