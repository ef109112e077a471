-- Lines in pieces: how wide they are, and their first and last elements.
use Rattle.std.proofs.Common.{◌≡◌, ℕ, zero, suc, inl, inr, ◌⊎◌, ◌+◌, ◌-◌, ◌<◌, ◌≤◌, Bool, true, false, ◌&&◌, nat_le, List, [], ◌∷◌, ◌++◌, Some, map, take, drop, length, get_or, reverse, refl, sym, ap, ◌∙◌, subst, arith, append_assoc, append-nil, length-append}
use Rattle.std.specs.List.{list_all}
use Rattle.std.proofs.Math.Bool.{and-false}
use Rattle.std.proofs.lemmas.Bool.{le-leb, lt-leb}
use Rattle.std.proofs.lemmas.Bool.Decides.{leb_tells}
use Rattle.std.proofs.Math.Seq.{take-append_seam, drop-append_seam}
use Rattle.std.proofs.Math.Seq.{get_or-append_right}
use Rattle.std.proofs.Math.ListN.{get_or-append}
use Rattle.std.proofs.lemmas.List.{map-append, take_more, drop_more, take_all, drop_all, take-append-drop, length-map, length-take-le, length-drop, get_or-drop, get_or-take, reverse-append, reverse-reverse, nil_from_length}
use Rattle.std.proofs.lemmas.List.Concat.{flat_map-append}
use Rattle.std.proofs.lemmas.List.Elements.{All-nil, All-cons, All-append, All-head, All-tail, All-map, All-more}
use Rattle.std.proofs.lemmas.List.Folds.{map_fixed, list_all-append}
use Rattle.html_render_layout_lines.specs.declared.line.Element.TheVariants as element
use Rattle.html_render_layout_lines.specs.Line.{Line, columns, marks_line}
use Rattle.html_render_layout_lines.specs.laws.Columns.{columns-append, columns-cons, width-space}
use Rattle.html_render_layout_buffer.specs.Marked.{marked_before, marked_behind}
use Rattle.html_render_layout_buffer.specs.Padding.{repeated, filled_line, filled}
use Rattle.html_render_layout_buffer.specs.Prefixed.{prefixed}
use Rattle.html_render_layout_buffer.specs.Pieces.{with_front, lines_of, AllAtLeast, ArePieces, fits_after}
use Rattle.html_render_layout_buffer.proofs.Growing.{part-more}

-- ---- lists that are turned

-- the last part of a list is moved to its front
pub turned : {X : Type 0} (xs ys zs : List X) (k : ℕ) → zs ≡ xs ++ ys → k ≡ length ys → drop (length zs - k) zs ++ take (length zs - k) zs ≡ ys ++ xs
turned xs ys zs k e h =
    let here : length zs - k ≡ length xs = omega (arith, h, ap length e, length-append xs ys) in
    rw (here, e) (ap (λ l. l ++ take (length xs) (xs ++ ys)) (drop-append_seam xs ys) ∙ ap (λ l. ys ++ l) (take-append_seam xs ys))

-- the first element goes to the end, changed
pub one-turn : {X : Type 0} (f : X → X) (xs rest : List X) (i : ℕ) (p : X) → i < length xs → drop i xs ++ map f (take i xs) ≡ p ∷ rest →
    rest ++ f p ∷ [] ≡ drop (i + 1) xs ++ map f (take (i + 1) xs)
one-turn f xs rest i p h e =
    let x = get_or xs i p in
    let whole : x ∷ (drop (i + 1) xs ++ map f (take i xs)) ≡ p ∷ rest = ap (λ l. l ++ map f (take i xs)) (sym (drop_more xs i p h)) ∙ e in
    let head : x ≡ p = ap (λ l. get_or l 0 p) whole in
    let tail : drop (i + 1) xs ++ map f (take i xs) ≡ rest = ap (drop 1) whole in
    ap (λ l. l ++ f p ∷ []) (sym tail) ∙ append_assoc (drop (i + 1) xs) (map f (take i xs)) (f p ∷ [])
    ∙ ap (λ y. drop (i + 1) xs ++ (map f (take i xs) ++ f y ∷ [])) (sym head)
    ∙ ap (λ l. drop (i + 1) xs ++ l) (sym (ap (map f) (take_more xs i p h) ∙ map-append f (take i xs) (x ∷ [])))

-- the outer parts of a list are changed: its last part is turned to the front, both go to the end in turn, and the first part to the front again
pub outer-changed : {X : Type 0} (f : X → X) (xs ys zs all turn end : List X) (first last count more : ℕ) → count ≡ length all → more ≡ length end → all ≡ xs ++ (ys ++ zs) → first ≡ length xs → last ≡ length zs →
    turn ≡ drop (count - last) all ++ take (count - last) all →
    end ≡ drop (first + last) turn ++ map f (take (first + last) turn) →
    drop (more - first) end ++ take (more - first) end ≡ map f xs ++ (ys ++ map f zs)
outer-changed f xs ys zs all turn end first last count more m n e a b t u =
    let turn_is : turn ≡ (zs ++ xs) ++ ys = t ∙ ap (λ k. drop (k - last) all ++ take (k - last) all) m ∙ turned (xs ++ ys) zs all last (e ∙ sym (append_assoc xs ys zs)) b ∙ sym (append_assoc zs xs ys) in
    let both : first + last ≡ length (zs ++ xs) = omega (arith, a, b, length-append zs xs) in
    let end_is : end ≡ (ys ++ map f zs) ++ map f xs =
    u ∙ ap (λ k. drop k turn ++ map f (take k turn)) both
    ∙ ap (λ l. drop (length (zs ++ xs)) l ++ map f (take (length (zs ++ xs)) l)) turn_is
    ∙ ap (λ l. l ++ map f (take (length (zs ++ xs)) ((zs ++ xs) ++ ys))) (drop-append_seam (zs ++ xs) ys)
    ∙ ap (λ l. ys ++ map f l) (take-append_seam (zs ++ xs) ys)
    ∙ ap (λ l. ys ++ l) (map-append f zs xs) ∙ sym (append_assoc ys (map f zs) (map f xs)) in
    ap (λ k. drop (k - first) end ++ take (k - first) end) n ∙ turned (ys ++ map f zs) (map f xs) end first end_is (a ∙ sym (length-map xs f))

-- ---- all of some

pub all-more : {X : Type 0} (p : X → Bool) (xs : List X) (from n : ℕ) (d : X) → from ≤ n → n < length xs →
    list_all p (drop from (take n xs)) ≡ true → p (get_or xs n d) ≡ true → list_all p (drop from (take (n + 1) xs)) ≡ true
all-more p xs from n d h k e f =
    ap (list_all p) (part-more xs from n d h k) ∙ list_all-append p (drop from (take n xs)) (get_or xs n d ∷ [])
    ∙ ap (λ b. b && (p (get_or xs n d) && true)) e ∙ ap (λ b. b && true) f

pub fails-at : {X : Type 0} (p : X → Bool) (xs : List X) (from n : ℕ) (d : X) → from ≤ n → n < length xs →
    p (get_or xs n d) ≡ false → list_all p (drop from xs) ≡ false
fails-at p [] from n d h k e = absurd (omega arith)
fails-at p (x ∷ xs) zero zero d h k e = ap (λ b. b && list_all p xs) e
fails-at p (x ∷ xs) zero (suc n) d h k e = ap (λ b. p x && b) (fails-at p xs zero n d (omega arith) (omega arith) e) ∙ and-false (p x)
fails-at p (x ∷ xs) (suc from) zero d h k e = absurd (omega arith)
fails-at p (x ∷ xs) (suc from) (suc n) d h k e = fails-at p xs from n d (omega arith) (omega arith) e

-- what fits after others fits in the room that they leave
room-le : (k c room : ℕ) → nat_le (k + c) (k + room) ≡ nat_le c room
room-le k c room = here (leb_tells c room)
  where
    here : ((nat_le c room ≡ true) × (c ≤ room)) ⊎ ((nat_le c room ≡ false) × (room < c)) → nat_le (k + c) (k + room) ≡ nat_le c room
    here (inl (e, h)) = le-leb (k + c) (k + room) (omega (arith, h)) ∙ sym e
    here (inr (e, h)) = lt-leb (k + c) (k + room) (omega (arith, h)) ∙ sym e

pub fits-in-room : {T M : Type 0} (k room width : ℕ) (ls : List (Line T M)) → k + room ≡ width →
    list_all (λ (l : Line T M). nat_le (k + columns l) width) ls ≡ list_all (λ (l : Line T M). nat_le (columns l) room) ls
fits-in-room k room width [] e = refl
fits-in-room {T} {M} k room width (l ∷ ls) e =
    ap (λ b. b && list_all (λ (m : Line T M). nat_le (k + columns m) width) ls) (ap (nat_le (k + columns l)) (sym e) ∙ room-le k (columns l) room)
    ∙ ap (λ b. nat_le (columns l) room && b) (fits-in-room k room width ls e)

-- no line is left, or one doesn't fit
pub none-fits : {T M : Type 0} (k from width : ℕ) (ls : List (Line T M)) → from ≤ length ls → width < k →
    nat_le (length ls) from ≡ list_all (λ (l : Line T M). nat_le (k + columns l) width) (drop from ls)
none-fits {T} {M} k from width ls h p = here (leb_tells (length ls) from)
  where
    fits : Line T M → Bool
    fits l = nat_le (k + columns l) width

    here : ((nat_le (length ls) from ≡ true) × (length ls ≤ from)) ⊎ ((nat_le (length ls) from ≡ false) × (from < length ls)) →
        nat_le (length ls) from ≡ list_all fits (drop from ls)
    here (inl (e, q)) = e ∙ sym (ap (list_all fits) (drop_all from ls q))
    here (inr (e, q)) = e ∙ sym (fails-at fits ls from from [] (omega arith) q (lt-leb (k + columns (get_or ls from [])) width (omega (arith, p))))

repeated-spaces : {T : Type 0} (M : Type 0) (tag : T) (n : ℕ) → columns (repeated {M = M} tag 32 n) ≡ n
repeated-spaces M tag zero = refl
repeated-spaces M tag (suc n) =
    omega (arith, columns-cons {M = M} (element.Character 32 tag) (repeated tag 32 n), width-space, repeated-spaces M tag n)

module _ {T M : Type 0} where
  -- ---- how wide lines are

  pub least-more : (ls : List (Line T M)) (n a b : ℕ) → n < length ls → AllAtLeast a (take n ls) → b ≤ a → b ≤ columns (get_or ls n []) →
      AllAtLeast b (take (n + 1) ls)
  least-more ls n a b h all k c = All-more (λ (l : Line T M). b ≤ columns l) ls n [] h (λ i d l. omega (arith, k, all i d l)) c

  least-fewer : (a b : ℕ) (ls : List (Line T M)) → AllAtLeast a ls → b ≤ a → AllAtLeast b ls
  least-fewer a b ls all h = λ k d l. omega (arith, h, all k d l)

  pub least-both : (n a b : ℕ) (xs ys : List (Line T M)) → AllAtLeast a xs → AllAtLeast b ys → n ≤ a → n ≤ b → AllAtLeast n (xs ++ ys)
  least-both n a b xs ys p q h k = All-append (λ (l : Line T M). n ≤ columns l) xs ys (least-fewer a n xs p h) (least-fewer b n ys q k)

  pub least-left : (n : ℕ) (xs ys : List (Line T M)) → AllAtLeast n (xs ++ ys) → AllAtLeast n xs
  least-left n [] ys all = All-nil (λ (l : Line T M). n ≤ columns l)
  least-left n (x ∷ xs) ys all =
      All-cons (λ (l : Line T M). n ≤ columns l) x xs (All-head (λ (l : Line T M). n ≤ columns l) x (xs ++ ys) all)
      (least-left n xs ys (All-tail (λ (l : Line T M). n ≤ columns l) x (xs ++ ys) all))

  pub least-right : (n : ℕ) (xs ys : List (Line T M)) → AllAtLeast n (xs ++ ys) → AllAtLeast n ys
  least-right n [] ys all = all
  least-right n (x ∷ xs) ys all = least-right n xs ys (All-tail (λ (l : Line T M). n ≤ columns l) x (xs ++ ys) all)

  filled-least : (tag : T) (w : ℕ) (l : Line T M) → w ≤ columns (filled_line tag w l)
  filled-least tag w l = omega (arith, columns-append l (repeated tag 32 (w - columns l)), repeated-spaces M tag (w - columns l))

  pub least-filled : (tag : T) (w : ℕ) (ls ks : List (Line T M)) → ks ≡ filled (Some tag) w ls → AllAtLeast w ks
  least-filled tag w ls ks e =
      subst (λ (y : List (Line T M)). AllAtLeast w y) (sym e)
      (All-map (λ (l : Line T M). w ≤ columns l) (filled_line tag w) ls (λ k d h. filled-least tag w (get_or ls k d)))

  wide-filled : (tag : T) (w : ℕ) (l : Line T M) → w ≤ columns l → filled_line tag w l ≡ l
  wide-filled tag w l h =
      let none : w - columns l ≡ 0 = omega (arith, h) in
      ap (λ n. l ++ repeated tag 32 n) none ∙ append-nil l

  -- lines that are wide enough stay as they are
  pub wide_filled : (tag : T) (w n : ℕ) (ls : List (Line T M)) → AllAtLeast n ls → w ≤ n → filled (Some tag) w ls ≡ ls
  wide_filled tag w n ls all h = map_fixed (filled_line tag w) ls (λ k d l. wide-filled tag w (get_or ls k d) (omega (arith, h, all k d l)))

  -- ---- a front

  pub front-append : (f g : Line T M) (ls : List (Line T M)) → with_front (f ++ g) ls ≡ with_front f (with_front g ls)
  front-append f g [] = refl
  front-append f g (l ∷ ls) = ap (λ x. x ∷ ls) (append_assoc f g l)

  -- without a front
  pub front-none : (xs : Line T M) (ls : List (Line T M)) → length xs ≡ 0 → with_front (reverse xs) ls ≡ ls
  front-none xs ls e = ap (λ (y : Line T M). with_front (reverse y) ls) (nil_from_length xs e) ∙ by ls
    where
      by : (ls : List (Line T M)) → with_front [] ls ≡ ls
      by [] = refl
      by (l ∷ ls) = refl

  pub front-length : (f : Line T M) (ls : List (Line T M)) → length (with_front f ls) ≡ length ls
  front-length f [] = refl
  front-length f (l ∷ ls) = refl

  pub front-marks : (ms : List M) (ls : List (Line T M)) → with_front (marks_line ms) ls ≡ marked_before ms ls
  front-marks ms [] = refl
  front-marks ms (l ∷ ls) = refl

  pub front-marked : (f : Line T M) (ms : List M) (ls : List (Line T M)) → with_front f (marked_behind ms ls) ≡ marked_behind ms (with_front f ls)
  front-marked f ms [] = refl
  front-marked f ms (l ∷ []) = ap (λ x. x ∷ []) (sym (append_assoc f l (marks_line ms)))
  front-marked f ms (l ∷ k ∷ ls) = refl

  pub marked-none : (ms : List M) (ls : List (Line T M)) → ms ≡ [] → marked_behind ms ls ≡ ls
  marked-none ms ls none = ap (λ ns. marked_behind ns ls) none ∙ by ls
    where
      by : (ls : List (Line T M)) → marked_behind [] ls ≡ ls
      by [] = refl
      by (l ∷ []) = ap (λ x. x ∷ []) (append-nil l)
      by (l ∷ k ∷ ls) = ap (λ x. l ∷ x) (by (k ∷ ls))

  pub length-behind : (ms : List M) (p : List (Line T M)) → length (marked_behind ms p) ≡ length p
  length-behind ms [] = refl
  length-behind ms (l ∷ []) = refl
  length-behind ms (l ∷ j ∷ ls) = ap suc (length-behind ms (j ∷ ls))

  -- the last line is that of the last lines
  pub marked-behind : (ms : List M) (xs ls : List (Line T M)) → 0 < length ls → marked_behind ms (xs ++ ls) ≡ xs ++ marked_behind ms ls
  marked-behind ms xs [] h = absurd (omega (arith, h))
  marked-behind ms [] (l ∷ ls) h = refl
  marked-behind ms (k ∷ []) (l ∷ ls) h = refl
  marked-behind ms (k ∷ j ∷ xs) (l ∷ ls) h = ap (λ x. k ∷ x) (marked-behind ms (j ∷ xs) (l ∷ ls) h)

  -- the first line is that of the first lines
  pub marked-before : (ms : List M) (ls xs : List (Line T M)) → 0 < length ls → marked_before ms (ls ++ xs) ≡ marked_before ms ls ++ xs
  marked-before ms [] xs h = absurd (omega (arith, h))
  marked-before ms (l ∷ ls) xs h = refl

  reversed-marks : (ms : List M) → reverse (marks_line {T = T} ms) ≡ marks_line (reverse ms)
  reversed-marks [] = refl
  reversed-marks (m ∷ ms) =
      let one : Line T M = element.Mark m ∷ [] in
      reverse-append one (marks_line ms) ∙ ap (λ r. r ++ one) (reversed-marks ms)
      ∙ sym (map-append (λ (m : M). element.Mark m) (reverse ms) (m ∷ [])) ∙ ap (λ (r : List M). marks_line r) (sym (reverse-append (m ∷ []) ms))

  -- elements that are stored in reverse
  pub front-put : (old new f : Line T M) → new ≡ old ++ reverse f → reverse new ≡ f ++ reverse old
  front-put old new f e = ap reverse e ∙ reverse-append old (reverse f) ∙ ap (λ r. r ++ reverse old) (reverse-reverse f)

  pub marks-put : (old new : Line T M) (ms : List M) → new ≡ old ++ marks_line (reverse ms) → reverse new ≡ marks_line ms ++ reverse old
  marks-put old new ms e = front-put old new (marks_line ms) (e ∙ ap (λ l. old ++ l) (sym (reversed-marks ms)))

  -- ---- lines of pieces

  pub lines_of-append : (ps qs : List (List (Line T M))) → lines_of (ps ++ qs) ≡ lines_of ps ++ lines_of qs
  lines_of-append ps qs = flat_map-append (λ (s : List (Line T M)). s) ps qs

  pub lines_of-end : (ps : List (List (Line T M))) (p : List (Line T M)) → lines_of (ps ++ p ∷ []) ≡ lines_of ps ++ p
  lines_of-end ps p = lines_of-append ps (p ∷ []) ∙ ap (λ l. lines_of ps ++ l) (append-nil p)

  pub lines-filled : (tag : T) (w : ℕ) (ps : List (List (Line T M))) → lines_of (map (filled (Some tag) w) ps) ≡ filled (Some tag) w (lines_of ps)
  lines-filled tag w [] = refl
  lines-filled tag w (p ∷ ps) =
      ap (λ l. filled (Some tag) w p ++ l) (lines-filled tag w ps) ∙ sym (map-append (filled_line tag w) p (lines_of ps))

  -- outer pieces are filled, and those between them are as wide
  pub outer-filled : (tag : T) (w n : ℕ) (xs ys zs : List (List (Line T M))) → AllAtLeast n (lines_of ys) → w ≤ n →
      lines_of (map (filled (Some tag) w) xs ++ (ys ++ map (filled (Some tag) w) zs)) ≡ filled (Some tag) w (lines_of (xs ++ (ys ++ zs)))
  outer-filled tag w n xs ys zs all h =
      let fill : List (Line T M) → List (Line T M) = filled (Some tag) w in
      lines_of-append (map fill xs) (ys ++ map fill zs)
      ∙ ap (λ l. lines_of (map fill xs) ++ l) (lines_of-append ys (map fill zs))
      ∙ ap (λ l. l ++ (lines_of ys ++ lines_of (map fill zs))) (lines-filled tag w xs)
      ∙ ap (λ l. fill (lines_of xs) ++ (l ++ lines_of (map fill zs))) (sym (wide_filled tag w n (lines_of ys) all h))
      ∙ ap (λ l. fill (lines_of xs) ++ (fill (lines_of ys) ++ l)) (lines-filled tag w zs)
      ∙ sym (ap fill (lines_of-append xs (ys ++ zs) ∙ ap (λ l. lines_of xs ++ l) (lines_of-append ys zs))
      ∙ map-append (filled_line tag w) (lines_of xs) (lines_of ys ++ lines_of zs)
      ∙ ap (λ l. fill (lines_of xs) ++ l) (map-append (filled_line tag w) (lines_of ys) (lines_of zs)))

  -- ---- what is known of pieces

  pub length-lines : (ps qs : List (List (Line T M))) → length (lines_of (ps ++ qs)) ≡ length (lines_of ps) + length (lines_of qs)
  length-lines ps qs = ap length (lines_of-append ps qs) ∙ length-append (lines_of ps) (lines_of qs)

  pub one-lines : (p : List (Line T M)) → length (lines_of (p ∷ [])) ≡ length p
  one-lines p = ap length (append-nil p)

  count-of : (ps qs : List (List (Line T M))) → ps ≡ qs → length (lines_of ps) ≡ length (lines_of qs)
  count-of ps qs e = ap (λ (y : List (List (Line T M))). length (lines_of y)) e

  pub rest-count : (ps rs : List (List (Line T M))) (p : List (Line T M)) → ps ≡ p ∷ rs → length (lines_of ps) ≡ length p + length (lines_of rs)
  rest-count ps rs p e = count-of ps (p ∷ rs) e ∙ length-append p (lines_of rs)

  pub but-last-count : (ps rs : List (List (Line T M))) (p : List (Line T M)) → ps ≡ rs ++ p ∷ [] → length (lines_of ps) ≡ length p + length (lines_of rs)
  but-last-count ps rs p e = omega (arith, count-of ps (rs ++ p ∷ []) e, length-lines rs (p ∷ []), one-lines p)

  -- pieces at the end, or in front
  pub known-end : (front back least count more all : ℕ) (ps qs rs : List (List (Line T M))) → ArePieces front back least count ps → rs ≡ ps ++ qs →
      more ≡ back + length qs → all ≡ count + length (lines_of qs) → ArePieces front more least all rs
  known-end front back least count more all ps qs rs is e f h = record {
    wide = λ i k l.
        let inside : i < length ps = omega (arith, l, f, ap length e, length-append ps qs) in
        subst (λ y. AllAtLeast least y) (sym (get_or-append ps qs [] i inside) ∙ ap (λ y. get_or y i []) (sym e)) (is.wide i k (omega (arith, l, f, ap length e, length-append ps qs)));
    counts = omega (arith, h, is.counts, count-of rs (ps ++ qs) e, length-lines ps qs);
  }

  pub known-front : (front back least count more all : ℕ) (ps qs rs : List (List (Line T M))) → ArePieces front back least count ps → rs ≡ qs ++ ps →
      more ≡ length qs + front → all ≡ length (lines_of qs) + count → ArePieces more back least all rs
  known-front front back least count more all ps qs rs is e f h = record {
    wide = λ i k l.
        let outside : length qs ≤ i = omega (arith, k, f) in
        subst (λ y. AllAtLeast least y) (sym (get_or-append_right qs ps i [] outside) ∙ ap (λ y. get_or y i []) (sym e))
        (is.wide (i - length qs) (omega (arith, k, f)) (omega (arith, l, k, f, ap length e, length-append qs ps)));
    counts = omega (arith, h, is.counts, count-of rs (qs ++ ps) e, length-lines qs ps);
  }

  -- the first or last piece is taken out
  pub known-rest : (front back least count more all : ℕ) (ps rs : List (List (Line T M))) (p : List (Line T M)) → ArePieces front back least count ps → ps ≡ p ∷ rs →
      more ≡ front - 1 → all + length p ≡ count → ArePieces more back least all rs
  known-rest front back least count more all ps rs p is e f h = record {
    wide = λ i k l. subst (λ y. AllAtLeast least y) (ap (λ y. get_or y (suc i) []) e) (is.wide (suc i) (omega (arith, k, f)) (omega (arith, l, ap length e)));
    counts = omega (arith, h, is.counts, rest-count ps rs p e);
  }

  pub known-but-last : (front back least count more all : ℕ) (ps rs : List (List (Line T M))) (p : List (Line T M)) → ArePieces front back least count ps →
      ps ≡ rs ++ p ∷ [] → more ≡ back - 1 → all + length p ≡ count → ArePieces front more least all rs
  known-but-last front back least count more all ps rs p is e f h = record {
    wide = λ i k l.
        let inside : i < length rs = omega (arith, l) in
        subst (λ y. AllAtLeast least y) (ap (λ y. get_or y i []) e ∙ get_or-append rs (p ∷ []) [] i inside)
        (is.wide i k (omega (arith, l, f, ap length e, length-append rs (p ∷ []))));
    counts = omega (arith, h, is.counts, but-last-count ps rs p e);
  }

  -- pieces that are filled
  at-least-at : (n : ℕ) (ps : List (List (Line T M))) (i : ℕ) → i < length ps → AllAtLeast n (lines_of ps) → AllAtLeast n (get_or ps i [])
  at-least-at n [] i h all = absurd (omega arith)
  at-least-at n (p ∷ ps) zero h all = least-left n p (lines_of ps) all
  at-least-at n (p ∷ ps) (suc i) h all = at-least-at n ps i (omega (arith, h)) (least-right n p (lines_of ps) all)

  at-least-all : (n : ℕ) (ps : List (List (Line T M))) → ((i : ℕ) → i < length ps → AllAtLeast n (get_or ps i [])) → AllAtLeast n (lines_of ps)
  at-least-all n [] each = All-nil (λ (l : Line T M). n ≤ columns l)
  at-least-all n (p ∷ ps) each =
      least-both n n n p (lines_of ps) (each 0 (omega arith)) (at-least-all n ps (λ i h. each (suc i) (omega (arith, h)))) (omega arith) (omega arith)

  pub known-filled : (tag : T) (w front back least count : ℕ) (ps qs : List (List (Line T M))) → ArePieces front back least count ps →
      lines_of qs ≡ filled (Some tag) w (lines_of ps) → ArePieces 0 0 w count qs
  known-filled tag w front back least count ps qs is e = record {
    wide = λ i k l. at-least-at w qs i (omega (arith, l)) (least-filled tag w (lines_of ps) (lines_of qs) e);
    counts = is.counts ∙ sym (ap length e ∙ length-map (lines_of ps) (filled_line tag w));
  }

  -- the first pieces, the last ones, and those between them
  pub record AreParts (front back : ℕ) (ps : List (List (Line T M))) : Type 0 where
    pub all : ps ≡ take front (take (length ps - back) ps) ++ (drop front (take (length ps - back) ps) ++ drop (length ps - back) ps)
    pub first : front ≡ length (take front (take (length ps - back) ps))
    pub last : back ≡ length (drop (length ps - back) ps)

  pub parts : (front back : ℕ) (ps : List (List (Line T M))) → front + back ≤ length ps → AreParts front back ps
  parts front back ps fit =
      let n = length ps - back in
      let before = take n ps in
      let size : length before ≡ n = length-take-le n ps (omega (arith, fit)) in
      record {
        all = sym (take-append-drop n ps) ∙ ap (λ y. y ++ drop n ps) (sym (take-append-drop front before))
            ∙ append_assoc (take front before) (drop front before) (drop n ps);
        first = sym (length-take-le front before (omega (arith, size, fit)));
        last = omega (arith, length-drop n ps, fit);
      }

  pub filled-outside : (tag : T) (w front back least n : ℕ) (ps qs : List (List (Line T M))) → ArePieces front back least n ps → front + back ≤ length ps → w ≤ least →
      qs ≡ map (filled (Some tag) w) (take front (take (length ps - back) ps))
      ++ (drop front (take (length ps - back) ps) ++ map (filled (Some tag) w) (drop (length ps - back) ps)) →
      lines_of qs ≡ filled (Some tag) w (lines_of ps)
  filled-outside tag w front back least n ps qs is fit h e =
      let m = length ps - back in
      let size : length (take m ps) ≡ m = length-take-le m ps (omega (arith, fit)) in
      let wide : AllAtLeast least (lines_of (drop front (take m ps))) = at-least-all least (drop front (take m ps)) (λ i k.
      let below : front + i < m = omega (arith, k, size, length-drop front (take m ps)) in
      subst (λ y. AllAtLeast least y) (sym (get_or-drop front (take m ps) i [] ∙ get_or-take m ps (front + i) [] below))
      (is.wide (front + i) (omega arith) (omega (arith, below, fit)))) in
      ap (λ (y : List (List (Line T M))). lines_of y) e
      ∙ outer-filled tag w least (take front (take m ps)) (drop front (take m ps)) (drop m ps) wide h
      ∙ ap (λ (y : List (List (Line T M))). filled (Some tag) w (lines_of y)) (sym (parts front back ps fit).all)

  pub filled-all : (tag : T) (w n : ℕ) (ps qs : List (List (Line T M))) → n ≡ length ps → qs ≡ drop n ps ++ map (filled (Some tag) w) (take n ps) →
      lines_of qs ≡ filled (Some tag) w (lines_of ps)
  filled-all tag w n ps qs e f =
      let most : length ps ≤ n = omega (arith, e) in
      ap (λ (y : List (List (Line T M))). lines_of y)
      (f ∙ ap (λ y. y ++ map (filled (Some tag) w) (take n ps)) (drop_all n ps most) ∙ ap (λ y. map (filled (Some tag) w) y) (take_all n ps most)) ∙ lines-filled tag w ps

  -- ---- lines that fit

  abbrev fits : ℕ → ℕ → Line T M → Bool
  fits before w l = nat_le (before + columns l) w

  pub all-fit : (b w : ℕ) (ls : List (Line T M)) → fits_after b b w ls ≡ list_all (fits b w) ls
  all-fit b w [] = refl
  all-fit b w (l ∷ ls) = refl

  pub fit-parts : (a b w : ℕ) (xs ys : List (Line T M)) → 0 < length xs → fits_after a b w (xs ++ ys) ≡ (fits_after a b w xs && list_all (fits b w) ys)
  fit-parts a b w [] ys h = absurd (omega (arith, h))
  fit-parts a b w (x ∷ xs) ys h =
      ap (λ r. fits a w x && r) (list_all-append (fits b w) xs ys) ∙ assoc (fits a w x) (list_all (fits b w) xs) (list_all (fits b w) ys)
    where
      assoc : (x y z : Bool) → (x && (y && z)) ≡ ((x && y) && z)
      assoc true y z = refl
      assoc false y z = refl

  -- the first line of a piece after its front, and the others
  pub piece-fits : (f : Line T M) (a b w : ℕ) (ls : List (Line T M)) → 0 < length ls →
      fits_after a b w (with_front f ls) ≡ (nat_le ((a + columns f) + columns (get_or ls 0 [])) w && list_all (fits b w) (drop 1 ls))
  piece-fits f a b w [] h = absurd (omega (arith, h))
  piece-fits f a b w (l ∷ ls) h =
      let same : a + columns (f ++ l) ≡ (a + columns f) + columns l = omega (arith, columns-append f l) in
      ap (λ n. nat_le n w && list_all (fits b w) ls) same

  pub first-fits : (a b w : ℕ) (ps : List (List (Line T M))) (p : List (Line T M)) → 0 < length ps → p ≡ get_or ps 0 p → 0 < length p →
      fits_after a b w (lines_of ps) ≡ (fits_after a b w p && list_all (fits b w) (lines_of (drop 1 ps)))
  first-fits a b w [] p h e k = absurd (omega (arith, h))
  first-fits a b w (q ∷ qs) p h e k = ap (λ y. fits_after a b w (y ++ lines_of qs)) (sym e) ∙ fit-parts a b w p (lines_of qs) k

  -- ---- all lines of some pieces

  pub pieces-more : (f : Line T M → Bool) (ps : List (List (Line T M))) (p : List (Line T M)) (n : ℕ) → 1 ≤ n → n < length ps → p ≡ get_or ps n p →
      list_all f (lines_of (drop 1 (take n ps))) ≡ true → list_all f p ≡ true → list_all f (lines_of (drop 1 (take (n + 1) ps))) ≡ true
  pieces-more f ps p n h k e a b =
      let before : List (List (Line T M)) = drop 1 (take n ps) in
      ap (λ (y : List (List (Line T M))). list_all f (lines_of y)) (part-more ps 1 n p h k) ∙ ap (list_all f) (lines_of-end before (get_or ps n p))
      ∙ list_all-append f (lines_of before) (get_or ps n p) ∙ ap (λ y. list_all f (lines_of before) && list_all f y) (sym e)
      ∙ ap (λ x. x && list_all f p) a ∙ b

  one-fails : (f : Line T M → Bool) (ps : List (List (Line T M))) (p : List (Line T M)) (n : ℕ) → n < length ps → p ≡ get_or ps n p →
      list_all f p ≡ false → list_all f (lines_of ps) ≡ false
  one-fails f [] p n h e failing = absurd (omega (arith, h))
  one-fails f (q ∷ qs) p zero h e failing =
      list_all-append f q (lines_of qs) ∙ ap (λ y. list_all f y && list_all f (lines_of qs)) (sym e) ∙ ap (λ x. x && list_all f (lines_of qs)) failing
  one-fails f (q ∷ qs) p (suc n) h e failing =
      let k : n < length qs = omega (arith, h) in
      list_all-append f q (lines_of qs) ∙ ap (λ x. list_all f q && x) (one-fails f qs p n k e failing) ∙ and-false (list_all f q)

  pub pieces-fail : (f : Line T M → Bool) (ps : List (List (Line T M))) (p : List (Line T M)) (n : ℕ) → 1 ≤ n → n < length ps → p ≡ get_or ps n p →
      list_all f p ≡ false → list_all f (lines_of (drop 1 ps)) ≡ false
  pieces-fail f [] p n h k e failing = absurd (omega (arith, k))
  pieces-fail f (q ∷ qs) p zero h k e failing = absurd (omega (arith, h))
  pieces-fail f (q ∷ qs) p (suc n) h k e failing =
      let l : n < length qs = omega (arith, k) in
      one-fails f qs p n l e failing

  -- ---- lines after a prefix

  pub prefixed-same : (l : Line T M) (xs : List (Line T M)) → prefixed l l xs ≡ map (λ (k : Line T M). l ++ k) xs
  prefixed-same l [] = refl
  prefixed-same l (x ∷ xs) = refl

  -- ---- a prefix in front of each line of pieces

  pub lines-mapped : (f : Line T M → Line T M) (ps : List (List (Line T M))) → lines_of (map (map f) ps) ≡ map f (lines_of ps)
  lines-mapped f [] = refl
  lines-mapped f (p ∷ ps) = ap (λ l. map f p ++ l) (lines-mapped f ps) ∙ sym (map-append f p (lines_of ps))

  pub lines-behind : (l : Line T M) (ps : List (List (Line T M))) → lines_of (map (map (λ k. l ++ k)) ps) ≡ prefixed l l (lines_of ps)
  lines-behind l ps = lines-mapped (λ k. l ++ k) ps ∙ sym (prefixed-same l (lines_of ps))

  -- a prefix in front of an only line
  pub front-only : (l : Line T M) (ls : List (Line T M)) → length ls ≡ 1 → with_front l ls ≡ map (λ k. l ++ k) ls
  front-only l [] e = refl
  front-only l (k ∷ []) e = refl
  front-only l (k ∷ (m ∷ ms)) e = absurd (omega (arith, e))

  pub prefixed-parts : (f l : Line T M) (xs ys : List (Line T M)) → 0 < length xs → prefixed f l (xs ++ ys) ≡ prefixed f l xs ++ prefixed l l ys
  prefixed-parts f l [] ys h = absurd (omega (arith, h))
  prefixed-parts f l (x ∷ xs) ys h =
      ap (λ r. (f ++ x) ∷ r) (map-append (λ (k : Line T M). l ++ k) xs ys ∙ ap (λ r. map (λ (k : Line T M). l ++ k) xs ++ r) (sym (prefixed-same l ys)))

  -- the lines of a first piece are moved after prefixes, and then the others
  pub moved-behind : (f l : Line T M) (a b c piece others whole : List (Line T M)) → 0 < length piece → whole ≡ piece ++ others →
      b ≡ a ++ prefixed f l piece → c ≡ b ++ prefixed l l others → c ≡ a ++ prefixed f l whole
  moved-behind f l a b c piece others whole h e g k =
      rw (k, g, e, prefixed-parts f l piece others h) (append_assoc a (prefixed f l piece) (prefixed l l others))

  -- the lines of a piece are moved after a prefix, and others are left
  pub moved-next : (l : Line T M) (a b piece w : List (Line T M)) (ps rest : List (List (Line T M))) → 0 < length piece → b ≡ a ++ prefixed l l piece →
      ps ≡ piece ∷ rest → a ++ prefixed l l (lines_of ps) ≡ w → b ++ prefixed l l (lines_of rest) ≡ w
  moved-next l a b piece w ps rest some e h g =
      ap (λ y. y ++ prefixed l l (lines_of rest)) e ∙ append_assoc a (prefixed l l piece) (prefixed l l (lines_of rest))
      ∙ ap (λ y. a ++ y) (sym (prefixed-parts l l piece (lines_of rest) some) ∙ ap (λ (y : List (List (Line T M))). prefixed l l (lines_of y)) (sym h)) ∙ g

  -- an only line
  pub only-prefixed : (ms : List M) (f l : Line T M) (xs : List (Line T M)) → length xs ≡ 1 →
      marked_before ms (with_front f xs) ≡ prefixed (marks_line ms ++ f) l xs
  only-prefixed ms f l [] e = refl
  only-prefixed ms f l (x ∷ []) e = ap (λ y. y ∷ []) (sym (append_assoc (marks_line ms) f x))
  only-prefixed ms f l (x ∷ y ∷ xs) e = absurd (omega (arith, e))

  pub only-last : (xs ys : List (Line T M)) (l : Line T M) → length xs ≡ 1 → xs ≡ ys ++ l ∷ [] → get_or xs 0 [] ≡ l
  only-last xs [] l e h = ap (λ zs. get_or zs 0 []) h
  only-last xs (y ∷ ys) l e h = absurd (omega (arith, e, ap length h, length-append ys (l ∷ [])))

  -- an only line, filled after its front
  pub only-filled : (f : Line T M) (tag : T) (w n : ℕ) (xs ys : List (Line T M)) (l : Line T M) → length xs ≡ 1 → xs ≡ ys ++ l ∷ [] →
      n ≡ w - columns (f ++ l) → with_front f (ys ++ (l ++ repeated tag 32 n) ∷ []) ≡ filled (Some tag) w (with_front f xs)
  only-filled f tag w n xs [] l e h k = rw (h, k) (ap (λ y. y ∷ []) (sym (append_assoc f l (repeated tag 32 (w - columns (f ++ l))))))
  only-filled f tag w n xs (y ∷ ys) l e h k =
      absurd (omega (arith, e, ap length h, length-append ys (l ∷ [])))
