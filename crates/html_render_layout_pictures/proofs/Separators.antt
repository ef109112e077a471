-- Where the separators of a row stand, and what a border has there.
use Rattle.std.proofs.Common.{◌≡◌, ℕ, zero, suc, ◌+◌, ◌≤◌, ◌<◌, Bool, true, false, List, [], ◌∷◌, ◌++◌, get_or, length, map, replicate, refl, sym, ap, ◌∙◌, add-zero, add-one, arith, append_assoc, append-nil}
use Rattle.std.proofs.lemmas.List.{length-replicate, get_or-replicate, get_or_append_left, replicate-append-replicate}
use Rattle.std.proofs.lemmas.List.FromFn.{map-range_with_len_more}
use Rattle.std.specs.List.{flat_map, range_with_len}
use Rattle.html_render_layout_pictures.specs.declared.borders.TheConstants.{BORDERS}
use Rattle.html_render_layout_lines.specs.declared.line.Element.{Element}
use Rattle.html_render_layout_lines.specs.declared.line.Element.TheVariants.{Character}
use Rattle.html_render_layout_pictures.specs.declared.picture.Frame.{Frame}
use Rattle.html_render_layout_buffer.specs.Padding.{repeated}
use Rattle.html_render_layout_pictures.specs.Picture.{KeptCell, separators_of, joint}
use Rattle.html_render_layout_pictures.specs.Separators.{separators_from, separators_between, blank_before, joint_at}

-- ---- lists by functions of the place

module _ {X : Type 0} where
  -- those behind a place
  pub range-more : (f : ℕ → X) (at n : ℕ) → map f (range_with_len 0 (at + n)) ≡ map f (range_with_len 0 at) ++ map (λ j. f (at + j)) (range_with_len 0 n)
  range-more f at zero = ap (λ k. map f (range_with_len 0 k)) (add-zero at) ∙ sym (append-nil (map f (range_with_len 0 at)))
  range-more f at (suc n) =
      ap (λ k. map f (range_with_len 0 k)) (add-suc at n)
      ∙ map-range_with_len_more f 0 (at + n) (at + n) (omega arith)
      ∙ ap (λ xs. xs ++ f (at + n) ∷ []) (range-more f at n)
      ∙ append_assoc (map f (range_with_len 0 at)) (map (λ j. f (at + j)) (range_with_len 0 n)) (f (at + n) ∷ [])
      ∙ ap (λ xs. map f (range_with_len 0 at) ++ xs) (sym (map-range_with_len_more (λ j. f (at + j)) 0 n n (omega arith)))
      ∙ ap (λ k. map f (range_with_len 0 at) ++ map (λ j. f (at + j)) (range_with_len 0 k)) (add-one n)
    where
      add-suc : (a b : ℕ) → a + suc b ≡ (a + b) + 1
      add-suc a b = omega arith

  pub range-same : (f g : ℕ → X) (n : ℕ) → ((j : ℕ) → f j ≡ g j) → map f (range_with_len 0 n) ≡ map g (range_with_len 0 n)
  range-same f g n same = by (range_with_len 0 n)
    where
      by : (ns : List ℕ) → map f ns ≡ map g ns
      by [] = refl
      by (n ∷ ns) = ap (λ x. x ∷ map f ns) (same n) ∙ ap (λ xs. g n ∷ xs) (by ns)

  pub range-replicate : (f : ℕ → X) (x : X) (n : ℕ) → ((j : ℕ) → j < n → f j ≡ x) → map f (range_with_len 0 n) ≡ replicate n x
  range-replicate f x zero same = refl
  range-replicate f x (suc n) same =
      ap (λ k. map f (range_with_len 0 k)) (sym (add-one n))
      ∙ map-range_with_len_more f 0 n n (omega arith)
      ∙ ap (λ xs. xs ++ f n ∷ []) (range-replicate f x n (λ j h. same j (omega (arith, h))))
      ∙ ap (λ y. replicate n x ++ y ∷ []) (same n (omega arith))
      ∙ replicate-append-replicate n 1 x
      ∙ ap (λ k. replicate k x) (add-one n)

-- ---- columns without a separator

none-there : (n j : ℕ) → get_or (replicate n false) j false ≡ false
none-there zero j = refl
none-there (suc n) zero = refl
none-there (suc n) (suc j) = none-there n j

blank-there : (blank : ℕ) (others : List ℕ) (j : ℕ) → j < blank_before blank others → get_or (separators_from blank others) j false ≡ false
blank-there blank [] j h = ap (λ l. get_or l j false) (append-nil (replicate blank false)) ∙ none-there blank j
blank-there blank (w ∷ ws) j h =
    let long : length (replicate blank false) ≡ blank = length-replicate blank false in
    get_or_append_left (replicate blank false) (flat_map (λ (v : ℕ). true ∷ replicate v false) (w ∷ ws)) false j (omega (arith, h, long))
    ∙ get_or-replicate blank j false false h

module _ {T : Type 0} (M : Type 0) (frame : Frame T) (u : ℕ) (us : List ℕ) (d : ℕ) (ds : List ℕ) where
  abbrev shown : ℕ → Element T M
  shown = joint_at M frame (separators_from u us) (separators_from d ds)

  -- as many dashes
  pub dashes-drawn : (n : ℕ) → n ≤ blank_before u us → n ≤ blank_before d ds → map shown (range_with_len 0 n) ≡ repeated frame.tag BORDERS.line n
  dashes-drawn n ha hb = range-replicate shown (Character BORDERS.line frame.tag) n
      (λ j h. ap (λ x. Character (joint x (get_or (separators_from d ds) j false)) frame.tag) (blank-there u us j (omega (arith, h, ha)))
      ∙ ap (λ x. Character (joint false x) frame.tag) (blank-there d ds j (omega (arith, h, hb))))

  -- and what stands behind them
  pub piece-drawn : (n : ℕ) (above below : Bool) → n ≤ blank_before u us → n ≤ blank_before d ds → above ≡ get_or (separators_from u us) n false →
      below ≡ get_or (separators_from d ds) n false →
      map shown (range_with_len 0 (n + 1)) ≡ repeated frame.tag BORDERS.line n ++ Character (joint above below) frame.tag ∷ []
  piece-drawn n above below ha hb ea eb =
      map-range_with_len_more shown 0 n n (omega arith)
      ∙ ap (λ l. l ++ shown n ∷ []) (dashes-drawn n ha hb)
      ∙ ap (λ x. repeated frame.tag BORDERS.line n ++ Character (joint x (get_or (separators_from d ds) n false)) frame.tag ∷ []) (sym ea)
      ∙ ap (λ x. repeated frame.tag BORDERS.line n ++ Character (joint above x) frame.tag ∷ []) (sym eb)

-- a piece of a border, behind those before it
pub piece-behind : {T : Type 0} (M : Type 0) (frame : Frame T) (above below up down : List Bool) (at n : ℕ) →
    ((j : ℕ) → get_or up j false ≡ get_or above (at + j) false) → ((j : ℕ) → get_or down j false ≡ get_or below (at + j) false) →
    map (joint_at M frame above below) (range_with_len 0 at) ++ map (joint_at M frame up down) (range_with_len 0 n)
    ≡ map (joint_at M frame above below) (range_with_len 0 (at + n))
piece-behind M frame above below up down at n ea eb =
    ap (λ l. map (joint_at M frame above below) (range_with_len 0 at) ++ l)
    (range-same (joint_at M frame up down) (λ j. joint_at M frame above below (at + j)) n
    (λ j. ap (λ x. Character (joint x (get_or down j false)) frame.tag) (ea j)
    ∙ ap (λ x. Character (joint (get_or above (at + j) false) x) frame.tag) (eb j)))
    ∙ sym (range-more (joint_at M frame above below) at n)

-- places behind others
pub places-behind : (xs ys zs : List Bool) (at n : ℕ) → ((j : ℕ) → get_or ys j false ≡ get_or xs (at + j) false) →
    ((j : ℕ) → get_or zs j false ≡ get_or ys (n + j) false) → (j : ℕ) → get_or zs j false ≡ get_or xs ((at + n) + j) false
places-behind xs ys zs at n e e2 j =
    let whole : at + (n + j) ≡ (at + n) + j = omega arith in
    e2 j ∙ e (n + j) ∙ ap (λ i. get_or xs i false) whole

-- ---- the separators of cells

module _ {T M : Type 0} where
  abbrev width : KeptCell T M → ℕ
  width c = c.width

  behind-widths : (cs : List (KeptCell T M)) → flat_map (λ (w : ℕ). true ∷ replicate w false) (map width cs)
      ≡ flat_map (λ (d : KeptCell T M). true ∷ replicate d.width false) cs
  behind-widths [] = refl
  behind-widths (c ∷ cs) = ap (λ l. (true ∷ replicate c.width false) ++ l) (behind-widths cs)

  pub separators_widths : (cs : List (KeptCell T M)) → separators_between (map width cs) ≡ separators_of cs
  separators_widths [] = refl
  separators_widths (c ∷ cs) = ap (λ l. replicate c.width false ++ l) (behind-widths cs)
