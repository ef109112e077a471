-- The widths of blocks: they are those of the lines, and tell whether these fit.
use Rattle.std.proofs.Common.{◌≡◌, ℕ, suc, ◌+◌, ◌<◌, ◌≤◌, ◌^◌, ◌&&◌, nat_le, List, [], ◌∷◌, ◌++◌, map, drop, length, get_or, refl, sym, ap, ◌∙◌, arith, append_assoc, append-nil}
use Rattle.std.specs.Prelude.{max}
use Rattle.std.specs.List.{list_all}
use Rattle.std.proofs.Math.Bool.{and-true}
use Rattle.std.proofs.lemmas.Bool.Decides.{nat_tests}
use Rattle.std.proofs.lemmas.List.{drop_more, drop_all}
use Rattle.html_render_layout_lines.specs.Line.{Line, columns, marks_line}
use Rattle.html_render_layout_lines.specs.TaggedText.{counted, text_columns, under}
use Rattle.html_render_layout_lines.specs.laws.Columns.{columns-append, columns-marks, columns-under}
use Rattle.html_render_layout_buffer.specs.declared.nested.widths.Widths.{Widths}
use Rattle.html_render_layout_buffer.specs.declared.nested.widths.Widths.TheVariants.{One, Several}
use Rattle.html_render_layout_buffer.specs.Marked.{marked_behind}
use Rattle.html_render_layout_buffer.specs.Nested.{Outer, front, placed_in}
use Rattle.html_render_layout_buffer.specs.Pieces.{fits_after}
use Rattle.html_render_layout_buffer.specs.Widths.{columns_sum, columns_max, is_within, with_line, with_each, with_block, fit, widest, widths_of}

-- ---- numbers of columns

max-counted : (a b : ℕ) → columns_max (counted a) (counted b) ≡ counted (max a b)
max-counted a b = grind (arith, nat_tests)

sum-counted : (a b : ℕ) → columns_sum (counted a) (counted b) ≡ counted (a + b)
sum-counted a b = grind (arith, nat_tests)

within-sum : (a n width : ℕ) → width < 2 ^ 64 → is_within (columns_sum (counted a) (counted n)) width ≡ nat_le (a + n) width
within-sum a n width h = grind (arith, nat_tests)

-- ---- the widest line

le-max : (a b c w : ℕ) → nat_le (a + max b c) w ≡ (nat_le (a + b) w && nat_le (a + c) w)
le-max a b c w = grind (arith, nat_tests)

module _ {T M : Type 0} where
  widest-append : (xs ys : List (Line T M)) → widest (xs ++ ys) ≡ max (widest xs) (widest ys)
  widest-append [] ys = omega arith
  widest-append (x ∷ xs) ys = omega (arith, widest-append xs ys)

  widest-map : (p k : Line T M) (ls : List (Line T M)) → widest (map (◌++◌ p) (k ∷ ls)) ≡ columns p + widest (k ∷ ls)
  widest-map p k [] = omega (arith, columns-append p k)
  widest-map p k (j ∷ ls) = omega (arith, columns-append p k, widest-map p j ls)

  columns-marked : (l : Line T M) (ms : List M) → columns (l ++ marks_line ms) ≡ columns l
  columns-marked l ms = omega (arith, columns-append l (marks_line ms), columns-marks T ms)

  widest-marked : (ms : List M) (ls : List (Line T M)) → widest (marked_behind ms ls) ≡ widest ls
  widest-marked ms [] = refl
  widest-marked ms (l ∷ []) = ap (λ n. max n 0) (columns-marked l ms)
  widest-marked ms (l ∷ k ∷ ls) = ap (max (columns l)) (widest-marked ms (k ∷ ls))

  -- ---- the widths

  widths-cons : (l : Line T M) (ls : List (Line T M)) → 0 < length ls → widths_of (l ∷ ls) ≡ Several (counted (columns l)) (counted (widest ls))
  widths-cons l [] h = absurd (omega (arith, h))
  widths-cons l (k ∷ ls) h = refl

  length-marked : (ms : List M) (ls : List (Line T M)) → length (marked_behind ms ls) ≡ length ls
  length-marked ms [] = refl
  length-marked ms (l ∷ []) = refl
  length-marked ms (l ∷ k ∷ ls) = ap suc (length-marked ms (k ∷ ls))

  pub widths-marked : (ms : List M) (ls : List (Line T M)) → widths_of (marked_behind ms ls) ≡ widths_of ls
  widths-marked ms [] = refl
  widths-marked ms (l ∷ []) = ap (λ n. One (counted n)) (columns-marked l ms)
  widths-marked ms (l ∷ k ∷ ls) =
      widths-cons l (marked_behind ms (k ∷ ls)) (omega (arith, length-marked ms (k ∷ ls)))
      ∙ ap (λ n. Several (counted (columns l)) (counted n)) (widest-marked ms (k ∷ ls))

  -- lines are added, of which only the greatest columns are known
  with-widest : (x : Line T M) (xs ls : List (Line T M)) → 0 < length ls →
      with_line (widths_of (x ∷ xs)) (counted (widest ls)) ≡ widths_of (x ∷ (xs ++ ls))
  with-widest x [] ls h = sym (widths-cons x ls h)
  with-widest x (y ∷ xs) ls h =
      ap (Several (counted (columns x))) (max-counted (widest (y ∷ xs)) (widest ls) ∙ ap (λ n. counted n) (sym (widest-append (y ∷ xs) ls)))

  with-more : (xs : List (Line T M)) (l : Line T M) (ls : List (Line T M)) → 0 < length ls →
      with_line (widths_of (xs ++ l ∷ [])) (counted (widest ls)) ≡ widths_of (xs ++ l ∷ ls)
  with-more [] l ls h = with-widest l [] ls h
  with-more (x ∷ xs) l ls h =
      with-widest x (xs ++ l ∷ []) ls h ∙ ap (λ ks. widths_of (x ∷ ks)) (append_assoc xs (l ∷ []) ls)

  with-one : (xs : List (Line T M)) (l : Line T M) → with_line (widths_of xs) (counted (columns l)) ≡ widths_of (xs ++ l ∷ [])
  with-one [] l = refl
  with-one (x ∷ xs) l =
      let same : columns l ≡ widest (l ∷ []) = omega arith in
      ap (λ n. with_line (widths_of (x ∷ xs)) (counted n)) same ∙ with-widest x xs (l ∷ []) (omega arith)

  pub with-each-is : (xs ls : List (Line T M)) → with_each (widths_of xs) ls ≡ widths_of (xs ++ ls)
  with-each-is xs [] = ap (λ ks. widths_of ks) (sym (append-nil xs))
  with-each-is xs (l ∷ ls) =
      ap (λ w. with_each w ls) (with-one xs l) ∙ with-each-is (xs ++ l ∷ []) ls ∙ ap (λ ks. widths_of ks) (append_assoc xs (l ∷ []) ls)

  -- line by line
  pub next-line : (w : Widths) (ls : List (Line T M)) (n : ℕ) → n < length ls →
      with_each (with_line w (counted (columns (get_or ls n [])))) (drop (n + 1) ls) ≡ with_each w (drop n ls)
  next-line w ls n h = ap (with_each w) (sym (drop_more ls n [] h))

  pub no-line-left : (w : Widths) (ls : List (Line T M)) (n : ℕ) → length ls ≤ n → with_each w (drop n ls) ≡ w
  no-line-left w ls n h = ap (with_each w) (drop_all n ls h)

  first-columns : (o : Outer T M) (l : Line T M) → columns (front o ++ l) ≡ text_columns o.first + columns l
  first-columns o l =
      omega (arith, columns-append (front o) l, columns-append (marks_line o.waiting) (under o.tag o.first), columns-marks T o.waiting, columns-under M o.tag o.first)

  with-first : (xs : List (Line T M)) (o : Outer T M) (l : Line T M) →
      with_line (widths_of xs) (columns_sum (counted (text_columns o.first)) (counted (columns l))) ≡ widths_of (xs ++ (front o ++ l) ∷ [])
  with-first xs o l =
      ap (with_line (widths_of xs)) (sum-counted (text_columns o.first) (columns l) ∙ ap (λ n. counted n) (sym (first-columns o l)))
      ∙ with-one xs (front o ++ l)

  pub with-block-is : (xs ls : List (Line T M)) (o : Outer T M) →
      with_block (widths_of xs) (counted (text_columns o.first)) (counted (text_columns o.later)) (widths_of ls) ≡ widths_of (xs ++ placed_in o ls)
  with-block-is xs [] o = ap (λ ks. widths_of ks) (sym (append-nil xs))
  with-block-is xs (l ∷ []) o = with-first xs o l
  with-block-is xs (l ∷ k ∷ ls) o =
      let later : Line T M = under o.tag o.later in
      let ks : List (Line T M) = map (◌++◌ later) (k ∷ ls) in
      let wide : text_columns o.later + widest (k ∷ ls) ≡ widest ks = omega (arith, widest-map later k ls, columns-under M o.tag o.later) in
      ap (λ w. with_line w (columns_sum (counted (text_columns o.later)) (counted (widest (k ∷ ls))))) (with-first xs o l)
      ∙ ap (with_line (widths_of (xs ++ (front o ++ l) ∷ []))) (sum-counted (text_columns o.later) (widest (k ∷ ls)) ∙ ap (λ n. counted n) wide)
      ∙ with-more xs (front o ++ l) ks (omega arith)

  -- ---- whether lines fit

  all-fit : (b width : ℕ) (k : Line T M) (ls : List (Line T M)) →
      nat_le (b + widest (k ∷ ls)) width ≡ list_all (λ (l : Line T M). nat_le (b + columns l) width) (k ∷ ls)
  all-fit b width k [] = grind (arith, nat_tests)
  all-fit b width k (j ∷ ls) = le-max b (columns k) (widest (j ∷ ls)) width ∙ ap (λ c. nat_le (b + columns k) width && c) (all-fit b width j ls)

  pub fit-is : (ls : List (Line T M)) (a b width : ℕ) → width < 2 ^ 64 → fit (widths_of ls) (counted a) (counted b) width ≡ fits_after a b width ls
  fit-is [] a b width h = refl
  fit-is (l ∷ []) a b width h = within-sum a (columns l) width h ∙ sym (and-true (nat_le (a + columns l) width))
  fit-is (l ∷ k ∷ ls) a b width h =
      ap (λ c. c && is_within (columns_sum (counted b) (counted (widest (k ∷ ls)))) width) (within-sum a (columns l) width h)
      ∙ ap (λ c. nat_le (a + columns l) width && c) (within-sum b (widest (k ∷ ls)) width h ∙ all-fit b width k ls)
