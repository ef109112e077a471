-- Blocks in blocks: they are read back from the fields, and each step on the fields is the step on the blocks.
use Rattle.std.proofs.Common.{◌≡◌, ℕ, suc, ◌+◌, ◌-◌, ◌==◌, ◌<◌, ◌≤◌, ◌^◌, ◌&&◌, Bool, true, false, not, List, [], ◌∷◌, ◌++◌, map, take, drop, length, refl, sym, ap, ◌∙◌, subst, arith, append_assoc, append-nil, length-append, if◌then◌else◌, get_or, drop-cons, add-one}
use Rattle.std.specs.Prelude.{nat_lt, replicate}
use Rattle.std.specs.Str.{chars, IsUtf8, encode_utf8_all}
use Rattle.std.proofs.Math.Bool.{not-not}
use Rattle.std.proofs.lemmas.List.{take_at, drop_at, length-map, map-append, nil_from_length, length-replicate}
use Rattle.std.proofs.lemmas.Bool.{false≢true, not-false, eq-eqb, ne_eqb}
use Rattle.std.proofs.lemmas.Bool.Decides.{nat_tests}
use Rattle.std.proofs.lemmas.Str.{chars-nil, encodes-chars}
use Rattle.html_render_layout_lines.specs.Line.{Line, is_empty, marks_line}
use Rattle.html_render_layout_lines.specs.TaggedText.{text_columns, under}
use Rattle.html_render_layout_lines.specs.laws.Cases.{nil_from_is_empty, if_true, if_false, is_empty-cons}
use Rattle.html_render_layout_buffer.specs.declared.nested.prefixes.Level.{Level}
use Rattle.html_render_layout_buffer.specs.declared.nested.widths.Widths.{Widths}
use Rattle.html_render_layout_buffer.specs.declared.nested.widths.Widths.TheVariants.{NoLines}
use Rattle.html_render_layout_buffer.specs.Marked.{marked_behind}
use Rattle.html_render_layout_buffer.specs.Pieces.{fits_after}
use Rattle.html_render_layout_buffer.specs.Nested.{Outer, Nested, front, placed_in, full, with_lines, with_last_marked, with_block_begun, with_block_ended, waiting_after}
use Rattle.html_render_layout_buffer.specs.Widths.{with_each, with_block, fit, widths_of}
use Rattle.html_render_layout_buffer.specs.Levels.{BlockPrefix, NestedFields, line_prefixes, lines_after, lines_added, has_lines, end_marked, has_prefix, level_of, stored_if, own_prefix, block_around, level_opened, level_closed, last_marks, waiting_left, noted, levels_of, prefixes_at, lines_around, IsNested, first_or, outer_read, unplaced, with_outer, blocks_read, nested_of, HoldsNested}
use Rattle.html_render_layout_buffer.proofs.Growing.{marked-last}
use Rattle.html_render_layout_buffer.proofs.BlockWidths.{widths-marked, with-each-is, with-block-is, fit-is}

-- ---- lists, tests and texts

length-under : {T : Type 0} (M : Type 0) (tag : T) (cs : List ℕ) → length (under {M = M} tag cs) ≡ length cs
length-under M tag [] = refl
length-under M tag (c ∷ cs) = ap suc (length-under M tag cs)

both : (a b : Bool) → (a && b) ≡ true → (a ≡ true) × (b ≡ true)
both true b e = (refl, e)
both false b e = absurd (false≢true e)

snoc-same : {X : Type 0} (xs ys : List X) (x y : X) → xs ++ x ∷ [] ≡ ys ++ y ∷ [] → (xs ≡ ys) × (x ≡ y)
snoc-same [] [] x y e = let same : x ≡ y = cc e in (refl, same)
snoc-same [] (b ∷ ys) x y e = absurd (omega (arith, ap length e, length-append (b ∷ ys) (y ∷ [])))
snoc-same (a ∷ xs) [] x y e = absurd (omega (arith, ap length e, length-append (a ∷ xs) (x ∷ [])))
snoc-same {X} (a ∷ xs) (b ∷ ys) x y e =
    let tails : xs ++ x ∷ [] ≡ ys ++ y ∷ [] = cc e in
    let heads : a ≡ b = cc e in
    let rest = snoc-same xs ys x y tails in
    (cc (heads, rest.0), rest.1)

unsnoc : {X : Type 0} (x : X) (xs : List X) → (ys : List X) × ((y : X) × (x ∷ xs ≡ ys ++ y ∷ []))
unsnoc x [] = ([], (x, refl))
unsnoc x (z ∷ xs) = let rest = unsnoc z xs in (x ∷ rest.0, (rest.1.0, ap (λ zs. x ∷ zs) rest.1.1))

-- whether a block has lines
lines-told : (start all own : ℕ) → all ≡ start + own → nat_lt start all ≡ not (own == 0)
lines-told start all own t = grind (arith, nat_tests)

pub no-chars : (bs : List ℕ) → IsUtf8 bs → is_empty bs ≡ is_empty (chars bs)
no-chars [] utf8 = ap is_empty (sym chars-nil)
no-chars (b ∷ bs) utf8 =
    is_empty-cons b bs
    ∙ sym (ne_eqb (length (chars (b ∷ bs))) 0
    (λ e. omega (arith, ap length (sym (encodes-chars (b ∷ bs) utf8) ∙ ap encode_utf8_all (nil_from_length (chars (b ∷ bs)) e)))))

pub no-spaces : (n : ℕ) → (n == 0) ≡ is_empty (replicate {A = ℕ} n 0x20)
no-spaces n = ap (λ k. k == 0) (sym (length-replicate {A = ℕ} n 0x20))

pub ruleset few_spaces = (no-spaces)

noted-none : (T M : Type 0) (b : Bool) → NoLines ≡ noted {T = T} {M = M} b []
noted-none T M true = refl
noted-none T M false = refl

module _ {T M : Type 0} where
  -- ---- prefixes

  dropped : (p : Line T M) (n : ℕ) (ls : List (Line T M)) → n ≡ length p → map (λ (k : Line T M). drop n k) (map (◌++◌ p) ls) ≡ ls
  dropped p n [] e = refl
  dropped p n (l ∷ ls) e =
      let first : drop n (p ++ l) ≡ l = drop_at p l n (sym e) in
      cc (first, dropped p n ls e)

  unplaced-placed : (o : Outer T M) (ls : List (Line T M)) → unplaced o (placed_in o ls) ≡ ls
  unplaced-placed o [] = refl
  unplaced-placed o (k ∷ ls) =
      let first : drop (length (front o)) (front o ++ k) ≡ k = drop_at (front o) k (length (front o)) refl in
      cc (first, dropped (under o.tag o.later) (length o.later) ls (sym (length-under M o.tag o.later)))

  length-placed : (o : Outer T M) (ls : List (Line T M)) → length (placed_in o ls) ≡ length ls
  length-placed o [] = refl
  length-placed o (k ∷ ls) = ap suc (length-map ls (λ x. under o.tag o.later ++ x))

  -- ---- all lines

  -- the prefix of the line that follows these lines of the inner block
  abbrev next_prefix : Outer T M → List (Line T M) → Line T M
  next_prefix o [] = front o
  next_prefix o (l ∷ ls) = under o.tag o.later

  -- all prefixes of the line that follows these lines of the innermost block
  abbrev margin : List (Outer T M) → List (Line T M) → Line T M
  margin [] ls = []
  margin (o ∷ os) ls = next_prefix o (full os ls) ++ margin os ls

  placed-more : (o : Outer T M) (ls : List (Line T M)) (x : Line T M) → placed_in o (ls ++ x ∷ []) ≡ placed_in o ls ++ (next_prefix o ls ++ x) ∷ []
  placed-more o [] x = refl
  placed-more o (k ∷ ls) x = ap (λ ys. (front o ++ k) ∷ ys) (map-append (λ y. under o.tag o.later ++ y) ls (x ∷ []))

  full-more : (os : List (Outer T M)) (ls : List (Line T M)) (x : Line T M) → full os (ls ++ x ∷ []) ≡ full os ls ++ (margin os ls ++ x) ∷ []
  full-more [] ls x = refl
  full-more (o ∷ os) ls x =
      let p = next_prefix o (full os ls) in
      ap (λ ys. o.lines ++ placed_in o ys) (full-more os ls x)
      ∙ ap (λ ys. o.lines ++ ys) (placed-more o (full os ls) (margin os ls ++ x))
      ∙ sym (append_assoc o.lines (placed_in o (full os ls)) ((p ++ (margin os ls ++ x)) ∷ []))
      ∙ ap (λ y. (o.lines ++ placed_in o (full os ls)) ++ y ∷ []) (sym (append_assoc p (margin os ls) x))

  full-inner : (os : List (Outer T M)) (o : Outer T M) (ls : List (Line T M)) → full (os ++ o ∷ []) ls ≡ full os (o.lines ++ placed_in o ls)
  full-inner [] o ls = refl
  full-inner (p ∷ os) o ls = ap (λ ks. p.lines ++ placed_in p ks) (full-inner os o ls)

  pub full-count : (os : List (Outer T M)) (ls : List (Line T M)) → length (full os ls) ≡ lines_around os + length ls
  full-count [] ls = omega arith
  full-count (o ∷ os) ls =
      omega (arith, length-append o.lines (placed_in o (full os ls)), length-placed o (full os ls), full-count os ls)

  -- ---- what is stored of more blocks

  levels-more : (os : List (Outer T M)) (o : Outer T M) → levels_of true (os ++ o ∷ []) ≡ levels_of true os ++ level_of (length o.lines) (widths_of o.lines) o ∷ []
  levels-more [] o = refl
  levels-more (p ∷ os) o = ap (λ vs. level_of (length p.lines) (widths_of p.lines) p ∷ vs) (levels-more os o)

  -- the level of the innermost block
  abbrev last_level : List (Outer T M) → Outer T M → Level T
  last_level os o = level_of (length o.lines) (noted (not (is_empty os)) o.lines) o

  levels-last : (os : List (Outer T M)) (o : Outer T M) → levels_of false (os ++ o ∷ []) ≡ levels_of false os ++ last_level os o ∷ []
  levels-last [] o = refl
  levels-last (p ∷ os) o =
      ap (λ vs. level_of (length p.lines) NoLines p ∷ vs) (levels-more os o)
      ∙ ap (λ b. level_of (length p.lines) NoLines p ∷ (levels_of true os ++ level_of (length o.lines) (noted (not b) o.lines) o ∷ [])) (sym (is_empty-cons p os))

  levels-count : (b : Bool) (os : List (Outer T M)) → length (levels_of b os) ≡ length os
  levels-count b [] = refl
  levels-count b (o ∷ os) = ap suc (levels-count true os)

  prefixes-more : (base : ℕ) (os : List (Outer T M)) (o : Outer T M) →
      prefixes_at base (os ++ o ∷ []) ≡ prefixes_at base os ++ own_prefix (base + lines_around os + length o.lines) o
  prefixes-more base [] o =
      let place : base + length o.lines ≡ base + 0 + length o.lines = omega arith in
      append-nil (own_prefix (base + length o.lines) o) ∙ ap (λ k. own_prefix k o) place
  prefixes-more base (p ∷ os) o =
      let here = base + length p.lines in
      let place : here + lines_around os + length o.lines ≡ base + (length p.lines + lines_around os) + length o.lines = omega arith in
      ap (λ ps. own_prefix here p ++ ps) (prefixes-more here os o)
      ∙ ap (λ k. own_prefix here p ++ (prefixes_at here os ++ own_prefix k o)) place
      ∙ sym (append_assoc (own_prefix here p) (prefixes_at here os) (own_prefix (base + (length p.lines + lines_around os) + length o.lines) o))

  lines-more : (os : List (Outer T M)) (o : Outer T M) → lines_around (os ++ o ∷ []) ≡ lines_around os + length o.lines
  lines-more [] o = omega arith
  lines-more (p ∷ os) o = omega (arith, lines-more os o)

  -- ---- a block without a stored prefix

  bare : (o : Outer T M) → has_prefix o.waiting o.first o.later ≡ false → (o.waiting ≡ []) × (o.first ≡ []) × (o.later ≡ [])
  bare o e =
      let all = both (is_empty o.waiting) (is_empty o.first && is_empty o.later) (not-false (is_empty o.waiting && (is_empty o.first && is_empty o.later)) e) in
      let texts = both (is_empty o.first) (is_empty o.later) all.1 in
      (nil_from_is_empty o.waiting all.0, nil_from_is_empty o.first texts.0, nil_from_is_empty o.later texts.1)

  own-put : (b : Bool) (o : Outer T M) (start n : ℕ) (ps : List (BlockPrefix T M)) → has_prefix o.waiting o.first o.later ≡ b →
      line_prefixes n (stored_if b start o ++ ps) ≡ (if start == n then front o else under o.tag o.later) ++ line_prefixes n ps
  own-put true o start n ps e = refl
  own-put false o start n ps e =
      let none = bare o e in
      let front_none : front o ≡ [] = rw (none.0, none.1) refl in
      let later_none : under {M = M} o.tag o.later ≡ [] = rw none.2 refl in
      ap (λ k. k ++ line_prefixes n ps) (sym (neither (start == n) (front o) (under o.tag o.later) front_none later_none))
    where
      neither : (c : Bool) (x y : Line T M) → x ≡ [] → y ≡ [] → (if c then x else y) ≡ []
      neither true x y e f = e
      neither false x y e f = f

  first-or-later : (o : Outer T M) (start n : ℕ) (ls : List (Line T M)) → n ≡ start + length ls →
      (if start == n then front o else under o.tag o.later) ≡ next_prefix o ls
  first-or-later o start n [] e = if_true (start == n) (front o) (under o.tag o.later) (eq-eqb start n (omega (arith, e)))
  first-or-later o start n (k ∷ ls) e = if_false (start == n) (front o) (under o.tag o.later) (ne_eqb start n (λ z. omega (arith, e, z)))

  -- the prefixes that are put are those of the next line
  put-is : (base n : ℕ) (os : List (Outer T M)) (ls : List (Line T M)) → n ≡ base + length (full os ls) → line_prefixes n (prefixes_at base os) ≡ margin os ls
  put-is base n [] ls e = refl
  put-is base n (o ∷ os) ls e =
      let here = base + length o.lines in
      let place : n ≡ here + length (full os ls) =
      omega (arith, e, length-append o.lines (placed_in o (full os ls)), length-placed o (full os ls)) in
      own-put (has_prefix o.waiting o.first o.later) o here n (prefixes_at here os) refl
      ∙ ap (λ p. p ++ line_prefixes n (prefixes_at here os)) (first-or-later o here n (full os ls) place)
      ∙ ap (λ p. next_prefix o (full os ls) ++ p) (put-is here n os ls place)

  -- lines after their prefixes are lines of the innermost block
  full-append : (os : List (Outer T M)) (ls xs : List (Line T M)) (n : ℕ) → n ≡ length (full os ls) → full os ls ++ lines_after n (prefixes_at 0 os) xs ≡ full os (ls ++ xs)
  full-append os ls [] n e = append-nil (full os ls) ∙ ap (full os) (sym (append-nil ls))
  full-append os ls (x ∷ xs) n e =
      let ps = prefixes_at 0 os in
      let count : suc n ≡ length (full os (ls ++ x ∷ [])) = omega (arith, e, full-count os ls, full-count os (ls ++ x ∷ []), length-append ls (x ∷ [])) in
      let place : n ≡ 0 + length (full os ls) = omega (arith, e) in
      ap (λ p. full os ls ++ ((p ++ x) ∷ lines_after (suc n) ps xs)) (put-is 0 n os ls place)
      ∙ sym (append_assoc (full os ls) ((margin os ls ++ x) ∷ []) (lines_after (suc n) ps xs))
      ∙ ap (λ ks. ks ++ lines_after (suc n) ps xs) (sym (full-more os ls x))
      ∙ full-append os (ls ++ x ∷ []) xs (suc n) count
      ∙ ap (full os) (append_assoc ls (x ∷ []) xs)

  -- ---- read back

  abbrev outer_made : List (Line T M) → List M → T → List ℕ → List ℕ → Outer T M
  outer_made ls ms tag first later = record { lines = ls; waiting = ms; tag = tag; first = first; later = later }

  own-back : (b : Bool) (o : Outer T M) (start : ℕ) (w : Widths) (ps : List (BlockPrefix T M)) (ls : List (Line T M)) → has_prefix o.waiting o.first o.later ≡ b →
      outer_read (level_of (length o.lines) w o) (first_or b (stored_if b start o ++ ps) o.tag) (o.lines ++ ls) ≡ o
  own-back true o start w ps ls e =
      ap (λ x. outer_made x o.waiting o.tag o.first o.later) (take_at o.lines ls (length o.lines) refl)
  own-back false o start w ps ls e =
      let none = bare o e in
      ap (λ x. outer_made x [] o.tag [] []) (take_at o.lines ls (length o.lines) refl)
      ∙ ap (λ x. outer_made o.lines x o.tag [] []) (sym none.0)
      ∙ ap (λ x. outer_made o.lines o.waiting o.tag x []) (sym none.1)
      ∙ ap (λ x. outer_made o.lines o.waiting o.tag o.first x) (sym none.2)

  others-back : (b : Bool) (o : Outer T M) (start : ℕ) (ps : List (BlockPrefix T M)) →
      (if b then drop 1 (stored_if b start o ++ ps) else stored_if b start o ++ ps) ≡ ps
  others-back true o start ps = refl
  others-back false o start ps = refl

  blocks-back : (b : Bool) (base : ℕ) (os : List (Outer T M)) (ls : List (Line T M)) →
      blocks_read (levels_of b os) (prefixes_at base os) (full os ls) ≡ record { lines = ls; outer = os }
  blocks-back b base [] ls = refl
  blocks-back b base (o ∷ os) ls =
      let here = base + length o.lines in
      let has = has_prefix o.waiting o.first o.later in
      let ps = prefixes_at base (o ∷ os) in
      let rest = prefixes_at here os in
      let vs = levels_of true os in
      let inside = full (o ∷ os) ls in
      let lines : unplaced o (drop (length o.lines) inside) ≡ full os ls =
      ap (unplaced o) (drop_at o.lines (placed_in o (full os ls)) (length o.lines) refl) ∙ unplaced-placed o (full os ls) in
      ap (λ x. with_outer x (blocks_read vs (if has then drop 1 ps else ps) (unplaced x (drop (length o.lines) inside))))
      (own-back has o here (noted b o.lines) rest (placed_in o (full os ls)) refl)
      ∙ ap (λ x. with_outer o (blocks_read vs x (unplaced o (drop (length o.lines) inside)))) (others-back has o here rest)
      ∙ ap (λ x. with_outer o (blocks_read vs rest x)) lines
      ∙ ap (with_outer o) (blocks-back true here os ls)

  pub made : (f : NestedFields T M) (v : Nested T M) → IsNested f v → nested_of f ≡ v
  made f v is = rw (is.opened, is.prefixed, is.all_lines) (blocks-back false 0 v.outer v.lines)

  pub is-nested : (f : NestedFields T M) (v : Nested T M) → IsNested f v → HoldsNested f
  is-nested f v is = subst (λ w. IsNested f w) (sym (made f v is)) is

  pub opened : (f : NestedFields T M) (v : Nested T M) → HoldsNested f → nested_of f ≡ v → IsNested f v
  opened f v is e = subst (λ w. IsNested f w) e is

  -- ---- counts

  prefixes-count : (base : ℕ) (os : List (Outer T M)) → length (prefixes_at base os) ≤ length os
  prefixes-count base [] = omega arith
  prefixes-count base (o ∷ os) =
      omega (arith, prefixes-count (base + length o.lines) os, by (has_prefix o.waiting o.first o.later), length-append (own_prefix (base + length o.lines) o) (prefixes_at (base + length o.lines) os))
    where
      by : (b : Bool) → length (stored_if b (base + length o.lines) o) ≤ 1
      by true = omega arith
      by false = omega arith

  outer-count : (f : NestedFields T M) (v : Nested T M) → IsNested f v → length f.levels ≡ length v.outer
  outer-count f v is = ap length is.opened ∙ levels-count false v.outer

  pub few-prefixes : (f : NestedFields T M) (v : Nested T M) → IsNested f v → length f.prefixes ≤ length f.levels
  few-prefixes f v is = omega (arith, ap length is.prefixed, prefixes-count 0 v.outer, outer-count f v is)

  has-lines-is : (f : NestedFields T M) (v : Nested T M) → IsNested f v → has_lines f ≡ not (is_empty v.lines)
  has-lines-is f v is =
      lines-told f.start (length f.lines) (length v.lines) (omega (arith, ap length is.all_lines, full-count v.outer v.lines, is.lines_before))

  pub empty-is : (f : NestedFields T M) (v : Nested T M) → IsNested f v → not (has_lines f) ≡ is_empty v.lines
  empty-is f v is = ap not (has-lines-is f v is) ∙ not-not (is_empty v.lines)

  -- ---- lines are added

  widths-added : (b : Bool) (w : Widths) (ls xs : List (Line T M)) → w ≡ noted (not b) ls → (if b then w else with_each w xs) ≡ noted (not b) (ls ++ xs)
  widths-added true w ls xs e = e
  widths-added false w ls xs e = ap (λ u. with_each u xs) e ∙ with-each-is ls xs

  pub added : (f g : NestedFields T M) (v : Nested T M) (ls : List (Line T M)) → IsNested f v → g ≡ lines_added f ls → IsNested g (with_lines v ls)
  added f g v ls is e = subst (λ x. IsNested x (with_lines v ls)) (sym e) (record {
    all_lines = ap (λ ks. ks ++ lines_after (length f.lines) f.prefixes ls) is.all_lines
        ∙ ap (λ ps. full v.outer v.lines ++ lines_after (length f.lines) ps ls) is.prefixed
        ∙ full-append v.outer v.lines ls (length f.lines) (ap length is.all_lines);
    prefixed = is.prefixed;
    opened = is.opened;
    lines_before = is.lines_before;
    own_widths = widths-added (is_empty f.levels) f.widths v.lines ls is.own_widths;
  })

  -- lines without prefixes
  none-put : (n : ℕ) (ls : List (Line T M)) → lines_after n [] ls ≡ ls
  none-put n [] = refl
  none-put n (l ∷ ls) = ap (λ ks. l ∷ ks) (none-put (suc n) ls)

  unprefixed : (n : ℕ) (ps : List (BlockPrefix T M)) (ls : List (Line T M)) → length ps ≡ 0 → ls ≡ lines_after n ps ls
  unprefixed n ps ls h = sym (ap (λ qs. lines_after n qs ls) (nil_from_length ps h) ∙ none-put n ls)

  -- the steps that add lines
  pub plain-added : (f g : NestedFields T M) (ls all : List (Line T M)) → length f.prefixes ≡ 0 →
      g ≡ record f { widths = if is_empty f.levels then f.widths else with_each f.widths ls } → all ≡ g.lines ++ ls → record g { lines = all } ≡ lines_added f ls
  plain-added f g ls all none e put =
      rw (put, e) (ap (λ ks. record f { lines = f.lines ++ ks; widths = if is_empty f.levels then f.widths else with_each f.widths ls })
      (unprefixed (length f.lines) f.prefixes ls none))

  pub outermost-added : (f g : NestedFields T M) (ls all : List (Line T M)) → length f.prefixes ≤ length f.levels → length f.levels ≡ 0 → g ≡ f →
      all ≡ g.lines ++ ls → record g { lines = all } ≡ lines_added f ls
  outermost-added f g ls all few none e put =
      let same : f.widths ≡ (if is_empty f.levels then f.widths else with_each f.widths ls) =
      sym (if_true (is_empty f.levels) f.widths (with_each f.widths ls) (eq-eqb (length f.levels) 0 none)) in
      plain-added f g ls all (omega (arith, few, none)) (e ∙ ap (λ (w : Widths). record f { widths = w }) same) put

  pub last-popped : (ps qs : List (BlockPrefix T M)) (p : BlockPrefix T M) → ps ≡ qs ++ p ∷ [] → p.marks ≡ last_marks ps
  last-popped ps qs p e = sym (ap last_marks e ∙ by qs)
    where
      by : (qs : List (BlockPrefix T M)) → last_marks (qs ++ p ∷ []) ≡ p.marks
      by [] = refl
      by (q ∷ []) = refl
      by (q ∷ r ∷ qs) = by (r ∷ qs)

  -- ---- marks at the end of the last line

  -- the last line of the innermost block is the last line of all
  full-marked : (os : List (Outer T M)) (k : Line T M) (ls : List (Line T M)) (ms : List M) → full os (marked_behind ms (k ∷ ls)) ≡ marked_behind ms (full os (k ∷ ls))
  full-marked os k ls ms =
      let last = unsnoc k ls in
      let xs = last.0 in
      let l = last.1.0 in
      ap (λ ks. full os (marked_behind ms ks)) last.1.1 ∙ ap (full os) (marked-last ms xs l) ∙ full-more os xs (l ++ marks_line ms)
      ∙ ap (λ x. full os xs ++ x ∷ []) (sym (append_assoc (margin os xs) l (marks_line ms))) ∙ sym (marked-last ms (full os xs) (margin os xs ++ l))
      ∙ ap (marked_behind ms) (sym (full-more os xs l) ∙ ap (full os) (sym last.1.1))

  lines-marked : (b : Bool) (os : List (Outer T M)) (ls all : List (Line T M)) (ms : List M) → all ≡ full os ls → b ≡ not (is_empty ls) →
      (if b then marked_behind ms all else all) ≡ full os (marked_behind ms ls)
  lines-marked b os [] all ms e t = rw t e
  lines-marked b os (k ∷ ls) all ms e t =
      rw (t, is_empty-cons k ls) (ap (marked_behind ms) e ∙ sym (full-marked os k ls ms))

  widths-kept : (b : Bool) (ls : List (Line T M)) (ms : List M) → noted b ls ≡ noted b (marked_behind ms ls)
  widths-kept true ls ms = sym (widths-marked ms ls)
  widths-kept false ls ms = refl

  end-marked : (f : NestedFields T M) (v : Nested T M) (ms : List M) → IsNested f v → IsNested (end_marked f ms) (with_last_marked v ms)
  end-marked f v ms is = record {
    all_lines = lines-marked (has_lines f) v.outer v.lines f.lines ms is.all_lines (has-lines-is f v is);
    prefixed = is.prefixed;
    opened = is.opened;
    lines_before = is.lines_before;
    own_widths = is.own_widths ∙ widths-kept (not (is_empty f.levels)) v.lines ms;
  }

  pub marked : (f g : NestedFields T M) (v : Nested T M) (ms : List M) → IsNested f v → g ≡ end_marked f ms → IsNested g (with_last_marked v ms)
  marked f g v ms is e = subst (λ x. IsNested x (with_last_marked v ms)) (sym e) (end-marked f v ms is)

  -- ---- a block begins

  pub begun : (f g : NestedFields T M) (v : Nested T M) (waiting : List M) (tag : T) (first later : List ℕ) → IsNested f v →
      g ≡ level_opened f (block_around waiting tag first later) → IsNested g (with_block_begun v waiting tag first later)
  begun f g v waiting tag first later is e =
      let o : Outer T M = record { lines = v.lines; waiting = waiting; tag = tag; first = first; later = later } in
      let total : length f.lines ≡ 0 + lines_around v.outer + length v.lines = omega (arith, ap length is.all_lines, full-count v.outer v.lines) in
      let own : length f.lines - f.start ≡ length v.lines = omega (arith, total, is.lines_before) in
      let alone : is_empty f.levels ≡ is_empty v.outer = ap (λ n. n == 0) (outer-count f v is) in
      subst (λ x. IsNested x (with_block_begun v waiting tag first later)) (sym e) (record {
        all_lines = is.all_lines ∙ ap (full v.outer) (sym (append-nil v.lines)) ∙ sym (full-inner v.outer o []);
        prefixed = ap (λ ps. ps ++ own_prefix (length f.lines) o) is.prefixed
            ∙ ap (λ k. prefixes_at 0 v.outer ++ own_prefix k o) total ∙ sym (prefixes-more 0 v.outer o);
        opened = ap (λ vs. vs ++ level_of (length f.lines - f.start) f.widths o ∷ []) is.opened
            ∙ ap (λ k. levels_of false v.outer ++ level_of k f.widths o ∷ []) own
            ∙ ap (λ w. levels_of false v.outer ++ level_of (length v.lines) w o ∷ []) (is.own_widths ∙ ap (λ b. noted (not b) v.lines) alone)
            ∙ sym (levels-last v.outer o);
        lines_before = omega (arith, total, lines-more v.outer o);
        own_widths = noted-none T M (not (is_empty (f.levels ++ level_of (length f.lines - f.start) f.widths o ∷ [])));
      })

  -- ---- a block ends

  -- stored prefixes without that of the last block
  prefixes-left : (b : Bool) (start : ℕ) (ps : List (BlockPrefix T M)) (o : Outer T M) → (qs : List (BlockPrefix T M)) → qs ≡ ps ++ stored_if b start o →
      (if b then take (length qs - 1) qs else qs) ≡ ps
  prefixes-left false start ps o qs e = e ∙ append-nil ps
  prefixes-left true start ps o qs e =
      ap (λ rs. take (length rs - 1) rs) e
      ∙ take_at ps (stored_if true start o) (length (ps ++ stored_if true start o) - 1) (omega (arith, length-append ps (stored_if true start o)))

  last-own : (b : Bool) (start : ℕ) (ps : List (BlockPrefix T M)) (o : Outer T M) → has_prefix o.waiting o.first o.later ≡ b →
      (if b then last_marks (ps ++ stored_if b start o) else []) ≡ o.waiting
  last-own true start ps o e = sym (last-popped (ps ++ stored_if true start o) ps _ refl)
  last-own false start ps o e = sym (bare o e).0

  widths-closed : (b : Bool) (l : Level T) (w : Widths) (o : Outer T M) (ls : List (Line T M)) → l ≡ level_of (length o.lines) (noted (not b) o.lines) o →
      w ≡ widths_of ls → (if b then NoLines else with_block l.widths l.first l.later w) ≡ noted (not b) (o.lines ++ placed_in o ls)
  widths-closed true l w o ls e h = refl
  widths-closed false l w o ls e h = rw (e, h) (with-block-is o.lines ls o)

  -- the last level, and what is stored besides it
  record Popped (f g : NestedFields T M) (v : Nested T M) (l : Level T) (os : List (Outer T M)) (o : Outer T M) : Type 0 where
    others : g.levels ≡ levels_of false os
    level : l ≡ last_level os o
    all_lines : g.lines ≡ full os (o.lines ++ placed_in o v.lines)
    prefixed : g.prefixes ≡ prefixes_at 0 os ++ own_prefix (0 + lines_around os + length o.lines) o
    start : g.start ≡ lines_around os + length o.lines
    widths : g.widths ≡ widths_of v.lines

  popped : (f g : NestedFields T M) (v : Nested T M) (l : Level T) (os : List (Outer T M)) (o : Outer T M) → IsNested f v → v.outer ≡ os ++ o ∷ [] →
      f ≡ record g { levels = g.levels ++ l ∷ [] } → Popped f g v l os o
  popped f g v l os o is outer e =
      let levels : f.levels ≡ g.levels ++ l ∷ [] = ap (λ (x : NestedFields T M). x.levels) e in
      let level = snoc-same g.levels (levels_of false os) l (last_level os o) (sym levels ∙ is.opened ∙ ap (levels_of false) outer ∙ levels-last os o) in
      let some : is_empty f.levels ≡ false = ne_eqb (length f.levels) 0 (λ z. omega (arith, z, ap length levels, length-append g.levels (l ∷ []))) in
      record {
        others = level.0;
        level = level.1;
        all_lines = sym (ap (λ (x : NestedFields T M). x.lines) e) ∙ is.all_lines ∙ ap (λ x. full x v.lines) outer ∙ full-inner os o v.lines;
        prefixed = sym (ap (λ (x : NestedFields T M). x.prefixes) e) ∙ is.prefixed ∙ ap (prefixes_at 0) outer ∙ prefixes-more 0 os o;
        start = sym (ap (λ (x : NestedFields T M). x.start) e) ∙ is.lines_before ∙ ap lines_around outer ∙ lines-more os o;
        widths = sym (ap (λ (x : NestedFields T M). x.widths) e) ∙ is.own_widths ∙ ap (λ b. noted (not b) v.lines) some;
      }

  closed-level : (f g : NestedFields T M) (v : Nested T M) (l : Level T) (os : List (Outer T M)) (o : Outer T M) → IsNested f v → v.outer ≡ os ++ o ∷ [] →
      f ≡ record g { levels = g.levels ++ l ∷ [] } → IsNested (level_closed g l) (record { lines = o.lines ++ placed_in o v.lines; outer = os })
  closed-level f g v l os o is outer e =
      let was = popped f g v l os o is outer e in
      let alone : is_empty os ≡ is_empty g.levels = ap (λ n. n == 0) (sym (ap length was.others ∙ levels-count false os)) in
      record {
        all_lines = was.all_lines;
        prefixed = ap (λ b. if b then take (length g.prefixes - 1) g.prefixes else g.prefixes) (ap (λ (x : Level T). x.has_prefix) was.level)
            ∙ prefixes-left (has_prefix o.waiting o.first o.later) (0 + lines_around os + length o.lines) (prefixes_at 0 os) o g.prefixes was.prefixed;
        opened = was.others;
        lines_before = omega (arith, was.start, ap (λ (x : Level T). x.lines) was.level);
        own_widths = widths-closed (is_empty g.levels) l g.widths o v.lines
            (was.level ∙ ap (λ b. level_of (length o.lines) (noted (not b) o.lines) o) alone) was.widths;
      }

  pub ended : (f g h : NestedFields T M) (v : Nested T M) (l : Level T) (ms : List M) (os : List (Outer T M)) (o : Outer T M) → IsNested f v →
      v.outer ≡ os ++ o ∷ [] → f ≡ record g { levels = g.levels ++ l ∷ [] } → h ≡ level_closed (end_marked g ms) l → IsNested h (with_block_ended os o v ms)
  ended f g h v l ms os o is outer e closed =
      subst (λ x. IsNested x (with_block_ended os o v ms)) (sym closed)
      (closed-level (end_marked f ms) (end_marked g ms) (with_last_marked v ms) l os o (end-marked f v ms is) outer (ap (λ x. end_marked x ms) e))

  pub waiting-is : (f g : NestedFields T M) (v : Nested T M) (l : Level T) (ms ws : List M) (os : List (Outer T M)) (o : Outer T M) → IsNested f v →
      v.outer ≡ os ++ o ∷ [] → f ≡ record g { levels = g.levels ++ l ∷ [] } → ws ≡ waiting_left g l ms → ws ≡ waiting_after o v ms
  waiting-is f g v l ms ws os o is outer e given =
      let was = popped f g v l os o is outer e in
      let has = has_prefix o.waiting o.first o.later in
      let own : (if l.has_prefix then last_marks g.prefixes else []) ≡ o.waiting =
      ap (λ b. if b then last_marks g.prefixes else []) (ap (λ (x : Level T). x.has_prefix) was.level)
      ∙ ap (λ ps. if has then last_marks ps else []) was.prefixed
      ∙ last-own has (0 + lines_around os + length o.lines) (prefixes_at 0 os) o refl in
      given ∙ ap (λ ns. if has_lines g then [] else ns ++ ms) own
      ∙ by (is_empty v.lines) (ap (λ x. has_lines x) (sym e) ∙ has-lines-is f v is)
    where
      by : (b : Bool) → has_lines g ≡ not b → (if has_lines g then [] else o.waiting ++ ms) ≡ (if b then o.waiting ++ ms else [])
      by true t = if_false (has_lines g) [] (o.waiting ++ ms) t
      by false t = if_true (has_lines g) [] (o.waiting ++ ms) t

  pub outer-of : (f : NestedFields T M) (v : Nested T M) (vs : List (Level T)) (l : Level T) → IsNested f v → f.levels ≡ vs ++ l ∷ [] →
      (os : List (Outer T M)) × ((o : Outer T M) × (v.outer ≡ os ++ o ∷ []))
  outer-of f v vs l is e = by v.outer (omega (arith, ap length e, outer-count f v is, length-append vs (l ∷ [])))
    where
      by : (os : List (Outer T M)) → 0 < length os → (ps : List (Outer T M)) × ((o : Outer T M) × (os ≡ ps ++ o ∷ []))
      by [] h = absurd (omega (arith, h))
      by (o ∷ os) h = unsnoc o os

  -- ---- what is read

  pub fits-is : (f : NestedFields T M) (v : Nested T M) (width : ℕ) (told : Bool) (os : List (Outer T M)) (o : Outer T M) → IsNested f v → width < 2 ^ 64 →
      v.outer ≡ os ++ o ∷ [] → ((vs : List (Level T)) (l : Level T) → f.levels ≡ vs ++ l ∷ [] → told ≡ fit f.widths l.first l.later width) →
      told ≡ fits_after (text_columns o.first) (text_columns o.later) width v.lines
  fits-is f v width told os o is h outer says =
      let levels = is.opened ∙ ap (levels_of false) outer ∙ levels-last os o in
      let some : is_empty f.levels ≡ false = ne_eqb (length f.levels) 0 (λ z. omega (arith, z, outer-count f v is, ap length outer, length-append os (o ∷ []))) in
      let l = last_level os o in
      says (levels_of false os) l levels ∙ ap (λ w. fit w l.first l.later width) (is.own_widths ∙ ap (λ b. noted (not b) v.lines) some)
      ∙ fit-is v.lines (text_columns o.first) (text_columns o.later) width h

  -- ---- prefixes are put one after another

  pub next-put : (n : ℕ) (ps : List (BlockPrefix T M)) (i : ℕ) (p : BlockPrefix T M) (line next whole : Line T M) → i < length ps → p ≡ get_or ps i p →
      next ≡ line ++ (if p.start == n then marks_line p.marks ++ under p.tag p.first else under p.tag p.later) →
      line ++ line_prefixes n (drop i ps) ≡ whole → next ++ line_prefixes n (drop (i + 1) ps) ≡ whole
  next-put n ps i p line next whole h e put was =
      let own = if p.start == n then marks_line p.marks ++ under p.tag p.first else under p.tag p.later in
      let here : drop i ps ≡ p ∷ drop (i + 1) ps = rw add-one (drop-cons ps i p h ∙ ap (λ x. x ∷ drop (suc i) ps) (sym e)) in
      ap (λ k. k ++ line_prefixes n (drop (i + 1) ps)) put ∙ append_assoc line own (line_prefixes n (drop (i + 1) ps))
      ∙ ap (λ qs. line ++ line_prefixes n qs) (sym here) ∙ was
