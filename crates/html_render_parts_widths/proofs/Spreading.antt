-- The steps that spread values end with the greatest value over each column.
use Rattle.std.proofs.Common.{◌≡◌, ℕ, zero, suc, ◌+◌, ◌-◌, ◌*◌, ◌≤◌, ◌<◌, List, [], ◌∷◌, length, min, max, nat_lt, true, false, inl, inr, ◌⊎◌, sym, ap, ◌∙◌, subst, arith}
use Rattle.std.specs.Prelude.{slice_index}
use Rattle.std.proofs.lemmas.Bool.Decides.{eqb_tells, leb_tells, nat_tests}
use Rattle.std.proofs.lemmas.List.Elements.{All-get_or}
use Rattle.html_render_parts_widths.specs.declared.spans.Span.{Span}
use Rattle.html_render_parts_widths.specs.Spans.{given, greatest_at, AreOver, AreGreatest}
use Rattle.html_render_parts_widths.specs.SpanSteps.{no_span, span_at, Reaches, IsSpread, split_at, raised_at}

-- the two outcomes of a test whether one number is below another
ltb-tells : (a b : ℕ) → ((nat_lt a b ≡ true) × (a < b)) ⊎ ((nat_lt a b ≡ false) × (b ≤ a))
ltb-tells a b = elim (leb_tells (suc a) b) [ inl t ↦ inl (t.0, omega arith) | inr t ↦ inr (t.0, omega arith) ]

-- ---- the value that a span gives a column

given-value : (s : Span) (j : ℕ) → s.start ≤ j → j < s.start + s.count → given s j ≡ s.value
given-value s j a b = grind (arith, nat_tests)

-- a bound on the value that a span gives a column
given-le : (s : Span) (j bound : ℕ) → (s.start ≤ j → j < s.start + s.count → s.value ≤ bound) → given s j ≤ bound
given-le s j bound h = grind (arith, nat_tests)

-- each span gives a column at most the greatest value over it
given-greatest : (spans : List Span) (k j : ℕ) → k < length spans → given (span_at spans k) j ≤ greatest_at spans j
given-greatest [] k j h = absurd (omega (arith, h))
given-greatest (s ∷ ss) zero j h = omega arith
given-greatest (s ∷ ss) (suc k) j h = let e = given-greatest ss k j (omega (arith, h)) in omega (arith, e)

greatest-le : (spans : List Span) (j bound : ℕ) → ((k : ℕ) → k < length spans → given (span_at spans k) j ≤ bound) → greatest_at spans j ≤ bound
greatest-le [] j bound h = omega arith
greatest-le (s ∷ ss) j bound h =
    let first = h 0 (omega arith) in
    let rest = greatest-le ss j bound (λ k inside. h (suc k) (omega (arith, inside))) in
    omega (arith, first, rest)

span-over : (all : ℕ) (spans : List Span) (k : ℕ) → AreOver all spans → k < length spans → (span_at spans k).start + (span_at spans k).count ≤ all
span-over all spans k h inside = All-get_or (λ s. s.start + s.count ≤ all) spans k no_span inside h

-- ---- the steps

-- raising values preserves that they reach a span
reaches-more : (values more : List ℕ) (columns : ℕ) (s : Span) → ((i : ℕ) → slice_index values i ≤ slice_index more i) →
    Reaches values columns s → Reaches more columns s
reaches-more values more columns s le h = λ j a b.
    let r = h j a b in
    (r.0, r.1, r.2, let e = le r.0 in let v = r.3 in omega (arith, e, v))

-- the greatest count of one span more
pub counts_more : (spans : List Span) (at most : ℕ) → ((k : ℕ) → k < at → (span_at spans k).count ≤ most) →
    (k : ℕ) → k < at + 1 → (span_at spans k).count ≤ max most (span_at spans at).count
counts_more spans at most h k inside = elim (ltb-tells k at) [
  | inl y ↦ let e = h k y.1 in omega (arith, e)
  | inr n ↦
      let same : k ≡ at = omega (arith, n.1, inside) in
      subst (λ n. (span_at spans n).count ≤ max most (span_at spans at).count) (sym same) (omega arith)
]

-- without spans to spread, zeros are spread
pub begun : (all most : ℕ) (spans : List Span) (values : List ℕ) → AreOver all spans → length values ≡ all →
    ((k : ℕ) → slice_index values k ≡ 0) → ((k : ℕ) → k < length spans → (span_at spans k).count ≤ most) →
    IsSpread all (min most all + 1) (min most all + 1) 0 spans values
begun all most spans values over places zeros counts = record {
  places = places;
  within = λ i j a b c. let z = zeros i in omega (arith, z);
  long = λ k inside longer. absurd (let o = span-over all spans k over inside in let n = counts k inside in omega (arith, o, n, longer));
  short = λ k none. absurd (omega (arith, none));
}

split-more : (offset : ℕ) (values : List ℕ) (k : ℕ) → slice_index values k ≤ split_at offset values k
split-more offset values k = grind (arith, nat_tests)

split-before : (offset : ℕ) (values : List ℕ) (k : ℕ) → offset ≤ k → slice_index values (k - offset) ≤ split_at offset values k
split-before offset values k h = grind (arith, nat_tests)

split-le : (offset : ℕ) (values : List ℕ) (k bound : ℕ) → slice_index values k ≤ bound →
    (offset ≤ k → slice_index values (k - offset) ≤ bound) → split_at offset values k ≤ bound
split-le offset values k bound a b = grind (arith, nat_tests)

-- each window loses its last `offset` columns, and that of the index `offset` places to the right covers them
pub split_spread : (all longer offset : ℕ) (spans : List Span) (values more : List ℕ) → AreOver all spans → offset < longer →
    longer ≤ 2 * (longer - offset) → offset ≤ longer - offset → length more ≡ all →
    ((k : ℕ) → k < length values → slice_index more k ≡ split_at offset values k) →
    IsSpread all longer longer 0 spans values → IsSpread all (longer - offset) longer 0 spans more
split_spread all longer offset spans values more over less half small places each h = record {
  places = places;
  within = λ i j a b c.
      let w = h.within in
      let inside : i < length values = omega (arith, a, c, h.places) in
      subst (λ x. x ≤ greatest_at spans j) (sym (each i inside))
      (split-le offset values i (greatest_at spans j) (w i j a (omega (arith, b)) c)
      (λ d. w (i - offset) j (omega (arith, a)) (omega (arith, b, d, less)) c));
  long = λ k inside l j a b.
      let r = h.long k inside l j a b in
      let o = span-over all spans k over inside in
      elim (ltb-tells j (r.0 + (longer - offset))) [
        | inl y ↦
            let in_values : r.0 < length values = omega (arith, r.1, b, o, h.places) in
            (r.0, r.1, y.1, let e = each r.0 in_values in let m = split-more offset values r.0 in let v = r.3 in omega (arith, e, m, v))
        | inr n ↦
            let at : r.0 + offset < length values = omega (arith, r.1, r.2, n.1, b, o, h.places, small) in
            let back : (r.0 + offset) - offset ≡ r.0 = omega arith in
            let m = split-before offset values (r.0 + offset) (omega arith) in
            let same : slice_index values ((r.0 + offset) - offset) ≡ slice_index values r.0 = ap (λ x. slice_index values x) back in (
              r.0 + offset,
              omega (arith, n.1, small),
              omega (arith, r.2, less),
              let e = each (r.0 + offset) at in let v = r.3 in omega (arith, e, m, same, v),
            )
      ];
  short = λ k none. absurd (omega (arith, none));
}

raised-more : (columns : ℕ) (s : Span) (values : List ℕ) (k : ℕ) → slice_index values k ≤ raised_at columns s values k
raised-more columns s values k = grind (arith, nat_tests)

raised-first : (columns : ℕ) (s : Span) (values : List ℕ) → s.value ≤ raised_at columns s values s.start
raised-first columns s values = grind (arith, nat_tests)

raised-last : (columns : ℕ) (s : Span) (values : List ℕ) → s.value ≤ raised_at columns s values (s.start + (s.count - columns))
raised-last columns s values = grind (arith, nat_tests)

raised-le : (columns : ℕ) (s : Span) (values : List ℕ) (k bound : ℕ) → slice_index values k ≤ bound →
    (k ≡ s.start → s.value ≤ bound) → (k ≡ s.start + (s.count - columns) → s.value ≤ bound) → raised_at columns s values k ≤ bound
raised-le columns s values k bound a b c = grind (arith, nat_tests)

-- adding a span of `columns` to `longer` columns makes one span more spread
pub added : (all columns longer k : ℕ) (spans : List Span) (values more : List ℕ) → AreOver all spans → k < length spans →
    columns ≤ (span_at spans k).count → (span_at spans k).count < longer → longer ≤ 2 * columns → length more ≡ length values →
    ((i : ℕ) → slice_index more i ≡ raised_at columns (span_at spans k) values i) →
    IsSpread all columns longer k spans values → IsSpread all columns longer (k + 1) spans more
added all columns longer k spans values more over inside least less twice places each h =
    let s = span_at spans k in
    let grows : (i : ℕ) → slice_index values i ≤ slice_index more i =
    λ i. let e = each i in let m = raised-more columns s values i in omega (arith, e, m) in
    record {
      places = places ∙ h.places;
      within = λ i j a b c.
          let reach = given-greatest spans k j inside in
          let within_s : s.start ≤ j → j < s.start + s.count → s.value ≤ greatest_at spans j =
          λ p q. let v = given-value s j p q in omega (arith, reach, v) in
          subst (λ x. x ≤ greatest_at spans j) (sym (each i))
          (raised-le columns s values i (greatest_at spans j) (h.within i j a b c)
          (λ e. within_s (omega (arith, a, e)) (omega (arith, b, e, least)))
          (λ e. within_s (omega (arith, a, e)) (omega (arith, b, e, least))));
      long = λ m in_spans l. reaches-more values more columns (span_at spans m) grows (h.long m in_spans l);
      short = λ m done l. elim (eqb_tells m k) [
        | inl y ↦ subst (λ n. Reaches more columns (span_at spans n)) (sym y.1) (λ j a b.
            elim (ltb-tells j (s.start + columns)) [
              | inl z ↦ (s.start, a, z.1, let e = each s.start in let v = raised-first columns s values in omega (arith, e, v))
              | inr n ↦ (
                s.start + (s.count - columns),
                omega (arith, n.1, less, twice),
                omega (arith, b, least),
                let e = each (s.start + (s.count - columns)) in let v = raised-last columns s values in omega (arith, e, v),
              )
            ])
        | inr n ↦ reaches-more values more columns (span_at spans m) grows (h.short m (let d = n.1 in omega (arith, done, d)) l)
      ];
    }

-- a span of fewer than `columns` columns needs no step, nor does one that is spread already
pub passed : (all columns longer k : ℕ) (spans : List Span) (values : List ℕ) → k < length spans →
    (columns ≤ (span_at spans k).count → longer ≤ (span_at spans k).count) →
    IsSpread all columns longer k spans values → IsSpread all columns longer (k + 1) spans values
passed all columns longer k spans values inside other h = record {
  places = h.places;
  within = h.within;
  long = h.long;
  short = λ m done l. elim (eqb_tells m k) [
    | inl y ↦ subst (λ n. columns ≤ (span_at spans n).count → Reaches values columns (span_at spans n)) (sym y.1)
        (λ c. h.long k inside (other c)) l
    | inr n ↦ h.short m (let d = n.1 in omega (arith, done, d)) l
  ];
}

-- with all spans added, all of at least `columns` columns are spread
pub all_added : (all columns longer : ℕ) (spans : List Span) (values : List ℕ) →
    IsSpread all columns longer (length spans) spans values → IsSpread all columns columns 0 spans values
all_added all columns longer spans values h = record {
  places = h.places;
  within = h.within;
  long = λ k inside l. h.short k inside l;
  short = λ k none. absurd (omega (arith, none));
}

-- with windows of one column, the values are the greatest over each column
pub ended : (all : ℕ) (spans : List Span) (values : List ℕ) → IsSpread all 1 1 0 spans values → AreGreatest all spans values
ended all spans values h = record {
  columns_of = h.places;
  each = λ k inside.
      let up = h.within k k (omega arith) (omega arith) inside in
      let down = greatest-le spans k (slice_index values k) (λ m in_spans.
      given-le (span_at spans m) k (slice_index values k) (λ a b.
      let r = h.long m in_spans (omega (arith, a, b)) k a b in
      let same : r.0 ≡ k = omega (arith, r.1, r.2) in
      subst (λ i. (span_at spans m).value ≤ slice_index values i) same r.3)) in
      omega (arith, up, down);
}
