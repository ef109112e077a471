-- Spans of the cells of a table are of at least one column and one row.
use Rattle.std.proofs.Common.{◌≡◌, ◌≢◌, ℕ, ◌+◌, ◌-◌, ◌^◌, ◌==◌, ◌<◌, ◌≤◌, inl, inr, if◌then◌else◌, get_or, length, map, max, List, [], ◌∷◌, ◌++◌, ap, ◌∙◌, refl, sym, subst, arith}
use Rattle.std.specs.Global.{Vec}
use Rattle.std.proofs.lemmas.Bool.{cases_Bool, eqb-false, eqb-true}
use Rattle.std.proofs.lemmas.List.{map-append, map_push}
use Rattle.std.proofs.lemmas.List.Elements.{All-append, All-cons, All-head, All-map, All-nil, All-tail}
use Rattle.std.specs.List.{All}
use Rattle.html_render_parts.specs.Grid.{AreValid}
use Rattle.html_render_parts.specs.Placement.{lists}
use Rattle.html_render_parts.specs.declared.table.Span.{Span}
use Rattle.html_render_parts.proofs.Vectors.{at-vector}
use Rattle.html_render_parts.specs.Spans.{AreAsked, width_of, spanned, spanned_in}

some_columns : (missing columns : ℕ) → 1 ≤ (if columns == 0 then missing + 1 else columns)
some_columns missing columns =
    elim (cases_Bool (columns == 0)) [
      | inl e ↦ rw e (omega arith)
      | inr e ↦ rw e (let some : columns ≢ 0 = eqb-false columns 0 e in omega arith)
    ]

abbrev IsValid : List Span → Type 0
IsValid cells = All (λ s. (1 ≤ s.colspan) × (1 ≤ s.rowspan)) cells

valid_row : (missing : ℕ) (cells : List Span) → IsValid (map (spanned missing) cells)
valid_row missing cells =
    All-map (λ s. (1 ≤ s.colspan) × (1 ≤ s.rowspan)) (spanned missing) cells
    (λ k d _. (some_columns missing (get_or cells k d).colspan, omega arith))

valid_part : (widest : ℕ) (rows : List (List Span)) → AreValid (spanned_in widest rows)
valid_part widest rows =
    All-map IsValid (λ cells. map (spanned (widest - width_of cells)) cells) rows
    (λ k d _. valid_row (widest - width_of (get_or rows k d)) (get_or rows k d))

-- the spans of more rows
pub valid_more : (old : List (List Span)) (widest : ℕ) (rows : List (List Span)) (new : List (List Span)) →
    new ≡ old ++ spanned_in widest rows → AreValid old → AreValid new
valid_more old widest rows new is h = subst AreValid (sym is) (All-append IsValid old (spanned_in widest rows) h (valid_part widest rows))

-- ---- rows as they are asked for

abbrev IsAsked : Span → Type 0
IsAsked s = s.colspan < 2 ^ 64

-- one more cell
pub asked_more : (old : List Span) (s : Span) (new : List Span) → new ≡ old ++ s ∷ [] → s.colspan < 2 ^ 64 → AreAsked old → AreAsked new
asked_more old s new is less h =
    subst AreAsked (sym is) (All-append IsAsked old (s ∷ []) h (All-cons IsAsked s [] less (All-nil IsAsked)))

-- one more row
pub rows_more : (old : List (Vec Span)) (row : Vec Span) (new : List (Vec Span)) → new ≡ old ++ row ∷ [] →
    lists new ≡ lists old ++ row.items ∷ []
rows_more old row new is = ap lists is ∙ map_push (λ (v : Vec Span). v.items) old row

pub all_asked_more : (old : List (Vec Span)) (row : Vec Span) (new : List (Vec Span)) → new ≡ old ++ row ∷ [] → AreAsked row.items →
    All AreAsked (lists old) → All AreAsked (lists new)
all_asked_more old row new is one h =
    subst (All AreAsked) (sym (rows_more old row new is))
    (All-append AreAsked (lists old) (row.items ∷ []) h (All-cons AreAsked row.items [] one (All-nil AreAsked)))

-- a row at an index
pub row_asked : (rows : List (Vec Span)) (i : ℕ) (row : Vec Span) → All AreAsked (lists rows) → i < length rows → row ≡ get_or rows i row → AreAsked row.items
row_asked rows i row h inside is = at-vector AreAsked rows i row h inside is

-- a row of valid spans keeps them
valid_span : (missing : ℕ) (s : Span) → (1 ≤ s.colspan) × (1 ≤ s.rowspan) → spanned missing s ≡ s
valid_span missing s h =
    let rows : max 1 s.rowspan ≡ s.rowspan = let one = h.1 in omega arith in
    elim (cases_Bool (s.colspan == 0)) [
      | inl e ↦ let none : s.colspan ≡ 0 = eqb-true s.colspan 0 e in let one = h.0 in absurd (omega arith)
      | inr e ↦ rw (e, rows) refl
    ]

valid_spans : (missing : ℕ) (cells : List Span) → IsValid cells → map (spanned missing) cells ≡ cells
valid_spans missing [] h = refl
valid_spans missing (s ∷ ss) h =
    let one = valid_span missing s (All-head (λ s. (1 ≤ s.colspan) × (1 ≤ s.rowspan)) s ss h) in
    let rest = valid_spans missing ss (All-tail (λ s. (1 ≤ s.colspan) × (1 ≤ s.rowspan)) s ss h) in
    rw (one, rest) refl

pub valid_rows : (widest : ℕ) (rows : List (List Span)) → AreValid rows → spanned_in widest rows ≡ rows
valid_rows widest [] h = refl
valid_rows widest (r ∷ rs) h =
    let one = valid_spans (widest - width_of r) r (All-head IsValid r rs h) in
    let rest = valid_rows widest rs (All-tail IsValid r rs h) in
    rw (one, rest) refl

-- the rows of a part that are valid, moved after others
pub rows_moved : (widest : ℕ) (old part new : List (Vec Span)) → new ≡ old ++ part → AreValid (lists part) →
    lists new ≡ lists old ++ spanned_in widest (lists part)
rows_moved widest old part new is h =
    ap lists is ∙ map-append (λ (v : Vec Span). v.items) old part ∙ ap (λ rows. lists old ++ rows) (sym (valid_rows widest (lists part) h))

pub valid_moved : (old part new : List (Vec Span)) → new ≡ old ++ part → AreValid (lists old) → AreValid (lists part) → AreValid (lists new)
valid_moved old part new is h more =
    subst AreValid (sym (ap lists is ∙ map-append (λ (v : Vec Span). v.items) old part)) (All-append IsValid (lists old) (lists part) h more)
