-- The longest words of a table's cells are over its columns, and without trees there are none; and needs with longest words.
use Rattle.std.proofs.Common.{◌≡◌, ◌+◌, ◌/◌, ◌<◌, ◌≤◌, ℕ, List, [], ◌∷◌, ◌++◌, All, map, length, drop, get_or, refl, sym, ap, ◌∙◌, arith, append_assoc}
use Rattle.std.proofs.lemmas.List.{drop_all, drop_more, ext_get_or}
use Rattle.std.proofs.lemmas.List.Elements.{All-nil, All-cons, All-head, All-tail, All-append}
use Rattle.std.proofs.lemmas.List.FromFn.{length-map-range_with_len, get_or-map-range_with_len}
use Rattle.std.specs.List.{range_with_len}
use Rattle.html_render_dom_values.specs.Forest.{Forest, none, node}
use Rattle.html_render_parts.specs.declared.table.cells.GridCell.{GridCell}
use Rattle.html_render_parts_widths.specs.declared.shares.ColumnNeed.{ColumnNeed}
use Rattle.html_render_parts_widths.specs.declared.spans.Span.{Span}
use Rattle.html_render_parts_widths.specs.Spans.{greatest_at, AreGreatest, AreOver}
use Rattle.html_render_layout_estimates.specs.Words.{longest_word, with_longest}
use Rattle.html_render_layout_estimates.specs.CellSteps.{row_words, cell_words}
use Rattle.html_render_layout_estimates.specs.declared.words.WordShape.{WordShape}
use Rattle.html_render_layout_estimates.proofs.NeedsOfCells.{OnColumns}

pub row_words-without : (cells : List GridCell) → row_words cells none ≡ []
row_words-without [] = refl
row_words-without (c ∷ cs) = refl

pub cell_words-without : (rows : List (List GridCell)) → cell_words rows none ≡ []
cell_words-without [] = refl
cell_words-without (r ∷ rs) = refl

abbrev IsOver : (columns : ℕ) → Span → Type 0
IsOver columns s = s.start + s.count ≤ columns

row-over : (columns : ℕ) (cells : List GridCell) (t : Forest WordShape) → All (OnColumns columns) cells → AreOver columns (row_words cells t)
row-over columns (c ∷ cs) (node s children beside) h =
    let first = All-head (OnColumns columns) c cs h in
    All-cons (IsOver columns) (record { start = c.first; count = c.columns; value = longest_word s / c.columns })
    (row_words cs beside) first.0 (row-over columns cs beside (All-tail (OnColumns columns) c cs h))
row-over columns cells t h = All-nil (IsOver columns)

pub cells_over : (columns : ℕ) (rows : List (List GridCell)) (t : Forest WordShape) → All (All (OnColumns columns)) rows →
    AreOver columns (cell_words rows t)
cells_over columns (cells ∷ more) (node s children beside) h =
    All-append (IsOver columns) (row_words cells children) (cell_words more beside)
    (row-over columns cells children (All-head (All (OnColumns columns)) cells more h))
    (cells_over columns more beside (All-tail (All (OnColumns columns)) cells more h))
cells_over columns rows t h = All-nil (IsOver columns)

-- the greatest values over columns, as a list
pub greatest_are : (columns : ℕ) (spans : List Span) (values : List ℕ) → AreGreatest columns spans values →
    values ≡ map (greatest_at spans) (range_with_len 0 columns)
greatest_are columns spans values g =
    ext_get_or 0 values (map (greatest_at spans) (range_with_len 0 columns))
    (g.columns_of ∙ sym (length-map-range_with_len (greatest_at spans) 0 columns))
    (λ k inside.
    let in_columns : k < columns = omega (arith, inside, g.columns_of) in
    g.each k in_columns ∙ sym (get_or-map-range_with_len (greatest_at spans) 0 columns k k 0 in_columns (omega arith)))

-- ---- needs with longest words

with_longest-none : (needs : List ColumnNeed) → with_longest needs [] ≡ needs
with_longest-none [] = refl
with_longest-none (n ∷ ns) = refl

abbrev with_word : ColumnNeed → ℕ → ColumnNeed
with_word n word = record { preferred_width = n.preferred_width; min_width = n.min_width; longest_word = word }

pub one_word : (needs : List ColumnNeed) (words : List ℕ) (i word : ℕ) (n : ColumnNeed) → i < length needs → i < length words → word ≡ get_or words i 0 →
    with_longest (drop i needs) (drop i words) ≡ with_word (get_or needs i n) word ∷ with_longest (drop (i + 1) needs) (drop (i + 1) words)
one_word needs words i word n in_needs in_words is =
    ap (λ l. with_longest l (drop i words)) (drop_more needs i n in_needs)
    ∙ ap (λ l. with_longest (get_or needs i n ∷ drop (i + 1) needs) l) (drop_more words i 0 in_words)
    ∙ ap (λ w. with_word (get_or needs i n) w ∷ with_longest (drop (i + 1) needs) (drop (i + 1) words)) (sym is)

pub no_word : (needs : List ColumnNeed) (words : List ℕ) (i word : ℕ) (n : ColumnNeed) → i < length needs → length words ≤ i →
    word ≡ (get_or needs i n).longest_word →
    with_longest (drop i needs) (drop i words) ≡ with_word (get_or needs i n) word ∷ with_longest (drop (i + 1) needs) (drop (i + 1) words)
no_word needs words i word n in_needs past is =
    ap (λ l. with_longest (drop i needs) l) (drop_all i words past) ∙ with_longest-none (drop i needs) ∙ drop_more needs i n in_needs
    ∙ ap (λ w. with_word (get_or needs i n) w ∷ drop (i + 1) needs) (sym is)
    ∙ ap (λ l. with_word (get_or needs i n) word ∷ l)
    (sym (ap (λ l. with_longest (drop (i + 1) needs) l) (drop_all (i + 1) words (omega arith)) ∙ with_longest-none (drop (i + 1) needs)))

pub word_added : (all new needs : List ColumnNeed) (words : List ℕ) (i : ℕ) (x : ColumnNeed) → new ≡ all ++ x ∷ [] →
    with_longest (drop i needs) (drop i words) ≡ x ∷ with_longest (drop (i + 1) needs) (drop (i + 1) words) →
    all ++ with_longest (drop i needs) (drop i words) ≡ with_longest needs words →
    new ++ with_longest (drop (i + 1) needs) (drop (i + 1) words) ≡ with_longest needs words
word_added all new needs words i x pushed next so_far =
    ap (λ l. l ++ with_longest (drop (i + 1) needs) (drop (i + 1) words)) pushed
    ∙ append_assoc all (x ∷ []) (with_longest (drop (i + 1) needs) (drop (i + 1) words)) ∙ ap (λ l. all ++ l) (sym next) ∙ so_far
