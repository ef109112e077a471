-- The widths that columns need for their cells.
use Rattle.std.proofs.Common.{◌≡◌, ℕ, ◌+◌, ◌≤◌, ◌<◌, List, length, map, sym, ap, ◌∙◌, arith}
use Rattle.std.specs.Prelude.{slice_index, slice_index_or}
use Rattle.std.proofs.lemmas.List.{ext_get_or}
use Rattle.std.proofs.lemmas.List.Elements.{All-weaker, All-map}
use Rattle.std.proofs.lemmas.List.FromFn.{length-map-range_with_len, get_or-map-range_with_len}
use Rattle.html_render_parts_widths.specs.declared.needs.CellNeed.{CellNeed}
use Rattle.html_render_parts_widths.specs.declared.shares.ColumnNeed.{ColumnNeed}
use Rattle.html_render_parts_widths.specs.declared.spans.Span.{Span}
use Rattle.html_render_parts_widths.specs.Spans.{greatest_at, AreOver, AreGreatest}
use Rattle.html_render_parts_widths.specs.Needs.{no_need, part, need_at, column_needs, IsCell, AreSome, AreCells}

pub are_some : (columns : ℕ) (cells : List CellNeed) → AreCells columns cells → AreSome cells
are_some columns cells h = All-weaker (IsCell columns) (λ c. 0 < c.count) (λ c i. i.some) cells h

pub sizes_over : (columns : ℕ) (cells : List CellNeed) → AreCells columns cells → AreOver columns (map (λ c. part c c.preferred_width) cells)
sizes_over columns cells h =
    All-map (λ (s : Span). s.start + s.count ≤ columns) (λ c. part c c.preferred_width) cells
    (All-weaker (IsCell columns) (λ c. c.start + c.count ≤ columns) (λ c i. i.over) cells h)

pub least_over : (columns : ℕ) (cells : List CellNeed) → AreCells columns cells → AreOver columns (map (λ c. part c c.min_width) cells)
least_over columns cells h =
    All-map (λ (s : Span). s.start + s.count ≤ columns) (λ c. part c c.min_width) cells
    (All-weaker (IsCell columns) (λ c. c.start + c.count ≤ columns) (λ c i. i.over) cells h)

-- the greatest preferred and minimum widths over columns, joined, are the columns' needs
pub needed : (columns : ℕ) (cells : List CellNeed) (sizes least : List ℕ) (needs : List ColumnNeed) →
    AreGreatest columns (map (λ c. part c c.preferred_width) cells) sizes → AreGreatest columns (map (λ c. part c c.min_width) cells) least →
    length needs ≡ length sizes →
    ((k : ℕ) → k < length sizes → slice_index_or needs k no_need ≡ record { preferred_width = slice_index sizes k; min_width = slice_index least k; longest_word = 0 }) →
    needs ≡ column_needs columns cells
needed columns cells sizes least needs g l len each =
    ext_get_or no_need needs (column_needs columns cells)
    (len ∙ g.columns_of ∙ sym (length-map-range_with_len (need_at cells) 0 columns))
    (λ k inside.
    let in_sizes : k < length sizes = omega (arith, inside, len) in
    let in_columns : k < columns = omega (arith, inside, len, g.columns_of) in
    each k in_sizes
    ∙ ap (λ n. record { preferred_width = n; min_width = slice_index least k; longest_word = 0 }) (g.each k in_columns)
    ∙ ap (λ n. record { preferred_width = greatest_at (map (λ c. part c c.preferred_width) cells) k; min_width = n; longest_word = 0 }) (l.each k in_columns)
    ∙ sym (get_or-map-range_with_len (need_at cells) 0 columns k k no_need in_columns (omega arith)))
