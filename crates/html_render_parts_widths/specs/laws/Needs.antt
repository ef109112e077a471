-- Columns side by side are within their width, and each cell has its minimum width over its columns.
use Rattle.std.proofs.Common.{◌≡◌, ℕ, ◌+◌, ◌-◌, ◌/◌, true, ◌≤◌, ◌<◌, List, [], ◌∷◌, length, sum, map, cond, sym, subst, arith, IfSome}
use Rattle.std.proofs.Common.{All, Contains, ap, ◌∙◌, get_or, ◌&&◌, leb, nat_lt}
use Rattle.std.proofs.lemmas.Bool.{and_from, le-leb, lt-ltb}
use Rattle.std.proofs.lemmas.List.{get_or-map, length-map}
use Rattle.std.proofs.lemmas.List.Elements.{All-nil, All-cons, All-contains, All-contains_itself, All-weaker}
use Rattle.std.proofs.lemmas.List.FromFn.{length-map-range_with_len, get_or-map-range_with_len}
use Rattle.html_render_parts_widths.specs.declared.needs.CellNeed.{CellNeed}
use Rattle.html_render_parts_widths.specs.declared.shares.ColumnNeed.{ColumnNeed}
use Rattle.html_render_parts_widths.specs.Shares.{least_widths, word_minimums, word_shares, widths_across}
use Rattle.html_render_parts_widths.specs.Spans.{given, greatest_at}
use Rattle.html_render_parts_widths.specs.Needs.{no_need, part, need_at, column_needs, HasRoom, IsCell, AreCells}
use Rattle.html_render_parts_widths.specs.laws.Cuts.{cut-within, neighbours-cut, HoldTogether}
use Rattle.html_render_parts_widths.specs.laws.WordMinimums.{above_least, length_minimums, of_widths, word_shares_fit}

-- ---- columns side by side are within the width

pub across_within : (w : ℕ) (needs : List ColumnNeed) → IfSome (widths_across w needs) (λ ws. sum ws + (length ws - 1) ≤ w)
across_within w needs = of_widths w needs (λ ws. sum ws + (length ws - 1) ≤ w)
    (λ ws stand cut. cut-within (word_minimums w needs) (word_shares w needs) w ws (word_shares_fit w needs stand) cut)

-- ---- cells side by side have their minimum widths

-- a column needs at least the part of each cell that covers it
given-most : (cells : List CellNeed) (k : ℕ) → All (λ c. given (part c c.min_width) k ≤ greatest_at (map (λ c. part c c.min_width) cells) k) cells
given-most [] k = All-nil (λ c. given (part c c.min_width) k ≤ greatest_at (map (λ c. part c c.min_width) []) k)
given-most (c ∷ cs) k =
    All-cons (λ d. given (part d d.min_width) k ≤ greatest_at (map (λ c. part c c.min_width) (c ∷ cs)) k) c cs (omega arith)
    (All-weaker (λ d. given (part d d.min_width) k ≤ greatest_at (map (λ c. part c c.min_width) cs) k)
    (λ d. given (part d d.min_width) k ≤ greatest_at (map (λ c. part c c.min_width) (c ∷ cs)) k) (λ d less. omega (arith, less)) cs (given-most cs k))

-- a cell gives its part to each of its columns
part-given : (c : CellNeed) (k : ℕ) → c.start ≤ k → k < c.start + c.count → c.min_width / c.count ≤ given (part c c.min_width) k
part-given c k from to =
    let over : (leb c.start k && nat_lt k (c.start + c.count)) ≡ true =
    and_from (leb c.start k) (nat_lt k (c.start + c.count)) (le-leb c.start k from) (lt-ltb k (c.start + c.count) to) in
    subst (λ b. c.min_width / c.count ≤ cond b (c.min_width / c.count) 0) (sym over) (omega arith)

has_room : (columns : ℕ) (cells : List CellNeed) (ws : List ℕ) → AreCells columns cells →
    HoldTogether (least_widths (column_needs columns cells)) ws → All (HasRoom ws) cells
has_room columns cells ws h hold = All-weaker (Contains cells) (HasRoom ws) room cells (All-contains_itself cells)
  where
    needs : List ColumnNeed
    needs = column_needs columns cells

    len : length needs ≡ columns
    len = length-map-range_with_len (need_at cells) 0 columns

    least-at : (k : ℕ) → k < columns → get_or (least_widths needs) k 0 ≡ greatest_at (map (λ c. part c c.min_width) cells) k
    least-at k inside =
        get_or-map (λ (n : ColumnNeed). n.min_width) needs k no_need 0 (omega (arith, inside, len))
        ∙ ap (λ (n : ColumnNeed). n.min_width) (get_or-map-range_with_len (need_at cells) 0 columns k k no_need inside (omega arith))

    room : (c : CellNeed) → Contains cells c → HasRoom ws c
    room c inside =
        let is = All-contains (IsCell columns) cells c h inside in
        let over = is.over in
        hold c.start c.count c.min_width is.some (omega (arith, over, len, length-map needs (λ (n : ColumnNeed). n.min_width))) (λ k from to.
        let in_columns : k < columns = omega (arith, to, over) in
        let most = All-contains (λ d. given (part d d.min_width) k ≤ greatest_at (map (λ c. part c c.min_width) cells) k) cells c
        (given-most cells k) inside in
        omega (arith, least-at k in_columns, part-given c k from to, most))

-- if the columns are side by side, each cell has room for its minimum width
pub cells_have_room : (columns : ℕ) (cells : List CellNeed) (w : ℕ) → AreCells columns cells →
    IfSome (widths_across w (column_needs columns cells)) (λ ws. All (HasRoom ws) cells)
cells_have_room columns cells w h =
    let needs = column_needs columns cells in
    of_widths w needs (λ ws. All (HasRoom ws) cells)
    (λ ws stand cut. has_room columns cells ws h (λ from count size some inside each.
    let same : length (least_widths needs) ≡ length needs = length-map needs (λ (n : ColumnNeed). n.min_width) in
    let len = length_minimums w needs stand in
    neighbours-cut (word_minimums w needs) (word_shares w needs) w ws cut from count size some (omega (arith, inside, same, len))
    (λ k low high.
    let least = each k low high in
    omega (arith, least, above_least w needs stand k (omega (arith, high, inside, same))))))
