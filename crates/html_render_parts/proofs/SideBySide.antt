-- The places of a row are side by side from 0 on, so each start is an edge.
use Rattle.std.proofs.Common.{◌≡◌, ℕ, ◌+◌, ◌<◌, ◌≤◌, List, [], ◌∷◌, ◌++◌, length, get_or, max, map, filter, All, Contains, nat_le, refl, sym, ap, subst}
use Rattle.std.proofs.Common.{arith, suc, sum_by, zero}
use Rattle.std.proofs.lemmas.Bool.Decides.{nat_tests}
use Rattle.std.proofs.lemmas.List.Sums.{sum_by-cons}
use Rattle.std.proofs.lemmas.List.Elements.{All-nil, All-cons, All-head, All-tail, All-append, All-weaker, All-filter, All-map, Contains-append_left}
use Rattle.std.proofs.lemmas.List.Elements.{Contains-append_right}
use Rattle.html_render_parts.specs.declared.table.Span.{Span}
use Rattle.html_render_parts.specs.declared.table.CellKind.TheVariants.{Cell, Placeholder}
use Rattle.html_render_parts.specs.declared.table.PlacedCell.{PlacedCell}
use Rattle.html_render_parts.specs.declared.table.placement.Place.{Place}
use Rattle.html_render_parts.specs.declared.table.placement.PositionedCell.{PositionedCell}
use Rattle.html_render_parts.specs.Placement.{end_of, hanging, place_from, due_places, due_end, not_due, gap_to}
use Rattle.html_render_parts.specs.Placement.{rest_from, row_from, own_from, rising, rows_from, placed_rows}
use Rattle.html_render_parts.specs.Grid.{AreSideBySide, AreValid, edges_of, rank, numbered}
use Rattle.html_render_parts.specs.Positions.{ends}
use Rattle.html_render_parts.proofs.EdgeRanks.{Contains-here, Contains-rising, Contains-there, rank-below, rank-less, rank-mono}
use Rattle.html_render_parts.proofs.HangingOrder.{All-hanging, All-not_due}

-- whether places are side by side from one position to another
abbrev Between : ℕ → ℕ → List Place → Type 0
Between c d [] = c ≡ d
Between c d (p ∷ ps) = (p.start ≡ c) × (p.start < p.end) × Between p.end d ps

Between-append : (b c d : ℕ) (ps qs : List Place) → Between b c ps → Between c d qs → Between b d (ps ++ qs)
Between-append b c d [] qs h k = subst (λ x. Between x d qs) (sym h) k
Between-append b c d (p ∷ ps) qs h k = (h.0, h.1, Between-append p.end c d ps qs h.2 k)

-- ---- cells that span a column

abbrev pub Wide : PositionedCell → Type 0
Wide c = 1 ≤ c.span.colspan

abbrev pub Valid : Span → Type 0
Valid s = (1 ≤ s.colspan) × (1 ≤ s.rowspan)

pub Wide-own_from : (row cursor : ℕ) (hs : List PositionedCell) (ss : List Span) → All Valid ss → All Wide (own_from row cursor hs ss)
Wide-own_from row cursor hs [] v = All-nil Wide
Wide-own_from row cursor hs (s ∷ ss) v =
    let column = due_end cursor hs in
    let valid = All-head Valid s ss v in
    All-cons Wide (record { row = row; column = column; span = s }) (own_from row (column + s.colspan) (not_due cursor hs) ss) valid.0
    (Wide-own_from row (column + s.colspan) (not_due cursor hs) ss (All-tail Valid s ss v))

-- ---- one row

Between-due : (cursor : ℕ) (hs : List PositionedCell) → All Wide hs → Between cursor (due_end cursor hs) (due_places cursor hs)
Between-due cursor [] w = refl
Between-due cursor (h ∷ hs) w =
    let wide : 1 ≤ h.span.colspan = All-head Wide h hs w in
    let more = Between-due (cursor + h.span.colspan) hs (All-tail Wide h hs w) in
    grind (arith, nat_tests)

Between-gap : (cursor column : ℕ) → Between cursor (max cursor column) (gap_to cursor column)
Between-gap cursor column = grind (arith, nat_tests)

-- whether places are side by side from `c` to some end
abbrev Ends : ℕ → List Place → Type 0
Ends c ps = (d : ℕ) × Between c d ps

Ends-rest : (cursor : ℕ) (hs : List PositionedCell) → All Wide hs → Ends cursor (rest_from cursor hs)
Ends-rest cursor [] w = (cursor, refl)
Ends-rest cursor (h ∷ hs) w =
    let column = max cursor h.column in
    let rest = Ends-rest (column + h.span.colspan) hs (All-tail Wide h hs w) in (
      rest.0,
      Between-append cursor column rest.0 (gap_to cursor h.column)
          (place_from Placeholder column h.span.colspan ∷ rest_from (column + h.span.colspan) hs) (Between-gap cursor h.column)
          (refl, let wide : 1 ≤ h.span.colspan = All-head Wide h hs w in omega arith, rest.1),
    )

Ends-row : (cursor : ℕ) (hs : List PositionedCell) (ss : List Span) → All Wide hs → All Valid ss → Ends cursor (row_from cursor hs ss)
Ends-row cursor hs [] w v = Ends-rest cursor hs w
Ends-row cursor hs (s ∷ ss) w v =
    let column = due_end cursor hs in
    let valid = All-head Valid s ss v in
    let rest = Ends-row (column + s.colspan) (not_due cursor hs) ss (All-not_due Wide cursor hs w) (All-tail Valid s ss v) in (
      rest.0,
      Between-append cursor column rest.0 (due_places cursor hs)
          (place_from Cell column s.colspan ∷ row_from (column + s.colspan) (not_due cursor hs) ss) (Between-due cursor hs w)
          (refl, let wide = valid.0 in omega arith, rest.1),
    )

-- ---- all rows

Ends-bottoms : (hung : List PositionedCell) → All Wide hung → (ns : List ℕ) →
    All (Ends 0) (map (λ n. rest_from 0 (filter (λ c. nat_le n (end_of c)) hung)) ns)
Ends-bottoms hung w [] = All-nil (Ends 0)
Ends-bottoms hung w (n ∷ ns) =
    All-cons (Ends 0) (rest_from 0 (filter (λ c. nat_le n (end_of c)) hung)) (map (λ m. rest_from 0 (filter (λ c. nat_le m (end_of c)) hung)) ns)
    (Ends-rest 0 (filter (λ c. nat_le n (end_of c)) hung) (All-filter (λ c. nat_le n (end_of c)) Wide hung w)) (Ends-bottoms hung w ns)

Ends-rows : (row : ℕ) (hung : List PositionedCell) (rows : List (List Span)) → All Wide hung → AreValid rows → All (Ends 0) (rows_from row hung rows)
Ends-rows row hung [] w v = Ends-bottoms hung w (rising (map end_of hung))
Ends-rows row hung (ss ∷ rows) w v =
    let own = own_from row 0 hung ss in
    let next = hanging (row + 1) (hung ++ own) in
    let here : All Valid ss = All-head (All Valid) ss rows v in
    All-cons (Ends 0) (row_from 0 hung ss) (rows_from (row + 1) next rows) (Ends-row 0 hung ss w here)
    (Ends-rows (row + 1) next rows (All-hanging Wide (row + 1) (hung ++ own) (All-append Wide hung own w (Wide-own_from row 0 hung ss here)))
    (All-tail (All Valid) ss rows v))

-- ---- each start is an edge, below its end

-- whether a place starts at an edge, below its end
abbrev StartsIn : List ℕ → Place → Type 0
StartsIn edges p = Contains edges p.start × (p.start < p.end)

starts : (c d : ℕ) (ps : List Place) → Between c d ps → All (StartsIn (c ∷ map (λ p. p.end) ps)) ps
starts c d [] h = All-nil (StartsIn (c ∷ []))
starts c d (p ∷ ps) h =
    let es = c ∷ p.end ∷ map (λ q. q.end) ps in
    All-cons (StartsIn es) p ps (subst (λ x. Contains es x) (sym h.0) (Contains-here c (p.end ∷ map (λ q. q.end) ps)), h.1)
    (All-weaker (StartsIn (p.end ∷ map (λ q. q.end) ps)) (StartsIn es)
    (λ q k. (Contains-there c q.start (p.end ∷ map (λ r. r.end) ps) k.0, k.1)) ps (starts p.end d ps h.2))

last-end : (c d : ℕ) (ps : List Place) → Between c d ps → Contains (c ∷ map (λ p. p.end) ps) d
last-end c d [] h = subst (λ x. Contains (c ∷ []) x) h (Contains-here c [])
last-end c d (p ∷ ps) h = Contains-there c d (p.end ∷ map (λ q. q.end) ps) (last-end p.end d ps h.2)

-- whether a row is side by side from 0 to an edge, and each place starts at an edge
pub record OnEdges (edges : List ℕ) (ps : List Place) : Type 0 where
  pub behind : ℕ
  pub between : Between 0 behind ps
  pub last : Contains edges behind
  pub starts_in : All (StartsIn edges) ps

on-edges : (rows : List (List Place)) (edges : List ℕ) → ((n : ℕ) → Contains (0 ∷ ends rows) n → Contains edges n) → All (Ends 0) rows →
    All (OnEdges edges) rows
on-edges [] edges f h = All-nil (OnEdges edges)
on-edges (r ∷ rows) edges f h =
    let here = All-head (Ends 0) r rows h in
    let own = 0 ∷ map (λ p. p.end) r in
    All-cons (OnEdges edges) r rows
    (record {
      behind = here.0;
      between = here.1;
      last = f here.0 (Contains-append_left own (ends rows) here.0 (last-end 0 here.0 r here.1));
      starts_in = All-weaker (StartsIn own) (StartsIn edges) (λ p k. (f p.start (Contains-append_left own (ends rows) p.start k.0), k.1)) r
          (starts 0 here.0 r here.1);
    })
    (on-edges rows edges (λ n k. f n (more n k)) (All-tail (Ends 0) r rows h))
  where
    more : (n : ℕ) → Contains (0 ∷ ends rows) n → Contains (0 ∷ ends (r ∷ rows)) n
    more n k = by k.0 k.1 k.2
      where
        by : (i : ℕ) → i < length (0 ∷ ends rows) → get_or (0 ∷ ends rows) i n ≡ n → Contains (0 ∷ ends (r ∷ rows)) n
        by zero inside e = (0, omega arith, e)
        by (suc i) inside e = Contains-there 0 n (map (λ p. p.end) r ++ ends rows)
            (Contains-append_right (map (λ p. p.end) r) (ends rows) n (i, omega arith, e))

rows-on_edges : (rows : List (List Span)) → AreValid rows → All (OnEdges (edges_of (placed_rows rows))) (placed_rows rows)
rows-on_edges rows v =
    let placed = placed_rows rows in
    on-edges placed (edges_of placed) (λ n k. Contains-rising n (0 ∷ ends placed) k) (Ends-rows 0 [] rows (All-nil Wide) v)

-- no place starts after its end
pub are-ordered : (rows : List (List Span)) → AreValid rows → All (All (λ p. p.start ≤ p.end)) (placed_rows rows)
are-ordered rows v =
    let es = edges_of (placed_rows rows) in
    All-weaker (OnEdges es) (All (λ p. p.start ≤ p.end))
    (λ ps h. All-weaker (StartsIn es) (λ p. p.start ≤ p.end) (λ p k. let less = k.1 in omega arith) ps h.starts_in) (placed_rows rows)
    (rows-on_edges rows v)

-- a property of each row of places between edges, with their numbers of columns, is one of each row of the grid
rows-numbered : (Q : List PlacedCell → Type 0) (rows : List (List Span)) → AreValid rows →
    ((ps : List Place) → OnEdges (edges_of (placed_rows rows)) ps → Q (map (numbered (edges_of (placed_rows rows))) ps)) →
    All Q (map (map (numbered (edges_of (placed_rows rows)))) (placed_rows rows))
rows-numbered Q rows v f =
    let es = edges_of (placed_rows rows) in
    All-map Q (map (numbered es)) (placed_rows rows)
    (All-weaker (OnEdges es) (λ ps. Q (map (numbered es) ps)) f (placed_rows rows) (rows-on_edges rows v))

-- each place has a column
pub have-columns : (rows : List (List Span)) → AreValid rows →
    All (All (λ (c : PlacedCell). 1 ≤ c.columns)) (map (map (numbered (edges_of (placed_rows rows)))) (placed_rows rows))
have-columns rows v =
    let es = edges_of (placed_rows rows) in
    rows-numbered (All (λ (c : PlacedCell). 1 ≤ c.columns)) rows v (λ ps h. All-map (λ (c : PlacedCell). 1 ≤ c.columns) (numbered es) ps
    (All-weaker (StartsIn es) (λ p. 1 ≤ (numbered es p).columns) (λ p k. let less = rank-less es p.start p.end k.0 k.1 in
    omega arith) ps h.starts_in))

side-by-side : (es : List ℕ) (c d : ℕ) (ps : List Place) → Between c d ps → AreSideBySide c (map (numbered es) ps)
side-by-side es c d [] h = tt
side-by-side es c d (p ∷ ps) h = (h.0, h.1, side-by-side es p.end d ps h.2)

-- the places of a row are side by side
pub stand-side_by_side : (rows : List (List Span)) → AreValid rows →
    All (AreSideBySide 0) (map (map (numbered (edges_of (placed_rows rows)))) (placed_rows rows))
stand-side_by_side rows v = rows-numbered (AreSideBySide 0) rows v (λ ps h. side-by-side (edges_of (placed_rows rows)) 0 h.behind ps h.between)

total-columns : (es : List ℕ) (c d : ℕ) (ps : List Place) → Between c d ps →
    sum_by (λ (q : PlacedCell). q.columns) (map (numbered es) ps) + rank es c ≡ rank es d
total-columns es c d [] h = let e : rank es c ≡ rank es d = ap (rank es) h in omega arith
total-columns es c d (p ∷ ps) h =
    let less = h.1 in
    let start : rank es p.start ≡ rank es c = ap (rank es) h.0 in
    let mono = rank-mono es p.start p.end (omega arith) in
    let ih = total-columns es p.end d ps h.2 in
    rw (sum_by-cons (λ (q : PlacedCell). q.columns) (numbered es p) (map (numbered es) ps)) (omega arith)

-- the places of a row have together at most the table's columns
pub fit-columns : (rows : List (List Span)) → AreValid rows →
    All (λ cells. sum_by (λ (q : PlacedCell). q.columns) cells < length (edges_of (placed_rows rows)))
    (map (map (numbered (edges_of (placed_rows rows)))) (placed_rows rows))
fit-columns rows v =
    let es = edges_of (placed_rows rows) in
    rows-numbered (λ cells. sum_by (λ (q : PlacedCell). q.columns) cells < length es) rows v
    (λ ps h. let all = total-columns es 0 h.behind ps h.between in let below = rank-below es h.behind h.last in omega arith)
