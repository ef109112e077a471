-- The rows of a table that aren't placed yet, one after another.
use Rattle.std.proofs.Common.{◌≡◌, ℕ, ◌+◌, ◌<◌, ◌≤◌, true, false, List, [], ◌∷◌, Some, length, get_or, drop, map, All, refl, sym, ap, ◌∙◌, subst, arith, inl, inr}
use Rattle.std.proofs.Common.{Bool, Err, IfErr, IfOk, MatchBool, Ok, Result}
use Rattle.std.proofs.lemmas.List.{drop_all, drop_more, get_or-map, length-map}
use Rattle.std.proofs.lemmas.List.Elements.{All-head, All-tail, All-weaker}
use Rattle.html_render_dom_values.specs.declared.errors.Error.{Error}
use Rattle.html_render_dom_values.specs.declared.errors.Error.TheVariants.{TooNarrow, Fail, OutOfMemory}
use Rattle.html_render_parts.specs.declared.table.cells.GridCell.{GridCell}
use Rattle.html_render_parts.specs.declared.table.placement.Place.{Place}
use Rattle.html_render_parts.specs.declared.table.placement.PositionedCell.{PositionedCell}
use Rattle.html_render_parts.specs.Placement.{bottom_rows, own_from, rows_from}
use Rattle.html_render_parts.specs.OwnCells.{own_rows_from}
use Rattle.html_render_parts.specs.PlacementSteps.{AreAhead, IsNextBottom, Placing, places_ahead, with_next_row}
use Rattle.html_render_parts.specs.Positions.{positions_fit}
use Rattle.html_render_parts.specs.TableCells.{CellGrid, IsCellGrid, columns_of, span_on, spans_on}
use Rattle.html_render_parts.specs.Refusal.{Fails}
use Rattle.html_render_parts.proofs.CellsOnColumns.{IsWithin, cells-are}
use Rattle.html_render_parts.proofs.NumberTests.{ltb-tells}
use Rattle.html_render_parts.proofs.RowAfterRow.{fits-bottom, fits-next, next-is, next-past}
use Rattle.html_render_parts.proofs.SideBySide.{are-ordered}

abbrev IsOrdered : Place → Type 0
IsOrdered p = p.start ≤ p.end

-- at first no row is placed
pub all-ahead : (g : CellGrid) → IsCellGrid g → AreAhead g 0 []
all-ahead g h = record {
  table = h;
  own = refl;
  within = omega arith;
  fits = (cells-are (spans_on g) g h.own).0;
  ordered = are-ordered (spans_on g) h.valid;
}

-- the next of the table's own rows and those after it, by their spans
pub own-ahead : (g : CellGrid) (row : ℕ) (cells : List GridCell) → row < length g.rows → get_or g.rows row cells ≡ cells →
    drop row (spans_on g) ≡ map (span_on g.edges) cells ∷ drop (row + 1) (spans_on g)
own-ahead g row cells inside at =
    let spans = map (span_on g.edges) cells in
    let less : row < length (spans_on g) = subst (λ n. row < n) (sym (length-map g.rows (map (span_on g.edges)))) inside in
    drop_more (spans_on g) row spans less
    ∙ ap (λ r. r ∷ drop (row + 1) (spans_on g))
    (get_or-map (map (span_on g.edges)) g.rows row cells spans inside ∙ ap (map (span_on g.edges)) at)

-- a row's own cells end at an edge of the grid
pub own-on_edges : (g : CellGrid) (row : ℕ) (cells : List GridCell) → row < length g.rows → get_or g.rows row cells ≡ cells →
    All (All (IsWithin (columns_of g))) g.rows → All (λ c. c.first + c.columns < length g.edges) cells
own-on_edges g row cells inside at h =
    All-weaker (IsWithin (columns_of g)) (λ c. c.first + c.columns < length g.edges)
    (λ c w. let most = w.0 in let some = w.1 in omega arith) cells
    (subst (All (IsWithin (columns_of g))) at (h row cells inside))

none-ahead : (g : CellGrid) (row : ℕ) → length g.rows ≤ row → drop row (spans_on g) ≡ []
none-ahead g row past = drop_all row (spans_on g) (subst (λ n. n ≤ row) (sym (length-map g.rows (map (span_on g.edges)))) past)

-- after the table's own rows follow the rows below the last one
bottom-ahead : (g : CellGrid) (row : ℕ) (hung : List PositionedCell) → length g.rows ≤ row → places_ahead g row hung ≡ bottom_rows hung
bottom-ahead g row hung past = ap (rows_from row hung) (none-ahead g row past)

-- what follows an element at an index
drop-next : {X : Type 0} (xs : List X) (i : ℕ) (x : X) (rest : List X) → drop i xs ≡ x ∷ rest → drop (i + 1) xs ≡ rest
drop-next xs i x rest e = elim (ltb-tells i (length xs)) [
  | inl t ↦ (let f : get_or xs i x ∷ drop (i + 1) xs ≡ x ∷ rest = sym (drop_more xs i x t.1) ∙ e in cc)
  | inr t ↦ (let f : [] ≡ x ∷ rest = sym (drop_all i xs t.1) ∙ e in cc)
]

-- whether `next` places the first of these rows, and the others remain
pub record IsAhead (g : CellGrid) (row : ℕ) (hung : List PositionedCell) (row' : ℕ) (next : Placing) : Type 0 where
  pub places : places_ahead g row hung ≡ next.places ∷ places_ahead g row' next.hanging
  pub ahead : AreAhead g row' next.hanging

pub own-next : (g : CellGrid) (row : ℕ) (cells : List GridCell) (done next : Placing) → row < length g.rows →
    get_or g.rows row cells ≡ cells
    → AreAhead g row done.hanging → with_next_row row (map (span_on g.edges) cells) done ≡ Some next →
    IsAhead g row done.hanging (row + 1) next
own-next g row cells done next inside at h made =
    let spans = map (span_on g.edges) cells in
    let more = drop (row + 1) (spans_on g) in
    let here = own-ahead g row cells inside at in
    let is = next-is row spans done next made in
    let places : places_ahead g row done.hanging ≡ next.places ∷ places_ahead g (row + 1) next.hanging =
    rw (here, is.places, is.hangs_on) refl in
    let own : drop row (own_rows_from 0 [] (spans_on g)) ≡ own_from row 0 done.hanging spans ∷ own_rows_from (row + 1) next.hanging more =
    h.own ∙ ap (own_rows_from row done.hanging) here
    ∙ ap (λ hs. own_from row 0 done.hanging spans ∷ own_rows_from (row + 1) hs more) (sym is.hangs_on) in
    record {
      places = places;
      ahead = record {
        table = h.table;
        own = drop-next (own_rows_from 0 [] (spans_on g)) row _ _ own;
        within = omega arith;
        fits = sym (fits-next row spans more done next is) ∙ ap (λ r. positions_fit (rows_from row done.hanging r)) (sym here) ∙ h.fits;
        ordered = All-tail (All IsOrdered) next.places (places_ahead g (row + 1) next.hanging) (subst (All (All IsOrdered)) places h.ordered);
      };
    }

bottom-next : (g : CellGrid) (row : ℕ) (done next : Placing) → length g.rows ≤ row → AreAhead g row done.hanging →
    IsNextBottom done next
    → IsAhead g row done.hanging row next
bottom-next g row done next past h is =
    let old = bottom-ahead g row done.hanging past in
    let new = bottom-ahead g row next.hanging past in
    let places : places_ahead g row done.hanging ≡ next.places ∷ places_ahead g row next.hanging = rw (old, new) is.rows in
    let none : drop row (spans_on g) ≡ [] = none-ahead g row past in
    record {
      places = places;
      ahead = record {
        table = h.table;
        own = h.own ∙ ap (own_rows_from row done.hanging) none ∙ sym (ap (own_rows_from row next.hanging) none);
        within = h.within;
        fits = ap positions_fit new ∙ sym (fits-bottom done next is) ∙ ap positions_fit (sym old) ∙ h.fits;
        ordered = All-tail (All IsOrdered) next.places (places_ahead g row next.hanging) (subst (All (All IsOrdered)) places h.ordered);
      };
    }

-- the remaining rows fit and are ordered after a step below the last row, whether it places a row, none, or returns an error
pub bottom-still : (g : CellGrid) (row : ℕ) (done next : Placing) (r : Result Bool Error) → length g.rows ≤ row →
    AreAhead g row done.hanging
    → IfOk r (λ placed. MatchBool placed (IsNextBottom done next) ((done.hanging ≡ []) × (next ≡ done))) →
    IfErr r (λ e. next.hanging ≡ done.hanging) → AreAhead g row next.hanging
bottom-still g row done next (Ok true) past h is stays = (bottom-next g row done next past h is).ahead
bottom-still g row done next (Ok false) past h is stays = subst (λ p. AreAhead g row p.hanging) (sym is.1) h
bottom-still g row done next (Err e) past h is stays = subst (AreAhead g row) (sym stays) h

-- no place of the next row starts after its end
pub next-ordered : (g : CellGrid) (row : ℕ) (hung : List PositionedCell) (places : List Place) (more : List (List Place)) →
    AreAhead g row hung
    → places_ahead g row hung ≡ places ∷ more → All IsOrdered places
next-ordered g row hung places more h is = All-head (All IsOrdered) places more (subst (All (All IsOrdered)) is h.ordered)

-- ---- placing a remaining row returns no error but out of memory

pub own-memory : (g : CellGrid) (row : ℕ) (cells : List GridCell) (done : Placing) (e : Error) → row < length g.rows →
    get_or g.rows row cells ≡ cells
    → AreAhead g row done.hanging → Fails e (with_next_row row (map (span_on g.edges) cells) done) → e ≡ OutOfMemory
own-memory g row cells done TooNarrow inside at h fails = absurd fails
own-memory g row cells done OutOfMemory inside at h fails = refl
own-memory g row cells done Fail inside at h fails =
    let here = own-ahead g row cells inside at in
    let unfit = next-past row (map (span_on g.edges) cells) done fails in
    let fits = rw (here, unfit) at h.fits in
    cc
