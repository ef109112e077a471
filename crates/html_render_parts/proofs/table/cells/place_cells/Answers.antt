use Rattle.std.proofs.Common.{◌≡◌, Contains, ◌+◌, ◌++◌, ◌∷◌, [], drop, length, ap, ◌∙◌, subst, refl, sym, append_assoc}
use Rattle.std.proofs.lemmas.List.Elements.{All-nil}
use Rattle.std.proofs.lemmas.List.{append-nil, drop_all, length-append}
use Rattle.html_render_parts.specs.Placement.{bottom_rows, lists, own_from, placed_rows, rising, row_from, rows_from}
use Rattle.html_render_parts.specs.OwnCells.{own_rows_from}
use Rattle.html_render_parts.specs.Positions.{ends, positions_fit}
use Rattle.html_render_parts.specs.PlacementSteps.{Placing, row_told}
use Rattle.html_render_parts.specs.SimpleRows.{own_or_simple, own_placed, own_with_simple}
use Rattle.html_render_parts.proofs.EdgeRanks.{Contains-here}
use Rattle.html_render_parts.proofs.GatheringEnds.{Between, IsGathered, gathered-bottom, gathered-next}
use Rattle.html_render_parts.proofs.RowAfterRow.{IsNext}
use Rattle.html_render_parts.proofs.Vectors.{lists-drop}
use Rattle.html_render_parts.proofs.table.cells.place_cells.Goals as goal

pub loop-row-init : goal.loop-row-init
loop-row-init c = rw (c.new-placer.ensures, c.in_ok-positions.ensures, c.in_ok-own.ensures) (record {
  gathered = record {
    fits = refl;
    edges = refl;
    in_order = refl;
    zero = Contains-here 0 [];
    between = All-nil (Between (Contains (0 ∷ [])));
  };
  own = λ rest e. e;
  count = refl;
})

pub loop-row-preserved : goal.loop-row-preserved
loop-row-preserved c =
    let rows = lists c.args.rows.now in
    let row = c.loop-row.row in
    let cells = c.index-rows-row.result.items in
    let more = lists (drop (row + 1) c.args.rows.now) in
    let done = c.loop-row.placer in
    let hung = done.hanging in
    let made = own_placed c.in_ok-is_placed.is_placed c.place_next_own.new.placer.own in
    let next : Placing = record {
      places = row_from 0 hung cells;
      own = own_from row 0 hung cells;
      told = row_told 0 hung cells;
      hanging = c.place_next_own.new.placer.hanging;
    } in
    let split = lists-drop c.args.rows.now row c.index-rows-row.result c.loop-row-test.true c.index-rows-row.is in
    let is : IsNext row cells done next = record {
      places = refl;
      own = refl;
      told = refl;
      hangs_on = rw c.deref.ensures.value at c.in_ok-is_placed.ensures.hanging;
      fits = rw c.deref.ensures.value at c.in_ok-is_placed.ensures.fits;
    } in
    let pushed : c.push_own.new.own ≡ c.loop-row.own ++ made ∷ [] = c.in_ok-push_own.ensures in
    let stored : own_or_simple row cells made ≡ own_from row 0 hung cells = rw c.deref.ensures.value at c.in_ok-is_placed.ensures.own in
    record {
      gathered = rw (rw c.deref.ensures.value at c.in_ok-is_placed.ensures.positions)
          (gathered-next (placed_rows rows) row cells more done next c.loop-row.positions is
          (subst (λ r. IsGathered (placed_rows rows) (rows_from row hung r) hung c.loop-row.positions) split
          c.loop-row.invariant.gathered));
      own = λ rest e. rw pushed (ap (λ o. own_with_simple 0 rows o) (append_assoc c.loop-row.own (made ∷ []) rest)
          ∙ c.loop-row.invariant.own (made ∷ rest)
          (subst (λ r. own_with_simple row r (made ∷ rest) ≡ own_rows_from row hung r) (sym split)
          (ap (λ o. o ∷ own_with_simple (row + 1) more rest) stored
          ∙ ap (λ r. own_from row 0 hung cells ∷ r) (e ∙ ap (λ hs. own_rows_from (row + 1) hs more) is.hangs_on))));
      count = ap length pushed ∙ length-append c.loop-row.own (made ∷ []) ∙ ap (λ n. n + 1) c.loop-row.invariant.count;
    }

pub bottom-init : goal.bottom-init
bottom-init c =
    let rows = c.args.rows.now in
    subst (λ rs. IsGathered (placed_rows (lists rows)) (rows_from c.loop-row.row c.loop-row.placer.hanging (lists rs)) c.loop-row.placer.hanging c.loop-row.positions)
    (drop_all c.loop-row.row rows c.loop-row-test.false) c.loop-row.invariant.gathered

pub bottom-smaller : goal.bottom-smaller
bottom-smaller c = (rw c.if-branch.true at c.in_ok-place_bottom_row.ensures.ok).fewer

pub bottom-preserved : goal.bottom-preserved
bottom-preserved c =
    let is = rw c.if-branch.true at c.in_ok-place_bottom_row.ensures.ok in
    rw (c.in_ok-add.ensures, c.told.ensures)
    (gathered-bottom (placed_rows (lists c.args.rows.now)) c.bottom.placer c.place_bottom_row.new.self c.bottom.positions is c.bottom.invariant)

pub returns-clause-fits : goal.returns-clause-fits
returns-clause-fits c =
    let over = rw c.if-branch.false at c.in_ok-place_bottom_row.ensures.ok in
    c.bottom.invariant.fits ∙ ap (λ hs. positions_fit (bottom_rows hs)) over.0

pub returns-clause-edges : goal.returns-clause-edges
returns-clause-edges c =
    let over = rw c.if-branch.false at c.in_ok-place_bottom_row.ensures.ok in
    let was = c.bottom.invariant in
    c.in_ok-edges.ensures ∙ sym was.in_order ∙ ap rising (sym (append-nil c.bottom.positions))
    ∙ ap (λ hs. rising (c.bottom.positions ++ ends (bottom_rows hs))) (sym over.0) ∙ was.edges

pub returns-clause-own : goal.returns-clause-own
returns-clause-own c =
    let rows = c.args.rows.now in
    let row = c.loop-row.row in
    let hung = c.loop-row.placer.hanging in
    let own = c.loop-row.own in
    let none = drop_all row rows c.loop-row-test.false in
    ap (own_with_simple 0 (lists rows)) (sym (append-nil own))
    ∙ c.loop-row.invariant.own [] (subst (λ r. own_with_simple row (lists r) [] ≡ own_rows_from row hung (lists r)) (sym none) refl)
