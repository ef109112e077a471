use Rattle.std.proofs.Common.{◌≡◌, ◌+◌, ◌<◌, ◌^◌, ◌∷◌, [], All, ap, map, refl, subst, sym, ◌∙◌}
use Rattle.html_render_parts.specs.Placement.{lists, placed_rows}
use Rattle.html_render_parts.specs.OwnCells.{own_rows_from, on_columns}
use Rattle.html_render_parts.specs.Grid.{edges_of}
use Rattle.html_render_parts.specs.Positions.{ends}
use Rattle.html_render_parts.specs.laws.OwnCells.{cells-own}
use Rattle.html_render_parts.proofs.CellsOnColumns.{cells-valid, own-within}
use Rattle.html_render_parts.proofs.EdgeRanks.{IsStrictlyIncreasing-rising}
use Rattle.html_render_parts.proofs.SimpleRows.{all-stored_fit, rows-own}
use Rattle.html_render_parts.proofs.table.cells.TableCells.new.Goals as goal

pub rows_on_columns-requires-clause-rising : goal.rows_on_columns-requires-clause-rising
rows_on_columns-requires-clause-rising c =
    rw (c.deref.ensures.value, c.in_ok-placed.ensures.edges)
    (IsStrictlyIncreasing-rising (0 ∷ ends (placed_rows (lists c.args.rows.now))))

pub rows_on_columns-requires-clause-fits : goal.rows_on_columns-requires-clause-fits
rows_on_columns-requires-clause-fits c =
    let rows = lists c.args.rows.now in
    let own = c.in_ok-placed.placed.own in
    (all-stored_fit 0 rows own
    (subst (All (All (λ d. d.column + d.span.colspan < 2 ^ 128))) (sym c.in_ok-placed.ensures.own)
    (own-within rows c.in_ok-placed.ensures.fits)))

pub invariant_of-result : goal.invariant_of-result
invariant_of-result c =
    let rows = lists c.args.rows.now in
    let own = c.in_ok-placed.placed.own in
    let es = edges_of (placed_rows rows) in
    let cells : c.in_ok-rows.rows ≡ map (map (on_columns es)) (own_rows_from 0 [] rows) =
    (rw (c.deref.ensures.value, c.in_ok-placed.ensures.edges) at c.in_ok-rows.ensures)
    ∙ rows-own es 0 rows own ∙ ap (map (map (on_columns es))) c.in_ok-placed.ensures.own in
    rw (c.in_ok-shared.ensures.ok, c.in_ok-placed.ensures.edges, cells) (cells-valid rows c.requires c.in_ok-placed.ensures.fits)

pub returns : goal.returns
returns c =
    let rows = lists c.args.rows.now in
    let own = c.in_ok-placed.placed.own in
    let es = edges_of (placed_rows rows) in
    let cells : c.in_ok-rows.rows ≡ map (map (on_columns es)) (own_rows_from 0 [] rows) =
    (rw (c.deref.ensures.value, c.in_ok-placed.ensures.edges) at c.in_ok-rows.ensures)
    ∙ rows-own es 0 rows own ∙ ap (map (map (on_columns es))) c.in_ok-placed.ensures.own in
    record { ok = cells-own rows ∙ (rw (c.in_ok-shared.ensures.ok, c.in_ok-placed.ensures.edges, cells, c.in_ok-placed.ensures.fits) refl); err = tt }
