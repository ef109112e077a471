use Rattle.std.proofs.Common.{◌≡◌, map, ap, ◌∙◌}
use Rattle.std.proofs.lemmas.Result.{err_from_is_err_and}
use Rattle.html_render_parts.specs.Placement.{lists, placed_rows}
use Rattle.html_render_parts.specs.Grid.{edges_of, numbered}
use Rattle.html_render_parts.proofs.EdgeRanks.{rank-least, rank-less}
use Rattle.html_render_parts.proofs.EdgesOfCells.{edge-is, is-edge}
use Rattle.html_render_parts.proofs.GridMade.{made, refused}
use Rattle.html_render_parts.proofs.SideBySide.{are-ordered, fit-columns, have-columns, stand-side_by_side}
use Rattle.html_render_parts.proofs.table.table_grid.Goals as goal

pub returns-in_err-placed-clause-grid : goal.returns-in_err-placed-clause-grid
returns-in_err-placed-clause-grid c =
    let p = err_from_is_err_and c.from_residual.result c.from_residual.ensures.1 in
    rw (p.1, p.2) (record { ok = tt; err = refused _ (lists c.args.rows.now) c.in_err-placed.ensures.err })

pub numbered_rows-requires-clause-ordered : goal.numbered_rows-requires-clause-ordered
numbered_rows-requires-clause-ordered c =
    let rows = lists c.args.rows.now in
    let done = made rows _ c.in_ok-placed.ensures.ok in
    rw (c.deref-3.ensures.value, done.0) (are-ordered rows c.requires)

pub returns : goal.returns
returns c =
    let rows = lists c.args.rows.now in
    let placed = placed_rows rows in
    let done = made rows _ c.in_ok-placed.ensures.ok in
    let edges : c.in_ok-edges.edges.items ≡ edges_of placed =
    c.in_ok-edges.ensures.edges ∙ ap (λ x. edges_of (lists x)) c.deref.ensures.value ∙ ap edges_of done.0 in
    let cells : lists c.in_ok-rows.rows.items ≡ map (map (numbered (edges_of placed))) placed =
    rw (c.deref-2.ensures.value, edges, c.deref-3.ensures.value, done.0) at c.in_ok-rows.ensures in
    record {
      grid = record { ok = rw (edges, cells) done.1; err = tt };
      side_by_side = rw cells (stand-side_by_side rows c.requires);
      columns = rw cells (have-columns rows c.requires);
      in_table = rw (edges, cells) (fit-columns rows c.requires);
      edges = rw (edges, cells) (λ e. (edge-is (edges_of placed) placed e, is-edge (edges_of placed) placed e));
      rising = c.in_ok-edges.ensures.rising;
      numbering = λ a b in_a in_b less. rank-less c.in_ok-edges.edges.items a b in_a less;
      least = rank-least c.in_ok-edges.edges.items c.in_ok-edges.ensures.rising;
    }
