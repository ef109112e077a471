use Rattle.std.proofs.Common.{◌++◌, true, false, reverse, sym, ap, ◌∙◌, append_assoc, append-nil}
use Rattle.html_render_layout_blocks.specs.OpenRows.{empty_cells}
use Rattle.html_render_layout_blocks.specs.RowSteps.{before_cell, empty_cell}
use Rattle.html_render_layout_blocks.proofs.Places.{behind-reversed, before-reversed}
use Rattle.html_render_layout_blocks.proofs.block.rows.pass_cell.Goals as goal

pub returns-then-place-clause-ahead : goal.returns-then-place-clause-ahead
returns-then-place-clause-ahead g c =
    sym (c.loop-place.invariant.ahead
    ∙ behind-reversed c.loop-place.ahead.items c.pop.new.self.items c.in-Some.place true c.in-Some.ensures.items c.if-place.true)

pub returns-then-place-clause-cells : goal.returns-then-place-clause-cells
returns-then-place-clause-cells g c =
    sym (c.loop-place.invariant.cells
    ∙ ap (λ cs. c.loop-place.cells ++ cs)
    (before-reversed {T = g.row.T.Denot} {M = g.row.M.Denot} c.loop-place.ahead.items c.pop.new.self.items c.in-Some.place true
    c.in-Some.ensures.items c.if-place.true)
    ∙ append-nil c.loop-place.cells)

pub loop-place-preserved : goal.loop-place-preserved
loop-place-preserved g c =
    let left = empty_cells {T = g.row.T.Denot} {M = g.row.M.Denot} (before_cell (reverse c.pop.new.self.items)) in
    record {
      ahead = c.loop-place.invariant.ahead
          ∙ behind-reversed c.loop-place.ahead.items c.pop.new.self.items c.in-Some.place false c.in-Some.ensures.items c.if-place.false;
      cells = c.loop-place.invariant.cells
          ∙ ap (λ cs. c.loop-place.cells ++ cs)
          (before-reversed {T = g.row.T.Denot} {M = g.row.M.Denot} c.loop-place.ahead.items c.pop.new.self.items c.in-Some.place false
          c.in-Some.ensures.items c.if-place.false)
          ∙ sym (append_assoc c.loop-place.cells (empty_cell c.in-Some.place.width) left)
          ∙ ap (λ cs. cs ++ left) (sym c.in_ok-push_empty.ensures);
    }
