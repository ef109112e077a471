use Rattle.html_render_layout_blocks.proofs.block.opening.rows_of.Goals as goal

pub returns-clause-ok : goal.returns-clause-ok
returns-clause-ok c = rw c.in_ok-cells.ensures at c.into_rows.ensures.ok
