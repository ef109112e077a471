use Rattle.std.proofs.Common.{◌++◌, drop, ap, ◌∙◌}
use Rattle.html_render_layout_lines.specs.TaggedText.{under}
use Rattle.html_render_layout_pictures.specs.Blank.{BlankText}
use Rattle.html_render_layout_buffer.specs.Lines.{BufferedLines}
use Rattle.html_render_layout_pictures.specs.Rows.{marked_cell, filled_at}
use Rattle.html_render_layout_pictures.specs.RowCells.{cell_at}
use Rattle.html_render_layout_pictures.specs.laws.Fillers.{under-replicate}
use Rattle.html_render_layout_pictures.proofs.picture.Frame.put_own.Goals as goal

pub returns-clause-line : goal.returns-clause-line
returns-clause-line g c =
    let tag = c.args.self.now.tag in
    let to = c.put_cell.new.to in
    let n = c.in_ok-missing.missing in
    ap (λ (b : BlankText). record { lines = to.lines; line = to.line ++ under tag b.due }) c.pass_all_but.ensures
    ∙ ap (λ l. record { lines = to.lines; line = to.line ++ l }) (under-replicate g.row.M.Denot tag 0x20 n)
    ∙ c.in_ok-missing.ensures.put
    ∙ ap (λ (b : BufferedLines g.row.T.Denot g.row.M.Denot). record {
      lines = b.lines;
      line = b.line ++ filled_at tag c.args.line.now.number (marked_cell (cell_at c.args.cell.now (drop c.args.start c.args.line.now.lines.now.lines)));
    }) c.in_ok-put.ensures.line
