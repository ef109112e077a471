use Rattle.std.proofs.Common.{◌≡◌, ◌==◌, ◌+◌, ◌≤◌, [], ◌++◌, cond, get_or, length, drop, sym, ap, ◌∙◌, arith, append-nil}
use Rattle.std.proofs.lemmas.Bool.{eq-eqb, ne_eqb}
use Rattle.std.proofs.lemmas.List.{length-drop}
use Rattle.html_render_layout_lines.specs.Line.{Line, marks_line}
use Rattle.html_render_layout_buffer.specs.Lines.{BufferedLines}
use Rattle.html_render_layout_pictures.proofs.CellLines.{none-here, line-here}
use Rattle.html_render_layout_pictures.proofs.picture.Frame.put_cell.Goals.{then-line-cell-2+in_ok-push_marks, else-line-cell-2}
use Rattle.html_render_layout_pictures.proofs.picture.Frame.put_cell.Goals as goal

pub returns-then-line-cell-clause-put : goal.returns-then-line-cell-clause-put
returns-then-line-cell-clause-put g c =
    let ls = c.args.line.now.lines.now.lines in
    let within : c.args.cell.now.count ≤ length (drop c.args.start ls) = omega (arith, c.requires, length-drop c.args.start ls) in
    none-here c.args.self.now.tag c.args.to.now c.args.cell.now (drop c.args.start ls) c.args.line.now.number within c.if-line-cell.true

pub returns-clause-put : goal.returns-clause-put
returns-clause-put g c =
    let ls = c.args.line.now.lines.now.lines in
    let old = c.args.to.now in
    let cell = c.args.cell.now in
    let start = c.args.start in
    let k = c.args.line.now.number in
    let own : Line g.row.T.Denot g.row.M.Denot = get_or ls (start + k) [] in
    let marks : Line g.row.T.Denot g.row.M.Denot = marks_line cell.marks.items in
    let whole : c.if-line-cell-2.to ≡ record { lines = old.lines; line = (old.line ++ own) ++ cond (k + 1 == cell.count) marks [] } =
    elim c.if-line-cell-2.branch [
      | then-line-cell-2+in_ok-push_marks w ↦ w.to-is ∙ w.in_ok-push_marks.ensures.ok
          ∙ ap (λ ms. record { lines = c.append_line.new.self.lines; line = c.append_line.new.self.line ++ marks_line {T = g.row.T.Denot} ms }) w.as_slice.ensures.value
          ∙ ap (λ (b : BufferedLines g.row.T.Denot g.row.M.Denot). record { lines = b.lines; line = b.line ++ marks }) c.in_ok-append_line.ensures.ok
          ∙ ap (λ b. record { lines = old.lines; line = (old.line ++ own) ++ cond b marks [] }) (sym (eq-eqb (k + 1) cell.count w.if-line-cell-2.true))
      | else-line-cell-2 w ↦ w.to-is ∙ c.in_ok-append_line.ensures.ok
          ∙ ap (λ l. record { lines = old.lines; line = l }) (sym (append-nil (old.line ++ own)))
          ∙ ap (λ b. record { lines = old.lines; line = (old.line ++ own) ++ cond b marks [] }) (sym (ne_eqb (k + 1) cell.count w.if-line-cell-2.false))
    ] in
    line-here c.args.self.now.tag old c.if-line-cell-2.to cell ls start k c.columns_missing.result c.if-line-cell.false c.requires whole
    (c.columns_missing.ensures _ c.line_columns.ensures)
