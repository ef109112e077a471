use Rattle.std.proofs.Common.{◌≤◌, ◌++◌, length, drop, ap, ◌∙◌, arith}
use Rattle.std.proofs.lemmas.List.{length-drop}
use Rattle.html_render_layout_lines.specs.TaggedText.{under}
use Rattle.html_render_layout_buffer.specs.Lines.{BufferedLines}
use Rattle.html_render_layout_pictures.specs.Blank.{BlankText}
use Rattle.html_render_layout_pictures.proofs.Blanks.{spaces_due}
use Rattle.html_render_layout_pictures.proofs.CellLines.{none-here}
use Rattle.html_render_layout_pictures.proofs.picture.Frame.put_over.Goals as goal

pub returns-clause-line : goal.returns-clause-line
returns-clause-line g c =
    let tag = c.args.self.now.tag in
    let to = c.args.to.now in
    let cell = c.args.cell.now in
    let ls = c.args.line.now.lines.now.lines in
    let before : BufferedLines g.row.T.Denot g.row.M.Denot = record { lines = to.lines; line = to.line ++ under tag c.args.blank.now.due } in
    let within : cell.count ≤ length (drop c.args.start ls) = omega (arith, c.requires.within, length-drop c.args.start ls) in
    ap (λ (b : BlankText). record { lines = to.lines; line = to.line ++ under tag b.due }) c.pass_spaces.ensures
    ∙ ap (λ l. record { lines = to.lines; line = l }) (spaces_due tag to.line c.args.blank.now.due cell.width)
    ∙ none-here tag before cell (drop c.args.start ls) c.args.line.now.number within c.if-line-cell.false
