use Rattle.std.proofs.Common.{◌+◌, ◌≤◌, ◌++◌, [], ◌∙◌, sym, ap, length, drop, arith}
use Rattle.std.proofs.lemmas.List.{length-drop}
use Rattle.std.specs.Str.{chars}
use Rattle.html_render_layout_pictures.proofs.PlainLines.{none-put, line-put}
use Rattle.html_render_layout_pictures.proofs.picture.Frame.put_plain_cell.Goals as goal

pub returns-then-line-cell : goal.returns-then-line-cell
returns-then-line-cell g c =
    let ls = c.args.line.now.lines.now.lines in
    let within : c.args.cell.now.count ≤ length (drop c.args.start ls) = omega (arith, c.requires.within, length-drop c.args.start ls) in
    none-put c.args.self.now.tag c.args.text.now c.args.cell.now (drop c.args.start ls) c.args.line.now.number within c.if-line-cell.true

pub returns : goal.returns
returns g c =
    let ls = c.args.line.now.lines.now.lines in
    let k = c.args.line.now.number in
    line-put c.args.self.now.tag c.args.text.now c.push_str.new.self c.args.cell.now ls c.args.start k c.columns_missing.result c.if-line-cell.false
    c.requires.within c.requires.marks (c.requires.plain (c.args.start + k) [] (omega (arith, c.requires.within)))
    (c.in_ok-push_str.ensures ∙ ap (λ bs. c.args.text.now ++ chars bs) c.line_text.ensures) (c.columns_missing.ensures _ (sym c.in-Some.is ∙ c.line_columns-columns.ensures))
