use Rattle.std.proofs.Common.{◌≡◌, ℕ, ◌-◌, List, ◌∷◌, length, take, drop, map, ap, ◌∙◌}
use Rattle.std.specs.List.{range_with_len}
use Rattle.std.proofs.lemmas.Result.{on_ok_weaker}
use Rattle.html_render_layout_lines.specs.Line.{Line}
use Rattle.html_render_layout_pictures.specs.declared.cells.RowCell.{RowCell}
use Rattle.html_render_layout_pictures.specs.Picture as definition
use Rattle.html_render_layout_pictures.specs.RowCells.{cells_of}
use Rattle.html_render_layout_pictures.specs.Rows.{marked_cell, row_line, rows_put}
use Rattle.html_render_layout_pictures.proofs.CellLines.{highest, first-rest}
use Rattle.html_render_layout_pictures.proofs.picture.Frame.put_lines.Goals as goal

pub returns-in_ok-blank-in-len1-up : goal.returns-in_ok-blank-in-len1-up
returns-in_ok-blank-in-len1-up g c =
    let cells = c.args.cells.now in
    let first = c.first-item.result in
    let ls = c.args.lines.now.lines in
    let line : List (RowCell g.row.M.Denot) → ℕ → Line g.row.T.Denot g.row.M.Denot =
    λ ds n. row_line c.args.self.now n (map marked_cell (cells_of ds ls)) in
    let height : c.height-height.result ≡ definition.height (cells_of cells ls) = c.height-height.ensures ∙ highest 1 cells ls c.requires in
    let whole : first ∷ take (length cells - 1) (drop 1 cells) ≡ cells = first-rest cells first c.in-len1-up.len_at_least c.first-item.is in
    on_ok_weaker c.put_high_lines.result
    (λ e. e ∙ ap (λ ds. rows_put c.args.to.now (map (line ds) (range_with_len 0 c.height-height.result))) whole
    ∙ ap (λ n. rows_put c.args.to.now (map (line cells) (range_with_len 0 n))) height)
    c.put_high_lines.ensures

pub returns-in_default : goal.returns-in_default
returns-in_default g c =
    let cells = c.args.cells.now in
    let ls = c.args.lines.now.lines in
    let line : ℕ → Line g.row.T.Denot g.row.M.Denot = λ n. row_line c.args.self.now n (map marked_cell (cells_of cells ls)) in
    let height : c.height-height.result ≡ definition.height (cells_of cells ls) = c.height-height.ensures ∙ highest 1 cells ls c.requires in
    on_ok_weaker c.put_plain_lines.result (λ e. e ∙ ap (λ n. rows_put c.args.to.now (map line (range_with_len 0 n))) height) c.put_plain_lines.ensures

pub returns-in_default-2 : goal.returns-in_default-2
returns-in_default-2 g c =
    let cells = c.args.cells.now in
    let ls = c.args.lines.now.lines in
    let line : ℕ → Line g.row.T.Denot g.row.M.Denot = λ n. row_line c.args.self.now n (map marked_cell (cells_of cells ls)) in
    let height : c.height-height.result ≡ definition.height (cells_of cells ls) = c.height-height.ensures ∙ highest 1 cells ls c.requires in
    on_ok_weaker c.put_low_lines.result (λ e. e ∙ ap (λ n. rows_put c.args.to.now (map line (range_with_len 0 n))) height) c.put_low_lines.ensures
