use Rattle.std.proofs.Common.{◌≡◌, List, [], ◌++◌, append-nil, ap, ◌∙◌}
use Rattle.std.proofs.lemmas.Result.{on_ok_weaker}
use Rattle.html_render_layout_lines.specs.Line.{Line}
use Rattle.html_render_layout_buffer.specs.Lines.{BufferedLines}
use Rattle.html_render_layout_buffer.specs.Marked.{marked_before}
use Rattle.html_render_layout_pictures.specs.Drawing.{Drawing}
use Rattle.html_render_layout_pictures.specs.Picture.{row_lines}
use Rattle.html_render_layout_pictures.proofs.picture.Picture.move_only_cell.Goals as goal

pub returns : goal.returns
returns g c =
    let first = c.self.inside.before in
    let last = c.self.inside.last.lines in
    let ms = c.self.inside.waiting.items in
    let frame = c.self.inside.frame in
    let row = c.args.row in
    let picture : List (Line g.row.T.Denot g.row.M.Denot) → List g.row.M.Denot → Drawing g.row.T.Denot g.row.M.Denot =
    λ ls waiting. record { frame = frame; lines = ls; waiting = waiting; due = c.self.inside.due } in
    let drawn : c.mark_first.new.self ≡ marked_before ms (row_lines frame row) =
    c.in_ok-mark_first.ensures ∙ ap (λ y. marked_before y c.in_ok-lines.lines) c.as_slice.ensures.value
    ∙ ap (λ (ls : List (Line g.row.T.Denot g.row.M.Denot)). marked_before ms ls) c.in_ok-lines.ensures in
    on_ok_weaker c.append.result
    (λ e. ap (λ (b : BufferedLines g.row.T.Denot g.row.M.Denot). picture (c.append.new.self ++ b.lines) c.clear.new.self.items)
    c.in_ok-append_buffer.ensures.moved
    ∙ ap (λ ls. picture ls c.clear.new.self.items)
    (append-nil c.append.new.self ∙ e ∙ ap (λ ls. c.append_buffer.new.self ++ ls) drawn
    ∙ ap (λ ls. ls ++ marked_before ms (row_lines frame row)) c.in_ok-append_buffer.ensures.ok)
    ∙ ap (picture ((first ++ last) ++ marked_before ms (row_lines frame row))) c.clear.ensures.items
    ∙ ap (λ (d : Drawing g.row.T.Denot g.row.M.Denot). record {
      frame = d.frame;
      lines = d.lines ++ marked_before d.waiting (row_lines d.frame row);
      waiting = [];
      due = d.due;
    }) c.self.view_is)
    c.append.ensures
