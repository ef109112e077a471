-- Row by row the picture is drawn.
use Rattle.std.proofs.Common.{◌≡◌, ◌++◌, Bool, true, false, cond, Some, None, List, [], ◌∷◌, replicate, refl, sym, ap, ◌∙◌}
use Rattle.std.proofs.lemmas.List.{append-nil, append_assoc}
use Rattle.html_render_layout_lines.specs.Line.{Line}
use Rattle.html_render_layout_buffer.specs.Marked.{marked_before}
use Rattle.html_render_layout_pictures.specs.declared.picture.Frame.{Frame}
use Rattle.html_render_layout_pictures.specs.Picture.{TableRow, is_drawn, waiting_in, separators_of, next_separators, left_waiting, border, row_lines}
use Rattle.html_render_layout_pictures.specs.Picture.{rows_lines, has_top, picture}
use Rattle.html_render_layout_pictures.specs.Drawing.{Drawing, due_lines, due_below, with_cells, with_rows, begun, finished}

module _ {T M : Type 0} where
  due_is : (frame : Frame T) (above below : List Bool) →
      due_lines {M = M} frame (due_below frame above) below ≡ cond frame.borders (border frame above below ∷ []) []
  due_is frame above below = by frame.borders
    where
      by : (b : Bool) → due_lines {M = M} frame (cond b (Some (record { marks = []; above = above })) None) below
          ≡ cond b (border frame above below ∷ []) []
      by true = refl
      by false = refl

  -- the rows that are left lead to the lines so far, the border that is due, and their own lines
  leads : (d : Drawing T M) (rows : List (TableRow T M)) → finished (with_rows d rows)
      ≡ ((d.lines ++ due_lines d.frame d.due (next_separators rows)) ++ rows_lines d.frame d.waiting rows, left_waiting d.waiting rows)
  leads d [] = ap (λ ls. (ls, d.waiting)) (sym (append-nil (d.lines ++ due_lines d.frame d.due [])))
  leads d (r ∷ rs) =
      let waiting = d.waiting ++ waiting_in r.cells in
      let undrawn : Drawing T M = record d { waiting = waiting } in
      let done = d.lines ++ due_lines d.frame d.due (separators_of r.cells) in
      let row = marked_before waiting (row_lines d.frame r.cells) in
      let below : List (Line T M) = cond d.frame.borders (border d.frame (separators_of r.cells) (next_separators rs) ∷ []) [] in
      elim (is_drawn r) as (λ b. finished (with_rows (cond b (with_cells d r.cells) undrawn) rs)
      ≡ (
        (d.lines ++ due_lines d.frame d.due (cond b (separators_of r.cells) (next_separators rs)))
            ++ cond b (row ++ below ++ rows_lines d.frame [] rs) (rows_lines d.frame waiting rs),
        left_waiting (cond b [] waiting) rs,
      )) [
        | true ↦
            leads (with_cells d r.cells) rs
            ∙ ap (λ ls. (ls, left_waiting [] rs))
            (ap (λ b. ((done ++ row) ++ b) ++ rows_lines d.frame [] rs) (due_is d.frame (separators_of r.cells) (next_separators rs))
            ∙ ap (λ ls. ls ++ rows_lines d.frame [] rs) (append_assoc done row below)
            ∙ append_assoc done (row ++ below) (rows_lines d.frame [] rs))
        | false ↦ leads undrawn rs
      ]

-- THE THEOREM: what is drawn row by row is the picture of all rows
pub drawn_is : {T M : Type 0} (frame : Frame T) (waiting : List M) (rows : List (TableRow T M)) →
    finished (with_rows (begun frame waiting) rows) ≡ picture frame waiting rows
drawn_is {T} {M} frame waiting rows = by (has_top frame)
  where
    top : Drawing T M
    top = record { frame = frame; lines = []; waiting = []; due = Some (record { marks = waiting; above = replicate frame.width false }) }

    bare : Drawing T M
    bare = record { frame = frame; lines = []; waiting = waiting; due = None }

    by : (b : Bool) → finished (with_rows (cond b top bare) rows)
        ≡ (
          cond b (marked_before waiting (border frame (replicate frame.width false) (next_separators rows) ∷ rows_lines frame [] rows))
              (rows_lines frame waiting rows),
          left_waiting (cond b [] waiting) rows,
        )
    by true = leads top rows
    by false = leads bare rows
