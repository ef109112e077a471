use Rattle.std.proofs.Common.{◌≡◌, ℕ, ◌+◌, ◌-◌, ◌≤◌, ◌<◌, ◌++◌, map, get_or, false}
use Rattle.std.specs.List.{range_with_len}
use Rattle.html_render_layout_pictures.specs.Separators.{separators_from, joint_at}
use Rattle.html_render_layout_pictures.proofs.picture.Frame.draw_border.Given as goal

-- the line has what stands before a column, and the columns that are left are those from there on
abbrev pub invariant-loop-drawn : goal.invariant-loop-drawn
invariant-loop-drawn g l =
    let above = separators_from l.initial.above.blank l.initial.above.others.now in
    let below = separators_from l.initial.below.blank l.initial.below.others.now in
    record {
      lines : l.to.lines ≡ l.initial.to.lines;
      line : l.to.line ≡ l.initial.to.line ++ map (joint_at g.row.M.Denot l.self above below) (range_with_len 0 l.drawn);
      within : l.drawn ≤ l.width;
      above : l.drawn < l.width → (j : ℕ) → get_or (separators_from l.above.blank l.above.others.now) j false ≡ get_or above (l.drawn + j) false;
      below : l.drawn < l.width → (j : ℕ) → get_or (separators_from l.below.blank l.below.others.now) j false ≡ get_or below (l.drawn + j) false;
    }

abbrev pub decreases-loop-drawn : goal.decreases-loop-drawn
decreases-loop-drawn g l = l.width - l.drawn
