use Rattle.std.proofs.Common.{◌<◌, length, arith}
use Rattle.std.proofs.lemmas.List.Sums.{sum_by_more_le}
use Rattle.html_render_parts_widths.proofs.fit.cut_fits.Goals as goal
use Rattle.html_render_parts_widths.proofs.fit.cut_fits.Goals.{then-least-shares-via-then-least-shares}
use Rattle.html_render_parts_widths.proofs.fit.cut_fits.Goals.{then-least-shares-via-else-least-shares+then-least-room}
use Rattle.html_render_parts_widths.proofs.fit.cut_fits.Goals.{then-least-shares-via-else-least-shares+else-least-room+then-separator-room}

pub returns-then-least-shares : goal.returns-then-least-shares
returns-then-least-shares c =
    let inside : c.loop-i.i < length c.args.minimums.now = omega arith in
    let more = sum_by_more_le (λ x. x) c.args.minimums.now c.loop-i.i 0 inside in (
      λ e. cc,
      λ h. absurd (let each = h.each c.loop-i.i inside in let room = h.room in elim c.then-least-shares.branch [
        | then-least-shares-via-then-least-shares w ↦ omega arith
        | then-least-shares-via-else-least-shares+then-least-room w ↦ omega arith
        | then-least-shares-via-else-least-shares+else-least-room+then-separator-room w ↦ omega (arith, c.min-separator.ensures)
      ]),
    )
