use Rattle.std.proofs.Common.{◌≡◌, [], arith}
use Rattle.html_render_parts_widths.proofs.FairestCut.{form-lowered}
use Rattle.html_render_parts_widths.proofs.CutLowering.{none-lowered}
use Rattle.html_render_parts_widths.proofs.cut.level_form.Goals as goal
use Rattle.html_render_parts_widths.proofs.cut.level_form.Goals.{then-count-eq0, else-count-eq0+in_ok-widths}

pub returns : goal.returns
returns c =
    let ms = c.args.minimums.now in
    let ss = c.args.shares.now in
    let is = rw c.requires.needed at c.requires.level in
    let rest = rw c.requires.needed at c.excess-count.ensures.value in
    elim c.if-count-eq0.branch [
      | then-count-eq0 w ↦
          let zero : c.excess-count.result ≡ 0 = omega arith in
          rw (w.widths-is, zero) (form-lowered ms ss c.args.width c.in_ok-full.full.items c.in_ok-full.full.items c.args.found.level 0
          c.requires.fits is (rw zero at rest) c.in_ok-full.ensures.len c.in_ok-full.ensures.each
          (none-lowered ms ss [] c.args.found.level c.in_ok-full.full.items).are_lowered)
      | else-count-eq0+in_ok-widths w ↦
          rw w.widths-is (form-lowered ms ss c.args.width c.in_ok-full.full.items w.in_ok-widths.widths.items c.args.found.level
          c.excess-count.result c.requires.fits is rest c.in_ok-full.ensures.len c.in_ok-full.ensures.each
          w.in_ok-widths.ensures)
    ]
