use Rattle.html_render_parts_widths.proofs.FairestCut.{column-cut, cut-form}
use Rattle.html_render_parts_widths.proofs.check.check_cut.Goals as goal

pub returns-then-cut_fits : goal.returns-then-cut_fits
returns-then-cut_fits c =
    let fits = c.cut_fits.ensures.0 c.if-cut_fits.true in (
      λ yes. (fits, column-cut _ _ _ _ _ _ fits (c.is_level_form.ensures.0 yes)),
      λ h. c.is_level_form.ensures.1 (cut-form _ _ _ _ _ _ fits h.1),
    )
