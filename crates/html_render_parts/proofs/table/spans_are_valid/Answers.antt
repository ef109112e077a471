use Rattle.html_render_parts.proofs.GridMade.{AreValid-lists, AreValid-vectors}
use Rattle.html_render_parts.proofs.table.spans_are_valid.Goals as goal

pub returns : goal.returns
returns c = (
  λ yes. AreValid-lists c.args.rows.now (c.rows_are_valid.ensures.0 yes),
  λ h. c.rows_are_valid.ensures.1 (AreValid-vectors c.args.rows.now h),
)
