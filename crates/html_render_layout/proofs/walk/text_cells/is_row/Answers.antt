use Rattle.std.proofs.Common.{ap, option_copied}
use Rattle.html_render_layout.proofs.walk.text_cells.is_row.Goals as goal

pub returns-in-EndRow : goal.returns-in-EndRow
returns-in-EndRow g c = record { kept = c.in-Some.parent.now; is = ap (λ o. option_copied o) c.in-Some.is; row = c.in-EndRow.is }
