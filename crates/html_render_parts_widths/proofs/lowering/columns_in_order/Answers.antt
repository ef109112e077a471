use Rattle.html_render_parts_widths.proofs.CutColumns.{sorted-in-order}
use Rattle.html_render_parts_widths.proofs.lowering.columns_in_order.Goals as goal

pub returns-clause-places : goal.returns-clause-places
returns-clause-places c = sorted-in-order c.args.minimums.now c.args.shares.now c.args.level c.in_ok-columns.columns.items
    c.sort_unstable.new.self.items c.in_ok-columns.ensures.places c.in_ok-columns.ensures.widths c.sort_unstable.ensures.permutation
    c.sort_unstable.ensures.sorted
