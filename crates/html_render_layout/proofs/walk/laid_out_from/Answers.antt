use Rattle.std.proofs.Common.{rules}
use Rattle.html_render_layout_nodes.specs.laws.Counts.{failed-counted}
use Rattle.html_render_layout.specs.Layout.{layout_of}
use Rattle.html_render_layout.specs.Working.{by_tags}
use Rattle.html_render_layout.proofs.walk.laid_out_from.Goals as goal

pub returns-in_err-lay_out_into-clause-counts : goal.returns-in_err-lay_out_into-clause-counts
returns-in_err-lay_out_into-clause-counts g c =
    let k = c.lay_out_into.ensures.counts in
    failed-counted c.from_residual.result (λ e. Unit {0}) (search rules) (layout_of (by_tags g.D.TextDecorator.decoration g.G.Tagging.annotated))
    c.args.tree.now c.args.state c.args.meter.now c.lay_out_into.new.meter k.entered_at_most k.left_at_most k.frames_at_most k.probes
