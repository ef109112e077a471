use Rattle.std.proofs.Common.{ap, ◌∙◌}
use Rattle.std.specs.Str.{chars}
use Rattle.html_render_dom_values.specs.laws.Outcome.{Gives-same}
use Rattle.html_render_layout_blocks.specs.Machine.{MachineBlock, operations}
use Rattle.html_render_layout_blocks.proofs.Appending.{append-is}
use Rattle.html_render_layout_blocks.proofs.block.Block.append.Goals as goal

pub returns : goal.returns
unfolding operations
returns g c =
    Gives-same c.append_lines.result _ _ c.append_lines.new.self
    (append-is c.args.self.now c.flush.new.self c.args.sub.now c.flush_whole.new.self c.args.later.now.tag (chars c.args.first.now) (chars c.args.later.now.text.now)
    c.sub.inside.lines c.as_slice.result.now c.in_ok-flush.ensures.ok c.in_ok-flush_whole.ensures.ok
    (ap (λ (x : MachineBlock g.row.T.Denot g.row.M.Denot). x.lines) (c.sub.view_is ∙ c.take_waiting-end.ensures.after))
    (c.as_slice.ensures.value ∙ c.take_waiting-end.ensures.marks))
    c.append_lines.ensures
