use Rattle.html_render_layout_buffer.specs.Parts.{part_elements}
use Rattle.html_render_layout_tagged.proofs.Taking.{whole-line, Takes-part}
use Rattle.html_render_layout_tagged.proofs.grouping.tagged_line.Goals as goal

pub loop-part-init : goal.loop-part-init
loop-part-init g c = λ now.
    whole-line g.A.PartialEq.eq c.args.stacks.now c.args.names.now c.new-progress.result now c.args.line
    c.new-progress.ensures.done c.new-progress.ensures.last

pub loop-part-preserved : goal.loop-part-preserved
loop-part-preserved g c = λ now rest.
    c.loop-part.invariant now (Takes-part g.A.PartialEq.eq c.args.stacks.now c.args.names.now c.loop-part.progress c.push_part.new.self now
    (part_elements c.in-Some.part) c.next.new.self c.loop-part.left c.in-Some.ensures.some c.in_ok-push_part.ensures rest)
