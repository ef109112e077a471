use Rattle.std.specs.Str.{chars}
use Rattle.html_render_layout_buffer.specs.Levels.{later_characters}
use Rattle.html_render_layout_buffer.proofs.OpenBlocks.{made, is-nested, opened, begun}
use Rattle.html_render_layout_buffer.proofs.nested.NestedLines.begin_block.Goals as goal

pub invariant_of-self : goal.invariant_of-self
invariant_of-self g c =
    let first = chars c.args.prefix.now.text.now in
    is-nested _ _ (begun _ _ _ c.args.waiting.now c.args.prefix.now.tag first (later_characters c.args.later first) (opened _ _ c.self.invariant c.self.view_is) c.in-Ok.ensures)

pub returns-in-Ok : goal.returns-in-Ok
returns-in-Ok g c =
    let first = chars c.args.prefix.now.text.now in
    rw c.in-Ok.is
    (made _ _ (begun _ _ _ c.args.waiting.now c.args.prefix.now.tag first (later_characters c.args.later first) (opened _ _ c.self.invariant c.self.view_is) c.in-Ok.ensures))
