use Rattle.std.proofs.Common.{◌≡◌, length, arith}
use Rattle.std.proofs.lemmas.Grind.{common_steps}
use Rattle.html_render_layout_buffer.proofs.OpenBlocks.{outermost-added}
use Rattle.html_render_layout_buffer.proofs.nested.stored.StoredBlocks.append.Goals as goal

pub returns-then-is_empty : goal.returns-then-is_empty
returns-then-is_empty g c =
    let none : length c.args.self.now.levels ≡ 0 = grind (arith, common_steps) in
    outermost-added c.args.self.now _ c.args.other.now _ c.requires none c.self.view_is c.in_ok-append.ensures
