use Rattle.std.proofs.Common.{◌≡◌, length, arith, ◌∙◌}
use Rattle.std.proofs.lemmas.Grind.{common_steps}
use Rattle.html_render_layout_buffer.proofs.OpenBlocks.{plain-added}
use Rattle.html_render_layout_buffer.proofs.nested.stored.StoredBlocks.append_buffer.Goals as goal

pub returns-then-is_empty-clause-ok : goal.returns-then-is_empty-clause-ok
returns-then-is_empty-clause-ok g c =
    let none : length c.args.self.now.prefixes ≡ 0 = grind (arith, common_steps) in
    plain-added c.args.self.now _ c.args.lines.now.lines _ none (c.self.view_is ∙ c.note_each.ensures) c.in_ok-append_buffer.ensures.ok
