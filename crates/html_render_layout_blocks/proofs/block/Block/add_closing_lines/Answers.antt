use Rattle.std.proofs.Common.{map, ap, ◌∙◌, sym, Some}
use Rattle.std.specs.Str.{chars}
use Rattle.std.specs.String.{string_bytes}
use Rattle.html_render_layout_blocks.specs.Closing.{closing_lines}
use Rattle.html_render_layout_blocks.specs.Machine.{MachineBlock, operations, ending}
use Rattle.html_render_layout_blocks.proofs.Closing.{closing_added}
use Rattle.html_render_layout_blocks.proofs.block.Block.add_closing_lines.Goals as goal

pub returns : goal.returns
unfolding operations ending
returns g c = record {
  ok = closing_added (λ t. chars (string_bytes t)) c.args.texts.now c.args.self.now c.start_block.new.self c.args.cut c.args.tag c.in_ok-lines.lines
      (sym c.is_empty.ensures ∙ c.if-is_empty.false) c.in_ok-start_block.ensures.ok
      (ap (λ (x : MachineBlock g.row.T.Denot g.row.M.Denot). closing_lines x.setting c.args.cut c.args.tag (map (λ t. chars (string_bytes t)) c.args.texts.now)) (sym c.self.view_is) ∙ c.in_ok-lines.ensures.ok)
      ∙ ap Some (sym c.in_ok-add_lines.ensures);
  err = tt;
}
