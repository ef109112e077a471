use Rattle.std.proofs.Common.{[], None}
use Rattle.html_render_layout_blocks.proofs.Behind.{padded_flush}
use Rattle.html_render_layout_blocks.proofs.block.Block.flush_paragraph.Goals as goal

pub returns-clause-ok : goal.returns-clause-ok
returns-clause-ok g c =
    let inside = c.self.inside in
    padded_flush c.args.self.now
    (record {
      setting = inside.setting;
      padding = inside.padding;
      lines = [];
      paragraph = None;
      at_block_end = inside.at_block_end;
      table = inside.table;
    })
    inside.paragraph c.in-Some.paragraph c.flush_padded.new.paragraph [] inside.lines c.flush_padded.new.to c.self.view_is c.in-Some.is
    c.in_ok-some.ensures.ok
