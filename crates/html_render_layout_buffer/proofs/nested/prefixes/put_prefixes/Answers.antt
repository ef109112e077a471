use Rattle.std.proofs.Common.{ap, ◌∙◌, arith}
use Rattle.html_render_layout_buffer.specs.Lines.{BufferedLines}
use Rattle.html_render_layout_buffer.proofs.OpenBlocks.{next-put}
use Rattle.html_render_layout_buffer.proofs.nested.prefixes.put_prefixes.Goals as goal

pub loop-prefix-preserved : goal.loop-prefix-preserved
loop-prefix-preserved g c =
    let put = c.in_ok-write.ensures.ok in
    record {
      lines = ap (λ (b : BufferedLines _ _). b.lines) put ∙ c.loop-prefix.invariant.lines;
      line = next-put c.args.number c.args.prefixes.now c.loop-prefix.prefix-index c.prefix-item.result c.loop-prefix.lines.line c.write.new.lines.line _
          (omega arith) c.prefix-item.is (ap (λ (b : BufferedLines _ _). b.line) put) c.loop-prefix.invariant.line;
    }
