use Rattle.std.proofs.Common.{List, ◌++◌, sym, ap, ◌∙◌, arith}
use Rattle.std.proofs.lemmas.Result.{on_ok_weaker}
use Rattle.html_render_layout_lines.specs.Line.{Line}
use Rattle.html_render_layout_buffer.specs.Lines.{BufferedLines}
use Rattle.html_render_layout_buffer.specs.Padding.{repeated}
use Rattle.html_render_layout_pictures.specs.declared.borders.TheConstants.{BORDERS}
use Rattle.html_render_layout_pictures.proofs.Crosses.{next-crossed, all-crossed, border-crossed}
use Rattle.html_render_layout_pictures.proofs.picture.Frame.put_crosses.Goals as goal

pub loop-width-preserved : goal.loop-width-preserved
loop-width-preserved g c =
    let line : BufferedLines g.row.T.Denot g.row.M.Denot → Line g.row.T.Denot g.row.M.Denot = λ b. b.line in
    record {
      lines = ap (λ (b : BufferedLines g.row.T.Denot g.row.M.Denot). b.lines) c.in_ok-draw_joint.ensures ∙ c.loop-width.invariant.lines;
      line = next-crossed c.args.self.now c.loop-width.to.line c.draw_joint.new.to.line c.loop-width.dashes c.loop-width.width-index
          c.args.others.now (omega arith) (ap line c.in_ok-draw_joint.ensures) ∙ c.loop-width.invariant.line;
    }

pub returns : goal.returns
returns g c =
    let frame = c.args.self.now in
    let others = c.args.others.now in
    let old = c.args.to.now in
    let put : List (Line g.row.T.Denot g.row.M.Denot) → Line g.row.T.Denot g.row.M.Denot → BufferedLines g.row.T.Denot g.row.M.Denot =
    λ ls l. record { lines = ls; line = l } in
    on_ok_weaker c.push_fillers.result
    (λ e. e ∙ ap (λ ls. put ls (c.loop-width.to.line ++ repeated frame.tag BORDERS.line c.loop-width.dashes)) c.loop-width.invariant.lines
    ∙ ap (put old.lines)
    (all-crossed frame c.loop-width.to.line c.loop-width.dashes c.loop-width.width-index others (omega arith) ∙ c.loop-width.invariant.line
    ∙ ap (λ l. old.line ++ l) (sym (border-crossed frame c.args.first others))))
    c.push_fillers.ensures
