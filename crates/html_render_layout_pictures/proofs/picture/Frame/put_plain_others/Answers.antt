use Rattle.std.proofs.Common.{◌∙◌, ap, drop, arith}
use Rattle.std.proofs.lemmas.Result.{on_ok_weaker}
use Rattle.html_render_layout_lines.specs.TaggedText.{under}
use Rattle.html_render_layout_pictures.proofs.PlainLines.{next-plain, next-within, all-put}
use Rattle.html_render_layout_pictures.proofs.picture.Frame.put_plain_others.Goals as goal

pub loop-cell-preserved : goal.loop-cell-preserved
loop-cell-preserved g c =
    let i = c.loop-cell.cell-index in
    let others = c.args.others.now in
    let ls = c.args.line.now.lines.now.lines in
    record {
      line = next-plain c.args.self.now c.args.line.now.number c.loop-cell.text c.push_gap.new.self c.put_plain_cell.new.text c.loop-cell.missing
          c.in_ok-missing.missing c.loop-cell.start i c.cell-item.result others ls (omega arith) c.cell-item.is c.in_ok-push_gap.ensures c.in_ok-missing.ensures
          ∙ c.loop-cell.invariant.line;
      within = next-within c.loop-cell.start i _ c.cell-item.result others (omega arith) c.cell-item.is c.loop-cell.invariant.within;
    }

pub returns : goal.returns
returns g c =
    on_ok_weaker c.push_padding.result
    (λ e. ap (λ cs. under {M = g.row.M.Denot} c.args.self.now.tag cs) e
    ∙ all-put c.args.self.now c.args.line.now.number c.loop-cell.text c.loop-cell.missing c.loop-cell.cell-index c.args.others.now
    (drop c.loop-cell.start c.args.line.now.lines.now.lines) _ (omega arith) c.loop-cell.invariant.line)
    c.push_padding.ensures
