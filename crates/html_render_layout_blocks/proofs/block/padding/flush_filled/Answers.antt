use Rattle.std.proofs.Common.{◌≡◌, ◌+◌, ◌==◌, not, List, length, sym, ap, ◌∙◌, arith, length-append}
use Rattle.std.proofs.lemmas.List.{length-map}
use Rattle.html_render_layout_lines.specs.Line.{Line}
use Rattle.html_render_layout_buffer.specs.Padding.{filled_line}
use Rattle.html_render_layout_blocks.proofs.Behind.{same_plus}
use Rattle.html_render_layout_blocks.proofs.block.padding.flush_filled.Goals as goal

pub returns-clause-some : goal.returns-clause-some
returns-clause-some g c =
    let old = c.args.to.now in
    let lines = c.flush.new.lines in
    let count : List (Line g.row.T.Denot g.row.M.Denot) → _ = λ ls. length ls in
    let all : length c.append.new.self ≡ length old + length lines =
    omega (
      arith,
      ap count c.in_ok-append.ensures,
      length-append old c.fill.new.self,
      ap count c.in_ok-fill.ensures,
      length-map lines (filled_line c.args.tag c.args.width),
    ) in
    c.in_ok-some.ensures.some ∙ ap (λ (ls : List (Line g.row.T.Denot g.row.M.Denot)). not (length lines == length ls)) c.new-lines.ensures
    ∙ ap not (sym (same_plus (length c.append.new.self) (length old) (length lines) all))
