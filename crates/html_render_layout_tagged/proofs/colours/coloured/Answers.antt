use Rattle.std.proofs.Common.{[], ◌++◌, sym, ap, ◌∙◌, subst, append_assoc, append-nil, string_bytes}
use Rattle.html_render_layout_tagged.specs.Grouping.{lines_of}
use Rattle.html_render_layout_tagged.specs.Colouring.{IsColoured}
use Rattle.html_render_layout_tagged.proofs.Writing.{IsColoured-line, IsColoured-end}
use Rattle.html_render_layout_tagged.proofs.colours.coloured.Goals as goal

pub loop-line-preserved : goal.loop-line-preserved
loop-line-preserved g c = (
  c.in_ok-push_line.ensures.callable,
  λ rest last h.
      let line = c.in_ok-push_line.ensures.ok in
      let all = c.loop-line.invariant.1 (line.0 ++ rest) last
      (IsColoured-line (goal.F-step g) c.loop-line.map c.push_line.new.colour_map last c.loop-line.left.now c.in-Some.others.now c.in-Some.line.now line.0 rest
      c.in-Some.ensures.cases.0 line.1 h) in
      let written = ap (λ bs. bs ++ rest) line.2 ∙ append_assoc (string_bytes c.loop-line.text) line.0 rest in
      subst (λ bs. IsColoured (goal.F-step g) c.args.colour_map (lines_of c.args.lines.now) bs last) (sym written) all,
)

pub returns-clause-ok : goal.returns-clause-ok
returns-clause-ok g c =
    let all = c.loop-line.invariant.1 [] c.loop-line.map
    (IsColoured-end (goal.F-step g) c.loop-line.map c.loop-line.left.now c.in_default.ensures.cases) in (
      c.loop-line.map,
      subst (λ bs. IsColoured (goal.F-step g) c.args.colour_map (lines_of c.args.lines.now) bs c.loop-line.map)
          (append-nil (string_bytes c.loop-line.text)) all,
    )
