use Rattle.std.proofs.Common.{◌≡◌, IfOk, map}
use Rattle.std.specs.Cmp.Lexicographic.{pointwise}
use Rattle.html_render_layout_tagged.specs.LaidOut.{laid_out}
use Rattle.html_render_layout_tagged.specs.Grouping.{grouped, lines_of}
use Rattle.html_render_layout_tagged.specs.laws.Grouping.{columns-lines}
use Rattle.std.proofs.lemmas.Result.{IfOk-weaker}
use Rattle.html_render_layout_tagged.proofs.grouping.tagged_lines.Goals as goal
use Rattle.html_render_layout_tagged.proofs.grouping.tagged_lines.Given.{Over}

-- the tagged lines, by the layout's definition
answered : (g : Over) (c : goal.After-drop-layout-3 g) →
    IfOk c.all_tagged.result (λ made. lines_of made.items ≡ map (grouped (pointwise g.A.PartialEq.eq) c.args.layout.names) (laid_out c.args.layout))
answered g c = rw (c.in_ok-lines.ensures, c.as_slice.ensures) at c.all_tagged.ensures.ok

pub returns-clause-ok : goal.returns-clause-ok
returns-clause-ok g c = answered g c

pub returns-clause-columns : goal.returns-clause-columns
returns-clause-columns g c =
    IfOk-weaker c.all_tagged.result _ _
    (λ made. columns-lines (pointwise g.A.PartialEq.eq) c.args.layout.names made.items (laid_out c.args.layout))
    (answered g c)
