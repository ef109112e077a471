use Rattle.html_render_dom.specs.laws.script.Lines.{lines-first, lines-last}
use Rattle.html_render_dom.proofs.script.splits.split_line.Goals as goal

pub returns-in-Some-clause-lines : goal.returns-in-Some-clause-lines
returns-in-Some-clause-lines c =
    let cut = c.in-Some.ensures in
    rw (c.without_carriage_return.ensures, cut.1, cut.2) (lines-first c.args.script.now cut.0)

pub returns-in-None-clause-lines : goal.returns-in-None-clause-lines
returns-in-None-clause-lines c = lines-last c.args.script.now c.requires c.in-None.ensures
