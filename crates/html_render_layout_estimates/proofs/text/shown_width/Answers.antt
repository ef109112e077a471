use Rattle.std.proofs.Common.{sym, arith}
use Rattle.html_render_layout_lines.specs.laws.Characters.{plain_width}
use Rattle.html_render_layout_estimates.proofs.Sizes.{letter-collapsible}
use Rattle.html_render_layout_estimates.proofs.text.shown_width.Goals as goal

pub returns-in-33-to-126-clause-shown : goal.returns-in-33-to-126-clause-shown
returns-in-33-to-126-clause-shown c =
    (letter-collapsible c.args.c (omega arith) (omega arith), sym (plain_width c.args.c (omega arith) (omega arith)))
