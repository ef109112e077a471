-- The result of the call has the outcome of the rendering.
use Rattle.html_render_tree_records.specs.Pages.{IsPlainLines, IsRichLines}
use Rattle.html_render_tree_records.proofs.Outcomes.{returned}
use Rattle.html_render_c.proofs.html_render_lines.Goals as goal

pub returns-clause-plain : goal.returns-clause-plain
returns-clause-plain c = λ is.
    returned (IsPlainLines c.args.text.now c.args.steps.now c.args.settings.now c.args.width) c.give-status.result.0 c.give-status.result.1 c.give-status.new.size c.args.out.now c.give-status.new.out
    c.lines.result (c.lines.ensures.plain is) c.give-status.ensures.ok c.give-status.ensures.err

pub returns-clause-rich : goal.returns-clause-rich
returns-clause-rich c = λ is.
    returned (IsRichLines _ c.args.text.now c.args.steps.now c.args.settings.now c.args.width) c.give-status.result.0 c.give-status.result.1 c.give-status.new.size c.args.out.now c.give-status.new.out
    c.lines.result (c.lines.ensures.rich is) c.give-status.ensures.ok c.give-status.ensures.err
