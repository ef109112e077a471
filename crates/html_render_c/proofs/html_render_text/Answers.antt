-- The result of the call has the outcome of the rendering.
use Rattle.html_render_tree_records.specs.Pages.{IsPlainText, IsRichText}
use Rattle.html_render_tree_records.proofs.Outcomes.{returned}
use Rattle.html_render_c.proofs.html_render_text.Goals as goal

pub returns-clause-plain : goal.returns-clause-plain
returns-clause-plain c = λ is.
    returned (IsPlainText c.args.text.now c.args.steps.now c.args.settings.now c.args.width) c.give-status.result.0 c.give-status.result.1 c.give-status.new.size c.args.out.now c.give-status.new.out
    c.text.result (c.text.ensures.plain is) c.give-status.ensures.ok c.give-status.ensures.err

pub returns-clause-rich : goal.returns-clause-rich
returns-clause-rich c = λ is.
    returned (IsRichText c.args.text.now c.args.steps.now c.args.settings.now c.args.width) c.give-status.result.0 c.give-status.result.1 c.give-status.new.size c.args.out.now c.give-status.new.out
    c.text.result (c.text.ensures.rich is) c.give-status.ensures.ok c.give-status.ensures.err
