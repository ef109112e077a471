-- A fault of the document is the outcome, since no setting is faulty.
use Rattle.std.proofs.lemmas.Result.{err_from_is_err_and}
use Rattle.html_render_tree_records.specs.Pages.{text_written}
use Rattle.html_render_tree_records.proofs.Outcomes.{outcome-from_document}
use Rattle.html_render_tree_records.proofs.rendering.text_with.Goals as goal

pub returns-in_err-text : goal.returns-in_err-text
returns-in_err-text g c =
    let p = err_from_is_err_and c.from_residual-in_err-text.result c.from_residual-in_err-text.ensures.1 in
    rw (p.1, p.2)
    (outcome-from_document (text_written g.D.TextDecorator.decoration c.args.width) c.args.config c.args.given.text.now c.args.given.steps.now c.args.given.settings.now
    c.in_ok-config.config c.in_ok-config.ensures.ok c.in_err-text.field-0.0 c.in_err-text.ensures.err)
