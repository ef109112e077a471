-- A fault of the document is the outcome, since no setting is faulty.
use Rattle.std.proofs.lemmas.Result.{err_from_is_err_and}
use Rattle.html_render_tree_records.specs.Pages.{records_written}
use Rattle.html_render_tree_records.proofs.Outcomes.{outcome-from_document}
use Rattle.html_render_tree_records.proofs.rendering.lines_with.Goals as goal

pub returns-in_err-records : goal.returns-in_err-records
returns-in_err-records g c =
    let p = err_from_is_err_and c.from_residual-in_err-records.result c.from_residual-in_err-records.ensures.1 in
    rw (p.1, p.2)
    (outcome-from_document (records_written g.D.TextDecorator.decoration g.D.Annotation.PartialEq.eq g.D.Annotation.Written.annotation_record c.args.width) c.args.config c.args.given.text.now c.args.given.steps.now c.args.given.settings.now
    c.in_ok-config.config c.in_ok-config.ensures.ok c.in_err-records.field-0.0 c.in_err-records.ensures.err)
