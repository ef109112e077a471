-- The configuration begins with its decorator.
use Rattle.std.proofs.Common.{true}
use Rattle.html_render_parts.specs.Decorators.{plain}
use Rattle.html_render_tree_records.specs.Records.{plain_record}
use Rattle.html_render_tree_records.specs.Pages.{records_written}
use Rattle.html_render_tree_records.proofs.Outcomes.{begun}
use Rattle.html_render_tree_records.proofs.rendering.plain_lines.Goals as goal

pub returns : goal.returns
returns c =
    begun (records_written (plain {A = Unit {0}} tt) (λ _ _. true) (λ _. plain_record) c.args.width) c.args.given.text.now c.args.given.steps.now c.args.given.settings.now
    c.plain_no_decorate.result c.plain_no_decorate.result.decorator c.plain_no_decorate.ensures c.lines_with.result c.lines_with.ensures
