-- The configuration begins with its decorator.
use Rattle.html_render_parts.specs.Decorators as decorators
use Rattle.html_render_tree_records.specs.Records.{rich_record}
use Rattle.html_render_tree_records.specs.Pages.{records_written}
use Rattle.html_render_tree_records.proofs.Outcomes.{begun}
use Rattle.html_render_tree_records.proofs.rendering.rich_lines.Goals as goal

pub returns : goal.returns
returns c =
    begun (records_written decorators.rich _ rich_record c.args.width) c.args.given.text.now c.args.given.steps.now c.args.given.settings.now
    c.rich.result c.rich.result.decorator c.rich.ensures c.lines_with.result c.lines_with.ensures
