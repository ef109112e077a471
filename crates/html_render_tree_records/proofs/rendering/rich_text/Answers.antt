-- The configuration begins with its decorator.
use Rattle.html_render_parts.specs.Decorators as decorators
use Rattle.html_render_tree_records.specs.Pages.{text_written}
use Rattle.html_render_tree_records.proofs.Outcomes.{begun}
use Rattle.html_render_tree_records.proofs.rendering.rich_text.Goals as goal

pub returns : goal.returns
returns c =
    begun (text_written decorators.rich c.args.width) c.args.given.text.now c.args.given.steps.now c.args.given.settings.now
    c.rich.result c.rich.result.decorator c.rich.ensures c.text_with.result c.text_with.ensures
