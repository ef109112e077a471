-- The configuration begins with its decorator.
use Rattle.html_render_parts.specs.Decorators.{plain}
use Rattle.html_render_tree_records.specs.Pages.{text_written}
use Rattle.html_render_tree_records.proofs.Outcomes.{begun}
use Rattle.html_render_tree_records.proofs.rendering.plain_text.Goals as goal

pub returns : goal.returns
returns c =
    begun (text_written (plain {A = Unit {0}} tt) c.args.width) c.args.given.text.now c.args.given.steps.now c.args.given.settings.now
    c.plain_no_decorate.result c.plain_no_decorate.result.decorator c.plain_no_decorate.ensures c.text_with.result c.text_with.ensures
