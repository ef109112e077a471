use Rattle.std.proofs.Common.{◌∙◌}
use Rattle.html_render_layout_estimates.proofs.Again.{done, done_words}
use Rattle.html_render_layout_estimates.proofs.estimate.measure.Goals as goal

pub add_needed_words-requires : goal.add_needed_words-requires
add_needed_words-requires g c =
    (done g.D.TextDecorator.decoration c.args.decorator.now c.args.settings.now c.args.tree _ _
    c.into_entries-entries.ensures c.in_ok-measure_nodes.ensures.ok).kept

pub from_entries-requires : goal.from_entries-requires
from_entries-requires g c =
    (done_words g.D.TextDecorator.decoration c.args.decorator.now c.args.settings.now c.args.tree _ _ _
    c.into_entries-entries.ensures c.in_ok-measure_nodes.ensures.ok c.in_ok-add_needed_words.ensures).kept

pub returns-clause-ok : goal.returns-clause-ok
returns-clause-ok g c =
    c.from_entries.ensures
    ∙ (done_words g.D.TextDecorator.decoration c.args.decorator.now c.args.settings.now c.args.tree _ _ _
    c.into_entries-entries.ensures c.in_ok-measure_nodes.ensures.ok c.in_ok-add_needed_words.ensures).is
