use Rattle.html_render_layout_tagged.specs.laws.Grouping.{longest-grouped}
use Rattle.html_render_layout_tagged.proofs.laws.strings_are_the_longest.Goals as goal

pub returns : goal.returns
returns g c = longest-grouped g.T.PartialEq.eq g.met.T.Eq.laws
