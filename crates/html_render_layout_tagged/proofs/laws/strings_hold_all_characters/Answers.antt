use Rattle.html_render_layout_tagged.specs.laws.Grouping.{characters-grouped}
use Rattle.html_render_layout_tagged.proofs.laws.strings_hold_all_characters.Goals as goal

pub returns : goal.returns
returns g c = characters-grouped g.T.PartialEq.eq
