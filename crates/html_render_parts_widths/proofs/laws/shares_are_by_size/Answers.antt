use Rattle.html_render_parts_widths.specs.laws.SharesFit.{share_is, shares_are}
use Rattle.html_render_parts_widths.proofs.laws.shares_are_by_size.Goals as goal

pub returns-clause-one : goal.returns-clause-one
returns-clause-one c = share_is

pub returns-clause-all : goal.returns-clause-all
returns-clause-all c = shares_are
