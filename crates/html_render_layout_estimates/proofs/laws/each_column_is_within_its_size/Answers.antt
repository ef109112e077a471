use Rattle.html_render_layout_estimates.specs.laws.Least.{each_share_by_size}
use Rattle.html_render_layout_estimates.proofs.laws.each_column_is_within_its_size.Goals as goal

pub returns-clause-shares : goal.returns-clause-shares
returns-clause-shares g c = each_share_by_size g.D.TextDecorator.decoration
