use Rattle.html_render_layout_estimates.specs.laws.Least.{each_within}
use Rattle.html_render_layout_estimates.proofs.laws.each_least_width_is_at_most_its_size.Goals as goal

pub returns : goal.returns
returns g c = λ decorator settings trees. each_within g.D.TextDecorator.decoration decorator settings trees
