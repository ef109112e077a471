use Rattle.html_render_layout_estimates.specs.laws.Least.{each_unsized}
use Rattle.html_render_layout_estimates.proofs.laws.sizes_are_of_trees_with_tables.Goals as goal

pub returns : goal.returns
returns g c = λ decorator settings trees. each_unsized g.D.TextDecorator.decoration decorator settings trees
