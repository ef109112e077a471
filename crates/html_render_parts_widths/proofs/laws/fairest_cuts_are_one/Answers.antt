use Rattle.html_render_parts_widths.specs.laws.Cuts.{fairest-only}
use Rattle.html_render_parts_widths.specs.laws.UnitCut.{cut_by_units-fairest}
use Rattle.html_render_parts_widths.proofs.laws.fairest_cuts_are_one.Goals as goal

pub returns-clause-some : goal.returns-clause-some
returns-clause-some c = cut_by_units-fairest

pub returns-clause-only : goal.returns-clause-only
returns-clause-only c = λ ms ss width widths other h k. fairest-only ms ss width other widths k h
