use Rattle.std.proofs.Common.{arith}
use Rattle.html_render_parts_widths.specs.laws.Cuts.{minimums-fit}
use Rattle.html_render_parts_widths.proofs.FairestCut.{wanted-le}
use Rattle.html_render_parts_widths.proofs.fit.wanted.Goals as goal

pub overflow_sub-result : goal.overflow_sub-result
overflow_sub-result c = let e = minimums-fit _ _ _ c.requires.fits in let l = c.requires.fits.lengths in omega arith

pub returns-clause-reachable : goal.returns-clause-reachable
returns-clause-reachable c = let e = wanted-le _ _ _ c.requires.fits in let l = c.requires.fits.lengths in omega arith
