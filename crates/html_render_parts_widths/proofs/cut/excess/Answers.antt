use Rattle.std.proofs.Common.{arith}
use Rattle.html_render_parts_widths.proofs.CutLevels.{excess-some, excess-below}
use Rattle.html_render_parts_widths.specs.laws.Cuts.{length-ranges}
use Rattle.html_render_parts_widths.proofs.cut.excess.Goals as goal

pub overflow_cast-result : goal.overflow_cast-result
overflow_cast-result c = let e = excess-below _ _ _ c.requires.level in let l =
    length-ranges c.args.minimums.now c.args.shares.now c.requires.lengths in omega arith

pub returns-clause-above : goal.returns-clause-above
returns-clause-above c = λ some. let t = excess-some _ _ _ c.requires.level (omega arith) in t.0

pub returns-clause-enough : goal.returns-clause-enough
returns-clause-enough c = λ some. let t = excess-some _ _ _ c.requires.level (omega arith) in let less = t.1 in omega arith
