use Rattle.std.proofs.Common.{arith}
use Rattle.std.proofs.lemmas.Result.{IfOk-weaker}
use Rattle.html_render_parts_widths.specs.laws.Cuts.{sum-ranges}
use Rattle.html_render_parts_widths.proofs.CutLevels.{capped_sum-greatest}
use Rattle.html_render_parts_widths.proofs.FairestCut.{column-cut}
use Rattle.html_render_parts_widths.proofs.cut.metered_in.Goals as goal

pub overflow_sub-highest : goal.overflow_sub-highest
overflow_sub-highest c = let all = sum-ranges _ _ c.requires.lengths c.requires.each in omega arith

pub find_level-probes-requires-clause-sum : goal.find_level-probes-requires-clause-sum
find_level-probes-requires-clause-sum c =
    let all = sum-ranges _ _ c.requires.lengths c.requires.each in
    let greatest = capped_sum-greatest c.args.minimums.now c.args.shares.now c.sum_up-totals.result.greatest_range (omega arith) in
    omega arith

pub returns-clause-cut : goal.returns-clause-cut
returns-clause-cut c = IfOk-weaker c.level_form.result _ _ (λ _. column-cut _ _ _ _ _ _ c.requires) c.level_form.ensures
