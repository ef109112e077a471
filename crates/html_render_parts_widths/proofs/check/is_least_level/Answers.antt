use Rattle.std.proofs.Common.{◌<◌, ◌-◌, arith}
use Rattle.std.proofs.lemmas.Bool.Decides.{nat_tests}
use Rattle.html_render_parts_widths.specs.LevelForm.{ranges}
use Rattle.html_render_parts_widths.proofs.CutLevels.{capped_sum-mono}
use Rattle.html_render_parts_widths.proofs.check.is_least_level.Goals as goal

pub returns-else-level-eq0 : goal.returns-else-level-eq0
returns-else-level-eq0 c =
    let rs = ranges c.args.minimums.now c.args.shares.now in (
      λ t. record {
        enough = omega (arith, c.requires.full);
        least = λ m less.
            let short : c.capped_sum.result < c.args.needed = grind (arith, nat_tests) in
            omega (arith, short, c.capped_sum.ensures, capped_sum-mono m (c.args.level - 1) rs (omega arith));
      },
      λ h. let short = h.least (c.args.level - 1) (omega arith) in let here : c.capped_sum.result < c.args.needed =
          omega (arith, short, c.capped_sum.ensures) in grind (arith, nat_tests),
    )
