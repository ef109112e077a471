use Rattle.std.proofs.Common.{◌+◌, ◌-◌, ◌/◌, arith}
use Rattle.html_render_parts_widths.specs.LevelForm.{ranges}
use Rattle.html_render_parts_widths.proofs.CutLevels.{capped_sum-mono, probed}
use Rattle.html_render_parts_widths.proofs.levels.find_level.Goals as goal

pub loop-low-preserved-then-capped-wanted : goal.loop-low-preserved-then-capped-wanted
loop-low-preserved-then-capped-wanted c =
    let h = c.loop-low.invariant in
    let t = probed (c.loop-low.high - c.loop-low.low)
    (c.loop-low.low + (c.loop-low.high - c.loop-low.low) / 2 - c.loop-low.low) c.loop-low.probes c.args.highest.level (omega arith)
    (omega arith) (omega arith) h.halved h.no_more h.fits h.probes in
    record {
      ordered = omega arith;
      enough = omega arith;
      capped = c.capped_sum-capped.ensures;
      least = h.least;
      probes = t.probes;
      halved = t.halved;
      no_more = t.no_more;
      fits = h.fits;
      last = t.last;
    }

pub loop-low-preserved : goal.loop-low-preserved
loop-low-preserved c =
    let h = c.loop-low.invariant in
    let t = probed (c.loop-low.high - c.loop-low.low)
    (c.loop-low.high - (c.loop-low.low + (c.loop-low.high - c.loop-low.low) / 2 + 1)) c.loop-low.probes c.args.highest.level
    (omega arith) (omega arith) (omega arith) h.halved h.no_more h.fits h.probes in
    record {
      ordered = omega arith;
      enough = h.enough;
      capped = h.capped;
      least = λ m less. let up =
          capped_sum-mono m (c.loop-low.low + (c.loop-low.high - c.loop-low.low) / 2) (ranges c.args.minimums.now c.args.shares.now)
          (omega arith) in omega (arith, up, c.capped_sum-capped.ensures);
      probes = t.probes;
      halved = t.halved;
      no_more = t.no_more;
      fits = h.fits;
      last = t.last;
    }
