use Rattle.std.proofs.Common.{◌≡◌, ◌++◌, sym, ap, ◌∙◌, arith, drop, append-nil}
use Rattle.html_render_layout_buffer.proofs.TagLists.{between-empty}
use Rattle.html_render_layout_buffer.proofs.runs.TagRuns.push_runs.Goals as goal

pub returns-then-at-to : goal.returns-then-at-to
returns-then-at-to g c =
    let e : c.loop-run.at ≡ c.args.to = omega arith in
    sym (append-nil c.loop-run.self) ∙ ap (λ y. c.loop-run.self ++ y) (sym (between-empty (drop c.loop-run.run-index c.args.runs.now) c.args.tag _ _ e))
    ∙ c.loop-run.invariant.same
