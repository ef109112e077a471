use Rattle.std.proofs.Common.{◌≡◌, ◌≤◌, ◌++◌, drop}
use Rattle.html_render_layout_buffer.specs.Runs.{tags_between}
use Rattle.html_render_layout_buffer.proofs.runs.TagRuns.push_runs.Given as goal

abbrev pub invariant-loop-run : goal.invariant-loop-run
invariant-loop-run g l = record {
  range : l.at ≤ l.to;
  same : l.self ++ tags_between l.at l.to (drop l.run-index l.runs) l.tag ≡ l.initial.self ++ tags_between l.from l.to l.runs l.tag;
}
