use Rattle.std.proofs.Common.{◌≡◌, ◌++◌, take}
use Rattle.std.specs.List.{flat_map}
use Rattle.html_render_layout_buffer.specs.Words.{run_slots}
use Rattle.html_render_layout_buffer.proofs.buffer.word.put_runs.Given as goal

abbrev pub invariant-loop-run : goal.invariant-loop-run
invariant-loop-run g l = l.slots ≡ l.initial.slots ++ flat_map (run_slots l.continues) (take l.run-index l.runs)
