use Rattle.std.proofs.Common.{◌≡◌, ◌<◌, ℕ, length}
use Rattle.std.specs.Prelude.{slice_index, slice_index_or}
use Rattle.html_render_parts_widths.specs.Needs.{no_need}
use Rattle.html_render_parts_widths.proofs.needs.together.Given as goal

abbrev pub invariant-loop-at : goal.invariant-loop-at
invariant-loop-at l = record {
  len : length l.needs.items ≡ l.at;
  each : (k : ℕ) → k < l.at → slice_index_or l.needs.items k no_need ≡ record { preferred_width = slice_index l.sizes k; min_width = slice_index l.least k; longest_word = 0 };
}
