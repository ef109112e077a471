use Rattle.std.proofs.Common.{◌≡◌, length, drop}
use Rattle.std.specs.List.{list_all}
use Rattle.std.specs.Str.{chars}
use Rattle.html_render_layout_lines.specs.Character.{is_collapsible}
use Rattle.html_render_layout_blocks.proofs.block.is_collapsible_alone.Given as goal

abbrev pub invariant-loop-c : goal.invariant-loop-c
invariant-loop-c l = list_all is_collapsible (chars l.text) ≡ list_all is_collapsible (drop (length l.yielded) (chars l.text))
