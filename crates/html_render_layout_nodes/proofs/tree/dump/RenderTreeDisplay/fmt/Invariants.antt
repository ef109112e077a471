use Rattle.std.proofs.Common.{◌≡◌, ◌-◌, ◌++◌, ℕ, List, take, drop}
use Rattle.std.specs.Fmt.{HasWritten, IsPlainFormatter}
use Rattle.html_render_layout_nodes.specs.Depths.{open_at, Keeps}
use Rattle.html_render_layout_nodes.specs.Dump.{tree_dump}
use Rattle.html_render_layout_nodes.proofs.Depths.{lines}
use Rattle.html_render_layout_nodes.proofs.tree.dump.RenderTreeDisplay.fmt.Given as goal

-- the written lines, followed by those of the remaining nodes, are the dump; the open subtrees are those that contain the
-- node before `place`
abbrev pub invariant-loop-place : goal.invariant-loop-place
invariant-loop-place g l = record {
  written : IsPlainFormatter l.initial.f → (written : List ℕ) × HasWritten g.W.Write.write_str_gives l.initial.f written l.f
      × (written ++ lines (take l.place l.entries) (drop l.place l.entries) ≡ tree_dump 0 l.self);
  kept : Keeps l.open.depth l.open.ends.items (open_at (l.place - 1) (take l.place l.entries));
}
