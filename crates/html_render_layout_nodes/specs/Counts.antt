-- The counts of a walk over a forest.
use Rattle.std.specs.Prelude.{◌≡◌, ◌≤◌, length, Result, OnOk}
use Rattle.html_render_dom_values.specs.Forest.{Forest, count, depth}
use Rattle.html_render_parts_widths.specs.declared.Meter.{Meter}
use Rattle.html_render_layout_nodes.specs.Visits.{Visits, visited, most_open}

-- Whether a meter has the counts of a walk over a tree from the state `s`. After a result, `entered` and `left` are the
-- number of nodes that a run visits, and `frames` is the greatest number of them open at once. After an error they are at
-- most these. The number of visited nodes is at most that of the tree, and the number of open nodes is at most its depth.
-- `probes` is unchanged.
pub record CountsNodes {X E K S : Type 0} (result : Result X E) (visits : Visits K S) (tree : Forest K) (s : S) (old new : Meter) : Type 0 where
  pub entered : OnOk result (new.entered ≡ length (visited visits tree s))
  pub left : OnOk result (new.left ≡ length (visited visits tree s))
  pub entered_at_most : new.entered ≤ length (visited visits tree s)
  pub left_at_most : new.left ≤ new.entered
  pub visited_at_most : length (visited visits tree s) ≤ count tree
  pub frames : OnOk result (new.frames ≡ most_open visits tree s)
  pub frames_at_most : new.frames ≤ most_open visits tree s
  pub open_at_most : most_open visits tree s ≤ depth tree
  pub probes : new.probes ≡ old.probes
