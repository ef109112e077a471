use Rattle.std.proofs.Common.{◌≡◌, ◌+◌, ◌-◌, ◌*◌, ◌≤◌, length}
use Rattle.html_render_layout_nodes.specs.Preorder.{flatten}
use Rattle.html_render_layout_nodes.proofs.Walking.{Walking, whole}
use Rattle.html_render_layout.specs.Working.{by_tags}
use Rattle.html_render_layout.proofs.Trees.{how}
use Rattle.html_render_layout.proofs.walk.tree.walk_tree.Given as goal

abbrev pub invariant-walk : goal.invariant-walk
invariant-walk g l =
    record {
      entries_are : l.entries ≡ flatten l.tree;
      walking : Walking (how (by_tags g.D.TextDecorator.decoration g.G.Tagging.annotated)) (flatten l.tree) (whole (how (by_tags g.D.TextDecorator.decoration g.G.Tagging.annotated)) l.tree l.fn.state) l.frames.items l.meter.entered l.meter.frames l.next l.number l.state;
      numbered : l.number ≤ l.next;
      within : l.next ≤ length l.entries;
      visits : l.meter.entered ≤ l.next;
      left : l.meter.left + length l.frames.items ≡ l.meter.entered;
      probes : l.meter.probes ≡ l.fn.meter.probes;
    }

abbrev pub decreases-walk : goal.decreases-walk
decreases-walk g l = 2 * (length l.entries - l.next) + length l.frames.items
