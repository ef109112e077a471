use Rattle.html_render_dom_nodes.proofs.lists.move_before.Goals as goal
use Rattle.html_render_dom_nodes.proofs.lists.move_before.Goals.{in-Some, in_default}

pub place-requires-clause-room : goal.place-requires-clause-room
place-requires-clause-room c =
    λ other. elim c.match-from.branch [
      | in-Some w ↦ rw w.nodes-is (w.take_out.ensures.room c.args.parent 1 c.in_ok-reserve_children.ensures.room other)
      | in_default w ↦ rw w.nodes-is (c.in_ok-reserve_children.ensures.room other)
    ]
