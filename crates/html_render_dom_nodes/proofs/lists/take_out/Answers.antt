use Rattle.html_render_dom_nodes.proofs.lists.take_out.Goals as goal

pub returns-clause-room : goal.returns-clause-room
returns-clause-room c = λ node more room. c.set_parent.ensures.room node more (c.drop_child.ensures.room node more room)
