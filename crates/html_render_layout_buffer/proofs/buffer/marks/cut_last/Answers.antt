use Rattle.html_render_layout_buffer.proofs.buffer.marks.cut_last.Goals as goal

pub truncate-requires : goal.truncate-requires
truncate-requires c = λ _. (c.requires.stops.0, λ _ within high. c.requires.stops.1 within high)
