use Rattle.std.proofs.Common.{◌∙◌, ◌-◌, arith}
use Rattle.html_render_layout_buffer.proofs.Stored.{slice-is}
use Rattle.html_render_layout_buffer.proofs.buffer.stored.text_at.Goals as goal

pub range-requires-clause-end_boundary : goal.range-requires-clause-end_boundary
range-requires-clause-end_boundary c = c.requires.stops

pub range-requires-clause-start_boundary : goal.range-requires-clause-start_boundary
range-requires-clause-start_boundary c = λ _. c.requires.begins

pub returns : goal.returns
returns c = c.range.ensures.value ∙ slice-is c.args.text.now c.args.place.text (c.args.place.text_end - 1) (omega (arith, c.requires.ordered))
