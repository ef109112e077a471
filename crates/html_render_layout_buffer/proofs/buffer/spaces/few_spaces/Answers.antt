use Rattle.std.proofs.Common.{◌∙◌, ap}
use Rattle.std.specs.Str.{chars}
use Rattle.html_render_layout_buffer.proofs.Growing.{spaces-boundary, spaces-chars}
use Rattle.html_render_layout_buffer.proofs.buffer.spaces.few_spaces.Goals as goal

pub range-requires-clause-end_boundary : goal.range-requires-clause-end_boundary
range-requires-clause-end_boundary c = spaces-boundary c.args.text.now c.args.count 64 c.requires.text c.requires.few

pub returns : goal.returns
returns c = ap chars c.range.ensures.value ∙ spaces-chars c.args.text.now c.args.count 64 c.requires.text c.requires.few
