use Rattle.std.proofs.Common.{◌∙◌}
use Rattle.html_render_layout_paragraphs.proofs.Tabs.{spaces-boundary, few-spaces}
use Rattle.html_render_layout_paragraphs.proofs.paragraph.line_buffer.few_spaces.Goals as goal

pub range-requires-clause-end_boundary : goal.range-requires-clause-end_boundary
range-requires-clause-end_boundary c = spaces-boundary c.args.text.now c.args.count 8 c.requires.text c.requires.few

pub returns : goal.returns
returns c = c.range.ensures.value ∙ few-spaces c.args.text.now c.args.count 8 c.requires.text c.requires.few
