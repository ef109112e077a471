use Rattle.std.proofs.Common.{◌∙◌, ap}
use Rattle.std.specs.Str.{chars}
use Rattle.html_render_layout_pictures.specs.laws.Fillers.{first_boundary, first_chars}
use Rattle.html_render_layout_pictures.proofs.gaps.first_of.Goals as goal

pub range-requires-clause-end_boundary : goal.range-requires-clause-end_boundary
range-requires-clause-end_boundary c =
    first_boundary c.args.character c.args.count 128 c.len_utf8.result c.args.text.now c.ranges.character.0 c.requires.text c.len_utf8.ensures.value
    c.requires.few

pub returns : goal.returns
returns c = ap chars c.range.ensures.value ∙ first_chars c.args.character c.args.count 128 c.len_utf8.result c.args.text.now
    c.ranges.character.0 c.requires.text c.len_utf8.ensures.value c.requires.few
