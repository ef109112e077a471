use Rattle.std.proofs.Common.{ap, ◌∙◌}
use Rattle.std.specs.Str.{chars}
use Rattle.html_render_layout_pictures.specs.laws.Fillers.{last_boundary, last_chars}
use Rattle.html_render_layout_pictures.proofs.gaps.last_of.Goals as goal

pub range_from-requires : goal.range_from-requires
range_from-requires c =
    λ _. last_boundary c.args.character c.args.last c.args.few c.len_utf8.result c.args.text.now c.ranges.character.0 c.ranges.last.0
    c.requires.text c.len_utf8.ensures.value c.requires.few

pub returns : goal.returns
returns c = ap chars c.range_from.ensures.value ∙ last_chars c.args.character c.args.last c.args.few c.len_utf8.result c.args.text.now
    c.ranges.character.0 c.ranges.last.0 c.requires.text c.len_utf8.ensures.value c.requires.few
