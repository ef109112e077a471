-- Laws and lemmas, by the names of their sets.
use Rattle.html_render_layout_pictures.specs.laws.Fillers.{one_more, gap_width, gap_put, joint_columns, joint_put}
use Rattle.html_render_layout_pictures.specs.laws.Widths.{row-width, separators-length, border-columns, picture_within}

pub ruleset widths = (row-width, separators-length, border-columns, picture_within)

pub ruleset gaps = (one_more)

pub ruleset gaps_put = (gap_width, gap_put, joint_columns, joint_put)
