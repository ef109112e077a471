use Rattle.std.proofs.Common.{◌≡◌, ◌+◌, length, min}
use denote.Text.{Utf8}
use denote.Shadow.{shadow}
use Rattle.std.specs.Str.{chars}
use Rattle.html_render_layout_estimates.specs.TextSize.{collapsed_columns}
use Rattle.html_render_layout_estimates.proofs.text.columns_within.Given as goal

abbrev pub invariant-loop-columns : goal.invariant-loop-columns
invariant-loop-columns l =
    shadow (Utf8 l.rest) × (min (l.columns + collapsed_columns l.spaced (chars l.rest)) l.limit ≡ min (l.before + collapsed_columns l.space_before (chars l.text)) l.limit)

abbrev pub decreases-loop-columns : goal.decreases-loop-columns
decreases-loop-columns l = length l.rest
