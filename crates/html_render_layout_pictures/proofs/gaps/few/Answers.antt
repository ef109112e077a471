use Rattle.std.proofs.Common.{refl}
use Rattle.std.proofs.Math.Utf8.{encode}
use Rattle.html_render_layout_pictures.proofs.gaps.few.Goals as goal

pub first_of-requires-in-Dash-clause-text : goal.first_of-requires-in-Dash-clause-text
unfolding encode
first_of-requires-in-Dash-clause-text c = refl
