use Rattle.std.proofs.Common.{refl}
use Rattle.std.proofs.Math.Utf8.{encode}
use Rattle.html_render_layout_pictures.proofs.gaps.gap.Goals as goal

pub last_of-requires-clause-text : goal.last_of-requires-clause-text
unfolding encode
last_of-requires-clause-text c = refl
