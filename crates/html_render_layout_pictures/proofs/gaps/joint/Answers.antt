use Rattle.std.proofs.Common.{refl}
use Rattle.std.proofs.Math.Utf8.{encode}
use Rattle.html_render_layout_pictures.proofs.gaps.joint.Goals as goal

pub last_of-requires-clause-text : goal.last_of-requires-clause-text
unfolding encode
last_of-requires-clause-text c = refl

pub last_of-requires-in-true-false-clause-text : goal.last_of-requires-in-true-false-clause-text
unfolding encode
last_of-requires-in-true-false-clause-text c = refl

pub last_of-requires-in-false-true-clause-text : goal.last_of-requires-in-false-true-clause-text
unfolding encode
last_of-requires-in-false-true-clause-text c = refl

pub first_of-requires-clause-text : goal.first_of-requires-clause-text
unfolding encode
first_of-requires-clause-text c = refl
