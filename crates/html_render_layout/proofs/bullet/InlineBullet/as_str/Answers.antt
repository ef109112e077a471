-- The bytes that are lent are UTF-8, as the invariant says.
use Rattle.std.proofs.lemmas.Str.{IsUtf8-had}
use Rattle.html_render_layout.proofs.bullet.InlineBullet.as_str.Goals as goal

pub from_utf8_unchecked-requires : goal.from_utf8_unchecked-requires
from_utf8_unchecked-requires c = IsUtf8-had _ c.self.invariant.2
