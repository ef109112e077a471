use Rattle.std.proofs.Common.{cond, ◌++◌, ◌∷◌, [], replicate, ap, sym}
use Rattle.std.proofs.Math.Utf8.{encode}
use Rattle.std.specs.Str.{encode_utf8_all}
use Rattle.html_render_layout_pictures.specs.declared.borders.TheConstants.{BORDERS}
use Rattle.html_render_layout_pictures.proofs.gaps.long_gap.Goals as goal

pub returns-then-borders : goal.returns-then-borders
unfolding encode
returns-then-borders c = ap (λ b. encode_utf8_all (replicate 127 0x20 ++ cond b BORDERS.separator 0x20 ∷ [])) (sym c.if-borders.true)
