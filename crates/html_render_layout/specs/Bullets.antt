-- The bytes of a bullet, inline or in an allocation.
use Rattle.std.specs.Prelude.{ℕ, List, string_bytes}
use Rattle.html_render_layout.specs.declared.bullet.BulletBytes.{BulletBytes}
use Rattle.html_render_layout.specs.declared.bullet.BulletBytes.TheVariants.{Short, Long}

abbrev pub bytes_in : BulletBytes → List ℕ
bytes_in (Short b) = b
bytes_in (Long b) = string_bytes b.value
