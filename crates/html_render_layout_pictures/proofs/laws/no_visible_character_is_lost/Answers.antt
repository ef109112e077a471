use Rattle.html_render_layout_pictures.specs.laws.Visible.{picture_times}
use Rattle.html_render_layout_pictures.proofs.laws.no_visible_character_is_lost.Goals as goal

pub returns : goal.returns
returns g c ch frame waiting rows = picture_times ch frame waiting rows
