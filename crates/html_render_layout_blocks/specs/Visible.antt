-- Visible characters of a text.
use Rattle.std.specs.Prelude.{ℕ, List, flat_map}
use Rattle.html_render_layout_lines.specs.Visible.{if_visible}

-- Visible characters of a text, in order.
abbrev pub visible_in_text : List ℕ → List ℕ
visible_in_text cs = flat_map if_visible cs
