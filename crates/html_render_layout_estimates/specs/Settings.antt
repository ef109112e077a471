-- The default settings of a layout.
use Rattle.std.specs.Prelude.{true, false}
use Rattle.html_render_layout_estimates.specs.declared.settings.ImageRenderMode.TheVariants.{IgnoreEmpty}
use Rattle.html_render_layout_estimates.specs.declared.settings.LayoutSettings.{LayoutSettings}

-- Links have no numbers, U+0336 follows struck-out characters, and images and drawings with an empty title aren't shown.
-- Closing lines are cut. Lines aren't padded, and a text needs 3 columns, or its own if they are fewer. Tables have borders
-- and no fences, and their cells are side by side if they fit. Columns don't count words.
abbrev pub default_settings : LayoutSettings
default_settings = record {
  link_footnotes = false;
  unicode_strikeout = true;
  empty_images = IgnoreEmpty;
  wrap_links = true;
  pad_block_width = false;
  min_wrap_width = 3;
  raw_mode = false;
  table_borders = true;
  fence_tables = false;
  whole_words = false;
}
