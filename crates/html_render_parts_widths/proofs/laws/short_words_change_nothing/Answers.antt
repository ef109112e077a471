use Rattle.html_render_parts_widths.specs.laws.WordMinimums.{short_across}
use Rattle.html_render_parts_widths.proofs.laws.short_words_change_nothing.Goals as goal

pub returns : goal.returns
returns c = short_across
