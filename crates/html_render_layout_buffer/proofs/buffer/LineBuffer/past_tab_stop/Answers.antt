use Rattle.std.proofs.Common.{◌%◌, ap, ◌∙◌, subst}
use Rattle.std.specs.Str.{chars, IsUtf8}
use Rattle.html_render_layout_lines.specs.TaggedText.{text_columns}
use Rattle.html_render_layout_buffer.proofs.Growing.{columns-text}
use Rattle.html_render_layout_buffer.proofs.buffer.LineBuffer.past_tab_stop.Goals as goal

pub returns-in-None : goal.returns-in-None
returns-in-None g c =
    c.past_stop.ensures ∙ ap (λ bs. text_columns (chars bs) % 8) c.open_text.ensures
    ∙ ap (λ n. n % 8) (columns-text c.args.self.now.line (subst IsUtf8 c.open_text.ensures c.open_text.utf8))
