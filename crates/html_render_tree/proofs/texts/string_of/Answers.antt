use Rattle.std.proofs.Common.{append-nil, ap, ◌∙◌}
use Rattle.html_render_layout_buffer.specs.Lines.{BufferedLines, all_bytes}
use Rattle.html_render_tree.specs.Texts.{text_of}
use Rattle.html_render_tree.proofs.texts.string_of.Goals as goal

pub returns : goal.returns
returns g c =
    c.into_string.ensures ∙ ap (λ (b : BufferedLines g.row.T.Denot g.row.M.Denot). all_bytes b) c.in_ok-lines.ensures
    ∙ append-nil (text_of c.args.lines)
