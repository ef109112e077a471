use Rattle.std.proofs.lemmas.Bool.{OnTrue_at, OnTrue_from}
use Rattle.html_render_layout_buffer.specs.Lines.{ArePlain}
use Rattle.html_render_layout_buffer.proofs.Stored.{opened}
use Rattle.html_render_layout_buffer.proofs.BehindLines.{all-plain}
use Rattle.html_render_layout_buffer.proofs.buffer.LineBuffer.is_plain.Goals as goal

pub returns : goal.returns
returns g c =
    OnTrue_from c.has_one_tag.result (ArePlain c.args.tag c.args.self.now.lines)
    (λ e. all-plain _ _ _ c.args.tag (opened _ _ c.self.invariant c.self.view_is) (OnTrue_at e c.has_one_tag.ensures))
