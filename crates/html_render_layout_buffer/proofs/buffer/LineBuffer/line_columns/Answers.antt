use Rattle.std.proofs.Common.{◌∙◌, ap, get_or}
use Rattle.html_render_layout_buffer.specs.Fields.{no_end}
use Rattle.html_render_layout_buffer.proofs.Stored.{opened, has-end, columns-at}
use Rattle.html_render_layout_buffer.proofs.buffer.LineBuffer.line_columns.Goals as goal

pub columns_at-requires : goal.columns_at-requires
columns_at-requires g c = has-end _ _ _ _ _ (opened _ _ c.self.invariant c.self.view_is) c.as_slice.ensures.value c.requires

pub returns : goal.returns
returns g c =
    c.columns_at.ensures ∙ ap (λ y. (get_or y c.args.n no_end).columns) c.as_slice.ensures.value
    ∙ columns-at _ _ _ c.args.n (opened _ _ c.self.invariant c.self.view_is) c.requires
