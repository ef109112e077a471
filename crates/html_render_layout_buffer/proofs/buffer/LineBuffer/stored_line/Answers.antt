use Rattle.std.proofs.Common.{◌∙◌, ap, get_or}
use Rattle.html_render_layout_buffer.specs.Fields.{no_end}
use Rattle.html_render_layout_buffer.proofs.Stored.{opened, has-end, line-held, columns-at, line-utf8}
use Rattle.html_render_layout_buffer.proofs.buffer.LineBuffer.stored_line.Goals as goal

pub place_of-place-requires : goal.place_of-place-requires
place_of-place-requires g c = has-end _ _ _ _ _ (opened _ _ c.self.invariant c.self.view_is) c.as_slice-ends.ensures.value c.requires

pub text_at-requires : goal.text_at-requires
text_at-requires g c =
    (line-held _ _ _ c.args.n _ _ _ (opened _ _ c.self.invariant c.self.view_is) c.requires c.as_str-text.ensures.value c.as_slice-ends.ensures.value
    c.place_of-place.ensures).place

pub ended_at-requires : goal.ended_at-requires
ended_at-requires g c =
    (line-held _ _ _ c.args.n _ _ _ (opened _ _ c.self.invariant c.self.view_is) c.requires c.as_str-text.ensures.value c.as_slice-ends.ensures.value
    c.place_of-place.ensures).place

pub columns_at-requires : goal.columns_at-requires
columns_at-requires g c = has-end _ _ _ _ _ (opened _ _ c.self.invariant c.self.view_is) c.as_slice-ends.ensures.value c.requires

pub returns : goal.returns
returns g c =
    let was = opened _ _ c.self.invariant c.self.view_is in
    let at = line-held _ _ _ c.args.n _ _ _ was c.requires c.as_str-text.ensures.value c.as_slice-ends.ensures.value c.place_of-place.ensures in
    record {
      text = c.text_at.ensures ∙ at.text;
      ended = c.ended_at.ensures ∙ at.ended;
      slots = at.slots;
      range = at.range;
      within = at.within;
      columns = c.columns_at.ensures ∙ ap (λ y. (get_or y c.args.n no_end).columns) c.as_slice-ends.ensures.value ∙ columns-at _ _ _ c.args.n was c.requires;
      utf8 = line-utf8 _ _ _ c.args.n was c.requires;
    }
