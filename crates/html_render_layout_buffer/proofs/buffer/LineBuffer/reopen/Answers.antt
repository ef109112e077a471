use Rattle.std.proofs.Common.{◌≡◌, ◌+◌, ◌-◌, length, refl, arith}
use Rattle.html_render_layout_buffer.proofs.Stored.{is-stored, closed, has-end, line-held, reopened-to, reopened-is}
use Rattle.html_render_layout_buffer.proofs.buffer.LineBuffer.reopen.Goals as goal

pub place_of-place-requires : goal.place_of-place-requires
place_of-place-requires g c =
    has-end _ _ _ _ _ (closed _ _ c.self.invariant c.self.view_is c.requires.open) c.as_slice-ends.ensures.value
    (omega (arith, c.line_count-n.ensures, c.requires.some))

pub columns_at-columns-requires : goal.columns_at-columns-requires
columns_at-columns-requires g c =
    has-end _ _ _ _ _ (closed _ _ c.self.invariant c.self.view_is c.requires.open) c.as_slice-ends.ensures.value
    (omega (arith, c.line_count-n.ensures, c.requires.some))

pub cut_last-requires : goal.cut_last-requires
cut_last-requires g c =
    (line-held _ _ _ (c.line_count-n.result - 1) _ _ _ (closed _ _ c.self.invariant c.self.view_is c.requires.open)
    (omega (arith, c.line_count-n.ensures, c.requires.some)) refl c.as_slice-ends.ensures.value c.place_of-place.ensures).place

pub invariant_of-self : goal.invariant_of-self
invariant_of-self g c =
    let was = closed _ _ c.self.invariant c.self.view_is c.requires.open in
    let last : c.line_count-n.result - 1 + 1 ≡ length c.args.self.now.lines = omega (arith, c.line_count-n.ensures, c.requires.some) in
    is-stored _ _ _ (reopened-to _ _ _ _ _ _ _ _ was last c.as_slice-ends.ensures.value c.place_of-place.ensures c.cut_last.ensures.text
    c.cut_last.ensures.ends c.columns_at-columns.ensures)

pub returns : goal.returns
returns g c =
    let was = closed _ _ c.self.invariant c.self.view_is c.requires.open in
    let last : c.line_count-n.result - 1 + 1 ≡ length c.args.self.now.lines = omega (arith, c.line_count-n.ensures, c.requires.some) in
    reopened-is _ _ _ (reopened-to _ _ _ _ _ _ _ _ was last c.as_slice-ends.ensures.value c.place_of-place.ensures c.cut_last.ensures.text
    c.cut_last.ensures.ends c.columns_at-columns.ensures) c.requires.open last
