use Rattle.std.proofs.Common.{drop, ap, ◌∙◌, option_and_then}
use Rattle.std.proofs.lemmas.Result.{err_from_is_err_and}
use Rattle.std.specs.Str.{chars}
use Rattle.html_render_dom_values.specs.laws.Outcome.{Refuses-then, Refuses-same}
use Rattle.html_render_layout_paragraphs.specs.Stream.{after, styled, stretch_step}
use Rattle.html_render_layout_paragraphs.proofs.Stretches.{after-front}
use Rattle.html_render_layout_paragraphs.proofs.paragraph.Paragraph.feed_stretch.Goals as goal

pub returns-clause-ok : goal.returns-clause-ok
returns-clause-ok g c =
    let text = c.args.text.now in
    let n = c.args.stretch.bytes in
    let front = after-front c.args.self.now c.args.style text c.range.result.now n c.args.stretch.columns c.utf8.text c.requires.stretch c.requires.some
    c.range.ensures.value in
    rw c.range_from-text.ensures.value (front ∙ ap (option_and_then (λ t. after t (styled c.args.style (chars (drop n text))))) c.in_ok-add_stretch.ensures.ok)

pub returns-in_err-add_stretch-clause-err : goal.returns-in_err-add_stretch-clause-err
returns-in_err-add_stretch-clause-err g c =
    let text = c.args.text.now in
    let n = c.args.stretch.bytes in
    let front = after-front c.args.self.now c.args.style text c.range.result.now n c.args.stretch.columns c.utf8.text c.requires.stretch c.requires.some
    c.range.ensures.value in
    let p = err_from_is_err_and c.from_residual.result c.from_residual.ensures.1 in
    rw (p.1, p.2) (Refuses-same _ _ _ front (Refuses-then _ (stretch_step c.args.self.now c.args.style (chars c.range.result.now)) _ c.in_err-add_stretch.ensures.err))
