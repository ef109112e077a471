use Rattle.std.proofs.Common.{◌≡◌, ◌-◌, ◌<◌, take, length, ap, ◌∙◌, subst, arith}
use Rattle.std.proofs.lemmas.List.{length-take}
use Rattle.std.specs.Str.{chars, IsUtf8}
use Rattle.html_render_layout_paragraphs.specs.Stream.{on_page}
use Rattle.html_render_layout_paragraphs.proofs.SpacedWords.{put_items-front}
use Rattle.html_render_layout_paragraphs.proofs.Stretches.{some-chars}
use Rattle.html_render_layout_paragraphs.proofs.paragraph.Paragraph.put_front.Goals as goal

pub returns-then-front-gt0-clause-ok : goal.returns-then-front-gt0-clause-ok
returns-then-front-gt0-clause-ok g c =
    let text = c.args.text.now in
    let n = c.fitting_front-front.result.bytes in
    let front = c.fitting_front-front.ensures.front in
    let whole : n - 0 ≡ n = omega arith in
    let slice : c.range.result.now ≡ take n text = c.range.ensures.value ∙ ap (λ k. take k text) whole in
    let some : 0 < length (chars (take n text)) =
    some-chars (take n text) (subst IsUtf8 slice c.range.utf8) (simp length-take (omega (arith, front.within))) in
    let put = put_items-front c.args.self.now.setting c.args.self.now.page c.args.style text n c.fitting_front-front.result.columns
    c.utf8.text front (c.fitting_front-front.ensures.fits c.if-front-gt0.true) some in
    let done = rw slice at c.in_ok-push_text.ensures in
    rw (c.range_from.ensures.value, done) (ap (on_page c.args.self.now) put)
