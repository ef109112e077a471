use Rattle.std.proofs.Common.{◌≡◌, ◌-◌, get_or, take, drop, sym, ap, ◌∙◌, arith}
use Rattle.std.proofs.lemmas.Str.{IsCharBoundary-after_ascii}
use Rattle.std.specs.Str.{chars}
use Rattle.html_render_layout_paragraphs.specs.Feeding.{with_words}
use Rattle.html_render_layout_paragraphs.specs.Stream.{after, styled}
use Rattle.html_render_layout_paragraphs.proofs.SpacedWords.{no-words, put-words}
use Rattle.html_render_layout_paragraphs.proofs.paragraph.Paragraph.feed_fitting_words.Goals as goal

pub range_from-requires : goal.range_from-requires
range_from-requires g c =
    let words = c.fitting_words-words in
    λ _. IsCharBoundary-after_ascii c.args.text.now words.result.bytes c.utf8.text words.ensures.within words.ensures.byte

pub returns-clause-ok : goal.returns-clause-ok
returns-clause-ok g c =
    let text = c.args.text.now in
    let n = c.fitting_words-words.result.bytes in
    let none = c.fitting_words-words.ensures.waiting (omega arith) in
    let whole : n - 0 ≡ n = omega arith in
    let words : c.range.result.now ≡ take n text = c.range.ensures.value ∙ ap (λ k. take k text) whole in
    let space : c.from-space.result ≡ get_or text n 0 = c.from-space.ensures ∙ ap (λ t. get_or t n 0) c.as_bytes.ensures.value in
    let put = rw words at c.in_ok-push_text.ensures in
    let new : c.set_pending.new.self ≡ with_words c.args.self.now c.args.style text n =
    c.set_pending.ensures ∙ rw (put, c.character_of.ensures, space) (put-words c.args.self.now c.args.style text n none) in
    rw (new, c.range_from.ensures.value) (ap (λ t. after t (styled c.args.style (chars (drop 1 text))))
    (sym (no-words c.args.self.now c.args.style text c.requires.due)) ∙ c.fitting_words-words.ensures.fed)
