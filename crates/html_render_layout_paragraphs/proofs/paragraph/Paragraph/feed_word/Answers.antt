use Rattle.std.proofs.Common.{◌≡◌, ◌+◌, get_or, drop, Some, ap, sym, ◌∙◌, arith, option_and_then}
use Rattle.std.proofs.lemmas.List.{drop-drop, get_or-drop}
use Rattle.std.proofs.lemmas.Result.{err_from_is_err_and}
use Rattle.std.specs.Str.{chars}
use Rattle.html_render_dom_values.specs.laws.Outcome.{Refuses-then, Refuses-same}
use Rattle.html_render_layout_paragraphs.specs.Feeding.{placed_text_and_space}
use Rattle.html_render_layout_paragraphs.specs.Stream.{after, styled}
use Rattle.html_render_layout_lines.specs.Character.{character_of}
use Rattle.html_render_layout_paragraphs.proofs.Stretches.{after-word}
use Rattle.html_render_layout_paragraphs.proofs.SpacedWords.{after-placed}
use Rattle.html_render_layout_paragraphs.proofs.paragraph.Paragraph.feed_word.Goals as goal

pub feed_fitting_words-requires-clause-closed : goal.feed_fitting_words-requires-clause-closed
feed_fitting_words-requires-clause-closed g c =
    let placed = after-placed c.args.self.now c.add_word.new.self c.args.style (chars c.range.result.now) c.from-space.result
    c.in_ok-add_word.ensures.ok in
    placed.0 ∙ c.requires.closed

pub feed_fitting_words-requires-clause-word : goal.feed_fitting_words-requires-clause-word
feed_fitting_words-requires-clause-word g c =
    let placed = after-placed c.args.self.now c.add_word.new.self c.args.style (chars c.range.result.now) c.from-space.result
    c.in_ok-add_word.ensures.ok in
    placed.1 ∙ c.requires.word

pub feed_fitting_words-requires-clause-due : goal.feed_fitting_words-requires-clause-due
feed_fitting_words-requires-clause-due g c =
    let text = c.args.text.now in
    let n = c.args.letters.bytes in
    let placed = after-placed c.args.self.now c.add_word.new.self c.args.style (chars c.range.result.now) c.from-space.result
    c.in_ok-add_word.ensures.ok in
    let same : n + 0 ≡ n = omega arith in
    let space : c.from-space.result ≡ get_or c.range_from.result.now 0 0 =
    c.from-space.ensures ∙ ap (λ t. get_or t n 0) c.as_bytes.ensures.value
    ∙ sym (ap (λ t. get_or t 0 0) c.range_from.ensures.value ∙ get_or-drop n text 0 0 ∙ ap (λ k. get_or text k 0) same) in
    placed.2 ∙ ap (λ b. Some (character_of c.args.style b)) space

pub returns-clause-ok : goal.returns-clause-ok
returns-clause-ok g c =
    let text = c.args.text.now in
    let n = c.args.letters.bytes in
    let front = after-word c.args.self.now c.args.style text c.range.result.now n c.args.letters.columns c.utf8.text c.requires.mode c.requires.letters
    c.requires.some c.requires.within c.requires.byte c.requires.space c.requires.closed c.requires.word c.range.ensures.value in
    let space : c.from-space.result ≡ get_or text n 0 = c.from-space.ensures ∙ ap (λ t. get_or t n 0) c.as_bytes.ensures.value in
    let done = rw space at c.in_ok-add_word.ensures.ok in
    let rest : drop (n + 1) text ≡ drop 1 c.range_from.result.now = sym (ap (drop 1) c.range_from.ensures.value ∙ drop-drop 1 n text) in
    front ∙ ap (option_and_then (λ t. after t (styled c.args.style (chars (drop (n + 1) text))))) done
    ∙ ap (λ r. after c.add_word.new.self (styled c.args.style (chars r))) rest ∙ c.in_ok-feed_fitting_words.ensures.ok

pub returns-in_err-add_word-clause-err : goal.returns-in_err-add_word-clause-err
returns-in_err-add_word-clause-err g c =
    let text = c.args.text.now in
    let n = c.args.letters.bytes in
    let front = after-word c.args.self.now c.args.style text c.range.result.now n c.args.letters.columns c.utf8.text c.requires.mode c.requires.letters
    c.requires.some c.requires.within c.requires.byte c.requires.space c.requires.closed c.requires.word c.range.ensures.value in
    let space : c.from-space.result ≡ get_or text n 0 = c.from-space.ensures ∙ ap (λ t. get_or t n 0) c.as_bytes.ensures.value in
    let refused = rw space at c.in_err-add_word.ensures.err in
    let p = err_from_is_err_and c.from_residual.result c.from_residual.ensures.1 in
    rw (p.1, p.2) (Refuses-same _ _ _ front
    (Refuses-then _ (placed_text_and_space c.args.self.now c.args.style (chars c.range.result.now) (get_or text n 0)) _ refused))
