-- Each iteration of the loop adds the next word of the classes.
use Rattle.std.proofs.Common.{◌≡◌, [], ◌∷◌, ◌++◌, append_assoc, ap, sym, ◌∙◌, filter, map}
use Rattle.std.proofs.lemmas.List.{append-nil}
use Rattle.std.proofs.lemmas.List.Elements.{filter-append}
use Rattle.std.specs.Str.Iter.{split_ascii_whitespace_text}
use Rattle.html_render_dom.specs.RuleIndex.{is_told}
use Rattle.html_render_dom_styles.specs.Selectors.{words}
use Rattle.html_render_dom.proofs.Words.{next_word, no_words}
use Rattle.html_render_dom.proofs.style.index.RuleIndex.texts.Goals as goal

pub loop-word-preserved : goal.loop-word-preserved
loop-word-preserved c =
    let told = is_told c.args.self.now.keys.items in
    let steps = c.in-Some-next.ensures.steps in
    let word = c.in-Some-next.word.now in
    let rest = split_ascii_whitespace_text c.next.new.self in
    let done = map (λ t. t.now) c.loop-word.texts.items in
    let is : words (split_ascii_whitespace_text c.loop-word.words) ≡ word ∷ words rest =
    next_word (split_ascii_whitespace_text c.loop-word.words) steps.3.0 word steps.3.1 rest steps.3.2 steps.3.3 steps.0 steps.1 steps.3.4 in
    ap (λ ts. ts ++ filter told (words rest)) c.in_ok-add_told-3.ensures
    ∙ append_assoc done (filter told (word ∷ [])) (filter told (words rest))
    ∙ ap (λ ts. done ++ ts) (sym (filter-append told (word ∷ []) (words rest)))
    ∙ ap (λ ws. done ++ filter told ws) (sym is)
    ∙ c.loop-word.invariant

pub returns : goal.returns
returns c =
    let done = map (λ t. t.now) c.loop-word.texts.items in
    sym (append-nil done)
    ∙ ap (λ ws. done ++ filter (is_told c.args.self.now.keys.items) ws)
    (sym (no_words (split_ascii_whitespace_text c.loop-word.words) c.in_default-next.ensures.steps.0))
    ∙ c.loop-word.invariant
