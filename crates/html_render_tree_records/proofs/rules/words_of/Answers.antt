-- Each turn copies one more word.
use Rattle.std.proofs.Common.{◌≡◌, [], ◌∷◌, ◌++◌, append_assoc, ap, sym, ◌∙◌, map, string_bytes}
use Rattle.std.proofs.lemmas.List.{append-nil, map-append}
use Rattle.std.specs.Str.Iter.{split_ascii_whitespace_text}
use Rattle.html_render_dom.proofs.Words.{next_word, no_words}
use Rattle.html_render_dom_styles.specs.Selectors.{words}
use Rattle.html_render_tree_records.proofs.rules.words_of.Goals as goal

pub loop-word-preserved : goal.loop-word-preserved
loop-word-preserved c =
    let steps = c.in-Some.ensures.steps in
    let word = c.in-Some.word.now in
    let rest = split_ascii_whitespace_text c.next.new.self in
    let done = map string_bytes c.loop-word.copies.items in
    let is : words (split_ascii_whitespace_text c.loop-word.words) ≡ word ∷ words rest =
    next_word (split_ascii_whitespace_text c.loop-word.words) steps.3.0 word steps.3.1 rest steps.3.2 steps.3.3 steps.0 steps.1 steps.3.4 in
    ap (λ cs. map string_bytes cs ++ words rest) c.in_ok-push.ensures.items
    ∙ ap (λ cs. cs ++ words rest) (map-append string_bytes c.loop-word.copies.items (c.in_ok-from_str.field-0 ∷ []))
    ∙ ap (λ w. (done ++ w ∷ []) ++ words rest) c.in_ok-from_str.ensures.ok
    ∙ append_assoc done (word ∷ []) (words rest)
    ∙ ap (λ ws. done ++ ws) (sym is)
    ∙ c.loop-word.invariant

pub returns : goal.returns
returns c =
    let done = map string_bytes c.loop-word.copies.items in
    sym (append-nil done)
    ∙ ap (λ ws. done ++ ws) (sym (no_words (split_ascii_whitespace_text c.loop-word.words) c.in_default.ensures.steps.0))
    ∙ c.loop-word.invariant
