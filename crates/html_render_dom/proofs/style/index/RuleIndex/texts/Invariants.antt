use Rattle.std.proofs.Common.{◌≡◌, ◌++◌, filter, length, map, option_copied}
use Rattle.std.specs.Str.Iter.{split_ascii_whitespace_text}
use Rattle.html_render_dom.specs.RuleIndex.{is_told, texts_of}
use Rattle.html_render_dom_styles.specs.Selectors.{words}
use Rattle.html_render_dom.proofs.style.index.RuleIndex.texts.Given as goal

-- the texts so far and those of the remaining words are the texts of the element
abbrev pub invariant-loop-word : goal.invariant-loop-word
invariant-loop-word l =
    map (λ t. t.now) l.texts.items ++ filter (is_told l.self.keys.items) (words (split_ascii_whitespace_text l.words))
    ≡ filter (is_told l.self.keys.items) (texts_of l.element (option_copied l.id) (option_copied l.classes))

abbrev pub decreases-loop-word : goal.decreases-loop-word
decreases-loop-word l = length (split_ascii_whitespace_text l.words)
