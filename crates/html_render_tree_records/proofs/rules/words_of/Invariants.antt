use Rattle.std.proofs.Common.{◌≡◌, ◌++◌, length, map, string_bytes}
use Rattle.std.specs.Str.Iter.{split_ascii_whitespace_text}
use Rattle.html_render_dom_styles.specs.Selectors.{words}
use Rattle.html_render_tree_records.proofs.rules.words_of.Given as goal

-- the copied words and those that remain are all
abbrev pub invariant-loop-word : goal.invariant-loop-word
invariant-loop-word l = map string_bytes l.copies.items ++ words (split_ascii_whitespace_text l.words) ≡ words l.text

abbrev pub decreases-loop-word : goal.decreases-loop-word
decreases-loop-word l = length (split_ascii_whitespace_text l.words)
