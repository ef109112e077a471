use Rattle.std.proofs.Common.{◌≡◌, ◌++◌, take}
use Rattle.std.specs.List.{flat_map}
use Rattle.html_render_dom.specs.RuleIndex.{numbers_under}
use Rattle.html_render_dom.proofs.style.index.RuleIndex.numbers.Given as goal

abbrev pub invariant-loop-text : goal.invariant-loop-text
invariant-loop-text l = l.numbers.items ≡ l.self.general.items ++ flat_map (λ t. numbers_under l.self t.now) (take l.text-index l.text-items)
