use Rattle.std.proofs.Common.{map}
use Rattle.html_render_dom_styles.specs.Rules.{rule_of}
use Rattle.html_render_dom.proofs.RuleIndex.{HasFirst}
use Rattle.html_render_dom.proofs.style.index.RuleIndex.without_styles.Given as goal

abbrev pub invariant-loop-number : goal.invariant-loop-number
invariant-loop-number l = HasFirst l.index (map rule_of l.rules) l.number
