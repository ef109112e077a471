use Rattle.std.proofs.Common.{map}
use Rattle.std.specs.Prelude.{All}
use Rattle.html_render_dom.specs.RuleIndex.{IsPlain}
use Rattle.html_render_dom_styles.specs.Rules.{rule_of}
use Rattle.html_render_dom.proofs.style.index.RuleIndex.plain_styles.Given as goal

abbrev pub invariant-loop-rule : goal.invariant-loop-rule
invariant-loop-rule l = All (IsPlain (map rule_of l.fn.rules)) l.plain.items
