use Rattle.std.proofs.Common.{rules, sym}
use Rattle.html_render_tree_convert.proofs.Styles.{not_displayed}
use Rattle.html_render_tree_convert.proofs.plans.styled_plan.Goals as goal

pub returns-then-is_some : goal.returns-then-is_some
returns-then-is_some c = sym (not_displayed c.args.mapping c.args.mark c.args.style.now (search rules))
