use Rattle.std.proofs.Common.{map, is_some, sym, ap, ◌∙◌}
use Rattle.html_render_dom_styles.specs.Rules.{rule_of}
use Rattle.html_render_tree_convert.specs.KnownElements.{known_style}
use Rattle.html_render_tree_convert.proofs.Styles.{styled}
use Rattle.html_render_tree_convert.proofs.plans.known_name.Goals as goal

pub returns-in-Parent : goal.returns-in-Parent
returns-in-Parent c =
    styled (map rule_of c.args.rules.now) c.args.name.now c.in-Parent.kind c.in-Parent.if_empty
    (known_style c.in_ok-style.style) (sym c.is_mapped_apart.ensures ∙ c.if-is_mapped_apart.false)
    (sym c.is.ensures ∙ c.if-is.false) c.in_ok-style.ensures.style (ap is_some c.in_ok-style.ensures.displayed)
    (sym c.html_mapping.ensures ∙ c.in-Parent.is)
