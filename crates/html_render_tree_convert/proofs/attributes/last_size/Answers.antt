use Rattle.std.proofs.Common.{sym, ap, ◌∙◌, unwrap_or}
use Rattle.html_render_tree_convert.specs.Tables.{size_of}
use Rattle.html_render_tree_convert.proofs.Numbers.{size_said, size-last}
use Rattle.html_render_tree_convert.proofs.attributes.last_size.Goals as goal

pub returns-in-Some : goal.returns-in-Some
returns-in-Some c =
    c.size_or_one.ensures ∙ ap (λ t. unwrap_or (size_of t) 1) c.as_str.ensures
    ∙ ap size_said c.in-Some.ensures ∙ sym (size-last c.args.attributes.now c.args.name.now)

pub returns-in-None : goal.returns-in-None
returns-in-None c = ap size_said c.in-None.ensures ∙ sym (size-last c.args.attributes.now c.args.name.now)
