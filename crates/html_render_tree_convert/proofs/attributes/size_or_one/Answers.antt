use Rattle.std.proofs.Common.{◌∙◌}
use Rattle.html_render_tree_convert.proofs.Numbers.{parse-size_of}
use Rattle.html_render_tree_convert.proofs.attributes.size_or_one.Goals as goal

pub returns : goal.returns
returns c = c.unwrap_or.ensures ∙ parse-size_of c.args.text.now c.parse.result _ c.parse.ensures.value.0
