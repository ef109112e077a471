use Rattle.std.proofs.Common.{rules, ◌∙◌}
use Rattle.std.proofs.lemmas.Int.{to_z-of_z}
use Rattle.std.specs.Int.{w64}
use Rattle.std.specs.Int.RustNames.{FitsSigned}
use Rattle.html_render_tree_convert.proofs.Numbers.{parse-number_of}
use Rattle.html_render_tree_convert.proofs.attributes.number_or_one.Goals as goal

pub returns : goal.returns
returns c =
    let fits : FitsSigned w64 c.unwrap_or.result = search rules in
    to_z-of_z w64 c.unwrap_or.result fits ∙ c.unwrap_or.ensures ∙ parse-number_of c.args.text.now c.parse.result _ c.parse.ensures.value.0
