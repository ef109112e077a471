use Rattle.std.proofs.Common.{rules, nat_lt}
use Rattle.std.proofs.lemmas.Fn.{filter_same}
use Rattle.html_render_parts.specs.Placement.{end_of}
use Rattle.html_render_parts.proofs.table.placement.keep_later.Goals as goal

pub returns : goal.returns
returns c = filter_same _ (λ x. nat_lt (end_of c.args.first) (end_of x)) _ (λ x b f' k. search rules) _ _ c.retain.ensures.filtered
