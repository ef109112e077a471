use Rattle.std.proofs.Common.{rules}
use Rattle.html_render_dom.specs.laws.Forests.{IsForest-empty}
use Rattle.html_render_dom.proofs.dom.documents.RcDom.new.Goals as goal

pub invariant_of-result : goal.invariant_of-result
invariant_of-result c = IsForest-empty _ (search rules)
