use Rattle.std.proofs.Common.{Some, ap, sym, ◌∙◌}
use Rattle.std.proofs.lemmas.Result.{on_ok_weaker}
use Rattle.html_render_tree_convert.specs.KnownElements.{plain_plan}
use Rattle.html_render_tree_convert.specs.Steps.{put, run}
use Rattle.html_render_tree_convert.specs.Visits.{done_at_once}
use Rattle.html_render_tree_convert.proofs.Leaves.{leaf-run}
use Rattle.html_render_tree_convert.proofs.convert.convert_plain.Goals as goal

pub returns-in-Leaf-clause-ok : goal.returns-in-Leaf-clause-ok
returns-in-Leaf-clause-ok c =
    let s = c.args.conversion.now in
    let puts = ap (λ m. run (done_at_once (plain_plan m)) s) c.in-Leaf.is ∙ leaf-run c.in-Leaf.kind s ∙ ap (λ n. Some (put n s)) (sym c.from.ensures) in
    on_ok_weaker c.put.result (λ e. puts ∙ ap Some (sym e)) c.put.ensures
