use Rattle.std.proofs.Common.{◌≡◌, sym, ◌∙◌, ap}
use Rattle.html_render_parts.specs.laws.Refusal.{Makes-same}
use Rattle.html_render_tree_convert.specs.Events.{element_events, nothing_inside}
use Rattle.html_render_tree_convert.specs.Steps.{closed, run}
use Rattle.html_render_tree_convert.specs.Visits.{first_pick}
use Rattle.html_render_tree_convert.proofs.VisitRuns.{alone-run, before_end, unparted}
use Rattle.html_render_tree_convert.proofs.convert.convert_alone.Goals as goal
use Rattle.html_render_tree_convert.proofs.convert.convert_alone.Goals.{After-close, in-Captions+in_ok-part, in_default}

-- what closes
runs : (c : After-close) → run (element_events c.args.element nothing_inside) c.args.conversion.now ≡ closed c.match-pick.conversion
runs c =
    let cs = c.open.new.self in
    alone-run c.args.element.kind _ ∙ ap (λ ds. closed (before_end (first_pick c.args.element.kind) ds)) (sym c.in_ok-open.ensures)
    ∙ ap (λ pick. closed (before_end pick cs)) (sym c.first_pick-pick.ensures) ∙ ap closed (elim c.match-pick.branch [
      | in-Captions+in_ok-part w ↦ ap (λ pick. before_end pick cs) w.in-Captions.is ∙ sym w.in_ok-part.ensures ∙ sym w.conversion-is
      | in_default w ↦ unparted c.first_pick-pick.result cs w.in_default.not-Captions ∙ sym w.conversion-is
    ])

pub returns : goal.returns
returns c = Makes-same c.close.result _ _ _ (runs c) c.close.ensures
