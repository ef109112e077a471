-- The events of visits, and the nodes that a walk visits.
use Rattle.std.specs.Prelude.{ℕ, zero, suc, true, false, List, [], ◌∷◌, ◌++◌, flat_map}
use Rattle.html_render_dom.specs.Dom.{Dom, children_at, content_at, trees_of}
use Rattle.html_render_dom_styles.specs.Rules.{Rule as StyleRule}
use Rattle.html_render_tree_convert.specs.declared.mapping.ElementKind.{ElementKind}
use Rattle.html_render_tree_convert.specs.declared.mapping.ElementKind.TheVariants.{Part}
use Rattle.html_render_tree_convert.specs.declared.tables.Part.TheVariants as part
use Rattle.html_render_tree_convert.specs.Events.{Event, Put, Open, element_events, events, node_events, nothing_inside}
use Rattle.html_render_tree_walk.specs.Walk.{coming, entered}
use Rattle.html_render_tree_convert.specs.Events as event
use Rattle.html_render_tree_convert.specs.Plans.{plan_at, plan_of}
use Rattle.html_render_tree_convert.specs.declared.plans.Plan.{Plan}
use Rattle.html_render_tree_convert.specs.declared.plans.Plan.TheVariants.{Nothing, Alone, Over}
use Rattle.html_render_tree_walk.specs.declared.cursor.Pick.{Pick}
use Rattle.html_render_tree_walk.specs.declared.cursor.Pick.TheVariants.{All, Captions}
use Rattle.html_render_tree_walk.specs.declared.cursor.Position.{Position}
use Rattle.html_render_tree_walk.specs.declared.cursor.Visit.{Visit}
use Rattle.html_render_tree_walk.specs.declared.cursor.Visit.TheVariants.{Node, Parts, Close}

-- events of a visit, if the walk enters each element whose children are converted
abbrev pub visit_events : List StyleRule → Dom → Visit → List Event
visit_events rules dom (Node h) =
    let t = trees_of dom (children_at dom h) in
    node_events (plan_of rules (content_at dom h) t) (λ pick. events rules t pick)
visit_events rules dom Parts = event.Parts ∷ []
visit_events rules dom Close = event.Close ∷ []

abbrev pub visits_events : List StyleRule → Dom → List Visit → List Event
visits_events rules dom visits = flat_map (visit_events rules dom) visits

-- children that come first in an element
abbrev pub first_pick : ElementKind → Pick
first_pick (Part part.Table) = Captions
first_pick _ = All

-- ---- nodes that are visited

-- events of a plan that are done at once; those of an element's children, if these are converted, and its end still come
abbrev pub done_at_once : Plan → List Event
done_at_once Nothing = []
done_at_once (Alone n) = Put n ∷ []
done_at_once (Over e false) = element_events e nothing_inside
done_at_once (Over e true) = Open e ∷ []

-- positions of a walk at a node of a plan: it enters an element whose children are converted
abbrev pub followed : Plan → (node : ℕ) → List Position → List Position
followed (Over e true) h ps = entered h (first_pick e.kind) ∷ ps
followed _ h ps = ps

-- visits that a node's own visit adds, in front of those that come
abbrev pub added_visits : List StyleRule → Dom → (node : ℕ) → List Visit
added_visits rules dom h = coming dom (followed (plan_at rules dom h) h [])

-- NODES that the next `n` visits meet, where these visits come
abbrev pub visited : (n : ℕ) → List StyleRule → Dom → List Visit → List ℕ
visited zero rules dom vs = []
visited (suc n) rules dom [] = []
visited (suc n) rules dom (Node h ∷ vs) = h ∷ visited n rules dom (added_visits rules dom h ++ vs)
visited (suc n) rules dom (v ∷ vs) = visited n rules dom vs
