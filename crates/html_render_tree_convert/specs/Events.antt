-- The events of a walk over a document, in which each node that is converted is met once; of a table captions come first, then all
-- others but feet, then feet.
use Rattle.std.specs.Prelude.{true, false, List, [], ◌∷◌, ◌++◌, if◌then◌else◌}
use Rattle.html_render_dom_values.specs.Forest.{Forest, none, node}
use Rattle.html_render_dom_styles.specs.Rules.{Rule as StyleRule}
use Rattle.html_render_dom_nodes.specs.Content.{Content}
use Rattle.html_render_layout_nodes.specs.declared.tree.RenderNode.{RenderNode}
use Rattle.html_render_tree_convert.specs.declared.mapping.ElementKind.{ElementKind}
use Rattle.html_render_tree_convert.specs.declared.mapping.ElementKind.TheVariants.{Part}
use Rattle.html_render_tree_convert.specs.declared.tables.Part.TheVariants as part
use Rattle.html_render_tree_walk.specs.declared.cursor.Pick.{Pick}
use Rattle.html_render_tree_walk.specs.declared.cursor.Pick.TheVariants.{All, Captions, Others, Feet}
use Rattle.html_render_tree_convert.specs.Plans.{plan_of}
use Rattle.html_render_tree_walk.specs.Walk.{picks}
use Rattle.html_render_tree_convert.specs.declared.plans.Element.{Element}
use Rattle.html_render_tree_convert.specs.declared.plans.Plan.{Plan}
use Rattle.html_render_tree_convert.specs.declared.plans.Plan.TheVariants.{Nothing, Alone, Over}

-- Event of a walk:
-- * Put: a node without children;
-- * Open: an element, whose children come next;
-- * Parts: the captions of the innermost open table have all come;
-- * Close: the children of the innermost open element have all come.
pub data Event : Type 0 where
  Put : RenderNode → Event
  Open : Element → Event
  Parts Close : Event

-- events of an element's children; `inside` has those of the children of each pick
abbrev pub children_events : ElementKind → (inside : Pick → List Event) → List Event
children_events (Part part.Table) inside = inside Captions ++ Parts ∷ (inside Others ++ inside Feet)
children_events _ inside = inside All

abbrev pub element_events : Element → (inside : Pick → List Event) → List Event
element_events e inside = Open e ∷ (children_events e.kind inside ++ Close ∷ [])

abbrev pub nothing_inside : Pick → List Event
nothing_inside pick = []

-- events of a node
abbrev pub node_events : Plan → (inside : Pick → List Event) → List Event
node_events Nothing inside = []
node_events (Alone n) inside = Put n ∷ []
node_events (Over e false) inside = element_events e nothing_inside
node_events (Over e true) inside = element_events e inside

-- EVENTS of the trees of a forest that are picked
abbrev pub events : List StyleRule → Forest Content → Pick → List Event
events rules none pick = []
events rules (node content children others) pick =
    (if picks pick content then node_events (plan_of rules content children) (λ p. events rules children p) else [])
    ++ events rules others pick
