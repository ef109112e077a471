-- The node at the end of a path. Each number of a path counts the children of a node that are elements, from 1.
use Rattle.std.specs.Prelude.{◌==◌, ℕ, ◌-◌, if◌then◌else◌, List, [], ◌∷◌, filter, slice_get, Option, Some, None, option_and_then}
use Rattle.html_render_dom.specs.Dom.{Dom, content_at, children_at, is_element}

-- the elements among the nodes hs
abbrev pub elements_of : Dom → List ℕ → List ℕ
elements_of dom hs = filter (λ h. is_element (content_at dom h)) hs

-- the child with a number among the children that are elements, from 1; none if there is no such child
abbrev pub nth_child : Dom → ℕ → ℕ → Option ℕ
nth_child dom h index = if index == 0 then None else slice_get (elements_of dom (children_at dom h)) (index - 1)

-- the node at the end of a path from a node; none if a number of the path has no child
abbrev pub node_by_path : Dom → ℕ → List ℕ → Option ℕ
node_by_path dom h [] = Some h
node_by_path dom h (index ∷ path) = option_and_then (λ c. node_by_path dom c path) (nth_child dom h index)
