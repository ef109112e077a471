-- What comes on a walk over a document's lists of children.
use Rattle.std.specs.Prelude.{ℕ, Bool, true, false, not, ◌&&◌, List, [], ◌∷◌, ◌++◌, codes, drop, filter, map}
use Rattle.std.specs.Str.{bytes_eq}
use Rattle.html_render_dom_nodes.specs.Content.{Content, element, is_html}
use Rattle.html_render_dom.specs.Dom.{Dom, IsNode, children_at, content_at}
use Rattle.html_render_tree_walk.specs.declared.cursor.Pick.{Pick}
use Rattle.html_render_tree_walk.specs.declared.cursor.Pick.TheVariants.{All, Captions, Others, Feet}
use Rattle.html_render_tree_walk.specs.declared.cursor.Position.{Position}
use Rattle.html_render_tree_walk.specs.declared.cursor.Visit.{Visit}
use Rattle.html_render_tree_walk.specs.declared.cursor.Visit.TheVariants.{Node, Parts, Close}

-- whether a node is an element of HTML of this name
abbrev pub is_named : (name : List ℕ) → Content → Bool
is_named wanted (element name properties template_contents integration_point) = is_html name.space && bytes_eq name.local wanted
is_named wanted _ = false

-- whether a child is picked
abbrev pub picks : Pick → Content → Bool
picks All c = true
picks Captions c = is_named (codes "caption") c
picks Others c = not (is_named (codes "caption") c) && not (is_named (codes "tfoot") c)
picks Feet c = is_named (codes "tfoot") c

-- children that are picked
abbrev pub picked : Pick → Dom → List ℕ → List ℕ
picked pick dom children = filter (λ h. picks pick (content_at dom h)) children

-- children at a position that are picked and haven't come
abbrev pub ahead : Dom → Position → List ℕ
ahead dom p = picked p.pick dom (drop p.next (children_at dom p.element))

-- position of an element that was entered just now
abbrev pub entered : (element : ℕ) → Pick → Position
entered h pick = record { element = h; pick = pick; next = 0 }

abbrev pub nodes : List ℕ → List Visit
nodes hs = map (λ h. Node h) hs

-- visits after the children of a pick
abbrev pub after_pick : Pick → Dom → (element : ℕ) → List Visit
after_pick All dom h = Close ∷ []
after_pick Captions dom h = Parts ∷ (nodes (picked Others dom (children_at dom h)) ++ (nodes (picked Feet dom (children_at dom h)) ++ Close ∷ []))
after_pick Others dom h = nodes (picked Feet dom (children_at dom h)) ++ Close ∷ []
after_pick Feet dom h = Close ∷ []

-- what comes at a position
abbrev pub coming_at : Dom → Position → List Visit
coming_at dom p = nodes (ahead dom p) ++ after_pick p.pick dom p.element

-- WHAT COMES on a walk that has entered these elements, the innermost first, and enters no more
abbrev pub coming : Dom → List Position → List Visit
coming dom [] = []
coming dom (p ∷ ps) = nodes (ahead dom p) ++ (after_pick p.pick dom p.element ++ coming dom ps)

-- whether a visit is that of a node of the document, if it is that of a node
abbrev pub IsVisited : Dom → Visit → Type 0
IsVisited dom (Node h) = IsNode dom h
IsVisited dom _ = Unit {0}
