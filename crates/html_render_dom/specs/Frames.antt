-- The rest of a dump that is being written: for each open node, the children that aren't started, and its end.
use Rattle.std.specs.Prelude.{◌≡◌, ℕ, ◌+◌, ◌-◌, ◌*◌, ◌<◌, ◌≤◌, List, [], ◌∷◌, ◌++◌, All, OnOk, Result, sum_by, drop}
use Rattle.html_render_dom.specs.declared.dom.dump.Frame.{Frame}
use Rattle.html_render_dom_nodes.specs.Content.{Content, element}
use Rattle.html_render_dom_values.specs.Forest.{Forest, count, depth}
use Rattle.html_render_dom.specs.Dom.{Dom, node_count, IsNode, content_at, children_at, trees_of}
use Rattle.html_render_dom.specs.Dump.{dump, end_line}

-- the trees of an open node's children that aren't started
abbrev pub left_of : Dom → Frame → Forest Content
left_of dom f = trees_of dom (drop f.passed (children_at dom f.node))

-- the end of a node whose children have this indent: a line for an element, one space less deep; nothing for others
abbrev pub closing_line : (indent : ℕ) → Content → List ℕ
closing_line indent (element name properties template_contents integration_point) = end_line (indent - 1) name.local
closing_line indent _ = []

-- the rest of the dump of one open node
abbrev pub rest_of : Dom → Frame → List ℕ
rest_of dom f = dump f.indent (left_of dom f) ++ closing_line f.indent (content_at dom f.node)

-- the rest of the dump, from the open nodes; the innermost is the last of the list, and is written first
abbrev pub rest : Dom → List Frame → List ℕ
rest dom [] = []
rest dom (f ∷ fs) = rest dom fs ++ rest_of dom f

-- whether an open node exists, and the indents below it are at most the number of nodes
abbrev pub FrameFits : Dom → Frame → Type 0
FrameFits dom f = IsNode dom f.node × (f.indent + depth (left_of dom f) ≤ node_count dom)

-- an upper bound of the steps that an open node still takes, and of those of all open nodes
abbrev pub steps_of : Dom → Frame → ℕ
steps_of dom f = 1 + 2 * count (left_of dom f)

abbrev pub steps : Dom → List Frame → ℕ
steps dom fs = sum_by (steps_of dom) fs

-- outcome of a start that is written: the text is longer by the dump `wanted`, up to the rest of the open nodes, which exist and take
-- fewer than `most` more steps
pub record Starts {X E : Type 0} (result : Result X E) (dom : Dom) (old new wanted : List ℕ) (frames left : List Frame) (most : ℕ) : Type 0 where
  pub text : OnOk result (new ++ rest dom left ≡ old ++ (wanted ++ rest dom frames))
  pub fit : OnOk result (All (FrameFits dom) left)
  pub fewer : OnOk result (steps dom left < most + steps dom frames)
