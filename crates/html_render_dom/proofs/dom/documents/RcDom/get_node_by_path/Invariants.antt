use Rattle.std.proofs.Common.{◌≡◌, drop}
use Rattle.html_render_dom.specs.Dom.{IsNode}
use Rattle.html_render_dom.specs.Paths.{node_by_path}
use Rattle.html_render_dom.proofs.dom.documents.RcDom.get_node_by_path.Given as goal

abbrev pub invariant-loop-index : goal.invariant-loop-index
invariant-loop-index l = IsNode l.self l.node × (node_by_path l.self 0 l.path ≡ node_by_path l.self l.node (drop l.index-index l.path))
