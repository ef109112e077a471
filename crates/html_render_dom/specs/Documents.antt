-- The document that is the value of an `RcDom`.
use Rattle.std.specs.Prelude.{map, string_bytes}
use Rattle.html_render_dom.specs.declared.dom.documents.RcDom.TheInside.{Inside}
use Rattle.html_render_dom.specs.Dom.{Dom}
use Rattle.html_render_dom_nodes.specs.Nodes.{nodes_of}

abbrev pub dom_of : Inside → Dom
dom_of d = record { nodes = nodes_of d.nodes.items; messages = map string_bytes d.errors.items; mode = d.quirks_mode }
