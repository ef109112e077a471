use Rattle.std.proofs.Common.{◌≡◌, ◌++◌, All, string_bytes}
use Rattle.html_render_dom.specs.Dom.{tree_of}
use Rattle.html_render_dom.specs.Dump.{dump}
use Rattle.html_render_dom.specs.Frames.{FrameFits, rest, steps}
use Rattle.html_render_dom.proofs.dom.documents.RcDom.node_as_dom_string.Given as goal

abbrev pub invariant-loop-frame : goal.invariant-loop-frame
invariant-loop-frame l =
    (string_bytes l.text ++ rest l.self l.frames.items ≡ dump 0 (tree_of l.self l.fn.node)) × All (FrameFits l.self) l.frames.items

abbrev pub decreases-loop-frame : goal.decreases-loop-frame
decreases-loop-frame l = steps l.self l.frames.items
