-- The steps of the walk over a tree.
use Rattle.html_render_layout_nodes.specs.declared.tree.RenderNode.{RenderNode}
use Rattle.html_render_layout_nodes.proofs.Walking.{How}
use Rattle.html_render_layout_blocks.specs.declared.held.Prefixing.{Prefixing}
use Rattle.html_render_layout.specs.declared.state.OpenNode.{OpenNode}
use Rattle.html_render_layout.specs.declared.state.LayoutState.{LayoutState}
use Rattle.html_render_layout.specs.Layout.{Algebra}
use Rattle.html_render_layout.specs.Opening.{walk_visits, walk_below, walk_opened, walk_closed}
use Rattle.html_render_layout.specs.laws.Opening.{walk-told}

-- opening and closing of nodes by an algebra
abbrev pub how : {S A K T B : Type 0} → (m : Algebra S A K T B) → How RenderNode (LayoutState S K T B) (OpenNode S T (Prefixing B T) B)
how m = record { visits = walk_visits m; below = walk_below m; opened = walk_opened m; closed = walk_closed m; told = walk-told m }
