-- A node without children that opens and closes is put.
use Rattle.std.proofs.Common.{◌≡◌, false, [], ◌∷◌, length, None, Some, option_map, ap₂, ◌∙◌}
use Rattle.std.proofs.Math.Seq.{take-append_seam, drop-append_seam}
use Rattle.html_render_dom.specs.Applying.{style_by}
use Rattle.html_render_layout_nodes.specs.RenderNodes.{without_style}
use Rattle.html_render_layout_nodes.specs.declared.tree.NodeKind.{NodeKind}
use Rattle.html_render_tree_convert.specs.declared.elements.OpenKind.TheVariants as open_kind
use Rattle.html_render_tree_convert.specs.declared.mapping.ElementKind.TheVariants as element
use Rattle.html_render_tree_convert.specs.declared.mapping.IfEmpty.TheVariants.{Stands}
use Rattle.html_render_tree_convert.specs.declared.mapping.Mapping.TheVariants.{Leaf}
use Rattle.html_render_tree_convert.specs.Held.{leaf, nothing_held}
use Rattle.html_render_tree_convert.specs.Keeping.{keeping_of}
use Rattle.html_render_tree_convert.specs.KnownElements.{plain_plan}
use Rattle.html_render_tree_convert.specs.OpenElements.{State, created, outside}
use Rattle.html_render_tree_convert.specs.Plans.{element_of}
use Rattle.html_render_tree_convert.specs.Steps.{closed, come, left_by, opened, put, run}
use Rattle.html_render_tree_convert.specs.Visits.{done_at_once}
use Rattle.html_render_tree_convert.proofs.VisitRuns.{alone-run}

-- it closes as it opened
leaf-closes : (kind : NodeKind) (s : State) →
    closed (opened (element_of (element.Node kind) Stands None (style_by [])) s) ≡ Some (put (without_style kind) s)
unfolding opened
leaf-closes kind s =
    let own = leaf (without_style kind) ∷ [] in
    let o = record (created (open_kind.Node (keeping_of kind)) nothing_held Stands false) { start = length s.tree } in
    ap₂ (λ below es. option_map (outside s.outer) (option_map (λ c. come c (record { element = s.element; tree = below })) (left_by o es)))
    (take-append_seam s.tree own) (drop-append_seam s.tree own)

pub leaf-run : (kind : NodeKind) (s : State) → run (done_at_once (plain_plan (Leaf kind))) s ≡ Some (put (without_style kind) s)
leaf-run kind s =
    alone-run (element.Node kind) (opened (element_of (element.Node kind) Stands None (style_by [])) s) ∙ leaf-closes kind s
