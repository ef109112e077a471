use Rattle.std.proofs.Common.{◌≡◌, drop, map}
use Rattle.std.specs.Prelude.{fold}
use Rattle.html_render_dom_nodes.specs.Content.{property_of}
use Rattle.html_render_tree_convert.specs.Images.{read, image_parts}
use Rattle.html_render_tree_convert.proofs.images.image_parts.Given as goal

abbrev pub invariant-loop-attribute : goal.invariant-loop-attribute
invariant-loop-attribute l =
    (fold read (record { source = l.source; title = l.title }) (map property_of (drop l.attribute-index l.attributes))
    ≡ image_parts (map property_of l.attributes))
