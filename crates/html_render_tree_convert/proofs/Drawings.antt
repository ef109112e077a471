-- The texts of a title and the title of a drawing, child by child.
use Rattle.std.proofs.Common.{◌≡◌, if◌then◌else◌, ◌++◌, refl}
use Rattle.html_render_dom_nodes.specs.Content.{Content, element, text}
use Rattle.html_render_dom.specs.Dom.{is_element}
use Rattle.html_render_dom_values.specs.Forest.{Forest, node}
use Rattle.html_render_tree_convert.specs.Images.{direct_texts, in_last_title}
use Rattle.html_render_tree_convert.specs.Drawings.{is_title_node, text_in}

pub direct_texts-child : (content : Content) (below beside : Forest Content) →
    direct_texts (node content below beside) ≡ text_in content ++ direct_texts beside
direct_texts-child (text contents) below beside = refl
direct_texts-child content below beside = refl

pub in_last_title-child : (found : Forest Content) (content : Content) (below beside : Forest Content) →
    in_last_title found (node content below beside)
    ≡ (if is_title_node content then in_last_title below beside else if is_element content then found else in_last_title found beside)
in_last_title-child found (element name properties template_contents integration_point) below beside = refl
in_last_title-child found content below beside = refl

pub ruleset children = (direct_texts-child, in_last_title-child)
