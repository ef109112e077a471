-- The title of a drawing, where one of its titles is found.
use Rattle.std.proofs.Common.{◌≡◌, ℕ, Option, Some, option_map, unwrap_or, sym, ap, ◌∙◌}
use Rattle.html_render_dom.specs.Dom.{Dom, IsForest, IsNode, below, children_at, node_count, trees_of}
use Rattle.html_render_dom_values.specs.Forest.{none}
use Rattle.html_render_dom.specs.laws.Trees.{below-children}
use Rattle.html_render_tree_convert.specs.Images.{direct_texts, in_last_title, drawing_title}

pub title-found : (dom : Dom) (drawing : ℕ) (found : Option ℕ) (title : ℕ) → IsForest dom → IsNode dom title → found ≡ Some title →
    unwrap_or (option_map (below (node_count dom) dom) found) none ≡ in_last_title none (trees_of dom (children_at dom drawing)) →
    direct_texts (trees_of dom (children_at dom title)) ≡ drawing_title (trees_of dom (children_at dom drawing))
title-found dom drawing found title f at is found_is =
    ap direct_texts (sym (below-children dom f title at))
    ∙ ap (λ o. direct_texts (unwrap_or (option_map (below (node_count dom) dom) o) none)) (sym is)
    ∙ ap direct_texts found_is
