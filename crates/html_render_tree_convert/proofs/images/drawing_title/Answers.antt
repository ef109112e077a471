use Rattle.std.proofs.Common.{◌∙◌}
use Rattle.html_render_tree_convert.proofs.Titles.{title-found}
use Rattle.html_render_tree_convert.proofs.images.drawing_title.Goals as goal

pub returns-in_ok-direct_texts-in-Some : goal.returns-in_ok-direct_texts-in-Some
returns-in_ok-direct_texts-in-Some c =
    c.from.ensures ∙ c.in_ok-direct_texts-in-Some.ensures
    ∙ title-found c.args.dom.now c.args.node c.last_title.result c.in-Some.title c.requires.forest c.in-Some.ensures.node c.in-Some.is
    c.last_title.ensures.title
