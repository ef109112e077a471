-- The update that `pre` gives its style is the last one.
use Rattle.html_render_tree_convert.proofs.Styles.{preformatted}
use Rattle.html_render_tree_convert.proofs.mapping.preformat.Goals as goal

pub returns : goal.returns
returns c =
    let is = c.default-no_specificity.ensures in
    preformatted c.args.style.now c.default-no_specificity.result c.maybe_update.new.self
    (λ i. record { inline = is.0 i; id = is.1.0 i; class = is.1.1.0 i; typ = is.1.1.1 i }) c.maybe_update.ensures
