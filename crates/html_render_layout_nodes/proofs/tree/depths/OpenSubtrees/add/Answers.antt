use Rattle.std.proofs.Common.{◌≡◌, ◌∷◌, ◌+◌, subst, sym, ap, ◌∙◌, arith}
use Rattle.html_render_layout_nodes.specs.Depths.{end_of, Keeps}
use Rattle.html_render_layout_nodes.proofs.Depths.{keeps-more, with-open}
use Rattle.html_render_layout_nodes.proofs.tree.depths.OpenSubtrees.add.Goals as goal

pub returns-then-place-end : goal.returns-then-place-end
returns-then-place-end c = λ ends k.
    let own = c.args.self.now in
    let end = c.saturating_add-end.result in
    let is : end ≡ end_of c.args.at c.args.size = c.saturating_add-end.ensures in
    let kept = keeps-more own.depth own.ends.items c.keep.new.ends.items ends end k c.keep.ensures.fits c.keep.ensures.room c.keep.ensures.full in
    subst (Keeps (own.depth + 1) c.keep.new.ends.items)
    (ap (λ e. e ∷ ends) is ∙ sym (with-open c.args.place c.args.at c.args.size ends (omega (arith, is, c.if-place-end.true)))) kept
