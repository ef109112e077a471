use Rattle.std.proofs.Common.{take, subst, sym, ap, ◌∙◌, arith}
use Rattle.std.proofs.lemmas.List.{length-take-le}
use Rattle.html_render_layout_nodes.specs.Depths.{open_at, with_part, Keeps}
use Rattle.html_render_layout_nodes.proofs.Depths.{open-more, open-at-most}
use Rattle.html_render_layout_nodes.proofs.tree.depths.OpenSubtrees.found.Goals as goal

pub add-requires : goal.add-requires
add-requires c =
    let before = c.args.before.now in
    let at = c.loop-at.at in
    omega (
      arith,
      c.loop-at.invariant.depth_is,
      open-at-most c.args.place 0 (take at before),
      length-take-le at before (omega (arith, c.loop-at-test.true)),
      c.loop-at-test.true,
    )

pub loop-at-preserved : goal.loop-at-preserved
loop-at-preserved c =
    let before = c.args.before.now in
    let place = c.args.place in
    let at = c.loop-at.at in
    let e = c.index-before-at.result in
    let ends = open_at place (take at before) in
    subst (Keeps c.add.new.self.depth c.add.new.self.ends.items)
    (ap (λ x. with_part place at x.subtree_len ends) c.index-before-at.is ∙ sym (open-more place at before e c.loop-at-test.true))
    (c.add.ensures ends c.loop-at.invariant)
