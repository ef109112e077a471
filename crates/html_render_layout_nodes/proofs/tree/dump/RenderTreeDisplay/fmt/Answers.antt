use Rattle.std.proofs.Common.{◌≡◌, ◌+◌, ◌-◌, ◌++◌, [], take, length, subst, sym, ap, ◌∙◌, arith, rules, append_assoc}
use Rattle.std.proofs.Output.{has_written_append}
use Rattle.std.proofs.lemmas.List.{length-take-le}
use Rattle.html_render_layout_nodes.specs.Depths.{open_at, with_part, Keeps}
use Rattle.html_render_layout_nodes.specs.Dump.{tree_dump, tree_line}
use Rattle.html_render_layout_nodes.specs.Kinds.{kind_name}
use Rattle.html_render_layout_nodes.proofs.Depths.{left-open-whole, lines, lines-more, lines-whole, open-at-most, open-more}
use Rattle.html_render_layout_nodes.proofs.tree.dump.RenderTreeDisplay.fmt.Goals as goal

pub loop-place-init : goal.loop-place-init
loop-place-init g c = record {
  written = λ p. (
    [],
    search rules,
    ap (lines []) c.entries-entries.ensures
        ∙ lines-whole c.self.inside.nodes (omega (arith, ap length c.entries-entries.ensures, c.entries-entries.type_inv))
        ∙ ap (tree_dump 0) c.self.view_is,
  );
  kept = c.none-open.ensures;
}

pub leave-requires-clause-nested : goal.leave-requires-clause-nested
leave-requires-clause-nested g c =
    left-open-whole c.self.inside.nodes c.entries-entries.result.now c.loop-place.place c.entries-entries.ensures
    (omega (arith, c.loop-place-test.true)) (omega (arith, c.entries-entries.type_inv))

pub add-requires : goal.add-requires
add-requires g c =
    let items = c.entries-entries.result.now in
    let place = c.loop-place.place in
    omega (
      arith,
      c.leave.ensures.depth_is,
      open-at-most place 0 (take place items),
      length-take-le place items (omega (arith, c.loop-place-test.true)),
      c.loop-place-test.true,
      c.entries-entries.type_inv,
    )

pub loop-place-preserved : goal.loop-place-preserved
loop-place-preserved g c =
    let items = c.entries-entries.result.now in
    let place = c.loop-place.place in
    let e = c.index-entries-place.result in
    let depth = c.leave.new.self.depth in
    let ends = open_at place (take place items) in
    let same : place ≡ place + 1 - 1 = omega arith in record {
      written = λ p. let before = c.loop-place.invariant.written p in
          let piece = tree_line depth (kind_name e.node.kind) in (
            before.0 ++ piece,
            has_written_append _ _ _ _ _ _ before.1 (search rules),
            append_assoc before.0 piece _
                ∙ ap (λ l. before.0 ++ l)
                (sym (lines-more items place depth e c.loop-place-test.true c.index-entries-place.is c.leave.ensures.depth_is))
                ∙ before.2,
          );
      kept = subst (Keeps c.add.new.self.depth c.add.new.self.ends.items)
          (ap (λ x. with_part place place x.subtree_len ends) c.index-entries-place.is
          ∙ sym (open-more place place items e c.loop-place-test.true)
          ∙ ap (λ q. open_at q (take (place + 1) items)) same)
          (c.add.ensures ends c.leave.ensures);
    }
