use Rattle.std.proofs.Common.{refl, sym, ap, ◌∙◌, arith}
use Rattle.html_render_layout_nodes.specs.Preorder.{flatten, forest_of}
use Rattle.html_render_layout_estimates.specs.Passes.{with_needs}
use Rattle.html_render_layout_estimates.proofs.Again.{after, found_table, noted, noted_estimate, sized_table, after_all}
use Rattle.html_render_layout_estimates.proofs.Backward.{Backward-start, Backward-at, Backward-done, Next-here, Next-part, Next-done}
use Rattle.html_render_layout_estimates.proofs.estimate.measure_nodes.Goals as goal

pub loop-at-init : goal.loop-at-init
loop-at-init g c =
    Backward-start (sym c.requires) (omega (arith, c.len-at.ensures, c.args.entries.now.ok.0)) (omega (arith, c.len-at.ensures, c.args.entries.now.ok.0))

pub overflow_add-below-in-loop-at : goal.overflow_add-below-in-loop-at
overflow_add-below-in-loop-at g c =
    let f = Backward-at c.loop-at.invariant c.loop-at-test.true c.as_slice-all.ensures.value c.index-all-at.is in
    omega (arith, f.end, c.loop-at.entries.ok.0)

pub slice_bounds-below-count : goal.slice_bounds-below-count
slice_bounds-below-count g c =
    let f = Backward-at c.loop-at.invariant c.loop-at-test.true c.as_slice-all.ensures.value c.index-all-at.is in
    omega (arith, f.subtree_len)

pub slice_bounds-below-start : goal.slice_bounds-below-start
slice_bounds-below-start g c =
    let f = Backward-at c.loop-at.invariant c.loop-at-test.true c.as_slice-all.ensures.value c.index-all-at.is in
    omega (arith, f.subtree_len)

pub slice_bounds-below-end : goal.slice_bounds-below-end
slice_bounds-below-end g c =
    let f = Backward-at c.loop-at.invariant c.loop-at-test.true c.as_slice-all.ensures.value c.index-all-at.is in
    omega (arith, f.end, c.as_slice-all.ensures.len, c.loop-at.entries.ok.0)

pub table_measure-requires-clause-kept : goal.table_measure-requires-clause-kept
table_measure-requires-clause-kept g c =
    let f = Backward-at c.loop-at.invariant c.loop-at-test.true c.as_slice-all.ensures.value c.index-all-at.is in
    (Next-part f c.as_slice-all.ensures.value (omega arith)).kept

pub estimate_of-requires : goal.estimate_of-requires
estimate_of-requires g c =
    let f = Backward-at c.loop-at.invariant c.loop-at-test.true c.as_slice-all.ensures.value c.index-all-at.is in
    (Next-part f c.as_slice-all.ensures.value (omega arith)).kept

pub loop-at-preserved-then-is_table : goal.loop-at-preserved-then-is_table
loop-at-preserved-then-is_table g c =
    let e = c.index-all-at.result in
    let f = Backward-at c.loop-at.invariant c.loop-at-test.true c.as_slice-all.ensures.value c.index-all-at.is in
    let m = c.in_ok-measure.measure in
    let sized = c.any_table-with_sizes.result in
    let all = found_table g.D.TextDecorator.decoration c.args.decorator.now c.args.settings.now sized _ _ _ _ f
    (rw c.deref.ensures.value at c.any_table-with_sizes.ensures) (sym c.is_table.ensures ∙ c.if-is_table.true) in
    let there = Next-here f c.as_slice-all.ensures.value c.index-all-at.is c.index_mut.ensures.value in
    let is = noted g.D.TextDecorator.decoration c.args.decorator.now c.args.settings.now sized e.node m.needs.items m.estimate _
    c.in_ok-measure.ensures.needs (c.in_ok-measure.ensures.estimate ∙ sym (sized_table sized _ all)) in
    rw (c.note.ensures, ← there)
    (Next-done f c.as_slice-all.ensures.value (omega arith) (λ n. record n { kind = with_needs m.needs.items n.kind; estimate = m.estimate }) _ refl refl is is)

pub loop-at-preserved : goal.loop-at-preserved
loop-at-preserved g c =
    let e = c.index-all-at.result in
    let f = Backward-at c.loop-at.invariant c.loop-at-test.true c.as_slice-all.ensures.value c.index-all-at.is in
    let estimate = c.in_ok-estimate.estimate in
    let plain = sym c.is_table.ensures ∙ c.if-is_table.false in
    let there = Next-here f c.as_slice-all.ensures.value c.index-all-at.is c.index_mut-else-is_table.ensures.value in
    let is = noted_estimate g.D.TextDecorator.decoration c.args.decorator.now c.args.settings.now c.any_table-with_sizes.result e.node estimate _
    plain (c.in_ok-estimate.ensures.ok plain) in
    rw (c.set_estimate.ensures, ← there)
    (Next-done f c.as_slice-all.ensures.value (omega arith) (λ n. record n { estimate = estimate }) _ refl refl is is)

pub returns-clause-ok : goal.returns-clause-ok
returns-clause-ok g c =
    let t = forest_of c.args.entries.now.items in
    (Backward-done c.loop-at.invariant (omega arith)).1
    ∙ ap (λ b. flatten (after g.D.TextDecorator.decoration c.args.decorator.now c.args.settings.now b t))
    (rw c.deref.ensures.value at c.any_table-with_sizes.ensures)
    ∙ ap flatten (after_all g.D.TextDecorator.decoration c.args.decorator.now c.args.settings.now t)
