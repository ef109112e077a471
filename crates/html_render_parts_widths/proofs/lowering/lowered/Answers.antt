use Rattle.std.proofs.Common.{◌≡◌, ◌<◌, ℕ, List, refl, arith, ap, ◌∙◌, get_or, length, take}
use Rattle.std.proofs.lemmas.List.{length-take}
use Rattle.std.proofs.lemmas.Grind.{get_or_default_zero}
use Rattle.html_render_parts_widths.proofs.CutLowering.{none-lowered}
use Rattle.html_render_parts_widths.proofs.CutColumns.{lowering-next, lowering-more, lowering-whole}
use Rattle.html_render_parts_widths.proofs.lowering.lowered.Goals as goal

read : (xs : List ℕ) (i x : ℕ) → i < length xs → x ≡ get_or xs i x → x ≡ get_or xs i 0
read xs i x inside is = is ∙ get_or_default_zero xs i x inside

pub loop-column-init : goal.loop-column-init
loop-column-init c = record {
  columns = c.in_ok-columns.columns.items;
  order = c.in_ok-columns.ensures.places;
  prefix = ap (λ xs. take c.args.count xs) c.deref.ensures.value;
  so_far = none-lowered _ _ _ _ _;
}

pub index_mut-requires : goal.index_mut-requires
index_mut-requires c =
    let t = lowering-next _ _ _ _ _ _ _ _ c.requires.widths c.requires.full c.requires.above c.loop-column.invariant
    c.loop-column-test.true in
    omega (arith, t.inside, c.loop-column.widths.ok.0)

pub overflow_sub-index_mut : goal.overflow_sub-index_mut
overflow_sub-index_mut c =
    let t = lowering-next _ _ _ _ _ _ _ _ c.requires.widths c.requires.full c.requires.above c.loop-column.invariant
    c.loop-column-test.true in
    omega (arith, t.some, t.inside, read _ _ _ t.inside c.index_mut.ensures.value)

pub loop-column-preserved : goal.loop-column-preserved
loop-column-preserved c =
    let t = lowering-next _ _ _ _ _ _ _ _ c.requires.widths c.requires.full c.requires.above c.loop-column.invariant
    c.loop-column-test.true in
    rw (read _ _ _ t.inside c.index_mut.ensures.value)
    (lowering-more _ _ _ _ _ _ _ _ c.requires.widths c.requires.full c.requires.above c.loop-column.invariant c.loop-column-test.true _
    refl)

pub returns : goal.returns
returns c =
    let l = length-take c.args.count c.deref.result.now in
    let n : length c.deref.result.now ≡ length c.in_ok-columns.columns.items = ap length c.deref.ensures.value in
    let many = c.in_ok-columns.ensures.count c.requires.above in
    let enough = c.requires.enough in
    lowering-whole _ _ _ _ _ _ _ _ c.loop-column.invariant (omega arith)
