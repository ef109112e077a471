use Rattle.std.proofs.Common.{◌≡◌, ◌++◌, ◌∷◌, [], get_or, take, ◌+◌, rules, arith, refl}
use Rattle.std.proofs.lemmas.List.{take_all}
use Rattle.html_render_parts_widths.specs.LevelForm.{ranges}
use Rattle.html_render_parts_widths.specs.laws.Cuts.{length-ranges}
use Rattle.html_render_parts_widths.proofs.CutColumns.{column-pushed, column-skipped}
use Rattle.html_render_parts_widths.proofs.lowering.columns_at_level.Goals as goal
use Rattle.html_render_parts_widths.proofs.lowering.columns_at_level.Goals.{then-shares-place+in_ok-push, else-shares-place}

pub loop-place-preserved : goal.loop-place-preserved
loop-place-preserved c = elim c.if-shares-place.branch [
  | then-shares-place+in_ok-push w ↦
      let e : c.if-shares-place.columns.items
      ≡ c.loop-place.columns.items ++ record {
        width = record { 0 = get_or c.args.minimums.now c.loop-place.place 0 + c.args.level };
        place = c.loop-place.place;
      } ∷ [] = search rules in
      column-pushed c.args.minimums.now c.args.shares.now c.args.level c.loop-place.place c.loop-place.columns.items
      c.if-shares-place.columns.items _ c.requires.columns.lengths (omega arith) c.loop-place.invariant (omega arith) refl refl e
  | else-shares-place w ↦ rw w.columns-is
      (column-skipped c.args.minimums.now c.args.shares.now c.args.level c.loop-place.place c.loop-place.columns.items
      c.requires.columns.lengths (omega arith) c.loop-place.invariant (omega arith))
]

pub returns-clause-count : goal.returns-clause-count
returns-clause-count c = λ pos.
    let rs = ranges c.args.minimums.now c.args.shares.now in
    let h = c.loop-place.invariant.count pos in
    let all : take c.loop-place.place rs ≡ rs =
    take_all c.loop-place.place rs (let l = length-ranges c.args.minimums.now c.args.shares.now c.requires.columns.lengths in
    omega arith) in
    rw all at h
