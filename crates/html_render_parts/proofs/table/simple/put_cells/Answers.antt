use Rattle.std.proofs.Common.{ℕ, List, ◌+◌, ◌^◌, ◌<◌, ◌++◌, ◌∷◌, [], All, drop, get_or, length, sym, ap, ◌∙◌, subst, append_assoc, arith}
use Rattle.std.proofs.lemmas.List.{drop_more}
use Rattle.std.proofs.lemmas.List.Elements.{All-head, All-tail}
use Rattle.html_render_parts.specs.declared.table.Span.{Span}
use Rattle.html_render_parts.specs.PlacementSteps.{row_told}
use Rattle.html_render_parts.specs.SimpleRows.{cells_from}
use Rattle.html_render_parts.proofs.table.simple.put_cells.Goals as goal

next-fits : (ss : List Span) (i cursor : ℕ) → i < length ss → All (λ n. n < 2 ^ 128) (row_told cursor [] (drop i ss)) →
    cursor + (get_or ss i (record { colspan = 0; rowspan = 0 })).colspan < 2 ^ 128
next-fits ss i cursor h all =
    let next = cursor + (get_or ss i (record { colspan = 0; rowspan = 0 })).colspan in
    All-head (λ n. n < 2 ^ 128) next (row_told next [] (drop (i + 1) ss))
    (subst (λ r. All (λ n. n < 2 ^ 128) (row_told cursor [] r)) (drop_more ss i (record { colspan = 0; rowspan = 0 }) h) all)

pub cell_at-cell-requires-clause-fits : goal.cell_at-cell-requires-clause-fits
cell_at-cell-requires-clause-fits c = next-fits c.args.cells.now c.loop-span.span-index c.loop-span.cursor (omega arith) c.loop-span.invariant.fits

pub overflow_add-cursor : goal.overflow_add-cursor
overflow_add-cursor c =
    let fits = next-fits c.args.cells.now c.loop-span.span-index c.loop-span.cursor (omega arith) c.loop-span.invariant.fits in
    omega arith

pub loop-span-preserved : goal.loop-span-preserved
loop-span-preserved c =
    let ss = c.args.cells.now in
    let es = c.args.edges.now in
    let i = c.loop-span.span-index in
    let s = get_or ss i (record { colspan = 0; rowspan = 0 }) in
    let next = c.loop-span.cursor + s.colspan in
    let row = c.loop-span.row.items in
    let rest = cells_from es next (drop (i + 1) ss) in
    let split = drop_more ss i (record { colspan = 0; rowspan = 0 }) (omega arith) in
    let pushed = c.in_ok-push.ensures.items ∙ ap (λ x. row ++ x ∷ []) c.cell_at-cell.ensures in
    record {
      made = ap (λ r. r ++ rest) pushed ∙ append_assoc row (_ ∷ []) rest ∙ ap (λ r. row ++ cells_from es c.loop-span.cursor r) (sym split)
          ∙ c.loop-span.invariant.made;
      fits = All-tail (λ n. n < 2 ^ 128) next (row_told next [] (drop (i + 1) ss))
          (subst (λ r. All (λ n. n < 2 ^ 128) (row_told c.loop-span.cursor [] r)) split c.loop-span.invariant.fits);
    }
