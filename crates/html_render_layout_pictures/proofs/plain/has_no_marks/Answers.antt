use Rattle.std.proofs.Common.{◌≡◌, [], ◌∙◌, sym, subst, arith}
use Rattle.std.specs.Prelude.{All}
use Rattle.std.proofs.lemmas.Bool.{eqb-true}
use Rattle.std.proofs.lemmas.List.{nil_from_length, take_all}
use Rattle.std.proofs.lemmas.List.Elements.{All-more}
use Rattle.html_render_layout_pictures.specs.declared.cells.RowCell.{RowCell}
use Rattle.html_render_layout_pictures.proofs.plain.has_no_marks.Goals as goal

pub loop-cell-preserved : goal.loop-cell-preserved
loop-cell-preserved g c =
    let cell = c.cell-item.result in
    let none : cell.marks.items ≡ [] = sym c.as_slice.ensures.value ∙ nil_from_length c.as_slice.result.now (eqb-true _ 0 (sym c.is_empty.ensures ∙ c.if-not-is_empty.false)) in
    All-more (λ (d : RowCell g.row.M.Denot). d.marks.items ≡ []) c.args.cells.now c.loop-cell.cell-index cell (omega arith) c.loop-cell.invariant
    (subst (λ (d : RowCell g.row.M.Denot). d.marks.items ≡ []) c.cell-item.is none)

pub returns : goal.returns
returns g c =
    subst (λ cells. All (λ (d : RowCell g.row.M.Denot). d.marks.items ≡ []) cells) (take_all c.loop-cell.cell-index c.args.cells.now (omega arith))
    c.loop-cell.invariant
