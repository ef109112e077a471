use Rattle.html_render_parts_widths.proofs.FairestCut.{column-cut, cut-form, form-only}
use Rattle.html_render_parts_widths.proofs.laws.level_forms_are_one.Goals as goal

pub returns-clause-cuts : goal.returns-clause-cuts
returns-clause-cuts c = λ ms ss width widths level lowered h.
    (λ cut. cut-form ms ss width widths level lowered h cut, λ form. column-cut ms ss width widths level lowered h form)

pub returns-clause-only : goal.returns-clause-only
returns-clause-only c = λ ms ss width widths other level lowered l d fits h k. form-only ms ss width other widths l level d lowered fits k h
