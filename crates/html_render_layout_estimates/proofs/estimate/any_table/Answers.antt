use Rattle.std.proofs.Common.{◌≡◌, ◌+◌, ◌||◌, true, ◌∷◌, drop, sym, ap, ◌∙◌}
use Rattle.std.proofs.lemmas.List.{drop_all, drop_more}
use Rattle.html_render_layout_nodes.specs.Preorder.{forest_of}
use Rattle.html_render_layout_estimates.specs.Passes.{has_table}
use Rattle.html_render_layout_estimates.proofs.Again.{any_table, any_table-flatten}
use Rattle.html_render_layout_estimates.proofs.estimate.any_table.Goals as goal

pub returns-then-is_table : goal.returns-then-is_table
returns-then-is_table c =
    let es = c.args.entries.now in
    let i = c.loop-entry.entry-index in
    let e = c.entry-item.result in
    let all : any_table es ≡ has_table (forest_of es) = ap any_table (sym c.requires) ∙ any_table-flatten (forest_of es) in
    let here : any_table (drop i es) ≡ true =
    ap any_table (drop_more es i e c.loop-entry-test.true) ∙ ap (λ x. any_table (x ∷ drop (i + 1) es)) (sym c.entry-item.is)
    ∙ ap (λ b. b || any_table (drop (i + 1) es)) (sym c.is_table.ensures ∙ c.if-is_table.true) in
    sym here ∙ c.loop-entry.invariant ∙ all

pub returns : goal.returns
returns c =
    let es = c.args.entries.now in
    ap any_table (sym (drop_all c.loop-entry.entry-index es c.loop-entry-test.false)) ∙ c.loop-entry.invariant
    ∙ ap any_table (sym c.requires) ∙ any_table-flatten (forest_of es)
