use Rattle.std.proofs.Common.{rules, tests, arith, suc, ◌≡◌, ◌==◌, ◌∙◌, cond, ltb, length, Some, None, ap, sym}
use Rattle.std.proofs.lemmas.Iterator.{YieldsList-from_slice}
use Rattle.std.proofs.lemmas.Iterator.Search.{position_from_yields_List}
use Rattle.html_render_dom_nodes.proofs.Children.{place_of, place_found, place_absent, previous-absent, previous-later, slice_get-at}
use Rattle.html_render_dom_nodes.proofs.lists.previous.Goals as goal

pub returns-in_err-place-clause-previous : goal.returns-in_err-place-clause-previous
returns-in_err-place-clause-previous c =
    let xs = c.args.list.now in
    let s = c.args.sibling in
    let e : c.position.result ≡ cond (ltb (place_of s xs) (length xs)) (Some (place_of s xs)) None =
    position_from_yields_List (λ x. x == s) _ _ c.position.result c.position.ensures.ran (YieldsList-from_slice xs cc)
    (λ x b q k. search (rules, tests)) in
    c.from_residual.ensures ∙ sym
    (previous-absent s None xs (place_absent c.position.result (place_of s xs) (length xs) e c.in_err-place.was))

pub returns-clause-previous : goal.returns-clause-previous
returns-clause-previous c =
    let xs = c.args.list.now in
    let s = c.args.sibling in
    let e : c.position.result ≡ cond (ltb (place_of s xs) (length xs)) (Some (place_of s xs)) None =
    position_from_yields_List (λ x. x == s) _ _ c.position.result c.position.ensures.ran (YieldsList-from_slice xs cc)
    (λ x b q k. search (rules, tests)) in
    let f = place_found c.position.result (place_of s xs) (length xs) c.in_ok-place.place e c.in_ok-place.was in
    let later : place_of s xs ≡ suc c.in_ok-last.last = omega (arith, f.0, c.in_ok-last.ensures) in
    sym (previous-later s None xs c.in_ok-last.last f.1 later ∙ slice_get-at xs c.in_ok-last.last c.index-list-last.result (omega arith)
    ∙ ap Some (sym c.index-list-last.is))
