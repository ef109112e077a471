use Rattle.std.proofs.Common.{rules, tests, arith, ◌≡◌, ◌==◌, ◌∙◌, cond, ltb, length, Some, None, ap, sym}
use Rattle.std.specs.List.{remove}
use Rattle.std.proofs.lemmas.Iterator.{YieldsList-from_slice}
use Rattle.std.proofs.lemmas.Iterator.Search.{position_from_yields_List}
use Rattle.html_render_dom_nodes.specs.Moves.{without}
use Rattle.html_render_dom_nodes.proofs.Children.{place_of, place_found, place_absent, without-removed, without-absent}
use Rattle.html_render_dom_nodes.proofs.lists.drop_from.Goals as goal

pub dropping-preserved : goal.dropping-preserved
dropping-preserved c =
    let xs = c.dropping.list.items in
    let s = c.args.child in
    let e : c.position.result ≡ cond (ltb (place_of s xs) (length xs)) (Some (place_of s xs)) None =
    position_from_yields_List (λ x. x == s) _ _ c.position.result c.position.ensures.ran (YieldsList-from_slice xs cc)
    (λ x b q k. search (rules, tests)) in
    let f = place_found c.position.result (place_of s xs) (length xs) c.in-Some.place e c.in-Some.is in
    let removed = c.remove.ensures.items ∙ ap (λ i. remove xs i) f.0 in (
      ap (λ ys. without s ys) removed ∙ without-removed s xs f.1 ∙ c.dropping.invariant.0,
      omega (arith, c.remove.ensures.len, c.dropping.invariant.1),
      c.remove.ensures.capacity ∙ c.dropping.invariant.2,
    )

pub returns-clause-list : goal.returns-clause-list
returns-clause-list c =
    let xs = c.dropping.list.items in
    let s = c.args.child in
    let e : c.position.result ≡ cond (ltb (place_of s xs) (length xs)) (Some (place_of s xs)) None =
    position_from_yields_List (λ x. x == s) _ _ c.position.result c.position.ensures.ran (YieldsList-from_slice xs cc)
    (λ x b q k. search (rules, tests)) in
    sym (without-absent s xs (place_absent c.position.result (place_of s xs) (length xs) e c.in_default.is)) ∙ c.dropping.invariant.0
