use Rattle.std.proofs.Common.{rules, tests, ◌≡◌, ◌==◌, ◌∙◌, cond, ltb, length, Some, None, ap, sym}
use Rattle.std.specs.List.{insert}
use Rattle.std.proofs.lemmas.Iterator.{YieldsList-from_slice}
use Rattle.std.proofs.lemmas.Iterator.Search.{position_from_yields_List}
use Rattle.html_render_dom_nodes.proofs.Children.{ok_then, place_of, place_found, place_absent, insert-before, before-absent}
use Rattle.html_render_dom_nodes.proofs.lists.insert_before.Goals as goal

pub returns-in-Some : goal.returns-in-Some
returns-in-Some c =
    let xs = c.args.list.now.items in
    let s = c.args.sibling in
    let child = c.args.child in
    let e : c.position.result ≡ cond (ltb (place_of s xs) (length xs)) (Some (place_of s xs)) None =
    position_from_yields_List (λ x. x == s) _ _ c.position.result c.position.ensures.ran (YieldsList-from_slice xs cc)
    (λ x b q k. search (rules, tests)) in
    let f = place_found c.position.result (place_of s xs) (length xs) c.in-Some.place e c.in-Some.is in
    ok_then c.insert.result _ (c.insert.ensures.succeeds c.requires) c.insert.ensures.ok ∙ ap (λ i. insert xs i child) f.0
    ∙ insert-before s child xs f.1

pub returns-in_default : goal.returns-in_default
returns-in_default c =
    let xs = c.args.list.now.items in
    let s = c.args.sibling in
    let e : c.position.result ≡ cond (ltb (place_of s xs) (length xs)) (Some (place_of s xs)) None =
    position_from_yields_List (λ x. x == s) _ _ c.position.result c.position.ensures.ran (YieldsList-from_slice xs cc)
    (λ x b q k. search (rules, tests)) in
    sym (before-absent s c.args.child xs (place_absent c.position.result (place_of s xs) (length xs) e c.in_default.is))
