use Rattle.std.proofs.Common.{◌≡◌, ◌-◌, ◌++◌, ◌∷◌, List, All, vec_len, set, take, reverse, refl, sym, ap, subst, ◌∙◌, append_assoc, arith}
use Rattle.html_render_dom.specs.Dom.{IsNode}
use Rattle.html_render_tree_walk.specs.Walk.{after_pick, ahead, coming, nodes}
use Rattle.html_render_tree_walk.specs.declared.cursor.Position.{Position}
use Rattle.std.proofs.lemmas.List.Elements.{All-cons, All-head, All-tail}
use Rattle.html_render_tree_walk.proofs.Stacks.{all-popped, innermost-first, innermost-set}
use Rattle.html_render_tree_walk.proofs.cursor.Cursor.next.Goals as goal
use Rattle.html_render_tree_walk.proofs.cursor.Cursor.next.Goals.{In_ok-position}

-- positions outside the innermost
abbrev outer : (c : In_ok-position) → List Position
outer c = reverse (take (vec_len c.self.inside.open - 1) c.self.inside.open.items)

-- the innermost position and those outside
was : (c : In_ok-position) → c.args.self.now ≡ c.in_ok-position.position.now ∷ outer c
was c =
    let xs = c.self.inside.open in
    sym c.self.view_is
    ∙ innermost-first xs.items (vec_len xs - 1) c.in_ok-position.position.now (omega (arith, c.in_ok-position.ensures.variant.0 refl, xs.ok.0)) c.in_ok-position.ensures.value

-- which has moved
moved : (c : In_ok-position) (q : Position) → reverse (set c.self.inside.open.items (vec_len c.self.inside.open - 1) q) ≡ q ∷ outer c
moved c q =
    let xs = c.self.inside.open in
    innermost-set xs.items (vec_len xs - 1) c.in_ok-position.position.now q
    (omega (arith, c.in_ok-position.ensures.variant.0 refl, xs.ok.0)) c.in_ok-position.ensures.value

pub returns-in-Some-clause-visit : goal.returns-in-Some-clause-visit
returns-in-Some-clause-visit c =
    let dom = c.args.dom.now in
    let s = (goal.at.returns-in-Some-clause-visit c).In_ok-position in
    let ps = outer s in
    let p = c.in_ok-position.position.now in
    let q = c.advance.new.position in
    ap (coming dom) (was s)
    ∙ sym (append_assoc (nodes (ahead dom p)) (after_pick p.pick dom p.element) (coming dom ps))
    ∙ ap (λ vs. vs ++ coming dom ps) c.in-Some.ensures.some
    ∙ ap (λ vs. c.in-Some.visit ∷ vs) (append_assoc (nodes (ahead dom q)) (after_pick q.pick dom q.element) (coming dom ps) ∙ ap (coming dom) (sym (moved s q)))

pub returns-clause-nodes : goal.returns-clause-nodes
returns-clause-nodes c =
    let s = (goal.at.returns-clause-nodes c).In_ok-position in
    let holds = λ (p : Position). IsNode c.args.dom.now p.element in
    let p = c.in_ok-position.position.now in
    let q = c.advance.new.position in
    let ps = outer s in
    let all : All holds (p ∷ ps) = subst (All holds) (was s) c.requires in
    let moved_all : All holds (q ∷ ps) =
    All-cons holds q ps (subst (IsNode c.args.dom.now) (sym c.in_default.ensures.element) (All-head holds p ps all)) (All-tail holds p ps all) in
    all-popped holds _ c.pop.new.self.items c.pop.result c.pop.ensures.items (subst (All holds) (sym (moved s q)) moved_all)
