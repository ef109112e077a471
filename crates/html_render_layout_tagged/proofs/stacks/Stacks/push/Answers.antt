use Rattle.std.proofs.Common.{◌+◌, Fits, w64, rules, [], ◌∷◌, ◌++◌, length, arith, ap, ◌∙◌}
use Rattle.html_render_layout_tagged.specs.Stacks.{stack_at, stacks_of}
use Rattle.html_render_layout_tagged.specs.laws.Stacks.{stacks_after-push, length-stacks_after, ArePushed-push}
use Rattle.html_render_layout_tagged.proofs.stacks.Stacks.push.Goals as goal

pub overflow_add-depth : goal.overflow_add-depth
overflow_add-depth g c =
    let count = length-stacks_after ([] ∷ []) c.self.inside.pushed.items in
    let lower = c.kept-below.ensures.within in
    let small = c.depth-depth.ensures.within in
    let tag : Fits w64 (c.len-tag.result + 1) = search rules in
    omega (arith, count, lower, small, ap length c.self.view_is, c.len-tag.ensures, tag)

pub invariant_of-self-2 : goal.invariant_of-self-2
invariant_of-self-2 g c =
    rw c.in_ok-push.ensures.items (ArePushed-push ([] ∷ []) c.self.inside.pushed.items _ c.self.invariant record {
      lower = rw c.self.view_is c.kept-below.ensures.within;
      depth = rw c.self.view_is (ap (λ n. n + 1) c.depth-depth.ensures.count);
      within = rw c.self.view_is (omega (arith, c.depth-depth.ensures.within, c.kept-below.ensures.within));
    })

pub returns-clause-tag : goal.returns-clause-tag
returns-clause-tag g c = omega
    (arith, length-stacks_after ([] ∷ []) c.self.inside.pushed.items, ap length c.self.view_is, c.len-tag.ensures)

pub returns-clause-ok : goal.returns-clause-ok
returns-clause-ok g c =
    ap stacks_of c.in_ok-push.ensures.items
    ∙ stacks_after-push ([] ∷ []) c.self.inside.pushed.items _
    ∙ ap (λ v. v ++ (stack_at v c.kept-below.result ++ c.args.annotation ∷ []) ∷ []) c.self.view_is
    ∙ ap (λ s. c.args.self.now ++ (s ++ c.args.annotation ∷ []) ∷ []) c.kept-below.ensures.same
