use Rattle.std.proofs.Common.{◌≡◌, ℕ, List, ◌+◌, ◌-◌, ◌++◌, ◌∷◌, [], Option, Some, length, max, refl, sym, ap, ◌∙◌, subst, arith, length-append, rules}
use Rattle.html_render_layout_nodes.specs.declared.frames.Frame.{Frame}
use Rattle.html_render_layout_nodes.specs.Visits.{way}
use Rattle.html_render_layout_nodes.specs.Preorder.{flatten}
use Rattle.html_render_layout_nodes.specs.Walk.{innermost}
use Rattle.html_render_layout_nodes.specs.laws.Visits.{visited-at_most, most_open-at_most}
use Rattle.html_render_layout_nodes.proofs.Walking.{Walking, whole, outcome, counted-refused, Walking-start, Walking-close, Walking-within, Walking-done}
use Rattle.html_render_layout_nodes.proofs.Walking.{Closing-done, Closing-refuses, Walking-open, Opening-into, Opening-past, Opening-end, Opening-part, Opening-refuses, Opening-pair, Opening-pair-refuses}
use Rattle.html_render_layout.specs.Opening.{walk_visits}
use Rattle.html_render_layout.specs.Working.{by_tags}
use Rattle.html_render_layout.proofs.Trees.{how}
use Rattle.html_render_layout.proofs.walk.tree.walk_tree.Given.{Over}
use Rattle.html_render_layout.proofs.walk.tree.walk_tree.Goals as goal

pub walk-init : goal.walk-init
walk-init g c =
    let f = c.args.tree.now in
    let s = c.args.state.now in
    record {
      entries_are = c.entries-entries.ensures;
      walking = subst (λ fs. Walking (how (by_tags g.D.TextDecorator.decoration g.G.Tagging.annotated)) (flatten f) (whole (how (by_tags g.D.TextDecorator.decoration g.G.Tagging.annotated)) f s) fs 0 0 0 0 s) (sym c.new-frames.ensures.items) (Walking-start f s);
      numbered = omega arith;
      within = omega arith;
      visits = omega arith;
      left = omega (arith, ap length c.new-frames.ensures.items);
      probes = refl;
    }

pub walk-preserved-in-Some : goal.walk-preserved-in-Some
walk-preserved-in-Some g c =
    let over = c.in-Some.ensures.over in
    let closing = Walking-close c.walk.invariant.walking over.0 over.1 in
    record {
      entries_are = c.entries-entries.ensures;
      walking = Closing-done _ closing c.in_ok-close-in-Some.ensures.ok;
      numbered = closing.numbered;
      within = c.walk.invariant.within;
      visits = c.walk.invariant.visits;
      left = omega (
        arith,
        ap length over.0,
        length-append c.pop_over.new.frames.items (c.in-Some.frame ∷ []),
      );
      probes = c.walk.invariant.probes;
    }

pub returns-in_err-close-in-Some-clause-err : goal.returns-in_err-close-in-Some-clause-err
returns-in_err-close-in-Some-clause-err g c =
    let closing = Walking-close c.walk.invariant.walking c.in-Some.ensures.over.0 c.in-Some.ensures.over.1 in
    let refuses = Closing-refuses _ closing c.in_err-close-in-Some.ensures.err in
    search rules

-- at the end of the walk all nodes are closed
done : (g : Over) (c : goal.After-drop-frames-then-next-entries g) →
    (c.walk.frames.items ≡ []) × (outcome (Some c.walk.state) c.walk.meter.entered c.walk.meter.frames ≡ whole (how (by_tags g.D.TextDecorator.decoration g.G.Tagging.annotated)) c.args.tree.now c.args.state.now)
done g c = Walking-done c.walk.invariant.walking c.in-None.ensures.not_over (c.if-next-entries.true ∙ ap length c.entries-entries.ensures)

pub returns-then-next-entries-clause-ok : goal.returns-then-next-entries-clause-ok
returns-then-next-entries-clause-ok g c = sym (ap (λ o. o.state) (done g c).1)

pub returns-then-next-entries-clause-counts : goal.returns-then-next-entries-clause-counts
returns-then-next-entries-clause-counts g c =
    let d = done g c in
    let visited = ap (λ o. o.visited) d.1 in
    let within = Walking-within c.walk.invariant.walking in
    record {
      entered = visited;
      left = omega (arith, c.walk.invariant.left, visited, ap length d.0);
      entered_at_most = within.1;
      left_at_most = omega (arith, c.walk.invariant.left);
      visited_at_most = visited-at_most (walk_visits (by_tags g.D.TextDecorator.decoration g.G.Tagging.annotated)) c.args.tree.now c.args.state.now;
      frames = ap (λ o. o.peak) d.1;
      frames_at_most = within.0;
      open_at_most = most_open-at_most (walk_visits (by_tags g.D.TextDecorator.decoration g.G.Tagging.annotated)) c.args.tree.now c.args.state.now;
      probes = c.walk.invariant.probes;
    }

pub returns-in_err-close-in-Some-clause-counts : goal.returns-in_err-close-in-Some-clause-counts
returns-in_err-close-in-Some-clause-counts g c =
    counted-refused _ c.from_residual.ensures.1 _ _ c.walk.invariant.walking (omega (arith, c.walk.invariant.left)) c.walk.invariant.probes

pub returns-in_err-kept-in-None-clause-counts : goal.returns-in_err-kept-in-None-clause-counts
returns-in_err-kept-in-None-clause-counts g c =
    counted-refused _ c.from_residual-in_err-kept-in-None.ensures.1 _ _ c.walk.invariant.walking (omega (arith, c.walk.invariant.left)) c.walk.invariant.probes

pub returns-in_err-push-in-Some-2-clause-counts : goal.returns-in_err-push-in-Some-2-clause-counts
returns-in_err-push-in-Some-2-clause-counts g c =
    counted-refused _ c.from_residual-in_err-push-in-Some-2.ensures.1 _ _ c.walk.invariant.walking (omega (arith, c.walk.invariant.left)) c.walk.invariant.probes

pub overflow_add-end : goal.overflow_add-end
overflow_add-end g c =
    let o = Walking-open c.walk.invariant.walking c.entries-entries.ensures c.in-None.ensures.not_over (omega arith) c.index-entries-next.is in
    omega (arith, Opening-end o, ap length c.entries-entries.ensures, c.entries-entries.type_inv)

pub slice_bounds-children-count : goal.slice_bounds-children-count
slice_bounds-children-count g c =
    let o = Walking-open c.walk.invariant.walking c.entries-entries.ensures c.in-None.ensures.not_over (omega arith) c.index-entries-next.is in
    omega (arith, o.subtree_len)

pub slice_bounds-children-start : goal.slice_bounds-children-start
slice_bounds-children-start g c =
    let o = Walking-open c.walk.invariant.walking c.entries-entries.ensures c.in-None.ensures.not_over (omega arith) c.index-entries-next.is in
    omega (arith, o.subtree_len)

pub slice_bounds-children-end : goal.slice_bounds-children-end
slice_bounds-children-end g c =
    let o = Walking-open c.walk.invariant.walking c.entries-entries.ensures c.in-None.ensures.not_over (omega arith) c.index-entries-next.is in
    omega (arith, Opening-end o, ap length c.entries-entries.ensures)

pub open-requires : goal.open-requires
open-requires g c =
    let o = Walking-open c.walk.invariant.walking c.entries-entries.ensures c.in-None.ensures.not_over (omega arith) c.index-entries-next.is in
    (Opening-part o _ c.entries-entries.ensures (omega arith)).kept

-- what the innermost open node keeps is the given data
abbrev given : {T : Type 0} {p : Option T} {frames now then : List (Frame T)} → p ≡ innermost frames → frames ≡ now → now ≡ then → p ≡ innermost then
given parent value same = parent ∙ ap (λ fs. innermost fs) (value ∙ same)

pub returns-in_err-kept-in-None-clause-err : goal.returns-in_err-kept-in-None-clause-err
returns-in_err-kept-in-None-clause-err g c =
    let same : c.visit_pair.new.state ≡ c.walk.state = (rw c.if-branch-2.false at c.in_ok-visit_pair-in-None.ensures.ok) ∙ (rw c.if-branch.false at c.in_ok-visit_text-in-None.ensures.ok) in
    let o = Walking-open c.walk.invariant.walking c.entries-entries.ensures c.in-None.ensures.not_over (omega arith) c.index-entries-next.is in
    let part = Opening-part o (c.walk.next + c.index-entries-next.result.subtree_len - (c.walk.next + 1)) c.entries-entries.ensures (omega arith) in
    let refuses = Opening-refuses o part.is (given c.innermost-parent.ensures c.deref.ensures.value c.in-None.ensures.same) _ (rw same at c.in_err-kept-in-None.ensures.err) in
    search rules

pub walk-preserved-in-Some-2 : goal.walk-preserved-in-Some-2
walk-preserved-in-Some-2 g c =
    let same : c.visit_pair.new.state ≡ c.walk.state = (rw c.if-branch-2.false at c.in_ok-visit_pair-in-None.ensures.ok) ∙ (rw c.if-branch.false at c.in_ok-visit_text-in-None.ensures.ok) in
    let e = c.index-entries-next.result in
    let f = c.args.tree.now in
    let kept = c.in-Some-2.kept in
    let o = Walking-open c.walk.invariant.walking c.entries-entries.ensures c.in-None.ensures.not_over (omega arith) c.index-entries-next.is in
    let part = Opening-part o (c.walk.next + e.subtree_len - (c.walk.next + 1)) c.entries-entries.ensures (omega arith) in
    let w = Opening-into o part.is (given c.innermost-parent.ensures c.deref.ensures.value c.in-None.ensures.same) c.walk.invariant.numbered
    ((rw same at c.in_ok-kept-in-None.ensures.ok) ∙ ap (λ k. Some (way c.open.new.state k)) c.in-Some-2.is) in
    let pushed : c.push.new.self.items ≡ c.walk.frames.items ++ record { end = c.walk.next + e.subtree_len; next = c.walk.number + 1; kept = kept } ∷ [] =
    c.in_ok-push-in-Some-2.ensures.items
    ∙ ap (λ fs. fs ++ record { end = c.walk.next + e.subtree_len; next = c.walk.number + 1; kept = kept } ∷ []) c.in-None.ensures.same in
    let longer = length-append c.walk.frames.items (record { end = c.walk.next + e.subtree_len; next = c.walk.number + 1; kept = kept } ∷ []) in
    let most : max c.walk.meter.frames (length c.walk.frames.items + 1) ≡ c.max-meter-in-Some-2.result =
    omega (arith, c.max-meter-in-Some-2.ensures, c.len-in-Some-2.ensures, c.push.new.self.ok.0, ap length pushed, longer) in
    let stands = λ (fs : List (Frame _)) (m : ℕ).
    Walking (how (by_tags g.D.TextDecorator.decoration g.G.Tagging.annotated)) (flatten f) (whole (how (by_tags g.D.TextDecorator.decoration g.G.Tagging.annotated)) f c.args.state.now) fs (c.walk.meter.entered + 1) m (c.walk.next + 1) 0 c.open.new.state in
    record {
      entries_are = c.entries-entries.ensures;
      walking = subst (λ m. stands c.push.new.self.items m) most
          (subst (λ fs. stands fs (max c.walk.meter.frames (length c.walk.frames.items + 1))) (sym pushed) w);
      numbered = omega arith;
      within = omega arith;
      visits = omega arith;
      left = omega (arith, ap length pushed, longer);
      probes = c.walk.invariant.probes;
    }

pub walk-preserved : goal.walk-preserved
walk-preserved g c =
    let same : c.visit_pair.new.state ≡ c.walk.state = (rw c.if-branch-2.false at c.in_ok-visit_pair-in-None.ensures.ok) ∙ (rw c.if-branch.false at c.in_ok-visit_text-in-None.ensures.ok) in
    let e = c.index-entries-next.result in
    let f = c.args.tree.now in
    let o = Walking-open c.walk.invariant.walking c.entries-entries.ensures c.in-None.ensures.not_over (omega arith) c.index-entries-next.is in
    let part = Opening-part o (c.walk.next + e.subtree_len - (c.walk.next + 1)) c.entries-entries.ensures (omega arith) in
    let w = Opening-past o part.is (given c.innermost-parent.ensures c.deref.ensures.value c.in-None.ensures.same)
    ((rw same at c.in_ok-kept-in-None.ensures.ok) ∙ ap (λ k. Some (way c.open.new.state k)) c.in-None-2.is) in
    let stands = λ (fs : List (Frame _)). Walking (how (by_tags g.D.TextDecorator.decoration g.G.Tagging.annotated)) (flatten f) (whole (how (by_tags g.D.TextDecorator.decoration g.G.Tagging.annotated)) f c.args.state.now) fs (c.walk.meter.entered + 1)
    c.walk.meter.frames (c.walk.next + e.subtree_len) (c.walk.number + 1) c.open.new.state in
    record {
      entries_are = c.entries-entries.ensures;
      walking = subst stands (sym c.in-None.ensures.same) w;
      numbered = omega (arith, c.walk.invariant.numbered, o.subtree_len);
      within = omega (arith, Opening-end o, ap length c.entries-entries.ensures);
      visits = omega (arith, o.subtree_len);
      left = omega (arith, ap length c.in-None.ensures.same);
      probes = c.walk.invariant.probes;
    }

pub walk-smaller : goal.walk-smaller
walk-smaller g c =
    let o = Walking-open c.walk.invariant.walking c.entries-entries.ensures c.in-None.ensures.not_over (omega arith) c.index-entries-next.is in
    omega (arith, Opening-end o, ap length c.entries-entries.ensures, o.subtree_len, ap length c.in-None.ensures.same)

pub returns-in_err-visit_text-in-None-clause-err : goal.returns-in_err-visit_text-in-None-clause-err
returns-in_err-visit_text-in-None-clause-err g c =
    let o = Walking-open c.walk.invariant.walking c.entries-entries.ensures c.in-None.ensures.not_over (omega arith) c.index-entries-next.is in
    let part = Opening-part o (c.walk.next + c.index-entries-next.result.subtree_len - (c.walk.next + 1)) c.entries-entries.ensures (omega arith) in
    let refuses = Opening-refuses o part.is (given c.innermost-parent.ensures c.deref.ensures.value c.in-None.ensures.same) _ c.in_err-visit_text-in-None.ensures.err in
    search rules

pub returns-in_err-visit_text-in-None-clause-counts : goal.returns-in_err-visit_text-in-None-clause-counts
returns-in_err-visit_text-in-None-clause-counts g c =
    counted-refused _ c.from_residual-in_err-visit_text-in-None.ensures.1 _ _ c.walk.invariant.walking (omega (arith, c.walk.invariant.left)) c.walk.invariant.probes

pub walk-preserved-then-branch : goal.walk-preserved-then-branch
walk-preserved-then-branch g c =
    let found = rw c.if-branch.true at c.in_ok-visit_text-in-None.ensures.ok in
    let e = c.index-entries-next.result in
    let f = c.args.tree.now in
    let o = Walking-open c.walk.invariant.walking c.entries-entries.ensures c.in-None.ensures.not_over (omega arith) c.index-entries-next.is in
    let part = Opening-part o (c.walk.next + e.subtree_len - (c.walk.next + 1)) c.entries-entries.ensures (omega arith) in
    let w = Opening-past o part.is (given c.innermost-parent.ensures c.deref.ensures.value c.in-None.ensures.same) found in
    let stands = λ (fs : List (Frame _)). Walking (how (by_tags g.D.TextDecorator.decoration g.G.Tagging.annotated)) (flatten f) (whole (how (by_tags g.D.TextDecorator.decoration g.G.Tagging.annotated)) f c.args.state.now) fs (c.walk.meter.entered + 1)
    c.walk.meter.frames (c.walk.next + e.subtree_len) (c.walk.number + 1) c.visit_text.new.state in
    record {
      entries_are = c.entries-entries.ensures;
      walking = subst stands (sym c.in-None.ensures.same) w;
      numbered = omega (arith, c.walk.invariant.numbered, o.subtree_len);
      within = omega (arith, Opening-end o, ap length c.entries-entries.ensures);
      visits = omega (arith, o.subtree_len);
      left = omega (arith, ap length c.in-None.ensures.same);
      probes = c.walk.invariant.probes;
    }

pub walk-smaller-then-branch : goal.walk-smaller-then-branch
walk-smaller-then-branch g c =
    let o = Walking-open c.walk.invariant.walking c.entries-entries.ensures c.in-None.ensures.not_over (omega arith) c.index-entries-next.is in
    omega (arith, Opening-end o, ap length c.entries-entries.ensures, o.subtree_len, ap length c.in-None.ensures.same)

pub visit_pair-requires : goal.visit_pair-requires
visit_pair-requires g c =
    let o = Walking-open c.walk.invariant.walking c.entries-entries.ensures c.in-None.ensures.not_over (omega arith) c.index-entries-next.is in
    (Opening-part o _ c.entries-entries.ensures (omega arith)).kept

pub returns-in_err-visit_pair-in-None-clause-err : goal.returns-in_err-visit_pair-in-None-clause-err
returns-in_err-visit_pair-in-None-clause-err g c =
    let o = Walking-open c.walk.invariant.walking c.entries-entries.ensures c.in-None.ensures.not_over (omega arith) c.index-entries-next.is in
    let part = Opening-part o (c.walk.next + c.index-entries-next.result.subtree_len - (c.walk.next + 1)) c.entries-entries.ensures (omega arith) in
    let same : c.visit_text.new.state ≡ c.walk.state = rw c.if-branch.false at c.in_ok-visit_text-in-None.ensures.ok in
    let refuses = Opening-pair-refuses o part.is (given c.innermost-parent.ensures c.deref.ensures.value c.in-None.ensures.same) _
    (rw same at c.in_err-visit_pair-in-None.ensures.err) in
    search rules

pub returns-in_err-visit_pair-in-None-clause-counts : goal.returns-in_err-visit_pair-in-None-clause-counts
returns-in_err-visit_pair-in-None-clause-counts g c =
    counted-refused _ c.from_residual-in_err-visit_pair-in-None.ensures.1 _ _ c.walk.invariant.walking (omega (arith, c.walk.invariant.left)) c.walk.invariant.probes

pub walk-preserved-then-branch-2 : goal.walk-preserved-then-branch-2
walk-preserved-then-branch-2 g c =
    let same : c.visit_text.new.state ≡ c.walk.state = rw c.if-branch.false at c.in_ok-visit_text-in-None.ensures.ok in
    let found = rw (c.if-branch-2.true, same) at c.in_ok-visit_pair-in-None.ensures.ok in
    let e = c.index-entries-next.result in
    let f = c.args.tree.now in
    let o = Walking-open c.walk.invariant.walking c.entries-entries.ensures c.in-None.ensures.not_over (omega arith) c.index-entries-next.is in
    let part = Opening-part o (c.walk.next + e.subtree_len - (c.walk.next + 1)) c.entries-entries.ensures (omega arith) in
    let w = Opening-pair o part.is (given c.innermost-parent.ensures c.deref.ensures.value c.in-None.ensures.same) found in
    let most : max c.walk.meter.frames (length c.walk.frames.items + 1) ≡ c.max-meter.result =
    omega (arith, c.max-meter.ensures, c.len.ensures, ap length c.in-None.ensures.same) in
    let stands = λ (fs : List (Frame _)) (m : ℕ).
    Walking (how (by_tags g.D.TextDecorator.decoration g.G.Tagging.annotated)) (flatten f) (whole (how (by_tags g.D.TextDecorator.decoration g.G.Tagging.annotated)) f c.args.state.now) fs (c.walk.meter.entered + e.subtree_len) m
    (c.walk.next + e.subtree_len) (c.walk.number + 1) c.visit_pair.new.state in
    record {
      entries_are = c.entries-entries.ensures;
      walking = subst (λ m. stands c.pop_over.new.frames.items m) most
          (subst (λ fs. stands fs (max c.walk.meter.frames (length c.walk.frames.items + 1))) (sym c.in-None.ensures.same) w);
      numbered = omega (arith, c.walk.invariant.numbered, o.subtree_len);
      within = omega (arith, Opening-end o, ap length c.entries-entries.ensures);
      visits = omega (arith, c.walk.invariant.visits);
      left = omega (arith, ap length c.in-None.ensures.same, c.walk.invariant.left);
      probes = c.walk.invariant.probes;
    }

pub walk-smaller-then-branch-2 : goal.walk-smaller-then-branch-2
walk-smaller-then-branch-2 g c =
    let o = Walking-open c.walk.invariant.walking c.entries-entries.ensures c.in-None.ensures.not_over (omega arith) c.index-entries-next.is in
    omega (arith, Opening-end o, ap length c.entries-entries.ensures, o.subtree_len, ap length c.in-None.ensures.same)

pub overflow_add-meter-then-branch-2-2 : goal.overflow_add-meter-then-branch-2-2
overflow_add-meter-then-branch-2-2 g c =
    let o = Walking-open c.walk.invariant.walking c.entries-entries.ensures c.in-None.ensures.not_over (omega arith) c.index-entries-next.is in
    omega (arith, Opening-end o, ap length c.entries-entries.ensures, c.entries-entries.type_inv, c.walk.invariant.visits, c.walk.invariant.left)

pub overflow_add-meter-then-branch-2-3 : goal.overflow_add-meter-then-branch-2-3
overflow_add-meter-then-branch-2-3 g c =
    let o = Walking-open c.walk.invariant.walking c.entries-entries.ensures c.in-None.ensures.not_over (omega arith) c.index-entries-next.is in
    omega (arith, Opening-end o, ap length c.entries-entries.ensures, c.entries-entries.type_inv, c.walk.invariant.visits, c.walk.invariant.left)
