use Rattle.std.proofs.Common.{◌≡◌, ◌-◌, ◌++◌, length, take, drop, sym, ap, subst, ◌∙◌}
use Rattle.std.proofs.lemmas.List.{take-append-drop}
use Rattle.std.proofs.lemmas.Slice.Eq.{bytes_eq-Decides}
use Rattle.html_render_parts.specs.Placement.{rising}
use Rattle.html_render_parts.proofs.EdgeRanks.{rising-known, rising-more, rising-rising}
use Rattle.html_render_parts.proofs.table.gathering.Positions.add.Goals as goal

pub returns-in_ok-make_rising : goal.returns-in_ok-make_rising
returns-in_ok-make_rising c =
    rw (c.in_ok-make_rising.ensures, ← c.self.view_is)
    (rising-rising c.push_all_unknown.new.gathered.items ∙ c.in_ok-push_all_unknown.ensures ∙ sym (rising-more c.self.inside.gathered.items c.args.positions.now))

pub returns-else-len-self : goal.returns-else-len-self
returns-else-len-self c =
    rw (← c.self.view_is) (c.in_ok-push_all_unknown.ensures ∙ sym (rising-more c.self.inside.gathered.items c.args.positions.now))

pub returns-then-ends_with : goal.returns-then-ends_with
returns-then-ends_with c =
    let old = c.self.inside.gathered.items in
    let ends = c.args.positions.now in
    let front = take (length old - length ends) old in
    let same : ends ≡ drop (length old - length ends) old =
    (bytes_eq-Decides ends (drop (length old - length ends) old)).0 (sym (rw c.as_slice.ensures.value at c.ends_with.ensures.value) ∙ c.if-ends_with.true) in
    let is : front ++ ends ≡ old = ap (λ l. front ++ l) same ∙ take-append-drop (length old - length ends) old in
    rw (← c.self.view_is) (sym (subst (λ l. rising (rising l ++ ends) ≡ rising l) is (rising-known front ends)))
