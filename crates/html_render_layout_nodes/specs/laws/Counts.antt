-- The counts of a walk hold of any visits with the same visited nodes and the same greatest number of open nodes. For a
-- walk that fails, they follow from their bounds.
use Rattle.std.specs.Prelude.{◌≡◌, ◌≤◌, List, length, Result, Ok, Err, OnOk}
use Rattle.std.specs.Result.{IsErrAnd}
use Rattle.std.proofs.Common.{arith, subst, ◌∙◌}
use Rattle.html_render_dom_values.specs.Forest.{Forest, count, depth}
use Rattle.html_render_parts_widths.specs.declared.Meter.{Meter}
use Rattle.html_render_layout_nodes.specs.Counts.{CountsNodes}
use Rattle.html_render_layout_nodes.specs.Visits.{Visits, visited, most_open}
use Rattle.html_render_layout_nodes.specs.laws.Visits.{visited-at_most, most_open-at_most}

pub counts-same : {X E K S D : Type 0} (r : Result X E) (m : Visits K S) (n : Visits K D) (t : Forest K)
    (s : S) (d : D) (old other new : Meter) → visited m t s ≡ visited n t d → most_open m t s ≡ most_open n t d → other.probes ≡ old.probes →
    CountsNodes r m t s other new → CountsNodes r n t d old new
counts-same {X} {E} {K} r m n t s d old other new same peak probes c = record {
  entered = subst (λ (l : List K). OnOk r (new.entered ≡ length l)) same c.entered;
  left = subst (λ (l : List K). OnOk r (new.left ≡ length l)) same c.left;
  entered_at_most = subst (λ (l : List K). new.entered ≤ length l) same c.entered_at_most;
  left_at_most = c.left_at_most;
  visited_at_most = subst (λ (l : List K). length l ≤ count t) same c.visited_at_most;
  frames = subst (λ o. OnOk r (new.frames ≡ o)) peak c.frames;
  frames_at_most = subst (λ o. new.frames ≤ o) peak c.frames_at_most;
  open_at_most = subst (λ o. o ≤ depth t) peak c.open_at_most;
  probes = c.probes ∙ probes;
}

pub failed-counted : {X E K S : Type 0} (r : Result X E) (Q : E → Type 0) → IsErrAnd r Q → (visits : Visits K S)
    (t : Forest K) (s : S) (old new : Meter) → new.entered ≤ length (visited visits t s) → new.left ≤ new.entered →
    new.frames ≤ most_open visits t s → new.probes ≡ old.probes → CountsNodes r visits t s old new
failed-counted (Ok x) Q h visits t s old new entered left frames probes = absurd h
failed-counted (Err e) Q h visits t s old new entered left frames probes = record {
  entered = tt;
  left = tt;
  entered_at_most = entered;
  left_at_most = left;
  visited_at_most = visited-at_most visits t s;
  frames = tt;
  frames_at_most = frames;
  open_at_most = most_open-at_most visits t s;
  probes = probes;
}

-- counts of 0 are those of a walk that fails before its first visit
pub none-counted : {X E K S : Type 0} (r : Result X E) (Q : E → Type 0) → IsErrAnd r Q → (visits : Visits K S)
    (t : Forest K) (s : S) (old new : Meter) → new.entered ≡ 0 → new.left ≡ 0 → new.frames ≡ 0 →
    new.probes ≡ old.probes → CountsNodes r visits t s old new
none-counted r Q h visits t s old new entered left frames probes =
    failed-counted r Q h visits t s old new (omega arith) (omega arith) (omega arith) probes
