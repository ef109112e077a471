use Rattle.std.proofs.Common.{rules, ◌≡◌, ◌+◌, ◌-◌, ◌*◌, ◌<◌, ◌∙◌, ap, subst, length, drop, arith, IfOk}
use Rattle.html_render_layout_buffer.specs.Fields.{lines_slots}
use Rattle.html_render_layout_buffer.proofs.Stored.{opened, has-end}
use Rattle.html_render_layout_buffer.proofs.BehindLines.{slots-left}
use Rattle.html_render_layout_buffer.proofs.buffer.behind.count_behind.Goals as goal

pub place_of-requires : goal.place_of-requires
place_of-requires g c =
    let stored = opened _ _ c.lines.invariant c.lines.view_is in
    let h : c.args.from < length c.args.lines.now.lines = search (rules, arith) in
    has-end _ _ _ _ c.args.from stored c.as_slice.ensures.value h

pub overflow_sub-own : goal.overflow_sub-own
overflow_sub-own g c =
    let stored = opened _ _ c.lines.invariant c.lines.view_is in
    let h : c.args.from < length c.args.lines.now.lines = search (rules, arith) in
    let own = slots-left _ _ _ _ c.args.from stored c.as_slice.ensures.value h in
    rw c.place_of.ensures (omega (arith, own))

pub returns-in-Some : goal.returns-in-Some
returns-in-Some g c =
    let stored = opened _ _ c.lines.invariant c.lines.view_is in
    let h : c.args.from < length c.args.lines.now.lines = search (rules, arith) in
    let own = slots-left _ _ _ _ c.args.from stored c.as_slice.ensures.value h in
    let own_count : c.lines.inside.slot_start - c.place_of.result.slots ≡ length (lines_slots (drop c.args.from c.args.lines.now.lines)) =
    rw c.place_of.ensures (omega (arith, own)) in
    let all : c.in-Some.all ≡ (length c.args.lines.now.lines - c.args.from) * c.args.more =
    c.in-Some.ensures.1 ∙ ap (λ n. (n - c.args.from) * c.args.more) c.line_count.ensures in
    subst (λ n. IfOk c.longer.result (λ k. k ≡ n))
    (ap (λ n. n + (c.lines.inside.slot_start - c.place_of.result.slots)) all
    ∙ ap (λ n. (length c.args.lines.now.lines - c.args.from) * c.args.more + n) own_count) c.longer.ensures
