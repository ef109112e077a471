use Rattle.std.proofs.Common.{rules, ◌≡◌, ◌<◌, length, get_or, ap, arith}
use Rattle.html_render_layout_buffer.proofs.TagLists.{rising-is, length-is, span-closed, span-open, span-some, span-within}
use Rattle.html_render_layout_buffer.proofs.runs.TagRuns.span_at.Goals as goal

pub first_after-requires : goal.first_after-requires
first_after-requires g c = rising-is _ _ _ _ c.self.invariant c.as_slice-runs.ensures.value

pub unreachable-requires : goal.unreachable-requires
unreachable-requires g c =
    let end : c.first_after.result ≡ length c.as_slice-runs.result.now = search rules in
    span-some c.self.inside.closed.items c.as_slice-runs.result.now c.self.inside.tag c.args.place c.self.inside.len c.first_after.result c.args.self.now
    c.self.invariant c.self.view_is c.as_slice-runs.ensures.value c.first_after.ensures.ended end c.in-None-tag.is c.requires

pub returns-in-Some : goal.returns-in-Some
returns-in-Some g c =
    let runs = c.as_slice-runs.result.now in
    let i = c.first_after.result in
    let run = c.in-Some.run'.now in
    let some : i < length runs = search rules in
    let at : run ≡ get_or runs i run = search rules in
    let after : c.args.place < run.end = omega (arith, c.first_after.ensures.later i run (omega arith) some, ap (λ r. r.end) at) in
    record {
      tags = span-closed c.self.inside.closed.items runs c.self.inside.tag c.args.place c.self.inside.len i c.args.self.now run
          c.self.invariant c.self.view_is c.as_slice-runs.ensures.value c.first_after.ensures.ended some at after;
      after = after;
      within = span-within c.self.inside.closed.items runs c.self.inside.tag c.self.inside.len i c.args.self.now run
          c.self.invariant c.self.view_is c.as_slice-runs.ensures.value some at;
    }

pub returns-in-Some-tag : goal.returns-in-Some-tag
returns-in-Some-tag g c =
    let end : c.first_after.result ≡ length c.as_slice-runs.result.now = search rules in
    let len = length-is c.self.inside.closed.items c.self.inside.tag c.self.inside.len c.args.self.now c.self.invariant c.self.view_is in
    record {
      tags = span-open c.self.inside.closed.items c.as_slice-runs.result.now c.self.inside.tag c.in-Some-tag.tag c.args.place c.self.inside.len
          c.first_after.result c.args.self.now c.self.invariant c.self.view_is c.as_slice-runs.ensures.value c.first_after.ensures.ended end
          c.in-Some-tag.is c.requires;
      after = omega (arith, len, c.requires);
      within = omega (arith, len);
    }
