use Rattle.std.proofs.Common.{◌≡◌, ◌++◌, subst, OnOk}
use Rattle.html_render_layout_buffer.proofs.TagLists.{part-is, rising-is}
use Rattle.html_render_layout_buffer.proofs.runs.TagRuns.append_runs.Goals as goal

pub first_after-first-requires : goal.first_after-first-requires
first_after-first-requires g c = rising-is _ _ _ _ c.other.invariant c.as_slice-runs.ensures.value

pub returns : goal.returns
returns g c =
    let part = part-is _ _ _ _ _ _ _ _ c.other.invariant c.other.view_is c.as_slice-runs.ensures.value c.requires.range c.requires.within
    c.first_after-first.ensures.ended c.first_after-first.ensures.bound in
    subst (λ ts. OnOk c.push_runs.result (c.push_runs.new.self ≡ c.args.self.now ++ ts)) part c.push_runs.ensures
