use Rattle.std.proofs.Common.{rules, ◌≡◌, [], ◌++◌, length, sym, ap, ◌∙◌, subst, OnOk}
use Rattle.std.proofs.lemmas.List.{nil_from_length}
use Rattle.html_render_layout_buffer.specs.Runs.{tags_between}
use Rattle.html_render_layout_buffer.proofs.TagLists.{between_is}
use Rattle.html_render_layout_buffer.proofs.runs.TagRuns.append_range.Goals as goal

pub returns-then-is_empty : goal.returns-then-is_empty
returns-then-is_empty g c =
    let runs = c.as_slice-runs.result.now in
    let few : length runs ≡ 0 = search rules in
    let none : runs ≡ [] = nil_from_length runs few in
    let part = sym (ap (λ y. tags_between c.args.from c.args.to y c.other.inside.tag) none)
    ∙ between_is _ runs c.other.inside.tag c.args.from c.args.to _ _ c.other.invariant c.other.view_is c.as_slice-runs.ensures.value
    c.requires.range c.requires.within in
    subst (λ ts. OnOk c.push_last.result (c.push_last.new.self ≡ c.args.self.now ++ ts)) part c.push_last.ensures
