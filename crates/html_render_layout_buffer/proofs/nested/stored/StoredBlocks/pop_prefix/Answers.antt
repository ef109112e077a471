use Rattle.std.proofs.Common.{◌≡◌, true, [], rules, sym, ap, ◌∙◌}
use Rattle.html_render_layout_lines.specs.laws.Cases.{if_true}
use Rattle.html_render_layout_buffer.specs.Levels.{NestedFields, last_marks}
use Rattle.html_render_layout_buffer.proofs.OpenBlocks.{last-popped}
use Rattle.html_render_layout_buffer.proofs.nested.stored.StoredBlocks.pop_prefix.Goals as goal

pub returns-in-Some-clause-marks : goal.returns-in-Some-clause-marks
returns-in-Some-clause-marks g c =
    let has : c.args.has_prefix ≡ true = search rules in
    let popped = ap (λ (x : NestedFields _ _). x.prefixes) (sym c.self.view_is) ∙ c.in-Some.ensures.items in
    c.into_marks.ensures ∙ last-popped c.args.self.now.prefixes _ c.in-Some.prefix popped
    ∙ sym (if_true c.args.has_prefix (last_marks c.args.self.now.prefixes) [] has)
