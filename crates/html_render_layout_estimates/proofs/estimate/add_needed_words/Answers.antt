use Rattle.std.proofs.Common.{sym, ap, ◌∙◌}
use Rattle.std.specs.Prelude.{if◌then◌else◌}
use Rattle.html_render_layout_nodes.specs.Preorder.{flatten, forest_of}
use Rattle.html_render_layout_estimates.specs.Passes.{has_table}
use Rattle.html_render_layout_estimates.specs.Words.{worded}
use Rattle.html_render_layout_estimates.specs.laws.Words.{words-plain}
use Rattle.html_render_layout_estimates.proofs.estimate.add_needed_words.Goals as goal
use Rattle.html_render_layout_estimates.proofs.estimate.add_needed_words.Goals.{else-settings-via-then-settings+else-any_table, else-settings-via-else-settings}

pub returns-else-settings : goal.returns-else-settings
returns-else-settings c =
    let all = forest_of c.args.entries.now.items in
    sym c.requires ∙ ap flatten (elim c.else-settings.branch [
      | else-settings-via-then-settings+else-any_table w ↦ sym (words-plain c.args.settings.now all (ap (λ es. has_table (forest_of es)) (sym w.deref.ensures.value) ∙ sym w.any_table.ensures ∙ w.if-any_table.false))
      | else-settings-via-else-settings w ↦ sym (ap (λ b. if b then worded c.args.settings.now all else all) w.if-settings.false)
    ])
