use Rattle.std.proofs.Common.{◌≡◌, ◌++◌, List, length, Some}
use Rattle.html_render_tree_records.specs.Settings.{configured}
use Rattle.html_render_tree_records.specs.declared.settings.Setting.{Setting}
use Rattle.html_render_tree_records.proofs.rendering.with_settings.Given as goal

-- the settings that are done make this configuration of the first one
abbrev pub invariant-loop-setting : goal.invariant-loop-setting
invariant-loop-setting g l = (done : List Setting) × (l.settings ≡ done ++ l.rest) × (configured l.text done l.initial.config ≡ Some l.config)

abbrev pub decreases-loop-setting : goal.decreases-loop-setting
decreases-loop-setting g l = length l.rest
