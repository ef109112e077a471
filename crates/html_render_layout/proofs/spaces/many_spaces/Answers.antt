use Rattle.std.proofs.Common.{◌++◌, ◌∙◌, ap}
use Rattle.std.specs.Str.{chars}
use Rattle.html_render_layout.specs.Layout.{spaces}
use Rattle.html_render_layout_pictures.specs.laws.Fillers.{chars-spaces}
use Rattle.html_render_layout.proofs.spaces.many_spaces.Goals as goal

pub returns-clause-ok : goal.returns-clause-ok
returns-clause-ok c =
    ap chars (c.in_ok-push_spaces.ensures ∙ ap (λ bytes. bytes ++ spaces c.args.count) c.new-text.ensures.bytes)
    ∙ chars-spaces c.args.count
