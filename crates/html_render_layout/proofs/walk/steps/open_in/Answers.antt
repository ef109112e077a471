use Rattle.std.proofs.Common.{ap, ◌∙◌}
use Rattle.html_render_layout_nodes.specs.Visits.{way, past}
use Rattle.html_render_layout.specs.Opening.{keeping}
use Rattle.html_render_layout.specs.Working.{by_tags}
use Rattle.html_render_layout.proofs.walk.steps.open_in.Goals as goal

pub returns-in-Some-clause-ok : goal.returns-in-Some-clause-ok
returns-in-Some-clause-ok g c =
    let m = by_tags g.D.TextDecorator.decoration g.G.Tagging.annotated in
    c.in_ok-kind.ensures.ok c.args.item
    ∙ ap (λ k. keeping m c.args.item c.args.state.now.text (way c.open_own.new.state k)) c.in-Some.is

pub returns-in_ok-resume_outer-in-None-clause-ok : goal.returns-in_ok-resume_outer-in-None-clause-ok
returns-in_ok-resume_outer-in-None-clause-ok g c =
    let m = by_tags g.D.TextDecorator.decoration g.G.Tagging.annotated in
    c.in_ok-kind.ensures.ok c.args.item
    ∙ ap (λ k. keeping m c.args.item c.args.state.now.text (way c.open_own.new.state k)) c.in-None.is
    ∙ ap (λ o. past o) c.in_ok-resume_outer-in-None.ensures.ok
