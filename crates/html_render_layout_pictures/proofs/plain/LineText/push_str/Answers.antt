use Rattle.std.proofs.Common.{◌++◌, refl, ap, ◌∙◌}
use Rattle.std.specs.Str.{chars}
use Rattle.std.specs.String.{string_bytes}
use Rattle.html_render_layout_pictures.proofs.Blanks.{text_added}
use Rattle.html_render_layout_pictures.proofs.PlainLines.{columns-added}
use Rattle.html_render_layout_pictures.proofs.plain.LineText.push_str.Goals as goal

pub invariant_of-self-2 : goal.invariant_of-self-2
invariant_of-self-2 c =
    let old = c.self.inside.text in
    let more = ap chars c.in_ok-push_str.ensures.bytes ∙ text_added old c.args.text.now (chars c.args.text.now) refl in
    columns-added (chars (string_bytes old)) _ (chars c.args.text.now) _ c.args.columns _ c.self.invariant c.requires c.in-Some.ensures.1 more

pub returns : goal.returns
returns c =
    let old = c.self.inside.text in
    ap chars c.in_ok-push_str.ensures.bytes ∙ text_added old c.args.text.now (chars c.args.text.now) refl
    ∙ ap (λ cs. cs ++ chars c.args.text.now) c.self.view_is
