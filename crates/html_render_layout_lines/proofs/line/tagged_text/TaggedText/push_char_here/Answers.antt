use Rattle.std.proofs.Common.{ap, ◌∙◌}
use Rattle.std.specs.Prelude.{encode_utf8}
use Rattle.std.proofs.lemmas.Str.{IsUtf8-encode}
use Rattle.html_render_layout_lines.specs.TaggedText.{Content, under}
use Rattle.html_render_layout_lines.proofs.TaggedTexts.{all-longer, is-longer}
use Rattle.html_render_layout_lines.specs.laws.Characters.{chars-one}
use Rattle.html_render_layout_lines.proofs.line.tagged_text.TaggedText.push_char_here.Goals as goal

pub invariant_of-self-2 : goal.invariant_of-self-2
invariant_of-self-2 g c =
    let tag = ap (λ (t : Content g.row.T.Denot g.row.M.Denot). t.tag) c.self.view_is ∙ c.requires in
    rw c.in_ok-push.ensures.ok (is-longer _ _ c.args.tag _ _ _ c.self.invariant tag (IsUtf8-encode c.args.c c.ranges.c.0))

pub returns-clause-ok : goal.returns-clause-ok
returns-clause-ok g c =
    let tag = ap (λ (t : Content g.row.T.Denot g.row.M.Denot). t.tag) c.self.view_is ∙ c.requires in
    let same = all-longer c.self.inside.runs.items c.self.inside.tag c.args.tag c.self.inside.start c.self.inside.text
    (encode_utf8 c.args.c) c.self.invariant tag in
    let one = ap (under {M = g.row.M.Denot} c.args.tag) (chars-one c.args.c (IsUtf8-encode c.args.c c.ranges.c.0)) in
    let elements = ap (λ (t : Content g.row.T.Denot g.row.M.Denot). t.elements) c.self.view_is in
    rw c.in_ok-push.ensures.ok (cc)
