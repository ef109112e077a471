use Rattle.std.proofs.Common.{◌≡◌, length, sym, ap, ◌∙◌}
use Rattle.std.proofs.lemmas.List.{nil_from_length}
use Rattle.std.proofs.lemmas.Bool.{eqb-true}
use Rattle.std.proofs.lemmas.Str.{chars-nil}
use Rattle.std.specs.Str.{chars}
use Rattle.html_render_layout_paragraphs.specs.Paragraph.{put_items}
use Rattle.html_render_layout_paragraphs.specs.Stream.{on_page, styled}
use Rattle.html_render_layout_paragraphs.proofs.paragraph.Paragraph.put_characters.Goals as goal

pub returns-clause-ok : goal.returns-clause-ok
returns-clause-ok g c =
    let none : length c.loop-rest.rest.now ≡ 0 = eqb-true _ 0 (sym c.is_empty.ensures ∙ c.loop-rest-test.false) in
    c.loop-rest.invariant.same
    ∙ ap (λ cs. on_page c.loop-rest.self (put_items c.loop-rest.self.setting c.loop-rest.self.page (styled c.args.style cs)))
    (ap chars (nil_from_length _ none) ∙ chars-nil)
