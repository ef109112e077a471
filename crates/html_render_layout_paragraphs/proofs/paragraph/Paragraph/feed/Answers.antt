use Rattle.std.proofs.Common.{◌≡◌, length, sym, ap, ◌∙◌}
use Rattle.std.proofs.lemmas.List.{nil_from_length}
use Rattle.std.proofs.lemmas.Bool.{eqb-true}
use Rattle.std.proofs.lemmas.Str.{chars-nil}
use Rattle.std.specs.Str.{chars}
use Rattle.html_render_layout_paragraphs.specs.Stream.{after, styled}
use Rattle.html_render_layout_paragraphs.proofs.paragraph.Paragraph.feed.Goals as goal

pub returns : goal.returns
returns g c =
    let none : length c.loop-rest.rest.text.now ≡ 0 = eqb-true _ 0 (sym c.is_empty.ensures ∙ c.loop-rest-test.false) in
    record {
      ok = c.loop-rest.invariant.fed ∙ ap (λ cs. after c.loop-rest.self (styled c.args.style cs)) (ap chars (nil_from_length _ none) ∙ chars-nil);
      err = tt;
    }
