use Rattle.std.proofs.Common.{◌++◌, sym, ap, ◌∙◌}
use Rattle.std.specs.Str.{chars}
use Rattle.html_render_layout_lines.specs.Line.{word_columns}
use Rattle.html_render_layout_lines.specs.TaggedText.{counted, items_of, under}
use Rattle.html_render_layout_paragraphs.specs.Stream.{styled}
use Rattle.html_render_layout_paragraphs.proofs.WordColumns.{columns-grown, items-grown, items-under, word_columns-styled}
use Rattle.html_render_layout_paragraphs.proofs.word.Word.push_str.Goals as goal

pub invariant_of-self-2 : goal.invariant_of-self-2
invariant_of-self-2 g c =
    let M = g.row.M.Denot in
    let cs = chars c.args.text.now in
    let width = c.requires ∙ sym (ap word_columns (items-under M c.args.style cs) ∙ word_columns-styled M c.args.style cs) in
    c.counted_on-self-inside.ensures _ c.self.invariant ∙ ap counted (columns-grown _ (under c.args.style cs) _ c.args.width c.in_ok-push_str.ensures.ok width)

pub returns : goal.returns
returns g c =
    let cs = chars c.args.text.now in
    items-grown _ (under c.args.style cs) _ c.in_ok-push_str.ensures.ok ∙ ap (λ y. items_of c.self.inside.text.elements ++ y) (items-under g.row.M.Denot c.args.style cs)
    ∙ ap (λ y. y ++ styled c.args.style cs) c.self.view_is
