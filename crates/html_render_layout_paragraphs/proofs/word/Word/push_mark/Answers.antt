use Rattle.std.proofs.Common.{◌≡◌, ◌+◌, ◌++◌, ◌∷◌, [], refl, ap, ◌∙◌, arith}
use Rattle.html_render_layout_lines.specs.declared.character.Item.TheVariants as item
use Rattle.html_render_layout_lines.specs.declared.line.Element.TheVariants as element
use Rattle.html_render_layout_lines.specs.Line.{word_columns}
use Rattle.html_render_layout_lines.specs.TaggedText.{counted, items_of}
use Rattle.html_render_layout_paragraphs.proofs.WordColumns.{columns-grown, items-grown}
use Rattle.html_render_layout_paragraphs.proofs.word.Word.push_mark.Goals as goal

pub invariant_of-self-2 : goal.invariant_of-self-2
invariant_of-self-2 g c =
    let was = c.self.inside.text.elements in
    let same : word_columns (items_of was) ≡ word_columns (items_of was) + 0 = omega arith in
    c.self.invariant ∙ ap counted (same ∙ columns-grown was (element.Mark c.args.mark ∷ []) c.push_mark.new.self.elements 0 c.in_ok-push_mark.ensures.ok refl)

pub returns : goal.returns
returns g c = items-grown _ _ _ c.in_ok-push_mark.ensures.ok ∙ ap (λ y. y ++ item.Mark c.args.mark ∷ []) c.self.view_is
