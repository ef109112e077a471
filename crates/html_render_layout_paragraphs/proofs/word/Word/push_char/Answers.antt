use Rattle.std.proofs.Common.{◌≡◌, ◌+◌, ◌++◌, ◌∷◌, [], ap, ◌∙◌, arith}
use Rattle.html_render_layout_lines.specs.declared.character.Item.TheVariants as item
use Rattle.html_render_layout_lines.specs.declared.line.Element.TheVariants as element
use Rattle.html_render_layout_lines.specs.Character.{character_of, width_of}
use Rattle.html_render_layout_lines.specs.TaggedText.{counted}
use Rattle.html_render_layout_paragraphs.proofs.WordColumns.{columns-grown, items-grown}
use Rattle.html_render_layout_paragraphs.proofs.word.Word.push_char.Goals as goal

pub invariant_of-self-2 : goal.invariant_of-self-2
invariant_of-self-2 g c =
    let width : c.args.width ≡ 0 + width_of c.args.c = omega (arith, c.requires) in
    c.counted_on-self-inside.ensures _ c.self.invariant
    ∙ ap counted (columns-grown c.self.inside.text.elements (element.Character c.args.c c.args.style ∷ []) c.push_char.new.self.elements c.args.width
    c.in_ok-push_char.ensures.ok width)

pub returns : goal.returns
returns g c = items-grown _ _ _ c.in_ok-push_char.ensures.ok ∙ ap (λ y. y ++ item.Character (character_of c.args.style c.args.c) ∷ []) c.self.view_is
