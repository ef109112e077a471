use Rattle.std.proofs.Common.{◌≡◌, ◌+◌, ◌-◌, length, subst, arith}
use Rattle.html_render_layout_paragraphs.specs.Feeding.{IsFront}
use Rattle.html_render_layout_paragraphs.proofs.SpacedWords.{no-front, next-front}
use Rattle.html_render_layout_paragraphs.proofs.paragraph.word.first_front.Goals as goal

pub returns-then-width-room-clause-front : goal.returns-then-width-room-clause-front
returns-then-width-room-clause-front c = no-front c.args.text.now c.utf8.text

pub returns-clause-front : goal.returns-clause-front
returns-clause-front c =
    let bs = c.args.text.now in
    let rest = c.split_first_character-c.result.1.now in
    let width = c.width_of-width.result in
    let same : 0 + width ≡ width = omega arith in
    subst (λ w. IsFront bs (length bs - length rest) w) same
    (next-front bs rest 0 0 c.split_first_character-c.result.0 width c.utf8.text (no-front bs c.utf8.text)
    c.split_first_character-c.ensures.bytes c.split_first_character-c.ensures.text c.width_of-width.ensures)
