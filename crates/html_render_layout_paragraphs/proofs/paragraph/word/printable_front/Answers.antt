use Rattle.std.proofs.Common.{◌≤◌, sym, ap, ◌∙◌, length, arith}
use Rattle.std.proofs.lemmas.List.{take-take, length-take}
use Rattle.std.specs.List.{list_all}
use Rattle.html_render_layout_paragraphs.specs.Feeding.{is_ascii_from}
use Rattle.html_render_layout_paragraphs.proofs.Stretches.{ascii-front}
use Rattle.html_render_layout_paragraphs.proofs.paragraph.word.printable_front.Goals as goal

pub returns-clause-front : goal.returns-clause-front
returns-clause-front c =
    let bs = c.args.text.now in
    let n = c.printable_in_front.result in
    let m = c.min.result in
    let ascii = rw c.as_bytes-bytes.ensures.value at c.printable_in_front.ensures.printable in
    let within = rw c.as_bytes-bytes.ensures.value at c.printable_in_front.ensures.within in
    let short : n ≤ m = omega (arith, within, length-take m bs) in
    let inside : n ≤ length bs = omega (arith, within, length-take m bs) in
    ascii-front 32 bs n (omega arith) c.utf8.text (ap (list_all (is_ascii_from 32)) (sym (take-take n m bs short)) ∙ ascii) inside
