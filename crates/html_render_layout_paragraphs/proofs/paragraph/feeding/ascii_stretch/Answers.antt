use Rattle.std.proofs.Common.{sym, ◌∙◌}
use Rattle.html_render_layout_lines.specs.laws.Cases.{if_true, if_false}
use Rattle.html_render_dom_values.specs.WhiteSpace.{wraps}
use Rattle.html_render_layout_paragraphs.proofs.Stretches.{ascii-stretch}
use Rattle.html_render_layout_paragraphs.proofs.paragraph.feeding.ascii_stretch.Goals as goal

pub returns-then-do_wrap : goal.returns-then-do_wrap
returns-then-do_wrap c =
    let ascii = rw c.as_bytes.ensures.value at c.plain_in_front-count.ensures.plain in
    let within = rw c.as_bytes.ensures.value at c.plain_in_front-count.ensures.within in
    let least = if_true (wraps c.args.mode) 33 32 (sym c.do_wrap.ensures ∙ c.if-do_wrap.true) in
    ascii-stretch c.args.mode 33 c.args.text.now c.plain_in_front-count.result least c.utf8.text ascii within

pub returns-else-do_wrap : goal.returns-else-do_wrap
returns-else-do_wrap c =
    let ascii = rw c.as_bytes-else-do_wrap.ensures.value at c.printable_in_front-count.ensures.printable in
    let within = rw c.as_bytes-else-do_wrap.ensures.value at c.printable_in_front-count.ensures.within in
    let least = if_false (wraps c.args.mode) 33 32 (sym c.do_wrap.ensures ∙ c.if-do_wrap.false) in
    ascii-stretch c.args.mode 32 c.args.text.now c.printable_in_front-count.result least c.utf8.text ascii within
