use Rattle.std.proofs.Common.{[], ◌∷◌, ◌∙◌, sym, ap, map-id, arith}
use Rattle.std.proofs.lemmas.Iterator.{YieldsList-from_chars}
use Rattle.std.proofs.lemmas.Iterator.Consumers.{YieldsList-end}
use Rattle.std.proofs.lemmas.List.Sums.{sum_by-append}
use Rattle.html_render_layout_lines.specs.Character.{width_of}
use Rattle.html_render_layout_lines.specs.TaggedText.{counted, text_columns}
use Rattle.html_render_layout_lines.proofs.line.columns.text_columns.Goals as goal

pub loop-c-preserved : goal.loop-c-preserved
loop-c-preserved c =
    c.counted_on-count.ensures (text_columns c.loop-c.yielded) c.loop-c.invariant
    ∙ ap counted (omega (arith, c.width_of.ensures, sum_by-append width_of c.loop-c.yielded (c.in-Some.c ∷ [])))

pub returns : goal.returns
returns c =
    let end = YieldsList-end (YieldsList-from_chars c.args.text.now c.utf8.text cc) c.loop-c.yielded _ c.loop-c.yielded_by _ _ c.in-None.is
    c.next.ensures.steps in
    c.loop-c.invariant ∙ ap (λ cs. counted (text_columns cs)) (sym (map-id c.loop-c.yielded) ∙ end.0)
