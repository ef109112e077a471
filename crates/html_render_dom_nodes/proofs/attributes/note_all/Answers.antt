use Rattle.std.proofs.Common.{Some, None, if◌then◌else◌, ap, ◌∙◌, ◌+◌, arith}
use Rattle.std.proofs.lemmas.List.{length-take-le}
use Rattle.std.specs.Str.{bytes_eq}
use Rattle.html_render_dom_nodes.specs.Places.{first_of}
use Rattle.html_render_dom_nodes.proofs.Places.{place_of-more}
use Rattle.html_render_dom_nodes.proofs.attributes.note_all.Goals as goal

pub loop-number-preserved : goal.loop-number-preserved
loop-number-preserved c = λ name.
    let attrs = c.args.attrs.now in
    let i = c.loop-number.number in
    let a = c.index-attrs-number.result in
    c.in_ok-note.ensures name
    ∙ ap (λ before. first_of before (if bytes_eq name a.name.local then Some (c.args.start + i) else None)) (c.loop-number.invariant name)
    ∙ place_of-more name c.args.start attrs i a _ c.loop-number-test.true c.index-attrs-number.is (length-take-le i attrs (omega (arith, c.loop-number-test.true)))
