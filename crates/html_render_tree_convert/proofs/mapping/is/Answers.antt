use Rattle.std.proofs.Common.{sym, ap₂, ◌∙◌, arith}
use Rattle.std.specs.Str.{bytes_eq}
use Rattle.html_render_tree_convert.proofs.Names.{same_bytes}
use Rattle.html_render_tree_convert.proofs.mapping.is.Goals as goal

pub returns : goal.returns
returns c =
    let same = same_bytes c.as_bytes-bytes.result.now c.as_bytes-others.result.now (omega (arith, c.if-bytes-others.false))
    (λ k low. c.loop-at.invariant k (omega (arith, low, c.loop-at-test.false))) in
    sym (ap₂ bytes_eq (sym c.as_bytes-bytes.ensures.value) (sym c.as_bytes-others.ensures.value) ∙ same)
