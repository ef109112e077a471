use Rattle.std.proofs.Common.{◌≡◌, map-id, sym, ap, ◌∙◌}
use Rattle.std.proofs.lemmas.Iterator.{YieldsList-from_chars}
use Rattle.std.proofs.lemmas.Iterator.Consumers.{YieldsList-end}
use Rattle.std.specs.Str.{chars}
use lib.Utf8.{encodes}
use Rattle.html_render_layout_blocks.specs.RowSteps.{on_one_line}
use Rattle.html_render_layout_blocks.proofs.Closing.{chars-unbroken}
use Rattle.html_render_layout_blocks.proofs.block.closing.on_one_line.Goals as goal

pub returns : goal.returns
returns c =
    let end = YieldsList-end (YieldsList-from_chars c.args.text.now c.utf8.text cc) c.loop-c.yielded _ c.loop-c.yielded_by _ _ c.in-None.is
    c.next.ensures.steps in
    let same : c.loop-c.yielded ≡ chars c.args.text.now = sym (map-id c.loop-c.yielded) ∙ end.0 in
    ap chars (c.loop-c.invariant ∙ ap (λ cs. encodes (on_one_line cs)) same) ∙ chars-unbroken c.args.text.now c.utf8.text
