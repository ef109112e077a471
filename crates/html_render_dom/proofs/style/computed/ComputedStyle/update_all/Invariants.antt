use Rattle.std.proofs.Common.{◌≡◌, take}
use Rattle.std.specs.List.{flat_map}
use Rattle.html_render_dom.specs.Applying.{with_declarations}
use Rattle.html_render_dom.proofs.Applies.{said_by}
use Rattle.html_render_dom.proofs.style.computed.ComputedStyle.update_all.Given as goal

abbrev pub invariant-loop-declaration : goal.invariant-loop-declaration
invariant-loop-declaration l =
    l.self ≡ with_declarations l.initial.self
    (flat_map (said_by l.source.origin l.source.specificity l.source.pseudo) (take l.declaration-index l.declaration-items))
