-- The update that is stored is the winner among all updates.
use Rattle.std.proofs.Common.{◌≡◌, true, false, List, [], ◌∷◌, ◌++◌, Option, Some, None, refl, sym, ap, ◌∙◌}
use Rattle.html_render_dom_styles.specs.declared.updates.Update.{Update}
use Rattle.html_render_dom_styles.specs.Cascade.{winner}
use Rattle.html_render_dom_styles.specs.Keeping.{key_of, yields_to}
use Rattle.html_render_dom_styles.specs.laws.Winners.{later, yields, winner-push}

-- an update that replaces the winner of a list is the winner of the list with it
pub winner-taken : {T : Type 0} (kept : Option (Update T)) (u : Update T) (us : List (Update T)) → yields_to kept (key_of u) ≡ true →
    kept ≡ winner us → Some u ≡ winner (us ++ u ∷ [])
winner-taken None u us y e = sym (winner-push us u ∙ ap (λ o. later yields o u) (sym e))
winner-taken (Some w) u us y e = sym (winner-push us u ∙ ap (λ o. later yields o u) (sym e) ∙ rw y refl)

-- after an update that doesn't replace it, the winner of a list is the winner of the list with that update
pub winner-left : {T : Type 0} (kept : Option (Update T)) (u : Update T) (us : List (Update T)) → yields_to kept (key_of u) ≡ false →
    kept ≡ winner us → kept ≡ winner (us ++ u ∷ [])
winner-left None u us y e = cc
winner-left (Some w) u us y e = sym (winner-push us u ∙ ap (λ o. later yields o u) (sym e) ∙ rw y refl)

pub ruleset keeps = (winner-taken, winner-left)
