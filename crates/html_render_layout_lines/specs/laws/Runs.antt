-- Runs that cut a text up.
use Rattle.std.proofs.Common.{◌≡◌, ℕ, suc, ◌+◌, ◌<◌, ◌≤◌, get_or, drop-cons, List, [], ◌∷◌, take, drop, length, sym, ap, ◌∙◌, subst, arith, length-drop}
use Rattle.std.proofs.lemmas.List.{drop-drop, take-append-drop}
use Rattle.std.proofs.lemmas.Str.{IsUtf8-append, IsUtf8-nil, IsCharBoundary-from_drop}
use Rattle.std.specs.Str.{IsUtf8, IsCharBoundary}
use Rattle.html_render_layout_lines.specs.declared.line.tagged_text.Run.{Run}
use Rattle.html_render_layout_lines.specs.declared.line.tagged_text.Run.TheVariants as run
use Rattle.html_render_layout_lines.specs.TaggedText.{Cuts}

-- a text that runs cut up is made of whole characters
pub IsUtf8-Cuts : {T M : Type 0} (rs : List (Run T M)) (bs : List ℕ) → Cuts rs bs → IsUtf8 bs
IsUtf8-Cuts [] bs cuts = subst IsUtf8 (sym cuts) IsUtf8-nil
IsUtf8-Cuts (run.Mark m ∷ rs) bs cuts = IsUtf8-Cuts rs bs cuts
IsUtf8-Cuts (run.Text n tag ∷ rs) bs cuts =
    subst IsUtf8 (take-append-drop n bs) (IsUtf8-append (take n bs) (drop n bs) cuts.1 (IsUtf8-Cuts rs (drop n bs) cuts.2))

-- a run that is met in a loop ends between two characters
pub run-end : {T M : Type 0} (rs : List (Run T M)) (i at n : ℕ) (tag : T) (bs : List ℕ) (r : Run T M) → i < length rs → r ≡ get_or rs i r →
    r ≡ run.Text n tag → at ≤ length bs → Cuts (drop i rs) (drop at bs) → IsCharBoundary bs (at + n)
run-end {T} {M} rs i at n tag bs r h e f within cuts =
    let first : drop i rs ≡ run.Text n tag ∷ drop (suc i) rs = drop-cons rs i r h ∙ ap (λ x. x ∷ drop (suc i) rs) (sym e ∙ f) in
    let here : Cuts (run.Text n tag ∷ drop (suc i) rs) (drop at bs) = subst (λ x. Cuts x (drop at bs)) first cuts in
    let rest : drop n (drop at bs) ≡ drop (at + n) bs = drop-drop n at bs in
    IsCharBoundary-from_drop bs (at + n) (omega (arith, here.0, length-drop at bs))
    (subst IsUtf8 rest (IsUtf8-Cuts (drop (suc i) rs) (drop n (drop at bs)) here.2))
