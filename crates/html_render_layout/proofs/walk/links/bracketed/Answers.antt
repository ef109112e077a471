use Rattle.std.proofs.Common.{[], ◌∷◌, ◌++◌, ap, ◌∙◌}
use Rattle.std.proofs.lemmas.Fmt.{contents_after_writes}
use Rattle.std.specs.Fmt.{decimal}
use Rattle.arrayvec.specs.declared.array_string.ArrayString.{ArrayString}
use Rattle.html_render_layout.proofs.walk.links.bracketed.Goals as goal

pub returns : goal.returns
returns c =
    contents_after_writes _ (λ (s : ArrayString 22). s.bytes) (λ _ _ _ h. h) _ _ _ c.in_ok-write.ensures.writes
    ∙ ap (λ bs. bs ++ (91 ∷ (decimal c.args.number ++ 93 ∷ []))) c.new-text.ensures
