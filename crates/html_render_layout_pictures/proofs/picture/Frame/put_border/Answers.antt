use Rattle.std.proofs.Common.{◌≡◌, ℕ, ◌-◌, ◌<◌, true, List, [], ◌∷◌, ◌++◌, get_or, length, take, drop, refl, sym, ap, ◌∙◌, arith}
use Rattle.std.proofs.lemmas.Bool.Decides.{Decides-eqb}
use Rattle.std.proofs.lemmas.Result.{on_ok_weaker}
use Rattle.std.proofs.lemmas.Slice.Eq.{slice_eq-Decides}
use Rattle.html_render_layout_buffer.specs.Lines.{BufferedLines}
use Rattle.html_render_layout_pictures.specs.Picture.{border}
use Rattle.html_render_layout_pictures.specs.Separators.{separators_between}
use Rattle.html_render_layout_pictures.proofs.CellLines.{first-rest}
use Rattle.html_render_layout_pictures.proofs.picture.Frame.put_border.Goals as goal

-- the first element, whichever value an empty list gives
first-there : (ws : List ℕ) (d : ℕ) → 0 < length ws → get_or ws 0 0 ≡ get_or ws 0 d
first-there [] d h = absurd (omega (arith, h))
first-there (w ∷ ws) d h = refl

pub returns-then-eq : goal.returns-then-eq
returns-then-eq g c =
    let frame = c.args.self.now in
    let old = c.args.to.now in
    let below = c.args.below.now in
    let first = get_or below 0 0 in
    let whole : first ∷ take (length below - 1) (drop 1 below) ≡ below =
    first-rest below first c.in-len1-up.len_at_least (first-there below first c.in-len1-up.len_at_least) in
    let same : c.args.above.now ≡ below = (slice_eq-Decides Decides-eqb c.args.above.now below true c.if-eq.ensures).0 refl in
    let drawn : (above below : List ℕ) → BufferedLines g.row.T.Denot g.row.M.Denot =
    λ a b. record { lines = old.lines; line = old.line ++ border frame (separators_between a) (separators_between b) } in
    on_ok_weaker c.put_crosses.result (λ e. e ∙ ap (λ ws. drawn ws ws) whole ∙ ap (λ ws. drawn ws below) (sym same)) c.put_crosses.ensures
