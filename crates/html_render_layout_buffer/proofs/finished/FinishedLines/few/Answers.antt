use Rattle.std.proofs.Common.{rules, ◌≡◌, [], ◌++◌, length, sym, ap, ◌∙◌}
use Rattle.std.proofs.lemmas.List.{nil_from_length}
use Rattle.html_render_layout_buffer.specs.Pieces.{lines_of}
use Rattle.html_render_layout_buffer.proofs.finished.FinishedLines.few.Goals as goal

pub returns : goal.returns
returns g c =
    let first = lines_of c.self.inside.pieces in
    let ls = c.self.inside.last.lines in
    let none : length first ≡ 0 = search rules in
    let whole : c.self.inside.last ≡ record { lines = ls; line = [] } = ap (λ l. record { lines = ls; line = l }) c.self.invariant in
    whole ∙ ap (λ y. record { lines = y; line = [] }) (sym (ap (λ y. y ++ ls) (nil_from_length first none)) ∙ c.self.view_is)
