-- Places before the next cell of a row and after it, where a place without a cell precedes them.
use Rattle.std.proofs.Common.{◌≡◌, suc, ◌+◌, List, ◌∷◌, take, drop, ap, arith}
use Rattle.std.specs.List.{position_or_len}
use Rattle.html_render_layout_blocks.specs.declared.block.rows.RowPlace.{RowPlace}
use Rattle.html_render_layout_blocks.specs.RowSteps.{after_cell, before_cell}

pub before-past : (p : RowPlace) (ps : List RowPlace) → take (1 + position_or_len (λ (q : RowPlace). q.is_cell) ps) (p ∷ ps) ≡ p ∷ before_cell ps
before-past p ps =
    let n = position_or_len (λ (q : RowPlace). q.is_cell) ps in
    let more : 1 + n ≡ suc n = omega arith in
    ap (λ k. take k (p ∷ ps)) more

pub after-past : (p : RowPlace) (ps : List RowPlace) → drop (1 + position_or_len (λ (q : RowPlace). q.is_cell) ps + 1) (p ∷ ps) ≡ after_cell ps
after-past p ps =
    let n = position_or_len (λ (q : RowPlace). q.is_cell) ps in
    let more : 1 + n + 1 ≡ suc (n + 1) = omega arith in
    ap (λ k. drop k (p ∷ ps)) more
