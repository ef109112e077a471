-- Places of a row as the code passes them, and columns that are split.
use Rattle.std.proofs.Common.{◌≡◌, ℕ, ◌+◌, ◌-◌, ◌<◌, Bool, true, false, not, List, [], ◌∷◌, ◌++◌, length, sum, take, drop, find, reverse, ap, ◌∙◌}
use Rattle.std.proofs.Common.{arith, cond, get_or, sym, append_assoc, Option, Some, option_and_then, length-append}
use Rattle.std.specs.List.{position_or_len}
use Rattle.std.proofs.lemmas.List.{take-append-drop, take_min, drop_min, reverse-append, at_drop_more}
use Rattle.std.proofs.lemmas.List.Sums.{sum_by-append}
use Rattle.html_render_parts.specs.declared.table.PlacedCell.{PlacedCell}
use Rattle.html_render_layout_blocks.specs.declared.block.rows.RowPlace.{RowPlace}
use Rattle.html_render_parts.specs.TableCells.{is_cell}
use Rattle.html_render_layout_blocks.specs.OpenRows.{cell_width, places, next_width, empty_cells}
use Rattle.html_render_layout_blocks.specs.RowSteps.{after_cell, before_cell}
use Rattle.html_render_layout_blocks.specs.laws.NextCells.{after-past, before-past}

pub ruleset columns_at = (take_min, drop_min)

-- ---- A part of the columns is no wider

parts_fit : (n b : ℕ) (ws : List ℕ) → sum ws + (length ws - 1) < b →
    (sum (take n ws) + (length (take n ws) - 1) < b) × (sum (drop n ws) + (length (drop n ws) - 1) < b)
parts_fit n b ws h =
    let whole = take-append-drop n ws in
    omega (
      arith,
      h,
      ap sum whole,
      sum_by-append (λ x. x) (take n ws) (drop n ws),
      ap length whole,
      length-append (take n ws) (drop n ws),
    )

pub own_fits : (n b : ℕ) (ws : List ℕ) → sum ws + (length ws - 1) < b → sum (take n ws) + (length (take n ws) - 1) < b
own_fits n b ws h = (parts_fit n b ws h).0

pub behind_fits : (n b : ℕ) (ws : List ℕ) → sum ws + (length ws - 1) < b → sum (drop n ws) + (length (drop n ws) - 1) < b
behind_fits n b ws h = (parts_fit n b ws h).1

-- ---- Places in reverse: the last one is next

last-first : {X : Type 0} (xs before : List X) (x : X) → xs ≡ before ++ x ∷ [] → reverse xs ≡ x ∷ reverse before
last-first xs before x e = ap reverse e ∙ reverse-append before (x ∷ [])

-- Number of places before the next cell, in a place that may have one and others.
abbrev to_cell : (stands : Bool) → List RowPlace → ℕ
to_cell stands ps = cond (not stands) (1 + position_or_len (λ p. p.is_cell) ps) 0

pub next-reversed : (xs before : List RowPlace) (p : RowPlace) (stands : Bool) → xs ≡ before ++ p ∷ [] → p.is_cell ≡ stands →
    next_width (reverse xs) ≡ option_and_then (λ (q : RowPlace). q.width) (cond stands (Some p) (find (λ q. q.is_cell) (reverse before)))
next-reversed xs before p stands e is =
    ap next_width (last-first xs before p e)
    ∙ ap (λ b. option_and_then (λ (q : RowPlace). q.width) (cond b (Some p) (find (λ q. q.is_cell) (reverse before)))) is

pub behind-reversed : (xs before : List RowPlace) (p : RowPlace) (stands : Bool) → xs ≡ before ++ p ∷ [] → p.is_cell ≡ stands →
    after_cell (reverse xs) ≡ cond stands (reverse before) (after_cell (reverse before))
behind-reversed xs before p true e is =
    ap after_cell (last-first xs before p e) ∙ ap (λ b. drop (to_cell b (reverse before) + 1) (p ∷ reverse before)) is
behind-reversed xs before p false e is =
    ap after_cell (last-first xs before p e)
    ∙ ap (λ b. drop (to_cell b (reverse before) + 1) (p ∷ reverse before)) is ∙ after-past p (reverse before)

pub before-reversed : {T M : Type 0} (xs before : List RowPlace) (p : RowPlace) (stands : Bool) → xs ≡ before ++ p ∷ [] → p.is_cell ≡ stands →
    empty_cells {T = T} {M = M} (before_cell (reverse xs)) ≡ empty_cells (cond stands [] (p ∷ before_cell (reverse before)))
before-reversed xs before p true e is =
    ap (λ ps. empty_cells (before_cell ps)) (last-first xs before p e)
    ∙ ap (λ b. empty_cells (take (to_cell b (reverse before)) (p ∷ reverse before))) is
before-reversed xs before p false e is =
    ap (λ ps. empty_cells (before_cell ps)) (last-first xs before p e)
    ∙ ap (λ b. empty_cells (take (to_cell b (reverse before)) (p ∷ reverse before))) is
    ∙ ap (λ ps. empty_cells ps) (before-past p (reverse before))

-- ---- Places of cells

pub places-more : (widths : List ℕ) (cells : List PlacedCell) (i : ℕ) (d : PlacedCell) → i < length cells → places widths (drop i cells)
    ≡ record { is_cell = is_cell (get_or cells i d).kind; width = cell_width (take (get_or cells i d).columns widths) }
    ∷ places (drop (get_or cells i d).columns widths) (drop (i + 1) cells)
places-more widths cells i d h = at_drop_more (places widths) cells i d h

-- One more place.
pub places-step : (all : List RowPlace) (rest own behind : List ℕ) (cells : List PlacedCell) (i : ℕ) (d : PlacedCell) (row more : List RowPlace) (is : Bool)
    (width : Option ℕ) → all ≡ row ++ places rest (drop i cells) → i < length cells → own ≡ take (get_or cells i d).columns rest →
    behind ≡ drop (get_or cells i d).columns rest → is ≡ is_cell (get_or cells i d).kind → width ≡ cell_width own →
    more ≡ row ++ record { is_cell = is; width = width } ∷ [] → all ≡ more ++ places behind (drop (i + 1) cells)
places-step all rest own behind cells i d row more is width whole inside own_is behind_is is_is width_is more_is =
    let s : PlacedCell = get_or cells i d in
    let here : RowPlace = record { is_cell = is_cell s.kind; width = cell_width (take s.columns rest) } in
    let step : more ≡ row ++ here ∷ [] = more_is
    ∙ ap (λ b. row ++ record { is_cell = b; width = width } ∷ []) is_is
    ∙ ap (λ w. row ++ record { is_cell = is_cell s.kind; width = w } ∷ []) (width_is ∙ ap cell_width own_is) in
    whole
    ∙ ap (λ ps. row ++ ps) (places-more rest cells i d inside)
    ∙ sym (append_assoc row (here ∷ []) (places (drop s.columns rest) (drop (i + 1) cells)))
    ∙ ap (λ ps. ps ++ places (drop s.columns rest) (drop (i + 1) cells)) (sym step)
    ∙ ap (λ ws. more ++ places ws (drop (i + 1) cells)) (sym behind_is)
