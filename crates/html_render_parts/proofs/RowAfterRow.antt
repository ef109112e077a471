-- Rows placed one after another are the rows of the definition.
use Rattle.std.proofs.Common.{◌≡◌, ℕ, ◌+◌, true, false, List, ◌∷◌, ◌++◌, Some, None, refl, sym, ap, inl, inr}
use Rattle.std.proofs.lemmas.Bool.{cases_Bool}
use Rattle.html_render_parts.specs.declared.table.Span.{Span}
use Rattle.html_render_parts.specs.Placement.{bottom_rows, hanging, own_from, row_from, rows_from}
use Rattle.html_render_parts.specs.PlacementSteps.{IsNextBottom, Placing, row_fits, row_told, with_next_row}
use Rattle.html_render_parts.specs.Positions.{positions_fit}

-- whether `next` places the definition's next row, and it fits
pub record IsNext (row : ℕ) (cells : List Span) (done next : Placing) : Type 0 where
  pub places : next.places ≡ row_from 0 done.hanging cells
  pub own : next.own ≡ own_from row 0 done.hanging cells
  pub told : next.told ≡ row_told 0 done.hanging cells
  pub hangs_on : next.hanging ≡ hanging (row + 1) (done.hanging ++ own_from row 0 done.hanging cells)
  pub fits : row_fits (row_from 0 done.hanging cells) ≡ true

pub next-is : (row : ℕ) (cells : List Span) (done next : Placing) → with_next_row row cells done ≡ Some next → IsNext row cells done next
next-is row cells done next e = elim (cases_Bool (row_fits (row_from 0 done.hanging cells))) [
  | inl t ↦
      let own = own_from row 0 done.hanging cells in
      let is : Placing = record {
        places = row_from 0 done.hanging cells;
        own = own;
        told = row_told 0 done.hanging cells;
        hanging = hanging (row + 1) (done.hanging ++ own);
      } in
      let same : is ≡ next = let f = rw t at e in cc in
      record {
        places = ap (λ p. p.places) (sym same);
        own = ap (λ p. p.own) (sym same);
        told = ap (λ p. p.told) (sym same);
        hangs_on = ap (λ p. p.hanging) (sym same);
        fits = t;
      }
  | inr t ↦ let f = rw t at e in cc
]

pub next-past : (row : ℕ) (cells : List Span) (done : Placing) → with_next_row row cells done ≡ None → row_fits (row_from 0 done.hanging cells) ≡ false
next-past row cells done e = elim (cases_Bool (row_fits (row_from 0 done.hanging cells))) [ inl t ↦ let f = rw t at e in cc | inr t ↦ t ]

-- ---- whether all rows fit

-- if the next row fits, all rows fit exactly if those after it do
pub fits-next : (row : ℕ) (cells : List Span) (more : List (List Span)) (done next : Placing) → IsNext row cells done next →
    positions_fit (rows_from row done.hanging (cells ∷ more)) ≡ positions_fit (rows_from (row + 1) next.hanging more)
fits-next row cells more done next is = rw (is.hangs_on, is.fits) refl

pub fits-bottom : (done next : Placing) → IsNextBottom done next → positions_fit (bottom_rows done.hanging) ≡ positions_fit (bottom_rows next.hanging)
fits-bottom done next is = rw (is.rows, is.fits) refl
