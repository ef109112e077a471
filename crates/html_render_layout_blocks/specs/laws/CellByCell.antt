-- Each operation on an open table adds to the cells that were added before it.
use Rattle.std.proofs.Common.{◌≡◌, List, [], ◌∷◌, ◌++◌, Option, Some, None, refl, ap, ◌∙◌}
use Rattle.html_render_dom_values.specs.Outcome.{◌>>=◌}
use Rattle.html_render_layout_blocks.specs.Block.{Block, operations}
use Rattle.html_render_layout_blocks.specs.Parts.{Parts}
use Rattle.html_render_layout_blocks.specs.CellByCell.{added_cell, added_cells, added_row, added_rows, inside_row}
use Rattle.html_render_layout_blocks.specs.WholeTable.{FinishedBlock}

-- a step after two others, where the second and the third are one step after each value of the first
then-both : {A B C : Type 0} (o : Option A) (f : A → Option B) (g : B → Option C) (h : A → Option C) → ((a : A) → h a ≡ (f a >>= g)) →
    (o >>= h) ≡ ((o >>= f) >>= g)
then-both None f g h k = refl
then-both (Some a) f g h k = k a

then-some : {A : Type 0} (o : Option A) → (o >>= λ a. Some a) ≡ o
then-some None = refl
then-some (Some a) = refl

module _ {P R T M : Type 0} (parts : Parts P R T M) where
  abbrev next : Block P R T M → FinishedBlock T M → Option (Block P R T M)
  next b c = added_cell parts b c ((operations parts).cell_block b)

  cells-then : (b : Block P R T M) (cs : List (FinishedBlock T M)) (c : FinishedBlock T M) →
      added_cells parts b (cs ++ c ∷ []) ≡ (added_cells parts b cs >>= λ e. next e c)
  cells-then b [] c = then-some (next b c)
  cells-then b (d ∷ cs) c =
      then-both (next b d) (λ e. added_cells parts e cs) (λ e. next e c) (λ e. added_cells parts e (cs ++ c ∷ [])) (λ e. cells-then e cs c)

  rows-then : (b : Block P R T M) (rs : List (List (FinishedBlock T M))) (r : List (FinishedBlock T M)) →
      added_rows parts b (rs ++ r ∷ []) ≡ (added_rows parts b rs >>= λ e. added_row parts e r)
  rows-then b [] r = then-some (added_row parts b r)
  rows-then b (q ∷ rs) r =
      then-both (added_row parts b q) (λ e. added_rows parts e rs) (λ e. added_row parts e r) (λ e. added_rows parts e (rs ++ r ∷ [])) (λ e. rows-then e rs r)

  -- THE LAW: `begin_row` after whole rows begins the next one.
  pub row_begins : (begun b : Block P R T M) (rows : List (List (FinishedBlock T M))) → added_rows parts begun rows ≡ Some b →
      inside_row parts begun rows [] ≡ Some ((operations parts).begin_row b)
  row_begins begun b rows h = ap (λ o. o >>= λ e. Some ((operations parts).begin_row e)) h

  -- THE LAW: a cell is added to those of its row.
  pub cell_comes : (begun b : Block P R T M) (rows : List (List (FinishedBlock T M))) (cells : List (FinishedBlock T M)) (cell : FinishedBlock T M) →
      inside_row parts begun rows cells ≡ Some b →
      inside_row parts begun rows (cells ++ cell ∷ []) ≡ added_cell parts b cell ((operations parts).cell_block b)
  cell_comes begun b rows cells cell h =
      then-both (added_rows parts begun rows) (λ e. added_cells parts ((operations parts).begin_row e) cells) (λ e. next e cell)
      (λ e. added_cells parts ((operations parts).begin_row e) (cells ++ cell ∷ [])) (λ e. cells-then ((operations parts).begin_row e) cells cell)
      ∙ ap (λ o. o >>= λ e. next e cell) h

  -- THE LAW: `end_row` makes the cells of the open row a whole row.
  pub row_ends : (begun b : Block P R T M) (rows : List (List (FinishedBlock T M))) (cells : List (FinishedBlock T M)) →
      inside_row parts begun rows cells ≡ Some b → added_rows parts begun (rows ++ cells ∷ []) ≡ (operations parts).end_row b
  row_ends begun b rows cells h =
      rows-then begun rows cells
      ∙ then-both (added_rows parts begun rows) (λ e. added_cells parts ((operations parts).begin_row e) cells) (λ e. (operations parts).end_row e)
      (λ e. added_row parts e cells) (λ e. refl)
      ∙ ap (λ o. o >>= λ e. (operations parts).end_row e) h
