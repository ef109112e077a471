-- Adding a cell, and ending a row, by the place of the next cell.
use Rattle.std.proofs.Common.{◌≡◌, Bool, true, false, not, Option, Some, None, option_map, refl, sym, ap, ◌∙◌}
use Rattle.html_render_layout_blocks.specs.declared.block.cells.CellPlace.{CellPlace}
use Rattle.html_render_layout_blocks.specs.declared.block.cells.CellPlace.TheVariants.{InRow, InStack, Below}
use Rattle.html_render_layout_blocks.specs.declared.block.tables.OpenTable.{OpenTable}
use Rattle.html_render_layout_blocks.specs.declared.block.tables.OpenTable.TheVariants.{Across, Stacked}
use Rattle.std.specs.Option.{is_some}
use Rattle.html_render_layout_pictures.specs.Drawing.{Drawing}
use Rattle.html_render_layout_blocks.specs.Tables.{with_next, with_row_over, cell_place}
use Rattle.html_render_layout_blocks.specs.Block.{flush, put_lines, put_stacked, stacked_begun, cell_added, row_ended}
use Rattle.html_render_layout_lines.specs.Line.{is_empty}
use Rattle.html_render_layout_blocks.specs.Machine.{machine, MachineBlock}

module _ {T M : Type 0} where
  -- Block with a cell at a place.
  abbrev added_at : MachineBlock T M → MachineBlock T M → Option (OpenTable (Drawing T M) T M) → CellPlace T → Option (MachineBlock T M)
  added_at b c o InRow =
      Some (record b { table = option_map (with_next (record { width = c.setting.width; lines = c.lines; marks = machine.waiting c.paragraph })) o })
  added_at b c o Below = option_map (λ (e : MachineBlock T M). put_lines machine e c.lines (machine.waiting c.paragraph)) (flush machine b)
  added_at b c o (InStack border has_lines) =
      option_map (λ (e : MachineBlock T M). put_stacked machine e border has_lines (not (is_empty c.lines)) c) (flush machine b)

  pub cells_added : (b c : MachineBlock T M) (o : Option (OpenTable (Drawing T M) T M)) (place : CellPlace T) → cell_place o ≡ place →
      cell_added machine b o c ≡ added_at b c o place
  cells_added b c o place e = by o ∙ ap (added_at b c o) e
    where
      by : (o : Option (OpenTable (Drawing T M) T M)) → cell_added machine b o c ≡ added_at b c o (cell_place o)
      by None = refl
      by (Some (Across p ws ahead None)) = refl
      by (Some (Across p ws ahead (Some row))) = refl
      by (Some (Stacked border has_lines)) = refl

  -- Block after the end of a row, by the place where its next cell would be.
  abbrev ended_at : MachineBlock T M → Option (OpenTable (Drawing T M) T M) → CellPlace T → Option (MachineBlock T M)
  ended_at b o InRow = Some (record b { table = option_map (with_row_over machine) o })
  ended_at b o Below = Some b
  ended_at b o (InStack border true) = option_map (λ (e : MachineBlock T M). stacked_begun machine e border) (flush machine b)
  ended_at b o (InStack border false) = Some b

  pub rows_ended : (b : MachineBlock T M) (o : Option (OpenTable (Drawing T M) T M)) (place : CellPlace T) → b.table ≡ o → cell_place o ≡ place →
      row_ended machine b o ≡ ended_at b o place
  rows_ended b o place same e = by o same ∙ ap (ended_at b o) e
    where
      by : (o : Option (OpenTable (Drawing T M) T M)) → b.table ≡ o → row_ended machine b o ≡ ended_at b o (cell_place o)
      by None t = refl
      by (Some (Across p ws ahead None)) t = ap (λ x. Some (record b { table = x })) (sym t)
      by (Some (Across p ws ahead (Some row))) t = refl
      by (Some (Stacked border true)) t = refl
      by (Some (Stacked border false)) t = refl

-- An option that isn't some is none.
pub none_is : {X : Type 0} (o : Option X) (b : Bool) → is_some o ≡ not b → b ≡ true → o ≡ None
none_is None b e h = refl
none_is (Some x) b e h = cc
