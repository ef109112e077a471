-- THE DEFINITION of a block: its paragraph is the list of all that was fed to it, and the picture of its table is the
-- list of all rows.
use Rattle.std.specs.Prelude.{List, [], ◌∷◌, ◌++◌}
use Rattle.html_render_layout_lines.specs.declared.character.Item.{Item}
use Rattle.html_render_layout_paragraphs.specs.Paragraph.{Setting, paragraph}
use Rattle.html_render_layout_pictures.specs.Picture.{picture}
use Rattle.html_render_layout_blocks.specs.Block as block
use Rattle.html_render_layout_blocks.specs.Block.{Block}
use Rattle.html_render_layout_blocks.specs.Ends as ends
use Rattle.html_render_layout_blocks.specs.Ends.{DocumentEnd}
use Rattle.html_render_layout_blocks.specs.Operations.{Operations}
use Rattle.html_render_layout_blocks.specs.Parts.{Parts}
use Rattle.html_render_layout_blocks.specs.Tables.{Rows}

-- A paragraph as all that was fed to it, after marks that wait.
pub record Fed (T M : Type 0) : Type 0 where
  pub setting : Setting
  pub waiting : List M
  pub items : List (Item T M)

-- Paragraphs and pictures of the definition.
abbrev pub definition : {T M : Type 0} → Parts (Fed T M) (Rows T M) T M
definition = record {
  start = λ s ms. record { setting = s; waiting = ms; items = [] };
  feed = λ p xs. record p { items = p.items ++ xs };
  finish = λ p. paragraph p.setting p.waiting p.items;
  next = λ p ms. record { setting = p.setting; waiting = ms; items = [] };
  waiting = λ p. p.waiting;
  without_waiting = λ p. record p { waiting = [] };
  begun = λ frame ms. record { frame = frame; waiting = ms; rows = [] };
  with_row = λ p r. record p { rows = p.rows ++ r ∷ [] };
  drawn = λ p. picture p.frame p.waiting p.rows;
}

-- A block of the definition.
abbrev pub DefinedBlock : Type 0 → Type 0 → Type 0
DefinedBlock T M = Block (Fed T M) (Rows T M) T M

-- Operations of a layout on the definition's blocks. They don't unfold in the crates above.
unfoldable pub operations : {T M : Type 0} → Operations (DefinedBlock T M) T M
operations = block.operations definition

-- Operations at the end of a document, on the definition's blocks.
abbrev pub ending : {T M : Type 0} → DocumentEnd (DefinedBlock T M) T
ending = ends.ending definition
