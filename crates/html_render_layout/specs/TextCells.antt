-- Cells of a table that hold one text.
use Rattle.std.specs.Prelude.{◌≡◌, List, ℕ, Option, Some, option_and_then, false}
use Rattle.std.specs.Str.{chars}
use Rattle.html_render_dom_values.specs.Forest.{Forest, none, node}
use Rattle.html_render_layout_nodes.specs.declared.tree.NodeKind.TheVariants.{Text, TableCell}
use Rattle.html_render_layout_nodes.specs.declared.tree.RenderNode.{RenderNode}
use Rattle.html_render_layout.specs.Blank.{IsPlain}
use Rattle.html_render_layout.specs.Layout.{Algebra, State, on_block}
use Rattle.html_render_layout.specs.declared.state.CloseAction.TheVariants.{EndRow}
use Rattle.html_render_layout.specs.declared.state.OpenNode.{OpenNode}
use Rattle.html_render_layout.specs.declared.state.TextContext.{TextContext}

-- whether a node is a cell of one text, neither of which has a style
pub record IsTextCell (n : RenderNode) (trees : Forest RenderNode) (text : List ℕ) : Type 0 where
  pub child : RenderNode
  pub kind : n.kind ≡ TableCell
  pub style : IsPlain n.style
  pub only : trees ≡ node child none none
  pub content : child.kind ≡ Text text
  pub plain : IsPlain child.style

-- whether the innermost open node is a row, so that its children are cells
pub record IsRow {S T P B : Type 0} (parent : Option (OpenNode S T P B)) : Type 0 where
  pub kept : OpenNode S T P B
  pub is : parent ≡ Some kept
  pub row : kept.kind ≡ EndRow

-- whether texts are neither preformatted nor struck out
pub record IsOrdinary {T : Type 0} (text : TextContext T) : Type 0 where
  pub not_preformatted : text.preformatted ≡ false
  pub not_struck_out : text.struck_out ≡ false

-- state after an ordinary text is added to a block, and the block to the open row as the next cell
abbrev pub cell_put : {S A K T B : Type 0} → (m : Algebra S A K T B) → (cell : B) → (text : List ℕ) → State m → Option (State m)
cell_put m cell text s =
    on_block (λ b. option_and_then (λ c. m.operations.add_cell b c)
    (m.operations.add_inline_text cell (record { mode = s.text.mode; tag = s.text.tag; continuation_tag = s.text.tag }) (chars text))) s
