-- The walk's machine: opening and closing a node, with the pending work as data.
use Rattle.std.specs.Prelude.{Bool, true, false, ℕ, ℤ, pos, ◌+◌, ◌-◌, ◌+ℤ◌, ◌++◌, List, codes, length, Option, Some, None, option_map, option_and_then, if◌then◌else◌}
use Rattle.std.specs.Char.{is_ascii_digit}
use Rattle.std.specs.Fmt.{decimal}
use Rattle.std.specs.List.{list_all}
use Rattle.std.specs.Int.{saturate_signed, w64}
use Rattle.std.specs.Str.{chars}
use Rattle.html_render_dom_values.specs.Forest.{Forest}
use Rattle.html_render_dom_values.specs.Outcome.{◌>>=◌}
use Rattle.html_render_layout_blocks.specs.declared.held.Prefixing.{Prefixing}
use Rattle.html_render_layout_estimates.specs.Estimates.{prefix_columns, number_columns}
use Rattle.html_render_layout_lines.specs.declared.character.TextStyle.{TextStyle}
use Rattle.html_render_layout_nodes.specs.declared.tree.Emphasis.TheVariants.{Em}
use Rattle.html_render_layout_nodes.specs.declared.tree.Estimate.{Estimate}
use Rattle.html_render_layout_nodes.specs.declared.tree.NodeKind.{NodeKind}
use Rattle.html_render_layout_nodes.specs.declared.tree.NodeKind.TheVariants.{Block, Div, Emphasis, Ul, Ol, ListItem, Dt, Strikeout, Superscript, Link, Table, TableRow}
use Rattle.html_render_layout_nodes.specs.declared.tree.NodeStyle.{NodeStyle}
use Rattle.html_render_layout_nodes.specs.declared.tree.RenderNode.{RenderNode}
use Rattle.html_render_layout_nodes.specs.Visits.{Visits, Places, Way, Into, Past, past, opened_with}
use Rattle.html_render_layout.specs.Layout.{OwnBlock}
use Rattle.html_render_layout.specs.Layout as layout
use Rattle.html_render_layout.specs.Layout.{Shared, Prefixed}
use Rattle.html_render_layout.specs.declared.state.OpenNode.{OpenNode}
use Rattle.html_render_layout.specs.declared.state.Suspended.{Suspended}
use Rattle.html_render_layout.specs.declared.state.Suspended.TheVariants.{NoBlock, Quoted, Indented, Cell}
use Rattle.html_render_layout.specs.declared.state.CloseAction.{CloseAction}
use Rattle.html_render_layout.specs.declared.state.CloseAction.TheVariants.{Nothing, EndBlock, NewLine, EndEmphasis}
use Rattle.html_render_layout.specs.declared.state.CloseAction.TheVariants.{Bullets, Numbers}
use Rattle.html_render_layout.specs.declared.state.CloseAction.TheVariants.{EndStrikeout, EndSuperscript, EndLink, EndTable, EndRow}
use Rattle.html_render_layout.specs.declared.state.Outer.{Outer}
use Rattle.html_render_layout.specs.declared.state.TextContext.{TextContext}
use Rattle.html_render_layout.specs.Layout.{Algebra, State, kind_text, spaces, padded, emphasis_decoration}
use Rattle.html_render_layout.specs.Layout.{block_of, shape_of, style_steps, layout_of}
use Rattle.html_render_layout.specs.Layout.{struck, on_block, write, within, nested, appended_block, block_place, cell_place, Fence, perform, shape_layout, perform_all}

-- number of an item, by the list's first number and the item's index from 0; it saturates
abbrev pub number_from : (first : ℤ) → ℕ → ℤ
number_from first n = saturate_signed w64 (first +ℤ pos n)

-- digits of the text of a node, of ASCII digits alone; none for any other node
abbrev pub digits_of_kind : NodeKind → Option (List ℕ)
digits_of_kind kind = option_and_then (λ t. if list_all is_ascii_digit t then Some t else None) (kind_text kind)

-- whether the children of a node share a block, by its closing action: those of a row are cells, and those of a list items
abbrev pub children_share : {S T P B : Type 0} → CloseAction S T P B → Bool
children_share EndRow = false
children_share (Bullets bullet min_width) = false
children_share (Numbers first columns min_width) = false
children_share _ = true

module _ {S A K T B : Type 0} (m : Algebra S A K T B) where
  -- state after characters are added in a style, with U+0336 if texts are struck out
  abbrev pub add_styled : K × TextStyle T → List ℕ → State m → Option (State m)
  add_styled style cs s =
      on_block (λ b. m.operations.add_inline_text b style.1 (if s.text.struck_out then struck cs else cs)) (record s { stacks = style.0 })

  -- state after a link's number is written, if links have footnotes
  abbrev pub write_number : ℕ → State m → Option (State m)
  write_number number s = if s.settings.link_footnotes then write m (chars (codes "[" ++ decimal number ++ codes "]")) s else Some s

  -- suspended block of the state, for a sub-block after this prefix
  abbrev pub interrupted : State m → (prefix : List ℕ) → (columns : ℕ) → Outer S (Prefixing B T)
  interrupted s prefix columns =
      record { decorator = s.decorator; block = record { block = s.block; prefix = prefix; columns = columns; tag = s.text.tag } }

  -- state after an indented sub-block is closed
  abbrev pub indent_closed : Outer S (Prefixing B T) → State m → Option (State m)
  indent_closed u r =
      option_map (λ b. record r { decorator = u.decorator; block = b })
      (m.operations.append u.block.block r.block u.block.tag (chars u.block.prefix) (spaces u.block.columns))

  -- state after the sub-block of a heading or a quote is closed
  abbrev pub quote_closed : Outer S (Prefixing B T) → State m → Option (State m)
  quote_closed u r = option_map (λ b. record r { decorator = u.decorator; block = b }) (appended_block m u.block.tag u.block.prefix u.block.block r.block)

  -- state after a cell's block is closed and the cell is added to its row
  abbrev pub cell_closed : Outer S B → State m → Option (State m)
  cell_closed u r = option_map (λ b. record r { decorator = u.decorator; block = b }) (m.operations.add_cell u.block r.block)

  -- state after a table is closed; `in_table` is whether it is nested
  abbrev pub table_closed : (in_table : Bool) → State m → Option (State m)
  table_closed in_table r = perform m r Fence (record r { block = m.operations.end_table r.block; in_table = in_table })

  -- state after a suspended block is resumed, if there is one
  abbrev pub continued : Suspended S (Prefixing B T) B → State m → Option (State m)
  continued NoBlock r = Some r
  continued (Quoted u) r = quote_closed u r
  continued (Indented u) r = indent_closed u r
  continued (Cell u) r = cell_closed u r

  -- way of a node, by that of its kind: its pending work holds what it suspends and the treatment of texts, and past it both
  -- are restored
  abbrev pub keeping : Suspended S (Prefixing B T) B → TextContext T → Way (State m) (CloseAction S T (Prefixing B T) B) → Option (Way (State m) (OpenNode S T (Prefixing B T) B))
  keeping item text (Into q k) = Some (Into q (record { item = item; text = text; kind = k }))
  keeping item text (Past r) = past (continued item (record r { text = text }))

  -- ---- blocks

  -- state in the block of a node, and what it suspends; none where it is too narrow. Before a sub-block with prefixes a block is
  -- started, and before an indented one a new line
  abbrev pub block_entered : OwnBlock → State m → Option (State m × Suspended S (Prefixing B T) B)
  block_entered Shared s = Some (s, NoBlock)
  block_entered (Prefixed prefix min_width) s = do
    r ← on_block m.operations.start_block s
    q ← nested m r.text.tag (chars prefix) (chars prefix) (prefix_columns prefix) min_width r
    Some (q, Quoted (interrupted r prefix (prefix_columns prefix)))
  block_entered (layout.Indented prefix columns min_width) s = do
    r ← on_block m.operations.new_line s
    q ← nested m r.text.tag (chars prefix) (spaces columns) columns min_width r
    Some (q, Indented (interrupted r prefix columns))

  -- ---- kinds of nodes

  -- closing action of a kind, where `own` is what the node suspends with a block of its own
  abbrev pub kind_kept : (own : Suspended S (Prefixing B T) B) → NodeKind → Estimate → State m → CloseAction S T (Prefixing B T) B
  kind_kept own Block e s = EndBlock
  kind_kept own ListItem e s = EndBlock
  kind_kept own Div e s = NewLine
  kind_kept own (Emphasis x) e s = EndEmphasis x
  kind_kept own Ul e s = Bullets (m.decoration.unordered_item_prefix s.decorator) (e.min_width - e.prefix)
  kind_kept own (Ol first) e s = Numbers first (number_columns m.decoration s.decorator first e.children) (e.min_width - e.prefix)
  kind_kept own Dt e s = EndEmphasis Em
  kind_kept own Strikeout e s = EndStrikeout s.text.struck_out
  kind_kept own Superscript e s = EndSuperscript
  kind_kept own (Link target) e s = EndLink s.text (length s.targets + 1)
  kind_kept own (Table grid) e s = EndTable own s.in_table
  kind_kept own TableRow e s = EndRow
  kind_kept own _ e s = Nothing own

  -- way of a kind of node in its block, where `own` is what that suspends
  abbrev pub kind_opened : (own : Suspended S (Prefixing B T) B) → NodeKind → Estimate → (trees : Forest RenderNode) → State m →
      Option (Way (State m) (CloseAction S T (Prefixing B T) B))
  kind_opened own k e trees s = opened_with (shape_layout m (shape_of m.decoration s.settings k e trees) s) (kind_kept own k e s)

  -- state after the closing action of a kind
  abbrev pub kind_closed : CloseAction S T (Prefixing B T) B → State m → Option (State m)
  kind_closed (Nothing own) r = continued own r
  kind_closed EndBlock r = Some (record r { block = m.operations.end_block r.block })
  kind_closed NewLine r = on_block m.operations.new_line r
  kind_closed (EndEmphasis x) r = write m (chars ((emphasis_decoration m.decoration x).end r.decorator)) r
  kind_closed (Bullets bullet min_width) r = Some r
  kind_closed (Numbers first columns min_width) r = Some r
  kind_closed (EndStrikeout struck_out) r =
      write m (chars (m.decoration.strikeout.end r.decorator)) (record r { text = record r.text { struck_out = struck_out } })
  kind_closed EndSuperscript r = write m (chars (m.decoration.superscript.end r.decorator)) r
  kind_closed (EndLink text number) r = do
    q ← write m (chars (m.decoration.link_end r.decorator)) r
    write_number number (record q { text = text })
  kind_closed (EndTable own in_table) r = do
    q ← table_closed in_table r
    continued own q
  kind_closed EndRow r = on_block m.operations.end_row r

  -- block of a child, by its parent's closing action and its number: a sub-block for an item of a list
  abbrev pub child_block : S → CloseAction S T (Prefixing B T) B → (number : ℕ) → OwnBlock
  child_block x (Bullets bullet min_width) number = layout.Indented bullet (prefix_columns bullet) min_width
  child_block x (Numbers first columns min_width) number =
      layout.Indented (padded columns (m.decoration.ordered_item_prefix x (number_from first number))) columns min_width
  child_block x _ number = Shared

  -- places of the children of a node, by its closing action
  abbrev pub kind_below : CloseAction S T (Prefixing B T) B → Places (State m)
  kind_below EndRow number s = cell_place m (m.operations.cell_block s.block) s
  kind_below kind number s = block_place m (child_block s.decorator kind number) s

  -- ---- nodes

  -- way of a node in its style and its block, where `item` is what it suspends as an item or as a cell
  abbrev pub opened_in : Suspended S (Prefixing B T) B → RenderNode → Forest RenderNode → State m → Option (Way (State m) (OpenNode S T (Prefixing B T) B))
  opened_in item n trees s = do
    q ← perform_all m s (style_steps m.decoration n.style) s
    e ← block_entered (block_of m.decoration q.settings q.decorator n.kind n.estimate) q
    w ← kind_opened e.1 n.kind n.estimate trees e.0
    keeping item s.text w

  -- way of a text in the block of its siblings
  abbrev pub text_opened : List ℕ → NodeStyle → State m → Option (Way (State m) (OpenNode S T (Prefixing B T) B))
  text_opened t style s = do
    q ← perform_all m s (style_steps m.decoration style) s
    r ← write m (chars t) q
    Some (Past (record r { text = s.text }))

  -- way of the next cell of a row in its block; without one the cell is skipped
  abbrev pub cell_opened : RenderNode → Forest RenderNode → Option B → State m → Option (Way (State m) (OpenNode S T (Prefixing B T) B))
  cell_opened n trees None s = Some (Past (record s { block = m.operations.skip_cell s.block }))
  cell_opened n trees (Some cell) s = opened_in (Cell (record { decorator = s.decorator; block = s.block })) n trees (within m cell s)

  -- way of a node in this block
  abbrev pub block_opened : RenderNode → Forest RenderNode → OwnBlock → State m → Option (Way (State m) (OpenNode S T (Prefixing B T) B))
  block_opened n trees b s = do
    e ← block_entered b s
    opened_in e.1 n trees e.0

  -- way of a child, by its parent's closing action and its number
  abbrev pub opened_below : CloseAction S T (Prefixing B T) B → (number : ℕ) → RenderNode → Forest RenderNode → State m → Option (Way (State m) (OpenNode S T (Prefixing B T) B))
  opened_below EndRow number n trees s = cell_opened n trees (m.operations.cell_block s.block) s
  opened_below kind number n trees s = block_opened n trees (child_block s.decorator kind number) s

  abbrev pub opened : (parent : Option (OpenNode S T (Prefixing B T) B)) → (number : ℕ) → RenderNode → Forest RenderNode → State m →
      Option (Way (State m) (OpenNode S T (Prefixing B T) B))
  opened None number n trees s = block_opened n trees Shared s
  opened (Some c) number n trees s = opened_below c.kind number n trees s

  abbrev pub below : OpenNode S T (Prefixing B T) B → Places (State m)
  below c number s = kind_below c.kind number s

  abbrev pub closed : OpenNode S T (Prefixing B T) B → State m → Option (State m)
  closed c r = do
    t ← kind_closed c.kind r
    continued c.item (record t { text = c.text })

  -- ---- what the walk is given, as names that don't unfold

  unfoldable pub walk_visits : Visits RenderNode (State m)
  walk_visits = layout_of m

  unfoldable pub walk_below : OpenNode S T (Prefixing B T) B → Places (State m)
  walk_below = below

  unfoldable pub walk_opened : (parent : Option (OpenNode S T (Prefixing B T) B)) → (number : ℕ) → RenderNode → Forest RenderNode → State m →
      Option (Way (State m) (OpenNode S T (Prefixing B T) B))
  walk_opened = opened

  unfoldable pub walk_closed : OpenNode S T (Prefixing B T) B → State m → Option (State m)
  walk_closed = closed
