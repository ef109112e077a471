-- THE DEFINITION of the layout, kind of node by kind of node.
use Rattle.std.specs.Prelude.{ℕ, pos, ◌+◌, ◌+ℤ◌, ◌-◌, ◌==◌, ◌||◌, ◌&&◌, not, Bool, true, false, List, [], ◌∷◌, ◌++◌, length, map, codes, slice_index_or}
use Rattle.std.specs.Prelude.{Option, Some, None, option_and_then, option_map, replicate, if◌then◌else◌}
use Rattle.std.specs.Char.{is_ascii_digit}
use Rattle.std.specs.Fmt.{decimal}
use Rattle.std.specs.Int.{saturate_signed, w64}
use Rattle.std.specs.List.{list_all}
use Rattle.std.specs.Option.{option_map_or}
use Rattle.std.specs.Str.{chars}
use Rattle.html_render_dom_values.specs.Forest.{Forest, none, node}
use Rattle.html_render_dom_values.specs.Outcome.{◌>>=◌}
use Rattle.html_render_dom_values.specs.declared.white_space.WhiteSpace.{WhiteSpace}
use Rattle.html_render_dom_values.specs.declared.white_space.WhiteSpace.TheVariants.{Normal}
use Rattle.html_render_parts.specs.Decoration.{Decoration, Round, link}
use Rattle.html_render_parts_widths.specs.declared.shares.ColumnNeed.{ColumnNeed}
use Rattle.html_render_parts.specs.TableCells.{CellGrid}
use Rattle.html_render_layout_lines.specs.Character.{is_collapsible}
use Rattle.html_render_layout_lines.specs.declared.character.TextStyle.{TextStyle}
use Rattle.html_render_layout_lines.specs.Line.{Line}
use Rattle.html_render_layout_lines.specs.Tags.{lines_with}
use Rattle.html_render_layout_nodes.specs.declared.tree.Emphasis.{Emphasis as TheEmphasis}
use Rattle.html_render_layout_nodes.specs.declared.tree.Emphasis.TheVariants.{Em, Strong, Code}
use Rattle.html_render_layout_nodes.specs.declared.tree.NodeKind.{NodeKind}
use Rattle.html_render_layout_nodes.specs.declared.tree.NodeKind.TheVariants.{Text, Break, Block, Div, Emphasis, Header, BlockQuote, Ul, Ol}
use Rattle.html_render_layout_nodes.specs.declared.tree.NodeKind.TheVariants.{ListItem, Dl, Dt, Dd, Strikeout, Superscript, Link, Image, Svg, FragmentStart}
use Rattle.html_render_layout_nodes.specs.declared.tree.NodeKind.TheVariants.{Table, TableRow}
use Rattle.html_render_layout_nodes.specs.declared.tree.NodeStyle.{NodeStyle}
use Rattle.html_render_layout_nodes.specs.declared.tree.Estimate.{Estimate}
use Rattle.html_render_layout_nodes.specs.declared.tree.RenderNode.{RenderNode}
use Rattle.html_render_layout_nodes.specs.Visits.{NodePlace, Bare, Skipped, Within, bare, Visit, Leaf, Inner, Visits, placed, run}
use Rattle.html_render_layout_blocks.specs.declared.block.BlockSetting.{BlockSetting}
use Rattle.html_render_layout_blocks.specs.Operations.{Operations}
use Rattle.html_render_layout_blocks.specs.Block.{empty_block, end_document}
use Rattle.html_render_layout_blocks.specs.Definition as definition
use Rattle.html_render_layout_blocks.specs.Definition.{definition as defined_parts, DefinedBlock}
use Rattle.html_render_layout_estimates.specs.Estimates.{prefix_columns, number_columns, measured}
use Rattle.html_render_layout_estimates.specs.Words.{with_words}
use Rattle.html_render_layout.specs.declared.state.LayoutState.{LayoutState}
use Rattle.html_render_layout.specs.declared.state.TextContext.{TextContext}
use Rattle.html_render_layout_estimates.specs.declared.settings.LayoutSettings.{LayoutSettings}
use Rattle.html_render_layout.specs.Images.{shown_title}
use Rattle.html_render_layout.specs.Ending.{closing_texts}

-- parts that a layout is generic in: what decorators S return, with annotations A; `push`, which adds an annotation to a tag
-- T in a store of annotations K; and the operations on blocks B
pub record Algebra (S A K T B : Type 0) : Type 0 where
  pub decoration : Decoration S A
  pub push : K → T → A → K × T
  pub operations : Operations B T ℕ

-- ---- STEPS AND SHAPES OF KINDS OF NODES

-- step of a layout; its texts and annotations are functions of a decorator S
pub data Step (S A : Type 0) : Type 0 where
  Write : (S → List ℕ) → Step S A  -- adds characters as a text
  WriteNumber : Step S A  -- adds the number of the link that the node is, if links have footnotes
  Annotate : (S → Option A) → Step S A  -- adds an annotation to the texts that follow, if there is one
  Treat : (white_space : WhiteSpace) → (preformatted : Bool) → Step S A  -- applies what a style says of white space
  Strike : Step S A  -- strikes texts out, if `unicode_strikeout` is on
  Unstrike : Step S A  -- restores whether texts are struck out
  Restore : Step S A  -- restores the treatment of texts before the first step
  NewLine : Step S A
  NewLineHard : Step S A
  StartBlock : Step S A
  EndBlock : Step S A
  Fence : Step S A  -- adds a line of three backquotes, if tables are fenced and no table is open
  BeginTable : CellGrid → List ColumnNeed → Step S A
  EndTable : Step S A
  AddTarget : List ℕ → Step S A  -- adds the target of the next link
  AddMark : (name : List ℕ) → Step S A

-- shape of a node's layout
pub data Shape (S A : Type 0) : Type 0 where
  Steps : List (Step S A) → Shape S A  -- steps alone; children are skipped
  Around : (before after : List (Step S A)) → Shape S A  -- steps before the children and after them
  -- children in sub-blocks: prefix by the decorators of the list and of the item and by the item's number, columns of the
  -- prefix by the decorator of the list, and minimum width
  Items : (S → S → ℕ → List ℕ) → (S → ℕ) → (min_width : ℕ) → Shape S A
  Cells : Shape S A  -- children as cells of the table's next row

-- block that a node is laid out into: that of its siblings, a sub-block each of whose lines follows the prefix, or one whose
-- first line follows the prefix and whose later lines follow as many spaces as are reserved for it
pub data OwnBlock : Type 0 where
  Shared : OwnBlock
  Prefixed : (prefix : List ℕ) → (min_width : ℕ) → OwnBlock
  Indented : (prefix : List ℕ) → (columns min_width : ℕ) → OwnBlock

abbrev pub spaces : ℕ → List ℕ
spaces count = replicate count 32

-- prefix in UTF-8, padded with spaces to `columns` columns; a wider one as it is
abbrev pub padded : (columns : ℕ) → List ℕ → List ℕ
padded columns prefix = prefix ++ spaces (columns - prefix_columns prefix)

-- superscript of an ASCII digit
abbrev pub raised : ℕ → ℕ
raised digit = slice_index_or (8304 ∷ (185 ∷ (178 ∷ (179 ∷ (8308 ∷ (8309 ∷ (8310 ∷ (8311 ∷ (8312 ∷ (8313 ∷ [])))))))))) (digit - 48) 0

-- text of a node that is a text; none for any other kind
abbrev pub kind_text : NodeKind → Option (List ℕ)
kind_text (Text t) = Some t
kind_text _ = None

-- digits of trees that are one text without children, of ASCII digits alone, which may be empty
abbrev pub digits_of : Forest RenderNode → Option (List ℕ)
digits_of (node n none none) = option_and_then (λ t. if list_all is_ascii_digit t then Some t else None) (kind_text n.kind)
digits_of _ = None

module _ {S A : Type 0} (d : Decoration S A) where
  -- decoration of an emphasis
  abbrev pub emphasis_decoration : TheEmphasis → Round S A
  emphasis_decoration Em = d.em
  emphasis_decoration Strong = d.strong
  emphasis_decoration Code = d.code

  -- steps that begin a decorated part: its annotation, for all texts in it, and the decorator's text before it
  abbrev pub start : Round S A → List (Step S A)
  start round = Annotate (λ x. Some (round.start x).annotation) ∷ (Write (λ x. chars (round.start x).text) ∷ [])

  abbrev pub end : Round S A → Step S A
  end round = Write (λ x. chars (round.end x))

  -- steps of an image, under its annotation; none without a title to show
  abbrev pub image : (source : List ℕ) → (title : Option (List ℕ)) → List (Step S A)
  image source title = option_map_or (λ shown. start (record { start = λ x. d.image x source shown; end = λ x. [] })) title []

  -- THE BLOCK of each kind: a sub-block with the decorator's prefix and the minimum width of the node without it, or the
  -- siblings' block
  abbrev pub block_of : LayoutSettings → S → NodeKind → Estimate → OwnBlock
  block_of settings x (Header level) e = Prefixed (d.header_prefix x level) (e.min_width - e.prefix)
  block_of settings x BlockQuote e = Prefixed (d.quote_prefix x) (e.min_width - e.prefix)
  block_of settings x Dd e = Indented (spaces 2) 2 (e.min_width - e.prefix)
  block_of settings x kind e = Shared

  -- THE SHAPE of each kind over its child trees; numbers of items saturate, and digits in a superscript are superscript
  -- characters
  abbrev pub shape_of : LayoutSettings → NodeKind → Estimate → (trees : Forest RenderNode) → Shape S A
  shape_of settings (Text t) e trees = Steps (Write (λ x. chars t) ∷ [])
  shape_of settings Break e trees = Steps (NewLineHard ∷ [])
  shape_of settings Block e trees = Around (StartBlock ∷ []) (EndBlock ∷ [])
  shape_of settings Div e trees = Around (NewLine ∷ []) (NewLine ∷ [])
  shape_of settings (Emphasis m) e trees = Around (start (emphasis_decoration m)) (end (emphasis_decoration m) ∷ [])
  shape_of settings Ul e trees = Items (λ x y n. d.unordered_item_prefix x) (λ x. prefix_columns (d.unordered_item_prefix x)) (e.min_width - e.prefix)
  shape_of settings (Ol first) e trees =
      Items (λ x y n. padded (number_columns d x first e.children) (d.ordered_item_prefix y (saturate_signed w64 (first +ℤ pos n))))
      (λ x. number_columns d x first e.children) (e.min_width - e.prefix)
  shape_of settings ListItem e trees = Around (StartBlock ∷ []) (EndBlock ∷ [])
  shape_of settings Dl e trees = Around (StartBlock ∷ []) []
  shape_of settings Dt e trees = Around (NewLine ∷ start d.em) (end d.em ∷ [])
  shape_of settings Strikeout e trees = Around (start d.strikeout ++ Strike ∷ []) (Unstrike ∷ (end d.strikeout ∷ []))
  shape_of settings Superscript e trees =
      option_map_or (λ digits. Steps (Write (λ x. map raised digits) ∷ [])) (digits_of trees) (Around (start d.superscript) (end d.superscript ∷ []))
  shape_of settings (Link target) e trees = Around (AddTarget target ∷ start (link d target)) (end (link d target) ∷ (Restore ∷ (WriteNumber ∷ [])))
  shape_of settings (Image i) e trees = Steps (image i.source (shown_title settings.empty_images i.source i.title))
  shape_of settings (Svg title) e trees = Steps (image [] (shown_title settings.empty_images [] title))
  shape_of settings (FragmentStart name) e trees = Steps (AddMark name ∷ [])
  shape_of settings (Table grid) e trees = Around (StartBlock ∷ (Fence ∷ (BeginTable grid.cells grid.needs ∷ []))) (EndTable ∷ (Fence ∷ []))
  shape_of settings TableRow e trees = Cells
  shape_of settings kind e trees = Around [] []

  -- steps of a style: the annotation of its colour, that of its background, and its white space
  abbrev pub style_steps : NodeStyle → List (Step S A)
  style_steps style =
      Annotate (λ x. option_and_then (d.push_colour x) style.colour)
      ∷ (Annotate (λ x. option_and_then (d.push_background x) style.background) ∷ (Treat style.white_space style.preformatted ∷ []))

-- ---- MEANING OF STEPS

-- characters with U+0336 after each that isn't collapsible white space
abbrev pub struck : List ℕ → List ℕ
struck [] = []
struck (c ∷ cs) = if is_collapsible c then c ∷ struck cs else c ∷ (822 ∷ struck cs)

-- treatment of white space in a style; `Normal` changes nothing
abbrev pub white_space_in : WhiteSpace → (style : WhiteSpace) → WhiteSpace
white_space_in before Normal = before
white_space_in before style = style

-- state after an operation on its block; none where it is too narrow
abbrev pub on_block : {S K T B : Type 0} → (B → Option B) → LayoutState S K T B → Option (LayoutState S K T B)
on_block f s = option_map (λ b. record s { block = b }) (f s.block)

module _ {S A K T B : Type 0} (m : Algebra S A K T B) where
  abbrev pub State : Type 0
  State = LayoutState S K T B

  -- style of texts, and the store of annotations with those that it adds: preformatted texts have one more annotation on
  -- top, and another one on continuation lines
  abbrev pub text_style : S → K → TextContext T → (preformatted : Bool) → K × TextStyle T
  text_style decorator stacks text false = (stacks, record { mode = text.mode; tag = text.tag; continuation_tag = text.tag })
  text_style decorator stacks text true =
      let first = m.push stacks text.tag (m.decoration.preformat_first decorator) in
      let continuing = m.push first.0 text.tag (m.decoration.preformat_continuing decorator) in
      (continuing.0, record { mode = text.mode; tag = first.1; continuation_tag = continuing.1 })

  -- state after characters are added as a text, with U+0336 if texts are struck out
  abbrev pub write : List ℕ → State → Option State
  write cs s =
      let style = text_style s.decorator s.stacks s.text s.text.preformatted in
      on_block (λ b. m.operations.add_inline_text b style.1 (if s.text.struck_out then struck cs else cs)) (record s { stacks = style.0 })

  -- state whose texts have one more annotation, if there is one
  abbrev pub annotated : Option A → State → State
  annotated None s = s
  annotated (Some a) s = let p = m.push s.stacks s.text.tag a in record s { stacks = p.0; text = record s.text { tag = p.1 } }

  abbrev pub fence : State → Option State
  fence s = do
    q ← on_block (λ b. m.operations.add_inline_text b (record { mode = Normal; tag = s.blank; continuation_tag = s.blank }) (codes "```")) s
    on_block m.operations.new_line q

  -- state after a step at a node whose steps began in `before`; in raw mode the cells of a table are stacked
  abbrev pub perform : (before : State) → Step S A → State → Option State
  perform before (Write text) s = write (text s.decorator) s
  perform before WriteNumber s =
      if s.settings.link_footnotes then write (chars (codes "[" ++ decimal (length before.targets + 1) ++ codes "]")) s else Some s
  perform before (Annotate annotation) s = Some (annotated (annotation s.decorator) s)
  perform before (Treat white_space preformatted) s =
      Some (record s { text = record s.text { mode = white_space_in s.text.mode white_space; preformatted = s.text.preformatted || preformatted } })
  perform before Strike s = Some (record s { text = record s.text { struck_out = s.settings.unicode_strikeout } })
  perform before Unstrike s = Some (record s { text = record s.text { struck_out = before.text.struck_out } })
  perform before Restore s = Some (record s { text = before.text })
  perform before NewLine s = on_block m.operations.new_line s
  perform before NewLineHard s = on_block m.operations.new_line_hard s
  perform before StartBlock s = on_block m.operations.start_block s
  perform before EndBlock s = Some (record s { block = m.operations.end_block s.block })
  perform before Fence s = if s.settings.fence_tables && not s.in_table then fence s else Some s
  perform before (BeginTable grid needs) s =
      option_map (λ (q : State). record q { in_table = true })
      (on_block (λ b. m.operations.begin_table b s.blank s.settings.table_borders s.settings.raw_mode grid needs) s)
  perform before EndTable s = Some (record s { block = m.operations.end_table s.block; in_table = before.in_table })
  perform before (AddTarget target) s = Some (record s { targets = s.targets ++ target ∷ [] })
  perform before (AddMark name) s = Some (record s { block = m.operations.add_mark s.block (length s.names); names = s.names ++ name ∷ [] })

  abbrev pub perform_all : (before : State) → List (Step S A) → State → Option State
  perform_all before [] s = Some s
  perform_all before (x ∷ []) s = perform before x s
  perform_all before (x ∷ (y ∷ xs)) s = perform before x s >>= λ q. perform_all before (y ∷ xs) q

  -- ---- SUB-BLOCKS

  -- state inside this block, with the decorator of a sub-block
  abbrev pub within : B → State → State
  within b s = record s { decorator = m.decoration.subblock s.decorator; block = b }

  -- state inside an empty sub-block whose lines follow these prefixes, with the columns that `prefix` columns leave, at least
  -- `min_width`; none where it is too narrow
  abbrev pub nested : T → (first later : List ℕ) → (prefix min_width : ℕ) → State → Option State
  nested tag first later prefix min_width s = option_map (λ b. within b s) (m.operations.sub_block s.block tag first later prefix min_width)

  -- state r with the decorator of s, and the block that f makes of the block of s and the sub-block of r
  abbrev pub joined : (B → B → Option B) → State → State → Option State
  joined f s r = option_map (λ b. record r { decorator = s.decorator; block = b }) (f s.block r.block)

  -- block b, in which a block was started, after the lines of c are appended to it and end that block; none where it is too narrow
  abbrev pub appended_block : T → (prefix : List ℕ) → B → B → Option B
  appended_block tag prefix b c = option_map m.operations.end_block (m.operations.append b c tag (chars prefix) (chars prefix))

  -- place of a node in a state; none without a state
  abbrev pub place_in : (State → NodePlace State) → Option State → NodePlace State
  place_in place None = Within None (λ r. Some r)
  place_in place (Some q) = place q

  -- place of a node that is laid out into this block. Before a sub-block with prefixes a block starts, and before an indented one
  -- a new line. Of an indented sub-block the first line is appended after the prefix, and later ones after `columns` spaces
  abbrev pub block_place : OwnBlock → State → NodePlace State
  block_place Shared s = Bare
  block_place (Prefixed prefix min_width) s =
      place_in (λ q. Within (nested q.text.tag (chars prefix) (chars prefix) (prefix_columns prefix) min_width q)
      (joined (appended_block q.text.tag prefix) q)) (on_block m.operations.start_block s)
  block_place (Indented prefix columns min_width) s =
      place_in (λ q. Within (nested q.text.tag (chars prefix) (spaces columns) columns min_width q)
      (joined (λ b c. m.operations.append b c q.text.tag (chars prefix) (spaces columns)) q)) (on_block m.operations.new_line s)

  -- place of the next cell of a row, by its block; without one the cell is skipped
  abbrev pub cell_place : Option B → State → NodePlace State
  cell_place None s = Skipped (record s { block = m.operations.skip_cell s.block })
  cell_place (Some cell) s = Within (Some (within cell s)) (joined m.operations.add_cell s)

  -- ---- NODES

  abbrev pub shape_layout : Shape S A → State → Visit State
  shape_layout (Steps steps) s = Leaf (perform_all s steps s)
  shape_layout (Around before after) s = Inner (perform_all s before s) bare (perform_all s after)
  shape_layout (Items prefix columns min_width) s =
      let x = s.decorator in Inner (Some s) (λ n r. block_place (Indented (prefix x r.decorator n) (columns x) min_width) r) (λ r. Some r)
  shape_layout Cells s =
      Inner (Some (record s { block = m.operations.begin_row s.block })) (λ n r. cell_place (m.operations.cell_block r.block) r)
      (on_block m.operations.end_row)

  -- visit of a kind of node over these trees, in its block
  abbrev pub kind_layout : NodeKind → Estimate → (trees : Forest RenderNode) → State → Visit State
  kind_layout kind e trees s =
      placed (block_place (block_of m.decoration s.settings s.decorator kind e) s) (λ q. shape_layout (shape_of m.decoration q.settings kind e trees) q) s

  -- THE VISIT OF A NODE: that of its kind, in its style; after it texts are treated as before it
  abbrev pub layout_of : Visits RenderNode State
  layout_of n trees s =
      placed (Within (perform_all s (style_steps m.decoration n.style) s) (λ r. Some (record r { text = s.text }))) (kind_layout n.kind n.estimate trees) s

  -- view of the state after all trees are laid out and `close` has ended the document's block, with the closing lines under the
  -- tag of the first texts; none where it is too narrow
  abbrev pub shown_after : {L : Type 0} → (close : B → (cut : Bool) → T → List (List ℕ) → Option B) → (State → L) → Forest RenderNode → State → Option L
  shown_after close shown t s =
      run layout_of t s >>= λ r.
      let texts = map chars (closing_texts m.decoration s.settings.link_footnotes r.decorator r.targets) in
      option_map shown (on_block (λ b. close b s.settings.wrap_links s.text.tag texts) r)

-- state of the definition's layout: tags are annotation stacks, blocks keep all that was fed, and marks are indices of names
abbrev pub Defined : Type 0 → Type 0 → Type 0
Defined S A = LayoutState S (Unit {0}) (List A) (DefinedBlock (List A) ℕ)

-- algebra of the definition's layout: a tag is a stack of annotations, and an annotation is added on top of it
abbrev pub by_stacks : {S A : Type 0} → Decoration S A → Algebra S A (Unit {0}) (List A) (DefinedBlock (List A) ℕ)
by_stacks d = record { decoration = d; push = λ k stack a. (k, stack ++ a ∷ []); operations = definition.operations }

module _ {S A : Type 0} (d : Decoration S A) (settings : LayoutSettings) where
  -- state in which a layout begins: an empty block, with the decorator's sub-block decorator, no annotations and white space
  -- `Normal`; lines are padded under `pad_block_width`
  abbrev pub empty_state : S → BlockSetting → Defined S A
  empty_state decorator block = record {
    settings = settings;
    decorator = d.subblock decorator;
    stacks = tt;
    text = record { tag = []; mode = Normal; preformatted = false; struck_out = false };
    block = empty_block defined_parts block (if settings.pad_block_width then Some [] else None);
    blank = [];
    in_table = false;
    targets = [];
    names = [];
  }

  -- trees with the estimate of each node; prefixes are those of a sub-block of the document's block, and the minimum width
  -- of a text is `min_wrap_width`, or its own columns if these are fewer. Under `whole_words` the columns of tables have their
  -- longest words
  abbrev pub estimated : S → Forest RenderNode → Forest RenderNode
  estimated decorator t = with_words settings (measured d (d.subblock (d.subblock decorator)) settings t)

  -- THE LAYOUT of a render tree in a block: a view of the state after it; none where it is too narrow, as at width 0
  abbrev pub layout : {L : Type 0} → (Defined S A → L) → Forest RenderNode → S → BlockSetting → Option L
  layout shown t decorator block =
      if block.width == 0 then None else shown_after (by_stacks d) (end_document defined_parts) shown (estimated decorator t) (empty_state decorator block)

  -- lines of the layout, each character with its annotation stack
  abbrev pub layout_lines : Forest RenderNode → S → BlockSetting → Option (List (Line (List A) ℕ))
  layout_lines = layout (λ s. s.block.lines)

  -- names of the layout's marks; a mark in the lines is an index of them
  abbrev pub mark_names : Forest RenderNode → S → BlockSetting → Option (List (List ℕ))
  mark_names = layout (λ s. s.names)

-- lines without annotations
abbrev pub unannotated : {A : Type 0} → List (Line (List A) ℕ) → List (Line (Unit {0}) ℕ)
unannotated lines = lines_with (λ stack. tt) lines
