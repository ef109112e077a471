-- A cell of one text is laid out at once.
use Rattle.std.proofs.Common.{◌≡◌, ℕ, Bool, false, List, Option, Some, None, option_map, option_and_then, refl, ap, sym, subst, ◌∙◌, if◌then◌else◌}
use Rattle.std.specs.Str.{chars}
use Rattle.html_render_dom_values.specs.Forest.{Forest, none, node}
use Rattle.html_render_dom_values.specs.Outcome.{Refuses}
use Rattle.html_render_dom_values.specs.laws.Outcome.{Refuses-memory}
use Rattle.html_render_dom_values.specs.declared.errors.Error.{Error}
use Rattle.html_render_dom_values.specs.declared.errors.Error.TheVariants.{OutOfMemory}
use Rattle.html_render_parts.specs.Decoration.{Decoration}
use Rattle.html_render_layout_lines.specs.declared.character.TextStyle.{TextStyle}
use Rattle.html_render_layout_nodes.specs.declared.tree.NodeKind.{NodeKind}
use Rattle.html_render_layout_nodes.specs.declared.tree.RenderNode.{RenderNode}
use Rattle.html_render_layout_nodes.specs.Visits.{Way, Into, Past, passed_in, pair_in, pair_at, RefusesPair}
use Rattle.html_render_layout_blocks.specs.Machine as machine
use Rattle.html_render_layout_blocks.specs.Machine.{MachineBlock}
use Rattle.html_render_layout_blocks.specs.declared.held.Prefixing.{Prefixing}
use Rattle.html_render_layout.specs.declared.state.CloseAction.{CloseAction}
use Rattle.html_render_layout.specs.declared.state.CloseAction.TheVariants.{Nothing, EndRow}
use Rattle.html_render_layout.specs.declared.state.Suspended.{Suspended}
use Rattle.html_render_layout.specs.declared.state.Suspended.TheVariants.{NoBlock, Cell}
use Rattle.html_render_layout.specs.declared.state.OpenNode.{OpenNode}
use Rattle.html_render_layout.specs.declared.state.LayoutState.{LayoutState}
use Rattle.html_render_layout.specs.Layout.{Algebra, struck, within, block_of, text_style, write}
use Rattle.html_render_layout.specs.Opening.{block_entered, kind_opened, keeping, cell_opened, opened_below, opened, closed}
use Rattle.html_render_layout.specs.TextCells.{IsTextCell, IsRow, IsOrdinary, cell_put}
use Rattle.html_render_layout.specs.Working.{by_tags}
use Rattle.html_render_layout.specs.laws.Opening.{texts_pass}
use Rattle.html_render_layout.proofs.BlankItems.{plain-style}

module _ {S A K T : Type 0} (d : Decoration S A) (push : K → T → A → K × T) where
  abbrev algebra : Algebra S A K T (MachineBlock T ℕ)
  algebra = by_tags d push

  abbrev St : Type 0
  St = LayoutState S K T (MachineBlock T ℕ)

  abbrev Kept : Type 0
  Kept = OpenNode S T (Prefixing (MachineBlock T ℕ) T) (MachineBlock T ℕ)

  module _ (parent : Kept) (row : parent.kind ≡ EndRow) (number : ℕ) (n : RenderNode) (trees : Forest RenderNode) (text : List ℕ) (s : St)
      (is : IsTextCell n trees text) (ordinary : IsOrdinary s.text) (cell : MachineBlock T ℕ) (block : machine.operations.cell_block s.block ≡ Some cell) where
    abbrev style : TextStyle T
    style = record { mode = s.text.mode; tag = s.text.tag; continuation_tag = s.text.tag }

    abbrev q : St
    q = within algebra cell s

    abbrev item : Suspended S (Prefixing (MachineBlock T ℕ) T) (MachineBlock T ℕ)
    item = Cell (record { decorator = s.decorator; block = s.block })

    abbrev kept : Kept
    kept = record { item = item; text = s.text; kind = Nothing NoBlock }

    abbrev with_block : MachineBlock T ℕ → St
    with_block b = record s { block = b }

    -- block of the table after the cell is added to it
    abbrev added : Option (MachineBlock T ℕ) → Option (MachineBlock T ℕ)
    added o = option_and_then (λ (c : MachineBlock T ℕ). machine.operations.add_cell s.block c) o

    abbrev way_from : Forest RenderNode → St → NodeKind → Option (Way St Kept)
    way_from f p k = option_and_then (λ (e : St × Suspended S (Prefixing (MachineBlock T ℕ) T) (MachineBlock T ℕ)). option_and_then (λ w. keeping algebra item s.text w) (kind_opened algebra e.1 k n.estimate f e.0))
        (block_entered algebra (block_of d p.settings p.decorator k n.estimate) p)

    opens : (f : Forest RenderNode) → opened algebra (Some parent) number n f s ≡ Some (Into q kept)
    opens f =
        ap (λ (k : CloseAction S T (Prefixing (MachineBlock T ℕ) T) (MachineBlock T ℕ)). opened_below algebra k number n f s) row
        ∙ ap (λ o. cell_opened algebra n f o s) block
        ∙ ap (λ o. option_and_then (λ p. way_from f p n.kind) o) (plain-style d push q n.style is.style)
        ∙ ap (λ k. way_from f q k) is.kind

    -- way past the text, by whether it is preformatted and whether it is struck out
    abbrev written : Bool → Bool → Option (Way St Kept)
    written preformatted struck_out =
        let st = text_style algebra q.decorator q.stacks q.text preformatted in
        option_and_then (λ (r : St). Some (Past (record r { text = s.text })))
        (option_map (λ (b : MachineBlock T ℕ). record q { stacks = st.0; block = b })
        (machine.operations.add_inline_text q.block st.1 (if struck_out then struck (chars text) else chars text)))

    abbrev left : MachineBlock T ℕ → Way St Kept
    left b = Past (record q { block = b })

    passes : opened algebra (Some kept) 0 is.child none q ≡ option_map left (machine.operations.add_inline_text cell style (chars text))
    passes =
        texts_pass algebra is.child text none q is.content
        ∙ ap (λ o. option_and_then (λ (p : St). option_and_then (λ (r : St). Some (Past (record r { text = s.text }))) (write algebra (chars text) p)) o)
        (plain-style d push q is.child.style is.plain)
        ∙ ap (λ b. written b s.text.struck_out) ordinary.not_preformatted ∙ ap (λ b. written false b) ordinary.not_struck_out
        ∙ by (machine.operations.add_inline_text cell style (chars text))
      where
        by : (o : Option (MachineBlock T ℕ)) → option_and_then (λ (r : St). Some (Past (record r { text = s.text })))
            (option_map (λ (b : MachineBlock T ℕ). record q { block = b }) o) ≡ option_map left o
        by None = refl
        by (Some b) = refl

    closes : (o : Option (MachineBlock T ℕ)) → passed_in (closed algebra) kept (option_map left o) ≡ Some (option_map with_block (added o))
    closes None = refl
    closes (Some c) = refl

    -- THE LAW: the cell is added with its text
    pair : pair_at (opened algebra) (closed algebra) (Some parent) number n trees s ≡ Some (cell_put algebra cell text s)
    pair =
        ap (λ f. pair_at (opened algebra) (closed algebra) (Some parent) number n f s) is.only
        ∙ ap (λ w. pair_in (opened algebra) (closed algebra) is.child w) (opens (node is.child none none))
        ∙ ap (λ w. passed_in (closed algebra) kept w) passes
        ∙ closes (machine.operations.add_inline_text cell style (chars text))

  module _ (parent : Option Kept) (row : IsRow parent) (number : ℕ) (n : RenderNode) (trees : Forest RenderNode) (text : List ℕ) (s : St)
      (is : IsTextCell n trees text) (ordinary : IsOrdinary s.text) (cell : MachineBlock T ℕ) (block : machine.operations.cell_block s.block ≡ Some cell) where
    pub text_pair : pair_at (opened algebra) (closed algebra) parent number n trees s ≡ Some (cell_put algebra cell text s)
    text_pair =
        ap (λ p. pair_at (opened algebra) (closed algebra) p number n trees s) row.is
        ∙ pair row.kept row.row number n trees text s is ordinary cell block

    pub pair_refused : (e : Error) → Refuses e (cell_put algebra cell text s) → RefusesPair e (pair_at (opened algebra) (closed algebra) parent number n trees s)
    pair_refused e h = subst (λ o. RefusesPair e o) (sym text_pair) h

-- out of memory is possible for any pair
pub pair_memory : {S : Type 0} (e : Error) (o : Option (Option S)) → e ≡ OutOfMemory → RefusesPair e o
pair_memory e None h = h
pair_memory e (Some after) h = Refuses-memory e after h
