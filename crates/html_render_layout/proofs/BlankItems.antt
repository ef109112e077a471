-- White space alone as an item of a list.
use Rattle.std.proofs.Common.{◌≡◌, ℕ, Bool, true, false, cond, List, [], ◌∷◌, ◌||◌, Option, Some, None, option_map, option_and_then, refl, ap, ◌∙◌, if◌then◌else◌}
use Rattle.std.specs.List.{list_all}
use Rattle.std.specs.Str.{chars}
use Rattle.std.proofs.lemmas.Bool.{and_parts}
use Rattle.html_render_dom_values.specs.Forest.{Forest}
use Rattle.html_render_dom_values.specs.Outcome.{Refuses}
use Rattle.html_render_dom_values.specs.declared.errors.Error.{Error}
use Rattle.html_render_dom_values.specs.declared.errors.Error.TheVariants.{TooNarrow, Fail, OutOfMemory}
use Rattle.html_render_dom_values.specs.declared.white_space.WhiteSpace.{WhiteSpace}
use Rattle.html_render_dom_values.specs.declared.white_space.WhiteSpace.TheVariants.{Normal}
use Rattle.html_render_parts.specs.Decoration.{Decoration}
use Rattle.html_render_layout_lines.specs.Character.{is_collapsible}
use Rattle.html_render_layout_lines.specs.declared.character.TextStyle.{TextStyle}
use Rattle.html_render_layout_nodes.specs.declared.tree.NodeKind.{NodeKind}
use Rattle.html_render_layout_nodes.specs.declared.tree.NodeKind.TheVariants.{Text}
use Rattle.html_render_layout_nodes.specs.declared.tree.NodeStyle.{NodeStyle}
use Rattle.html_render_layout_nodes.specs.declared.tree.RenderNode.{RenderNode}
use Rattle.html_render_layout_nodes.specs.Visits.{Way, Past, past}
use Rattle.html_render_layout_blocks.specs.Machine as machine
use Rattle.html_render_layout_blocks.specs.Machine.{MachineBlock}
use Rattle.html_render_layout_blocks.specs.declared.held.Prefixing.{Prefixing}
use Rattle.html_render_layout_blocks.specs.laws.BlankItems.{blank_item}
use Rattle.html_render_layout.specs.Layout.{OwnBlock}
use Rattle.html_render_layout.specs.Layout as layout
use Rattle.html_render_layout.specs.declared.state.Outer.{Outer}
use Rattle.html_render_layout.specs.declared.state.Suspended.{Suspended}
use Rattle.html_render_layout.specs.declared.state.Suspended.TheVariants.{Indented}
use Rattle.html_render_layout.specs.declared.state.OpenNode.{OpenNode}
use Rattle.html_render_layout.specs.declared.state.LayoutState.{LayoutState}
use Rattle.html_render_layout.specs.Blank.{IsPlain, IsBlank}
use Rattle.html_render_layout.specs.Layout.{Algebra, struck, style_steps, perform_all, spaces, within, nested, block_of, text_style}
use Rattle.html_render_layout.specs.Opening.{block_opened, opened_in, interrupted, block_entered, kind_opened, keeping}
use Rattle.html_render_layout.specs.Working.{by_tags}

struck-blank : (cs : List ℕ) → list_all is_collapsible cs ≡ true → struck cs ≡ cs
struck-blank [] e = refl
struck-blank (c ∷ cs) e =
    let both = and_parts (is_collapsible c) (list_all is_collapsible cs) e in
    ap (λ b. cond b (c ∷ struck cs) (c ∷ (822 ∷ struck cs))) both.0 ∙ ap (λ y. c ∷ y) (struck-blank cs both.1)

or-false : (b : Bool) → (b || false) ≡ b
or-false true = refl
or-false false = refl

module _ {S A K T : Type 0} (d : Decoration S A) (push : K → T → A → K × T) where
  abbrev algebra : Algebra S A K T (MachineBlock T ℕ)
  algebra = by_tags d push

  abbrev St : Type 0
  St = LayoutState S K T (MachineBlock T ℕ)

  abbrev Ways : Type 0
  Ways = Way St (OpenNode S T (Prefixing (MachineBlock T ℕ) T) (MachineBlock T ℕ))

  -- state in a node's block, and what the node suspends
  abbrev Entered : Type 0
  Entered = St × Suspended S (Prefixing (MachineBlock T ℕ) T) (MachineBlock T ℕ)

  -- a style that changes nothing
  pub plain-style : (q : St) (style : NodeStyle) → IsPlain style → perform_all algebra q (style_steps d style) q ≡ Some q
  plain-style q style is =
      let steps : Option _ → Option _ → WhiteSpace → Bool → Option St = λ colour background mode preformatted.
      perform_all algebra q (style_steps d (record style { colour = colour; background = background; white_space = mode; preformatted = preformatted })) q in
      ap (λ o. steps o style.background style.white_space style.preformatted) is.colour
      ∙ ap (λ o. steps None o style.white_space style.preformatted) is.background
      ∙ ap (λ m. steps None None m style.preformatted) is.white_space
      ∙ ap (λ b. steps None None Normal b) is.ordinary
      ∙ ap (λ b. Some (record q { text = record q.text { preformatted = b } })) (or-false q.text.preformatted)

  module _ (n : RenderNode) (trees : Forest RenderNode) (prefix : List ℕ) (columns min_width : ℕ) (s : St) (is : IsBlank n s.text) where
    abbrev outer : Outer S (Prefixing (MachineBlock T ℕ) T)
    outer = interrupted algebra s prefix columns

    abbrev style : TextStyle T
    style = record { mode = s.text.mode; tag = s.text.tag; continuation_tag = s.text.tag }

    abbrev left : MachineBlock T ℕ → Ways
    left b = Past (record s { block = b })

    -- block after the text's sub-block is appended
    abbrev appended : MachineBlock T ℕ → Option (MachineBlock T ℕ)
    appended sub = option_and_then (λ (done : MachineBlock T ℕ). machine.operations.append s.block done s.text.tag (chars prefix) (spaces columns))
        (machine.operations.add_inline_text sub style (chars is.content))

    abbrev kind_way : St → NodeKind → Option Ways
    kind_way q k = option_and_then (λ (e : Entered). option_and_then (λ w. keeping algebra (Indented outer) q.text w) (kind_opened algebra e.1 k n.estimate trees e.0))
        (block_entered algebra (block_of d q.settings q.decorator k n.estimate) q)

    closed : (o : Option (MachineBlock T ℕ)) → past (option_map (λ (b : MachineBlock T ℕ). record s { block = b }) o) ≡ option_map left o
    closed None = refl
    closed (Some b) = refl

    struck-same : (b : Bool) → (if b then struck (chars is.content) else chars is.content) ≡ chars is.content
    struck-same true = struck-blank (chars is.content) is.blank
    struck-same false = refl

    module _ (sub : MachineBlock T ℕ) where
      abbrev q : St
      q = within algebra sub s

      -- way past the text, by whether it is preformatted and by its characters
      abbrev written : Bool → List ℕ → Option Ways
      written preformatted cs =
          let st = text_style algebra q.decorator q.stacks q.text preformatted in
          option_and_then (λ w. keeping algebra (Indented outer) q.text w)
          (past (option_map (λ (b : MachineBlock T ℕ). record q { stacks = st.0; block = b }) (machine.operations.add_inline_text q.block st.1 cs)))

      added : (o : Option (MachineBlock T ℕ)) → option_and_then (λ w. keeping algebra (Indented outer) q.text w)
          (past (option_map (λ (b : MachineBlock T ℕ). record q { block = b }) o))
          ≡ option_map left (option_and_then (λ (done : MachineBlock T ℕ). machine.operations.append s.block done s.text.tag (chars prefix) (spaces columns)) o)
      added None = refl
      added (Some done) = closed (machine.operations.append s.block done s.text.tag (chars prefix) (spaces columns))

      text-way : kind_way q (Text is.content) ≡ option_map left (appended sub)
      text-way =
          ap (λ b. written b (if s.text.struck_out then struck (chars is.content) else chars is.content)) is.ordinary
          ∙ ap (λ cs. written false cs) (struck-same s.text.struck_out) ∙ added (machine.operations.add_inline_text sub style (chars is.content))

      abbrev kind_way-from : St → Option Ways
      kind_way-from p = option_and_then (λ (e : Entered). option_and_then (λ w. keeping algebra (Indented outer) s.text w) (kind_opened algebra e.1 n.kind n.estimate trees e.0))
          (block_entered algebra (block_of d p.settings p.decorator n.kind n.estimate) p)

      node-way : opened_in algebra (Indented outer) n trees q ≡ option_map left (appended sub)
      node-way =
          ap (λ o. option_and_then kind_way-from o) (plain-style q n.style is.style)
          ∙ ap (λ k. kind_way q k) is.kind ∙ text-way

    -- block after the item, in a state whose block is flushed
    abbrev skipped : Option (MachineBlock T ℕ)
    skipped = option_and_then (λ (sub : MachineBlock T ℕ). machine.operations.new_line s.block)
        (machine.operations.sub_block s.block s.text.tag (chars prefix) (spaces columns) columns min_width)

    item-opened : option_and_then (λ (e : Entered). opened_in algebra e.1 n trees e.0) (option_and_then (λ q. Some (q, Indented outer))
        (nested algebra s.text.tag (chars prefix) (spaces columns) columns min_width s)) ≡ option_map left skipped
    item-opened =
        by (machine.operations.sub_block s.block s.text.tag (chars prefix) (spaces columns) columns min_width)
        ∙ ap (option_map left)
        (blank_item s.block columns min_width style (chars is.content) s.text.tag (chars prefix) (spaces columns) is.mode is.blank)
      where
        by : (o : Option (MachineBlock T ℕ)) → option_and_then (λ (e : Entered). opened_in algebra e.1 n trees e.0) (option_and_then (λ q. Some (q, Indented outer))
            (option_map (λ (sub : MachineBlock T ℕ). within algebra sub s) o)) ≡ option_map left (option_and_then appended o)
        by None = refl
        by (Some sub) = node-way sub

  module _ (n : RenderNode) (trees : Forest RenderNode) (prefix : List ℕ) (columns min_width : ℕ) (s : St) (is : IsBlank n s.text) where
    abbrev with_block : MachineBlock T ℕ → St
    with_block b = record s { block = b }

    abbrev wanted : Option (MachineBlock T ℕ)
    wanted = option_and_then (λ (r : MachineBlock T ℕ). skipped n trees prefix columns min_width (with_block r) is) (machine.operations.new_line s.block)

    abbrev passed : MachineBlock T ℕ → Ways
    passed b = Past (with_block b)

    -- THE LAW: the item is a new line, if its sub-block isn't too narrow
    pub blank_opened : (b : OwnBlock) → b ≡ layout.Indented prefix columns min_width → block_opened algebra n trees b s ≡ option_map passed wanted
    blank_opened b e = ap (λ c. block_opened algebra n trees c s) e ∙ by (machine.operations.new_line s.block)
      where
        by : (o : Option (MachineBlock T ℕ)) → option_and_then (λ (e : Entered). opened_in algebra e.1 n trees e.0) (option_and_then (λ (r : St).
            option_and_then (λ q. Some (q, Indented (interrupted algebra r prefix columns))) (nested algebra r.text.tag (chars prefix) (spaces columns) columns min_width r))
            (option_map with_block o))
            ≡ option_map passed (option_and_then (λ (r : MachineBlock T ℕ). skipped n trees prefix columns min_width (with_block r) is) o)
        by None = refl
        by (Some r) = item-opened n trees prefix columns min_width (with_block r) is

    pub blank_passed : (b : OwnBlock) → b ≡ layout.Indented prefix columns min_width → (new : MachineBlock T ℕ) → wanted ≡ Some new →
        block_opened algebra n trees b s ≡ Some (passed new)
    blank_passed b e new done = blank_opened b e ∙ ap (option_map passed) done

    pub blank_refused : (b : OwnBlock) → b ≡ layout.Indented prefix columns min_width → (error : Error) → Refuses error wanted →
        Refuses error (block_opened algebra n trees b s)
    blank_refused b e TooNarrow refused = blank_opened b e ∙ ap (option_map passed) refused
    blank_refused b e Fail refused = absurd refused
    blank_refused b e OutOfMemory refused = tt
