-- A sub-block of white space alone has no line, so appending it flushes the outer block and does no more.
use Rattle.std.proofs.Common.{◌≡◌, ℕ, Bool, true, false, cond, List, [], ◌∷◌, Option, Some, None, is_some, length, ◌==◌, option_map, option_and_then, refl, ap, ◌∙◌}
use Rattle.std.specs.List.{list_all}
use Rattle.std.specs.Option.{option_or}
use Rattle.std.proofs.lemmas.Bool.{and_parts}
use Rattle.html_render_dom_values.specs.declared.white_space.WhiteSpace.TheVariants.{Normal}
use Rattle.html_render_layout_lines.specs.declared.character.Character.{Character}
use Rattle.html_render_layout_lines.specs.declared.character.Item.TheVariants as item
use Rattle.html_render_layout_lines.specs.declared.character.Kind.TheVariants.{Space, Divider, Dropped, Letter}
use Rattle.html_render_layout_lines.specs.declared.character.TextStyle.{TextStyle}
use Rattle.html_render_layout_lines.specs.Character.{kind, is_collapsible, has_no_width, character_of}
use Rattle.html_render_layout_lines.specs.Line.{Line}
use Rattle.html_render_layout_lines.specs.TaggedText.{under}
use Rattle.html_render_layout_paragraphs.specs.Stream.{State, start, step, after, styled, character_step, with_pending, placed_word}
use Rattle.html_render_layout_buffer.specs.Padding.{filled}
use Rattle.html_render_layout_buffer.specs.Prefixed.{prefixed}
use Rattle.html_render_layout_blocks.specs.Joined.{fitting}
use Rattle.html_render_layout_blocks.specs.Block.{flush, feed, put_lines, append, inner_block, inner_width, paragraph_setting}
use Rattle.html_render_layout_blocks.specs.Machine as machine
use Rattle.html_render_layout_blocks.specs.Machine.{machine, MachineBlock, operations}

-- pending space after white space
abbrev pending_after : {T : Type 0} → Option (Character T) → TextStyle T → List ℕ → Option (Character T)
pending_after p style [] = p
pending_after p style (c ∷ cs) = pending_after (option_or p (Some (character_of style c))) style cs

space-kind : (c : ℕ) → is_collapsible c ≡ true → kind Normal c ≡ Space
unfolding kind
space-kind c e = ap (λ b. cond b Space (cond (c == 0x200B) Divider (cond (has_no_width c) Dropped Letter))) e

module _ {T M : Type 0} where
  stepped : (q : State T M) (style : TextStyle T) (c : ℕ) → kind style.mode c ≡ Space → q.open_word ≡ None →
      step q (item.Character (character_of style c)) ≡ Some (record q { pending = option_or q.pending (Some (character_of style c)) })
  stepped q style c e closed =
      let own : Character T = character_of style c in
      ap (λ k. character_step k q own) e
      ∙ ap (λ (o : Option Bool). option_map (λ (t : State T M). with_pending t own) (cond (is_some o) (placed_word q) (Some q))) closed

  -- white space alone leaves a pending space and no more
  spaces-fed : (q : State T M) (style : TextStyle T) (cs : List ℕ) → style.mode ≡ Normal → list_all is_collapsible cs ≡ true → q.open_word ≡ None →
      after q (styled style cs) ≡ Some (record q { pending = pending_after q.pending style cs })
  spaces-fed q style [] mode all closed = refl
  spaces-fed q style (c ∷ cs) mode all closed =
      let both = and_parts (is_collapsible c) (list_all is_collapsible cs) all in
      let next : State T M = record q { pending = option_or q.pending (Some (character_of style c)) } in
      let k : kind style.mode c ≡ Space = ap (λ m. kind m c) mode ∙ space-kind c both.0 in
      let first : step q (item.Character (character_of style c)) ≡ Some next = stepped q style c k closed in
      ap (option_and_then (λ (r : State T M). after r (styled style cs))) first ∙ spaces-fed next style cs mode both.1 closed

  -- ---- a block

  -- sub-block whose paragraph has a pending space alone
  abbrev spaced : MachineBlock T M → ℕ → Option (Character T) → MachineBlock T M
  spaced b w p =
      let inner : MachineBlock T M = inner_block machine b w in
      record inner { paragraph = Some (record (start (paragraph_setting inner.setting) []) { pending = p }) }

  flush-is : (b : MachineBlock T M) → option_map (λ (e : MachineBlock T M). put_lines machine e [] []) (flush machine b) ≡ flush machine b
  flush-is b = by (flush machine b)
    where
      fed : (p : Option (State T M)) → option_and_then (λ (q : State T M). after q []) p ≡ p
      fed None = refl
      fed (Some q) = refl

      by : (o : Option (MachineBlock T M)) → option_map (λ (e : MachineBlock T M). put_lines machine e [] []) o ≡ o
      by None = refl
      by (Some e) = ap (λ (p : Option (State T M)). Some (record e { paragraph = p })) (fed e.paragraph)

  spaced-appended : (b : MachineBlock T M) (w : ℕ) (p : Option (Character T)) (tag : T) (first later : List ℕ) →
      append machine b (spaced b w p) tag first later ≡ flush machine b
  spaced-appended b w p tag first later = by (flush machine b) ∙ flush-is b
    where
      none : (padding : Option T) (width : ℕ) → filled {M = M} padding width [] ≡ []
      none None width = refl
      none (Some tag) width = refl

      fit : (width : ℕ) (o : Bool) → fitting {T = T} {M = M} width o [] ≡ Some []
      fit width true = refl
      fit width false = refl

      put : (e : MachineBlock T M) (ls : List (Line T M)) → ls ≡ [] →
          option_map (λ (xs : List (Line T M)). put_lines machine e xs []) (fitting e.setting.width e.setting.overflow (prefixed (under tag first) (under tag later) ls))
          ≡ Some (put_lines machine e [] [])
      put e ls h = rw (h, fit e.setting.width e.setting.overflow) refl

      by : (o : Option (MachineBlock T M)) → option_and_then (λ (e : MachineBlock T M). option_map
          (λ (xs : List (Line T M)). put_lines machine e xs [])
          (fitting e.setting.width e.setting.overflow (prefixed (under tag first) (under tag later) (filled b.padding w [])))) o
          ≡ option_map (λ (e : MachineBlock T M). put_lines machine e [] []) o
      by None = refl
      by (Some e) = put e (filled b.padding w []) (none b.padding w)

  -- THE LAW: white space alone in a sub-block, appended, is a new line
  pub blank_item : (b : MachineBlock T M) (prefix inner : ℕ) (style : TextStyle T) (cs : List ℕ) (tag : T) (first later : List ℕ) → style.mode ≡ Normal →
      list_all is_collapsible cs ≡ true →
      option_and_then (λ (sub : MachineBlock T M). option_and_then (λ (done : MachineBlock T M). machine.operations.append b done tag first later)
      (machine.operations.add_inline_text sub style cs)) (machine.operations.sub_block b tag first later prefix inner)
      ≡ option_and_then (λ (sub : MachineBlock T M). machine.operations.new_line b) (machine.operations.sub_block b tag first later prefix inner)
  unfolding operations
  blank_item b prefix inner style cs tag first later mode all = by (inner_width b.setting prefix inner)
    where
      text : (w : ℕ) (none : Bool) → option_and_then (λ (done : MachineBlock T M). append machine b done tag first later)
          (cond none (Some (inner_block machine b w)) (Some (feed machine (inner_block machine b w) (styled style cs)))) ≡ flush machine b
      text w true = spaced-appended b w None tag first later
      text w false =
          ap (λ (o : Option (State T M)). append machine b (record (inner_block machine b w) { paragraph = o }) tag first later)
          (spaces-fed (start (paragraph_setting (inner_block machine b w).setting) []) style cs mode all refl)
          ∙ spaced-appended b w (pending_after None style cs) tag first later

      by : (o : Option ℕ) → option_and_then (λ (sub : MachineBlock T M). option_and_then (λ (done : MachineBlock T M). append machine b done tag first later)
          (machine.operations.add_inline_text sub style cs)) (option_map (λ (w : ℕ). inner_block machine b w) o)
          ≡ option_and_then (λ (sub : MachineBlock T M). flush machine b) (option_map (λ (w : ℕ). inner_block machine b w) o)
      by None = refl
      by (Some w) = text w (length cs == 0)
