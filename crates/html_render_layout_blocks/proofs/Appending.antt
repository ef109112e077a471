-- Lines of a block as the code appends them to those of another one: with the marks at their ends, and each after its
-- prefix.
use Rattle.std.proofs.Common.{◌≡◌, ℕ, ◌<◌, Bool, true, false, cond, leb, ◌||◌, ◌&&◌, List, [], ◌∷◌, ◌++◌, map, length, Option, Some, None, option_map, option_and_then, refl}
use Rattle.std.proofs.Common.{sym, ap, ◌∙◌, arith, append_assoc}
use Rattle.std.specs.List.{list_all}
use Rattle.std.proofs.lemmas.List.{nil_from_length}
use Rattle.html_render_dom_values.specs.declared.errors.Error.{Error}
use Rattle.html_render_dom_values.specs.Outcome.{Refuses}
use Rattle.html_render_dom_values.specs.laws.Outcome.{Refuses-then}
use Rattle.html_render_layout_lines.specs.Line.{Line, columns, marks_line, is_empty}
use Rattle.html_render_layout_lines.specs.TaggedText.{under}
use Rattle.html_render_layout_lines.specs.laws.Columns.{columns-append, columns-marks}
use Rattle.html_render_layout_lines.specs.laws.Tags.{if_with}
use Rattle.html_render_layout_buffer.specs.Marked.{marked_before, marked_behind}
use Rattle.html_render_layout_buffer.specs.Prefixed.{prefixed}
use Rattle.html_render_layout_blocks.specs.Joined.{fitting, moved}
use Rattle.html_render_layout_blocks.specs.Block.{flush, feed, put_lines, end_table, mark_items, append}
use Rattle.html_render_layout_blocks.specs.Machine.{machine, MachineBlock}

-- Appending to a block that can't be flushed refuses.
pub append_unflushed : {T M : Type 0} (e : Error) (b c : MachineBlock T M) (tag : T) (first later : List ℕ) →
    Refuses e (flush machine b) → Refuses e (append machine b c tag first later)
append_unflushed e b c tag first later h = Refuses-then e (flush machine b) _ h

-- A list that isn't empty by a test has an element.
pub some_lines : {X : Type 0} (ls : List X) (b : Bool) → b ≡ is_empty ls → b ≡ false → 0 < length ls
some_lines [] b is other = cc
some_lines (l ∷ ls) b is other = omega arith

module _ {T M : Type 0} where
  behind-marked : (q : Line T M) (ms : List M) (ls : List (Line T M)) → map (◌++◌ q) (marked_behind ms ls) ≡ marked_behind ms (map (◌++◌ q) ls)
  behind-marked q ms [] = refl
  behind-marked q ms (l ∷ []) = ap (λ x. x ∷ []) (sym (append_assoc q l (marks_line ms)))
  behind-marked q ms (l ∷ k ∷ ls) = ap (λ xs. (q ++ l) ∷ xs) (behind-marked q ms (k ∷ ls))

  prefixed-marked : (ns ms : List M) (p q : Line T M) (ls : List (Line T M)) →
      prefixed (marks_line ns ++ p) q (marked_behind ms ls) ≡ marked_before ns (marked_behind ms (prefixed p q ls))
  prefixed-marked ns ms p q [] = refl
  prefixed-marked ns ms p q (l ∷ []) = ap (λ x. x ∷ [])
      (append_assoc (marks_line ns) p (l ++ marks_line ms) ∙ ap (λ x. marks_line ns ++ x) (sym (append_assoc p l (marks_line ms))))
  prefixed-marked ns ms p q (l ∷ k ∷ ls) =
      ap (λ x. x ∷ map (◌++◌ q) (marked_behind ms (k ∷ ls))) (append_assoc (marks_line ns) p l)
      ∙ ap (λ xs. (marks_line ns ++ (p ++ l)) ∷ xs) (behind-marked q ms (k ∷ ls))

  abbrev are_within : ℕ → List (Line T M) → Bool
  are_within w ls = list_all (λ (l : Line T M). leb (columns l) w) ls

  -- Marks take no column.
  before-within : (w : ℕ) (ms : List M) (ls : List (Line T M)) → are_within w (marked_before ms ls) ≡ are_within w ls
  before-within w ms [] = refl
  before-within w ms (l ∷ ls) = ap (λ n. leb n w && are_within w ls) (omega (arith, columns-append (marks_line ms) l, columns-marks T ms))

  behind-within : (w : ℕ) (ms : List M) (ls : List (Line T M)) → are_within w (marked_behind ms ls) ≡ are_within w ls
  behind-within w ms [] = refl
  behind-within w ms (l ∷ []) = ap (λ n. leb n w && true) (omega (arith, columns-append l (marks_line ms), columns-marks T ms))
  behind-within w ms (l ∷ k ∷ ls) = ap (λ b. leb (columns l) w && b) (behind-within w ms (k ∷ ls))

  fitting-marked : (w : ℕ) (o : Bool) (ns ms : List M) (ls : List (Line T M)) →
      fitting w o (marked_before ns (marked_behind ms ls)) ≡ option_map (λ all. marked_before ns (marked_behind ms all)) (fitting w o ls)
  fitting-marked w o ns ms ls =
      if_with (option_map (λ all. marked_before ns (marked_behind ms all))) _ _ _ _ _ _
      (ap (λ b. o || b) (before-within w ns (marked_behind ms ls) ∙ behind-within w ms ls)) refl refl

  -- Lines that are moved with their marks.
  some-put : (b : MachineBlock T M) (p q : Line T M) (ls : List (Line T M)) (ms : List M) → 0 < length ls →
      option_map (λ all. put_lines machine b all ms) (fitting b.setting.width b.setting.overflow (prefixed p q ls))
      ≡ option_map (λ all. record b { lines = all; paragraph = machine.without_waiting b.paragraph })
      (moved b.setting.width b.setting.overflow (machine.waiting b.paragraph) p q b.lines (marked_behind ms ls))
  some-put b p q [] ms h = absurd (omega (arith, h))
  some-put b p q (l ∷ ls) ms h =
      let ns = machine.waiting b.paragraph in
      let w = b.setting.width in
      let o = b.setting.overflow in
      let all = prefixed p q (l ∷ ls) in
      by (o || are_within w all) ∙ ap close (sym (ap (fitting w o) (prefixed-marked ns ms p q (l ∷ ls)) ∙ fitting-marked w o ns ms all))
    where
      close : Option (List (Line T M)) → Option (MachineBlock T M)
      close r = option_map (λ all. record b { lines = all; paragraph = machine.without_waiting b.paragraph }) (option_map (λ all. b.lines ++ all) r)

      by : (z : Bool) → option_map (λ all. put_lines machine b all ms) (cond z (Some (prefixed p q (l ∷ ls))) None)
          ≡ close (option_map (λ all. marked_before (machine.waiting b.paragraph) (marked_behind ms all)) (cond z (Some (prefixed p q (l ∷ ls))) None))
      by true = refl
      by false = refl

  -- Without lines, the marks are fed.
  pub none_put : (b : MachineBlock T M) (p q : Line T M) (ls : List (Line T M)) (ms : List M) → length ls ≡ 0 →
      option_map (λ all. put_lines machine b all ms) (fitting b.setting.width b.setting.overflow (prefixed p q ls)) ≡ Some (feed machine b (mark_items ms))
  none_put b p q ls ms h =
      ap (λ ks. option_map (λ all. put_lines machine b all ms) (fitting b.setting.width b.setting.overflow (prefixed p q ks))) (nil_from_length ls h)
      ∙ by b.setting.overflow
    where
      by : (o : Bool) → option_map (λ all. put_lines machine b all ms) (fitting b.setting.width o []) ≡ Some (feed machine b (mark_items ms))
      by true = refl
      by false = refl

  -- The step in the code's terms: the block d is b without its waiting marks, which are ws, and ks are the lines with
  -- their marks.
  pub moved_put : (b d : MachineBlock T M) (p q r k : Line T M) (ls ks : List (Line T M)) (ms ws : List M) → 0 < length ls →
      ks ≡ marked_behind ms ls → ws ≡ machine.waiting b.paragraph → d ≡ record b { paragraph = machine.without_waiting b.paragraph } →
      r ≡ p → k ≡ q → option_map (λ all. put_lines machine b all ms) (fitting b.setting.width b.setting.overflow (prefixed p q ls))
      ≡ option_map (λ all. record d { lines = all }) (moved d.setting.width d.setting.overflow ws r k d.lines ks)
  moved_put b d p q r k ls ks ms ws h lines marks block first later =
      let Moved : MachineBlock T M → List M → Line T M → Line T M → List (Line T M) → Option (MachineBlock T M) =
      λ x ns i j xs. option_map (λ all. record x { lines = all }) (moved x.setting.width x.setting.overflow ns i j x.lines xs) in
      let without : MachineBlock T M = record b { paragraph = machine.without_waiting b.paragraph } in
      some-put b p q ls ms h
      ∙ sym (ap (λ x. Moved x ws r k ks) block ∙ ap (λ ns. Moved without ns r k ks) marks ∙ ap (λ i. Moved without (machine.waiting b.paragraph) i k ks) first
      ∙ ap (λ j. Moved without (machine.waiting b.paragraph) p j ks) later ∙ ap (Moved without (machine.waiting b.paragraph) p q) lines)

  -- ---- A block appended to another, once both are flushed

  abbrev put_behind : MachineBlock T M → T → List ℕ → List ℕ → List (Line T M) → List M → Option (MachineBlock T M)
  put_behind b tag first later ls ms =
      option_map (λ all. put_lines machine b all ms)
      (fitting b.setting.width b.setting.overflow (prefixed (under tag first) (under tag later) ls))

  pub append-is : (b d c f : MachineBlock T M) (tag : T) (first later : List ℕ) (ls : List (Line T M)) (ms : List M) → flush machine b ≡ Some d →
      flush machine (end_table machine c) ≡ Some f → ls ≡ f.lines → ms ≡ machine.waiting f.paragraph →
      append machine b c tag first later ≡ put_behind d tag first later ls ms
  append-is b d c f tag first later ls ms own other lines marks =
      ap (option_and_then (λ (x : MachineBlock T M). option_and_then
      (λ (y : MachineBlock T M). put_behind x tag first later y.lines (machine.waiting y.paragraph)) (flush machine (end_table machine c)))) own
      ∙ ap (option_and_then (λ (y : MachineBlock T M). put_behind d tag first later y.lines (machine.waiting y.paragraph))) other
      ∙ ap (λ xs. put_behind d tag first later xs (machine.waiting f.paragraph)) (sym lines)
      ∙ ap (put_behind d tag first later ls) (sym marks)
