-- Lines that are appended to others, with the lines before these.
use Rattle.std.proofs.Common.{◌≡◌, ℕ, zero, suc, ◌+◌, ◌==◌, arith, Bool, List, ◌++◌, Option, Some, None, option_map, length, ap, sym, refl, ◌∙◌, append_assoc, length-append}
use Rattle.std.proofs.Math.Dec.{eqb-suc-suc}
use Rattle.html_render_layout_lines.specs.Line.{Line}
use Rattle.html_render_layout_paragraphs.specs.Paragraph.{LineBuffer, all_lines}
use Rattle.html_render_layout_paragraphs.specs.Stream.{State, start, finished}
use Rattle.html_render_layout_buffer.specs.Padding.{filled}
use Rattle.html_render_layout_blocks.specs.Block.{flush}
use Rattle.html_render_layout_blocks.specs.Machine.{machine, MachineBlock}

-- The number of lines of two lists that are joined.
pub length_append : {X : Type 0} (xs ys : List X) → length (xs ++ ys) ≡ length xs + length ys
length_append xs ys = length-append xs ys

-- A number is the same plus another one exactly if that is zero.
pub same_plus : (a b n : ℕ) → a ≡ b + n → (a == b) ≡ (n == 0)
same_plus a zero n e =
    let same : a ≡ n = omega (arith, e) in
    ap (λ k. k == 0) same
same_plus zero (suc b) n e = absurd (omega (arith, e))
same_plus (suc a) (suc b) n e = eqb-suc-suc a b ∙ same_plus a b n (omega (arith, e))

pub ruleset flushed = (append_assoc, length_append)

-- The lines of a paragraph appended to the last lines of a block, with the lines before these.
pub padded_flush : {T M : Type 0} (b c : MachineBlock T M) (p : Option (State T M)) (q r : State T M) (front last new : List (Line T M)) →
    record c { lines = front ++ last; paragraph = p } ≡ b → p ≡ Some q → option_map {U = List (Line T M) × State T M}
    (λ (g : LineBuffer T M). (last ++ filled c.padding c.setting.width (all_lines g), start q.setting g.waiting)) (finished q) ≡ Some (new, r) →
    flush machine b ≡ Some (record c { lines = front ++ new; paragraph = Some r })
padded_flush {T} {M} b c p q r front last new same is_some h =
    sym (ap (flush machine) same)
    ∙ ap (λ (o : Option (State T M)). flush machine (record c { lines = front ++ last; paragraph = o })) is_some
    ∙ by (finished q) h
  where
    by : (o : Option (LineBuffer T M)) → option_map {U = List (Line T M) × State T M}
        (λ (g : LineBuffer T M). (last ++ filled c.padding c.setting.width (all_lines g), start q.setting g.waiting)) o ≡ Some (new, r) →
        option_map (λ (g : LineBuffer T M). record c {
          lines = (front ++ last) ++ filled c.padding c.setting.width (all_lines g);
          paragraph = Some (start q.setting g.waiting);
        }) o
        ≡ Some (record c { lines = front ++ new; paragraph = Some r })
    by None e = cc
    by (Some g) e =
        let both : ◌≡◌ {A = List (Line T M) × State T M}
        (last ++ filled c.padding c.setting.width (all_lines g), start q.setting g.waiting) (new, r) = cc in
        ap (λ x. Some (record c { lines = x; paragraph = Some (start q.setting g.waiting) }))
        (append_assoc front last (filled c.padding c.setting.width (all_lines g)))
        ∙ ap (λ (x : List (Line T M) × State T M). Some (record c { lines = front ++ x.0; paragraph = Some x.1 })) both
