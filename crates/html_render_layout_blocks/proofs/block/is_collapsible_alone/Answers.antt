use Rattle.std.proofs.Common.{◌≡◌, ℕ, ◌+◌, ◌<◌, List, length, get_or, drop, sym, ap, ◌∙◌, arith, ◌&&◌}
use Rattle.std.proofs.lemmas.Iterator.{YieldsList-from_chars}
use Rattle.std.proofs.lemmas.List.{at_drop_more, at_drop_all, length_push}
use Rattle.std.proofs.lemmas.Iterator.Consumers.{YieldsList-turn, YieldsList-end}
use Rattle.std.proofs.lemmas.Grind.{common_steps}
use Rattle.std.specs.List.{list_all}
use Rattle.std.specs.Str.{chars}
use Rattle.html_render_layout_lines.specs.Character.{is_collapsible}
use Rattle.html_render_layout_blocks.proofs.block.is_collapsible_alone.Goals as goal

all-drop : (cs : List ℕ) (n c : ℕ) → (n < length cs) × (c ≡ get_or cs n c) →
    list_all is_collapsible (drop n cs) ≡ (is_collapsible c && list_all is_collapsible (drop (n + 1) cs))
all-drop cs n c h = at_drop_more (λ xs. list_all is_collapsible xs) cs n c h.0
    ∙ ap (λ x. is_collapsible x && list_all is_collapsible (drop (n + 1) cs)) (sym h.1)

pub loop-c-preserved : goal.loop-c-preserved
loop-c-preserved c =
    let t = YieldsList-turn (YieldsList-from_chars c.args.text.now c.utf8.text cc) c.loop-c.yielded _ c.loop-c.yielded_by _ _ c.in-Some.c
    c.in-Some.is c.next.ensures.steps in
    let e = all-drop _ _ _ t in
    let n = length_push c.loop-c.yielded c.in-Some.c in
    grind (arith, common_steps)

pub returns : goal.returns
returns c =
    let t = YieldsList-end (YieldsList-from_chars c.args.text.now c.utf8.text cc) c.loop-c.yielded _ c.loop-c.yielded_by _ _ c.in-None.is
    c.next.ensures.steps in
    sym (c.loop-c.invariant ∙ at_drop_all (λ xs. list_all is_collapsible xs) (chars c.args.text.now) (length c.loop-c.yielded)
    (omega (arith, t.1)))

pub returns-then-not-is_collapsible : goal.returns-then-not-is_collapsible
returns-then-not-is_collapsible c =
    let t = YieldsList-turn (YieldsList-from_chars c.args.text.now c.utf8.text cc) c.loop-c.yielded _ c.loop-c.yielded_by _ _ c.in-Some.c
    c.in-Some.is c.next.ensures.steps in
    let e = all-drop _ _ _ t in
    grind (arith, common_steps)
