use Rattle.std.proofs.Common.{arith}
use Rattle.std.proofs.lemmas.Str.{IsCharBoundary-from_drop}
use Rattle.html_render_layout_buffer.proofs.PartLines.{characters-left}
use Rattle.html_render_layout_buffer.proofs.buffer.parts.LineParts.take_characters.Goals as goal

pub range-own-requires-clause-end_boundary : goal.range-own-requires-clause-end_boundary
range-own-requires-clause-end_boundary g c =
    IsCharBoundary-from_drop c.self.inside.text.now c.reach-count.result c.reach-count.ensures.within c.reach-count.ensures.rest

pub range_from-self-inside-requires : goal.range_from-self-inside-requires
range_from-self-inside-requires g c some =
    IsCharBoundary-from_drop c.self.inside.text.now c.reach-count.result c.reach-count.ensures.within c.reach-count.ensures.rest

pub overflow_add-self : goal.overflow_add-self
overflow_add-self g c =
    let left = (characters-left _ _ _ _ _ _ _ _ _ _ c.self.invariant c.self.view_is c.reach-count.ensures.count c.reach-count.ensures.front c.requires.tagged
    c.requires.some c.range-own.ensures.value c.range_from-self-inside.ensures.value c.range_from-self-inside.utf8).left in
    omega (arith, left.ordered)

pub invariant_of-self : goal.invariant_of-self
invariant_of-self g c =
    (characters-left _ _ _ _ _ _ _ _ _ _ c.self.invariant c.self.view_is c.reach-count.ensures.count c.reach-count.ensures.front c.requires.tagged
    c.requires.some c.range-own.ensures.value c.range_from-self-inside.ensures.value c.range_from-self-inside.utf8).left

pub returns : goal.returns
returns g c =
    let parts = characters-left _ _ _ _ _ _ _ _ _ _ c.self.invariant c.self.view_is c.reach-count.ensures.count c.reach-count.ensures.front c.requires.tagged
    c.requires.some c.range-own.ensures.value c.range_from-self-inside.ensures.value c.range_from-self-inside.utf8 in
    record { characters = parts.whole; shorter = parts.shorter }
