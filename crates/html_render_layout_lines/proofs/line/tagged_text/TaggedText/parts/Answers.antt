use Rattle.std.proofs.lemmas.Str.{IsCharBoundary-from_drop}
use Rattle.html_render_layout_lines.proofs.line.tagged_text.TaggedText.parts.Goals as goal

pub range-requires-clause-end_boundary : goal.range-requires-clause-end_boundary
range-requires-clause-end_boundary g c =
    rw c.as_str-text.ensures (IsCharBoundary-from_drop _ _ c.self.invariant.within c.self.invariant.ending)

pub range_from-requires : goal.range_from-requires
range_from-requires g c = λ _. rw c.as_str-text.ensures (IsCharBoundary-from_drop _ _ c.self.invariant.within c.self.invariant.ending)
