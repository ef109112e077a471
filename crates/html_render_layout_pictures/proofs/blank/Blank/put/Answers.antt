use Rattle.std.proofs.lemmas.Str.{IsCharBoundary-from_drop}
use Rattle.html_render_layout_pictures.proofs.blank.Blank.put.Goals as goal

pub range-requires-clause-end_boundary : goal.range-requires-clause-end_boundary
range-requires-clause-end_boundary g c = IsCharBoundary-from_drop c.self.inside.text.now c.self.inside.due c.self.invariant.within c.self.invariant.behind
