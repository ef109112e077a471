use Rattle.std.proofs.lemmas.Str.{IsCharBoundary-from_drop}
use Rattle.html_render_layout_pictures.proofs.Blanks.{left-place, left-over}
use Rattle.html_render_layout_pictures.proofs.blank.Blank.let_go.Goals as goal

pub range_from-self-inside-requires : goal.range_from-self-inside-requires
range_from-self-inside-requires c = λ _. IsCharBoundary-from_drop c.self.inside.text.now c.self.inside.due c.self.invariant.within c.self.invariant.behind

pub invariant_of-self : goal.invariant_of-self
invariant_of-self c =
    left-place c.self.inside.text.now c.self.inside.due c.self.inside.columns c.args.self.now c.self.invariant c.self.view_is
    c.range_from-self-inside.result.now c.range_from-self-inside.ensures.value

pub returns : goal.returns
returns c =
    left-over c.self.inside.text.now c.self.inside.due c.self.inside.columns c.args.self.now c.self.invariant c.self.view_is
    c.range_from-self-inside.result.now c.range_from-self-inside.ensures.value
