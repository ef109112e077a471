use Rattle.std.proofs.Common.{arith}
use Rattle.html_render_layout_pictures.proofs.Blanks.{spaces-place, spaces-passed}
use Rattle.html_render_layout_pictures.proofs.blank.Blank.pass_spaces.Goals as goal

pub overflow_add-self : goal.overflow_add-self
overflow_add-self c =
    let e = spaces-place c.self.inside.text.now c.self.inside.due c.self.inside.columns c.args.self.now c.self.invariant c.self.view_is c.args.count c.requires in
    omega (arith, e.within, c.self.told.0)

pub overflow_add-self-2 : goal.overflow_add-self-2
overflow_add-self-2 c =
    let e = spaces-place c.self.inside.text.now c.self.inside.due c.self.inside.columns c.args.self.now c.self.invariant c.self.view_is c.args.count c.requires in
    omega (arith, e.few, e.within, c.self.told.0)

pub invariant_of-self : goal.invariant_of-self
invariant_of-self c =
    spaces-place c.self.inside.text.now c.self.inside.due c.self.inside.columns c.args.self.now c.self.invariant c.self.view_is c.args.count c.requires

pub returns : goal.returns
returns c =
    spaces-passed c.self.inside.text.now c.self.inside.due c.self.inside.columns c.args.self.now c.self.invariant c.self.view_is c.args.count c.requires
