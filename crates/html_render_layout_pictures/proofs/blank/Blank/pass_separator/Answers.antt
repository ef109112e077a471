use Rattle.std.proofs.Common.{arith}
use Rattle.html_render_layout_pictures.proofs.Blanks.{separator-place, separator-passed}
use Rattle.html_render_layout_pictures.proofs.blank.Blank.pass_separator.Goals as goal

pub overflow_add-self : goal.overflow_add-self
overflow_add-self c =
    let e = separator-place c.self.inside.text.now c.self.inside.due c.self.inside.columns c.args.self.now c.self.invariant c.self.view_is
    c.args.borders c.separator_bytes.result c.separator_bytes.ensures c.requires in
    omega (arith, e.within, c.self.told.0)

pub overflow_add-self-2 : goal.overflow_add-self-2
overflow_add-self-2 c =
    let e = separator-place c.self.inside.text.now c.self.inside.due c.self.inside.columns c.args.self.now c.self.invariant c.self.view_is
    c.args.borders c.separator_bytes.result c.separator_bytes.ensures c.requires in
    omega (arith, e.few, e.within, c.self.told.0)

pub invariant_of-self : goal.invariant_of-self
invariant_of-self c =
    separator-place c.self.inside.text.now c.self.inside.due c.self.inside.columns c.args.self.now c.self.invariant c.self.view_is
    c.args.borders c.separator_bytes.result c.separator_bytes.ensures c.requires

pub returns : goal.returns
returns c =
    separator-passed c.self.inside.text.now c.self.inside.due c.self.inside.columns c.args.self.now c.self.invariant c.self.view_is
    c.args.borders c.separator_bytes.result c.separator_bytes.ensures c.requires
