-- White space alone is a new line.
use Rattle.std.specs.Str.{chars}
use Rattle.std.proofs.lemmas.Result.{err_from_is_err_and}
use Rattle.html_render_layout_nodes.specs.Preorder.{forest_of}
use Rattle.html_render_layout.specs.Layout.{spaces}
use Rattle.html_render_layout.proofs.BlankItems.{blank_passed, blank_refused}
use Rattle.html_render_layout.proofs.walk.steps.open_listed.Goals as goal

pub returns-then-is_blank-clause-ok : goal.returns-then-is_blank-clause-ok
returns-then-is_blank-clause-ok g c =
    let indented = c.in-Some.ensures c.args.state.now.decorator c.args.number in
    blank_passed g.D.TextDecorator.decoration g.G.Tagging.annotated c.args.node.now (forest_of c.args.children.now) indented.prefix
    c.in-Some.indent.columns c.in-Some.indent.min_width c.args.state.now c.if-is_blank.ensures _ indented.block
    c.skip_sub_block.new.self (c.in_ok-skip_sub_block.ensures c.args.state.now.text.tag (chars indented.prefix) (spaces c.in-Some.indent.columns)).ok

pub returns-in_err-skip_sub_block-clause-err : goal.returns-in_err-skip_sub_block-clause-err
returns-in_err-skip_sub_block-clause-err g c =
    let p = err_from_is_err_and c.from_residual.result c.from_residual.ensures.1 in
    let indented = c.in-Some.ensures c.args.state.now.decorator c.args.number in
    rw (p.1, p.2)
    (blank_refused g.D.TextDecorator.decoration g.G.Tagging.annotated c.args.node.now (forest_of c.args.children.now) indented.prefix
    c.in-Some.indent.columns c.in-Some.indent.min_width c.args.state.now c.if-is_blank.ensures _ indented.block
    c.in_err-skip_sub_block.field-0.0
    (c.in_err-skip_sub_block.ensures c.args.state.now.text.tag (chars indented.prefix) (spaces c.in-Some.indent.columns)).err)
