use Rattle.html_render_tree.proofs.Numbers.{width-read, width-refused}
use Rattle.html_render_tree.proofs.htree.words.read_width.Goals as goal

pub returns-in-Ok : goal.returns-in-Ok
returns-in-Ok c = width-read c.args.word.now c.in-Ok.width c.in-Ok.ensures.value.0

pub returns-in-Err : goal.returns-in-Err
returns-in-Err c = width-refused c.args.word.now c.in-Err.ensures.value.0
