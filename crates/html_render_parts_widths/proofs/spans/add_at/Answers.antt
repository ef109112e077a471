use Rattle.std.proofs.Common.{arith, length}
use Rattle.html_render_parts_widths.proofs.Spreading.{added, passed}
use Rattle.html_render_parts_widths.proofs.spans.add_at.Goals as goal
use Rattle.html_render_parts_widths.proofs.spans.add_at.Goals.{then-span-columns-via-then-span-columns}
use Rattle.html_render_parts_widths.proofs.spans.add_at.Goals.{then-span-columns-via-else-span-columns+then-span-longer}

pub returns-then-span-columns : goal.returns-then-span-columns
returns-then-span-columns c =
    passed (length c.args.values.now.items) c.args.columns c.args.longer c.args.at c.args.spans.now c.args.values.now.items c.requires.inside
    (λ least. elim c.then-span-columns.branch [
      | then-span-columns-via-then-span-columns w ↦ absurd (let less = w.if-span-columns in omega (arith, least, less))
      | then-span-columns-via-else-span-columns+then-span-longer w ↦ let more = w.if-span-longer in omega (arith, more)
    ]) c.requires.spread

pub returns : goal.returns
returns c =
    added (length c.args.values.now.items) c.args.columns c.args.longer c.args.at c.args.spans.now c.args.values.now.items
    c.add.new.values.items c.requires.over c.requires.inside (let f = c.if-span-columns.false in omega (arith, f))
    (let f = c.if-span-longer.false in omega (arith, f)) c.requires.twice c.add.ensures.len c.add.ensures.each c.requires.spread
