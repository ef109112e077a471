use Rattle.std.proofs.Common.{arith, sym}
use Rattle.html_render_parts.proofs.EdgeRanks.{rank-between, rank-first}
use Rattle.html_render_parts.proofs.table.numbering.rank_near.Goals as goal

pub returns-then-guess-eq0 : goal.returns-then-guess-eq0
returns-then-guess-eq0 c = sym (rank-first c.args.edges.now c.args.position c.args.guess c.requires (omega arith) (omega arith) (omega arith))

pub returns-then-edges-guess : goal.returns-then-edges-guess
returns-then-edges-guess c = sym (rank-between c.args.edges.now c.args.position c.args.guess c.requires (omega arith) (omega arith) (omega arith) (omega arith))
