use Rattle.std.proofs.Common.{sym, ◌∙◌}
use Rattle.std.specs.Str.{chars}
use Rattle.html_render_layout_tagged.proofs.Taking.{joined}
use Rattle.html_render_layout_tagged.proofs.grouping.Progress.push_str.Goals as goal

pub returns-then-are_equal : goal.returns-then-are_equal
returns-then-are_equal g c =
    joined g.A.PartialEq.eq c.args.stacks.now g.met.A.Eq.laws c.args.self.now c.in-Some.last c.append.new.text (chars c.args.text.now) c.args.tag
    c.in-Some.is c.in_ok-append.ensures (sym c.are_equal.ensures ∙ c.if-are_equal.true)
