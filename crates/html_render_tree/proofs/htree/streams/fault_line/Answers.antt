use Rattle.std.proofs.Common.{◌++◌, ap, ◌∙◌}
use Rattle.std.proofs.lemmas.Fmt.{contents_after_writes}
use Rattle.html_render_tree.specs.Faults.{line_of}
use Rattle.html_render_tree.proofs.htree.streams.fault_line.Goals as goal

pub returns : goal.returns
returns c =
    contents_after_writes _ (λ line. line.bytes) (λ w bs v h. h) _ _ _ c.in_ok-writeln.ensures.writes
    ∙ ap (λ front. front ++ line_of c.args.fault) c.new-line.ensures
