use Rattle.std.proofs.Common.{map, string_bytes}
use Rattle.std.proofs.lemmas.Result.{err_from_is_err_and}
use Rattle.html_render_tree.proofs.Runs.{ends_with-from_read}
use Rattle.html_render_tree.proofs.htree.write_text.Goals as goal

pub returns-in_err-text-clause-err : goal.returns-in_err-text-clause-err
returns-in_err-text-clause-err g c asked =
    let p = err_from_is_err_and c.from_residual.result c.from_residual.ensures.1 in
    let words = map string_bytes c.args.words.now in
    rw (p.1, p.2) (ends_with-from_read words _ _ (g.O.Write.contents c.args.output.now) _ (c.in_err-text.ensures.err asked))
