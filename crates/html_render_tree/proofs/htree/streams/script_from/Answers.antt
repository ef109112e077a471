use Rattle.std.proofs.Common.{◌≡◌, Ok, string_bytes, subst, ap}
use Rattle.std.proofs.lemmas.Bool.{false≢true}
use Rattle.std.proofs.lemmas.Str.{IsUtf8-string_bytes}
use Rattle.html_render_tree.specs.Program.{script_of}
use Rattle.html_render_tree.proofs.Scripts.{script-there, script-refused}
use Rattle.html_render_tree.proofs.htree.streams.script_from.Goals as goal

pub returns-in-Ok-clause-ok : goal.returns-in-Ok-clause-ok
returns-in-Ok-clause-ok c =
    subst (λ bytes. script_of bytes ≡ Ok (string_bytes c.in-Ok.script)) (ap (λ v. v.items) c.in-Ok.ensures.ok)
    (script-there (string_bytes c.in-Ok.script) (IsUtf8-string_bytes c.in-Ok.script))

pub returns-clause-err : goal.returns-clause-err
returns-clause-err c = script-refused c.args.bytes.items (λ text. false≢true (c.in-Err.ensures.succeeds text))
