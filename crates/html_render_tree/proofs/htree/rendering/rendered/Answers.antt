use Rattle.std.proofs.Common.{◌≡◌, IfErr, IfOk, Ok, string_bytes, subst}
use Rattle.html_render_tree.specs.Faults.{IsFaultOf}
use Rattle.html_render_tree.proofs.Renderings.{text-bare, text-plain, text-rich}
use Rattle.html_render_tree.proofs.htree.rendering.rendered.Goals as goal

pub returns-in_ok-plain-in-Plain-clause-ok : goal.returns-in_ok-plain-in-Plain-clause-ok
returns-in_ok-plain-in-Plain-clause-ok c =
    subst (λ wanted. IfOk c.text_with.result (λ text. wanted ≡ Ok (string_bytes text)))
    (text-plain c.args.settings.now c.args.dom _ c.in-Plain.is c.in_ok-plain-in-Plain.ensures.ok) c.text_with.ensures.ok

pub returns-in_ok-plain-in-Plain-clause-err : goal.returns-in_ok-plain-in-Plain-clause-err
returns-in_ok-plain-in-Plain-clause-err c =
    subst (λ wanted. IfErr c.text_with.result (λ fault. IsFaultOf fault wanted))
    (text-plain c.args.settings.now c.args.dom _ c.in-Plain.is c.in_ok-plain-in-Plain.ensures.ok) c.text_with.ensures.err

pub returns-in-Rich-clause-ok : goal.returns-in-Rich-clause-ok
returns-in-Rich-clause-ok c =
    subst (λ wanted. IfOk c.text_with-in-Rich.result (λ text. wanted ≡ Ok (string_bytes text)))
    (text-rich c.args.settings.now c.args.dom _ c.in-Rich.is c.rich.ensures) c.text_with-in-Rich.ensures.ok

pub returns-in-Rich-clause-err : goal.returns-in-Rich-clause-err
returns-in-Rich-clause-err c =
    subst (λ wanted. IfErr c.text_with-in-Rich.result (λ fault. IsFaultOf fault wanted))
    (text-rich c.args.settings.now c.args.dom _ c.in-Rich.is c.rich.ensures) c.text_with-in-Rich.ensures.err

pub returns-in-Bare-clause-ok : goal.returns-in-Bare-clause-ok
returns-in-Bare-clause-ok c =
    subst (λ wanted. IfOk c.text_with-in-Bare.result (λ text. wanted ≡ Ok (string_bytes text)))
    (text-bare c.args.settings.now c.args.dom _ c.in-Bare.is c.plain_no_decorate.ensures) c.text_with-in-Bare.ensures.ok

pub returns-in-Bare-clause-err : goal.returns-in-Bare-clause-err
returns-in-Bare-clause-err c =
    subst (λ wanted. IfErr c.text_with-in-Bare.result (λ fault. IsFaultOf fault wanted))
    (text-bare c.args.settings.now c.args.dom _ c.in-Bare.is c.plain_no_decorate.ensures) c.text_with-in-Bare.ensures.err
