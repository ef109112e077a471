use Rattle.std.proofs.Common.{ap, sym, ◌∙◌, string_bytes}
use Rattle.std.specs.Prelude.{find, option_copied}
use Rattle.std.specs.Str.{bytes_eq}
use Rattle.html_render_dom.proofs.RuleIndex.{plain-found}
use Rattle.html_render_dom.specs.declared.style.index.PlainStyle.{PlainStyle}
use Rattle.html_render_dom.proofs.style.index.RuleIndex.plain_style.Goals as goal

pub returns-in-Some : goal.returns-in-Some
returns-in-Some c = λ rules finds.
    plain-found rules c.args.element.now c.args.self.now.plain.items c.in-Some.plain.now finds.1
    (ap (find (λ (q : PlainStyle). bytes_eq (string_bytes q.name) c.args.element.now)) (sym c.as_slice.ensures.value)
    ∙ sym c.find_plain.ensures ∙ ap option_copied c.in-Some.is)
