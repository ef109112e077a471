use Rattle.std.proofs.Common.{◌≡◌, ◌<◌, ◌++◌, ◌∷◌, [], ℕ, List, length, arith, Some, sym, ap, ◌∙◌, string_bytes}
use Rattle.html_render_dom.specs.script.Commands.{unescaped}
use Rattle.html_render_dom.specs.script.Plain.{text_followed_by}
use Rattle.html_render_dom.specs.laws.script.Lines.{Lacks-none, cut_parts}
use Rattle.html_render_dom.specs.laws.script.Escapes.{text_followed_by-nil, unescaped-plain, unescaped-step, unescaped-stop}
use Rattle.html_render_dom.proofs.script.escapes.resolve.Goals as goal

pub loop-before-preserved : goal.loop-before-preserved
loop-before-preserved c =
    let was : List ℕ = string_bytes c.loop-before.plain in
    let rest : List ℕ = c.loop-before.rest.now in
    let before : List ℕ = c.in-Some.before.now in
    let after : List ℕ = c.in-Some.after.now in
    let more : List ℕ = c.in-Some-escape_of.more.now in
    let byte : ℕ = c.in-Some-escape_of.character in
    let parts = cut_parts 92 rest before after c.in-Some.ensures in
    let known = c.in-Some-escape_of.ensures in
    let put : string_bytes c.push.new.self ≡ (was ++ before) ++ byte ∷ [] =
    c.in_ok-push.ensures.bytes
    ∙ ap (λ (bs : List ℕ). string_bytes c.push_str.new.self ++ bs) (c.in_ok-push.ensures.ascii known.0)
    ∙ ap (λ (bs : List ℕ). bs ++ byte ∷ []) c.in_ok-push_str.ensures.bytes in (
      known.2,
      c.loop-before.invariant.1
          ∙ unescaped-step was rest before after more byte parts.0 parts.1 known.3
          ∙ ap (λ (bs : List ℕ). text_followed_by bs (unescaped more)) (sym put),
    )

pub loop-before-smaller : goal.loop-before-smaller
loop-before-smaller c =
    let parts = cut_parts 92 c.loop-before.rest.now c.in-Some.before.now c.in-Some.after.now c.in-Some.ensures in
    let shorter : length c.in-Some-escape_of.more.now < length c.in-Some.after.now = c.in-Some-escape_of.ensures.1 in
    let smaller : length c.in-Some-escape_of.more.now < length c.loop-before.rest.now = omega (arith, parts.2, shorter) in
    smaller

pub loop-before-init : goal.loop-before-init
loop-before-init c = (c.utf8.text, sym (ap (λ (bs : List ℕ). text_followed_by bs (unescaped c.args.text.now)) c.clear.ensures.bytes ∙ text_followed_by-nil (unescaped c.args.text.now)))

pub returns-in_default-escape_of : goal.returns-in_default-escape_of
returns-in_default-escape_of c =
    let parts = cut_parts 92 c.loop-before.rest.now c.in-Some.before.now c.in-Some.after.now c.in-Some.ensures in
    record {
      ok = tt;
      err = c.loop-before.invariant.1
          ∙ unescaped-stop (string_bytes c.loop-before.plain) c.loop-before.rest.now c.in-Some.before.now c.in-Some.after.now parts.0 parts.1 c.in_default-escape_of.ensures;
    }

pub returns : goal.returns
returns c =
    let plain = Lacks-none 92 c.loop-before.rest.now c.in_default.ensures in
    record {
      ok = c.loop-before.invariant.1
          ∙ ap (text_followed_by (string_bytes c.loop-before.plain)) (unescaped-plain c.loop-before.rest.now plain)
          ∙ ap Some (sym c.in_ok-push_str-2.ensures.bytes);
      err = tt;
    }
