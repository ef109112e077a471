use Rattle.std.proofs.Common.{[], ◌∷◌, ◌++◌, sym, ap, ◌∙◌, append_assoc, string_bytes, arith, of_calls}
use Rattle.std.proofs.lemmas.Str.{encodes-chars}
use Rattle.html_render_layout_tagged.proofs.Writing.{IsColouredLine-string, IsColouredLine-end}
use Rattle.html_render_layout_tagged.proofs.colours.push_line.Goals as goal

pub loop-element-preserved-in_ok-push_str : goal.loop-element-preserved-in_ok-push_str
loop-element-preserved-in_ok-push_str g c = (
  search of_calls,
  λ rest last h.
      let answer = string_bytes c.in_ok-answer.answer in
      let all = c.loop-element.invariant.1 (answer ++ rest) last
      (IsColouredLine-string (goal.F-step g) c.loop-element.colour_map c.colour_map.new.self last c.loop-element.left.now c.in-Some.others.now
      c.in-Some.element.now c.in-Str.string c.in_ok-answer.answer rest c.in-Some.ensures.cases.0 c.in-Str.is (
        c.as_slice.result,
        c.as_str.result,
        c.as_slice.ensures.value,
        c.as_str.ensures.value ∙ sym (encodes-chars (string_bytes c.in-Str.string.s) (rw (sym c.as_str.ensures.value) c.as_str.utf8)),
        c.in_ok-answer.ensures,
      ) h) in
      let written = c.in_ok-push_str.ensures.bytes ∙ ap (λ bs. string_bytes c.loop-element.text ++ bs) c.as_str-in-Str.ensures.value in
      (all.0, all.1, ap (λ bs. bs ++ rest) written ∙ append_assoc (string_bytes c.loop-element.text) answer rest ∙ all.2),
)

pub returns-clause-ok : goal.returns-clause-ok
returns-clause-ok g c =
    let all = c.loop-element.invariant.1 (10 ∷ []) c.loop-element.colour_map
    (IsColouredLine-end (goal.F-step g) c.loop-element.colour_map c.loop-element.left.now c.in_default.ensures.cases) in
    let newline = ap (λ bs. string_bytes c.loop-element.text ++ bs) (c.in_ok-push.ensures.ascii (omega arith)) in
    (all.0, all.1, c.in_ok-push.ensures.bytes ∙ newline ∙ all.2)
