-- Flushing of an empty paragraph.
use Rattle.std.proofs.Common.{◌≡◌, List, Some, option_map, sym, ap, subst}
use Rattle.std.proofs.lemmas.List.{append-nil}
use Rattle.html_render_layout_lines.specs.Line.{Line}
use Rattle.html_render_layout_paragraphs.specs.Stream.{State, start, finished, flushed_to}

-- An empty paragraph has no line.
pub blank : {T M : Type 0} (st : State T M) (lines : List (Line T M)) → st ≡ start st.setting st.page.waiting →
    option_map (flushed_to st.setting lines) (finished st) ≡ Some (lines, st)
blank {T} {M} st lines is =
    let Holds : State T M → Type 0 = λ q. option_map (flushed_to q.setting lines) (finished q) ≡ Some (lines, q) in
    subst Holds (sym is) (ap (λ ls. Some (ls, start st.setting st.page.waiting)) (append-nil lines))

pub ruleset flushing = (blank)
