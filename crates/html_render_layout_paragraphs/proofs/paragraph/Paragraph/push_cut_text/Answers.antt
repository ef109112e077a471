use Rattle.std.proofs.Common.{◌≡◌, ◌++◌, ◌∷◌, [], List, Some, OnOk, IfErr, option_map, subst}
use Rattle.std.specs.Str.{chars}
use Rattle.html_render_dom_values.specs.Outcome.{Refuses}
use Rattle.html_render_layout_lines.specs.Line.{Line}
use Rattle.html_render_layout_paragraphs.specs.CutText.{kept_style}
use Rattle.html_render_layout_paragraphs.specs.Paragraph.{LineBuffer, put_items}
use Rattle.html_render_layout_paragraphs.specs.Stream.{State, styled}
use Rattle.html_render_layout_paragraphs.proofs.paragraph.Paragraph.push_cut_text.Goals as goal

pub returns-clause-ok : goal.returns-clause-ok
returns-clause-ok g c =
    subst (λ (q : State g.row.T.Denot g.row.M.Denot).
    OnOk c.cut_text.result (option_map (λ (cut : List (Line g.row.T.Denot g.row.M.Denot)). c.args.lines.now ++ cut)
    (option_map (λ (p : LineBuffer g.row.T.Denot g.row.M.Denot). p.lines ++ p.line ∷ [])
    (put_items q.setting q.page (styled (kept_style c.args.tag) (chars c.args.text.now)))) ≡ Some c.cut_text.new.lines))
    c.renew.ensures c.cut_text.ensures.ok

pub returns-clause-err : goal.returns-clause-err
returns-clause-err g c =
    subst (λ (q : State g.row.T.Denot g.row.M.Denot).
    IfErr c.cut_text.result (λ e. Refuses e (option_map (λ (p : LineBuffer g.row.T.Denot g.row.M.Denot). p.lines ++ p.line ∷ [])
    (put_items q.setting q.page (styled (kept_style c.args.tag) (chars c.args.text.now))))))
    c.renew.ensures c.cut_text.ensures.err
