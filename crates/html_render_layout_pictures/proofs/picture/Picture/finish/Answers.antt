use Rattle.std.proofs.Common.{◌≡◌, List, [], ◌++◌, Option, append_assoc, sym, ap, ◌∙◌}
use Rattle.html_render_layout_lines.specs.Line.{Line}
use Rattle.html_render_layout_buffer.specs.Lines.{BufferedLines}
use Rattle.html_render_layout_pictures.specs.Drawing.{Drawing, DueBorder, appended, due_lines, finished}
use Rattle.html_render_layout_pictures.specs.laws.Rows.{drawn_is}
use Rattle.html_render_layout_pictures.proofs.picture.Picture.finish.Goals as goal

pub returns-clause-ok : goal.returns-clause-ok
returns-clause-ok g c =
    let Lines : Type 0 = List (Line g.row.T.Denot g.row.M.Denot) in
    let Buffer : Type 0 = BufferedLines g.row.T.Denot g.row.M.Denot in
    let frame = c.self.inside.frame in
    let first = c.self.inside.before in
    let last = c.self.inside.last.lines in
    let to = c.args.to.now in
    let behind : Lines → Option (DueBorder g.row.M.Denot) → Buffer = λ ls due. record { lines = ls ++ due_lines frame due []; line = [] } in
    let border : Lines = due_lines frame c.self.inside.due [] in
    let put : c.put_due.new.to ≡ behind last c.self.inside.due =
    c.in_ok-self-inside.ensures
    ∙ ap (λ (b : Buffer). behind b.lines c.replace-due.result) c.replace-last.ensures.value
    ∙ ap (behind last) c.replace-due.ensures.value in
    let lines : c.append_buffer.new.self ≡ to ++ ((first ++ last) ++ border) =
    c.in_ok-append_buffer.ensures.ok
    ∙ ap (λ (b : Buffer). c.append.new.self ++ b.lines) put
    ∙ ap (λ (ls : Lines). ls ++ (last ++ border)) c.in_ok-append.ensures
    ∙ append_assoc to first (last ++ border)
    ∙ ap (λ (ls : Lines). to ++ ls) (sym (append_assoc first last border)) in
    ap (λ (ls : Lines). (ls, c.replace.result.items)) lines
    ∙ ap (λ ms. (to ++ ((first ++ last) ++ border), ms.items)) c.replace.ensures.value
    ∙ ap (λ (d : Drawing g.row.T.Denot g.row.M.Denot). appended to (finished d)) c.self.view_is

pub returns-clause-picture : goal.returns-clause-picture
returns-clause-picture g c waiting rows h =
    returns-clause-ok g c ∙ ap (λ d. appended c.args.to.now (finished d)) h ∙ ap (appended c.args.to.now) (drawn_is c.args.self.now.frame waiting rows)
