-- Columns of a line that grows.
use Rattle.std.proofs.Common.{◌≡◌, ◌+◌, false, Some, [], ◌∷◌, ◌++◌, ap, ◌∙◌}
use Rattle.html_render_layout_lines.specs.declared.line.Element.TheVariants as element
use Rattle.html_render_layout_lines.specs.declared.character.Character.{Character}
use Rattle.html_render_layout_lines.specs.Character.{tag_on}
use Rattle.html_render_layout_lines.specs.Line.{Line, columns, is_empty}
use Rattle.html_render_layout_paragraphs.specs.Paragraph.{LineBuffer, with_due_space}
use Rattle.html_render_layout_lines.specs.laws.Cases.{if_false}
use Rattle.html_render_layout_lines.specs.laws.Columns.{columns-push, width-space}

pub columns-push_space : {T M : Type 0} (line : Line T M) (t : T) → columns (line ++ element.Character 32 t ∷ []) ≡ columns line + 1
columns-push_space line t = columns-push line [] 32 t ∙ ap (λ n. columns line + n) width-space

-- The pending space takes one column.
pub columns-due : {T M : Type 0} (page : LineBuffer T M) (c : Character T) → is_empty page.line ≡ false →
    columns (with_due_space page (Some c)).line ≡ columns page.line + 1
columns-due {T} {M} page c e =
    ap (λ (p : LineBuffer T M). columns p.line) (if_false (is_empty page.line) page _ e) ∙ columns-push_space page.line (tag_on page.continues c)

pub ruleset widths = (width-space, columns-due)
