-- Marks that are fed to an empty paragraph wait before all that is fed later.
use Rattle.std.proofs.Common.{◌≡◌, List, [], ◌∷◌, ◌++◌, Some, sym, ap, ◌∙◌, append_assoc, append-nil, option_and_then}
use Rattle.html_render_layout_lines.specs.declared.character.Item.{Item}
use Rattle.html_render_layout_paragraphs.specs.Paragraph.{Setting, paragraph}
use Rattle.html_render_layout_paragraphs.specs.Stream.{State, start, after, finished}
use Rattle.html_render_layout_paragraphs.specs.laws.Whole.{finished-after, after-append}
use Rattle.html_render_layout_blocks.specs.Block.{mark_items}

-- Marks that are fed to an empty paragraph wait in it.
pub fed-marks : {T M : Type 0} (s : Setting) (marks ms : List M) → after (start {T = T} s marks) (mark_items ms) ≡ Some (start s (marks ++ ms))
fed-marks s marks [] = ap (λ ns. Some (start s ns)) (sym (append-nil marks))
fed-marks s marks (m ∷ ms) = fed-marks s (marks ++ m ∷ []) ms ∙ ap (λ ns. Some (start s ns)) (append_assoc marks (m ∷ []) ms)

-- A paragraph that is fed marks first is the paragraph with these among its waiting marks.
pub first-marks-wait : {T M : Type 0} (s : Setting) (marks ms : List M) (xs : List (Item T M)) →
    paragraph s marks (mark_items ms ++ xs) ≡ paragraph s (marks ++ ms) xs
first-marks-wait {T} {M} s marks ms xs =
    sym (finished-after s marks (mark_items ms ++ xs))
    ∙ ap (option_and_then finished) (after-append (start s marks) (mark_items ms) xs
    ∙ ap (option_and_then (λ (t : State T M). after t xs)) (fed-marks s marks ms))
    ∙ finished-after s (marks ++ ms) xs

pub ruleset marks_first = (first-marks-wait)
