-- The line buffer before a character that is placed by itself, by cases.
use Rattle.std.proofs.Common.{◌≡◌, true, Option}
use Rattle.html_render_layout_lines.specs.declared.character.Kind.{Kind}
use Rattle.html_render_layout_lines.specs.declared.character.Kind.TheVariants.{Newline}
use Rattle.html_render_layout_lines.specs.declared.character.Character.{Character}
use Rattle.html_render_layout_lines.specs.laws.Cases.{if_cases}
use Rattle.html_render_layout_paragraphs.specs.Paragraph.{LineBuffer, Setting, fits, with_due_space, page_for_single}

pub page_for_single_cases : {T M : Type 0} (P : LineBuffer T M → Type 0) (s : Setting) (page : LineBuffer T M) (pending : Option (Character T))
    (k : Kind) → P page → (fits s (with_due_space page pending) 0 ≡ true → P (with_due_space page pending)) →
    P (page_for_single s page pending k)
page_for_single_cases P s page pending Newline h g = h
page_for_single_cases P s page pending k h g = if_cases P (fits s (with_due_space page pending) 0) _ _ g (λ _. h)
