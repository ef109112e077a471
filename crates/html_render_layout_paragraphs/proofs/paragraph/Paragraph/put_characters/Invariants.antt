use Rattle.std.proofs.Common.{◌≡◌, length}
use Rattle.std.specs.Str.{chars, IsUtf8}
use Rattle.html_render_layout_paragraphs.specs.Paragraph.{put_items}
use Rattle.html_render_layout_paragraphs.specs.Stream.{on_page, styled}
use Rattle.html_render_layout_paragraphs.proofs.paragraph.Paragraph.put_characters.Given as goal

-- The result is that of placing the rest of the text on the present line buffer.
abbrev pub invariant-loop-rest : goal.invariant-loop-rest
invariant-loop-rest g l = record {
  utf8 : IsUtf8 l.rest;
  same : on_page l.initial.self (put_items l.initial.self.setting l.initial.self.page (styled l.style (chars l.text)))
      ≡ on_page l.self (put_items l.self.setting l.self.page (styled l.style (chars l.rest)));
}

abbrev pub decreases-loop-rest : goal.decreases-loop-rest
decreases-loop-rest g l = length l.rest
