use Rattle.std.proofs.Common.{◌≡◌, length}
use Rattle.std.specs.Str.{chars, IsUtf8}
use Rattle.html_render_layout_paragraphs.specs.Feeding.{IsStretch}
use Rattle.html_render_layout_paragraphs.specs.Stream.{after, styled}
use Rattle.html_render_layout_paragraphs.proofs.paragraph.Paragraph.feed.Given as goal

-- The result is that of feeding the rest of the text to the present state.
abbrev pub invariant-loop-rest : goal.invariant-loop-rest
invariant-loop-rest g l = record {
  fed : after l.initial.self (styled l.style (chars l.text)) ≡ after l.self (styled l.style (chars l.rest.text.now));
  utf8 : IsUtf8 l.rest.text.now;
  stretch : IsStretch l.style.mode l.rest.text.now l.rest.stretch.bytes l.rest.stretch.columns;
}

abbrev pub decreases-loop-rest : goal.decreases-loop-rest
decreases-loop-rest g l = length l.rest.text.now
