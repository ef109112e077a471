use Rattle.std.proofs.Common.{◌≡◌, ◌+◌, ◌-◌, ◌<◌, ◌≤◌, [], length, drop, get_or}
use Rattle.std.specs.Str.{chars}
use Rattle.html_render_layout_paragraphs.specs.Feeding.{IsStretch, IsFront, with_words}
use Rattle.html_render_layout_paragraphs.specs.Stream.{after, styled}
use Rattle.html_render_layout_paragraphs.proofs.paragraph.Paragraph.fitting_words.Given as goal

-- The result is that of feeding the text after these words to the state with them.
abbrev pub invariant-loop-bytes : goal.invariant-loop-bytes
invariant-loop-bytes g l = record {
  front : IsFront l.text l.bytes l.columns;
  within : l.bytes < length l.text;
  byte : get_or l.text l.bytes 0 < 128;
  room : l.columns ≤ l.room;
  no_mark : 0 < l.bytes → l.self.page.waiting ≡ [];
  next : IsStretch l.style.mode (drop (l.bytes + 1) l.text) l.next.bytes l.next.columns;
  fed : after (with_words l.self l.style l.text 0) (styled l.style (chars (drop 1 l.text)))
      ≡ after (with_words l.self l.style l.text l.bytes) (styled l.style (chars (drop (l.bytes + 1) l.text)));
}

abbrev pub decreases-loop-bytes : goal.decreases-loop-bytes
decreases-loop-bytes g l = length l.text - l.bytes
