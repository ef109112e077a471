use Rattle.std.proofs.Common.{◌≡◌, ◌≤◌, drop, length}
use Rattle.html_render_layout_paragraphs.specs.Feeding.{put_runs}
use Rattle.html_render_layout_paragraphs.specs.Stream.{on_page}
use Rattle.html_render_layout_lines.specs.TaggedText.{Cuts}
use Rattle.html_render_layout_paragraphs.proofs.paragraph.Paragraph.put_runs.Given as goal

-- The result is that of placing the remaining runs on the present line buffer.
abbrev pub invariant-loop-run : goal.invariant-loop-run
invariant-loop-run g l = record {
  within : l.at ≤ length l.text;
  cuts : Cuts (drop l.run-index l.runs) (drop l.at l.text);
  same : on_page l.initial.self (put_runs l.initial.self.setting l.initial.self.page l.runs l.text)
      ≡ on_page l.self (put_runs l.self.setting l.self.page (drop l.run-index l.runs) (drop l.at l.text));
}
