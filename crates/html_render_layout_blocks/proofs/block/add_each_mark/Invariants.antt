use Rattle.std.proofs.Common.{◌≡◌, drop}
use Rattle.html_render_layout_paragraphs.specs.Stream.{after}
use Rattle.html_render_layout_blocks.specs.Block.{mark_items}
use Rattle.html_render_layout_blocks.proofs.block.add_each_mark.Given as goal

-- The result is that of feeding the remaining marks to the present paragraph.
abbrev pub invariant-loop-mark : goal.invariant-loop-mark
invariant-loop-mark g l = after l.initial.paragraph (mark_items l.marks) ≡ after l.paragraph (mark_items (drop l.mark-index l.marks))
