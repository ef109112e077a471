use Rattle.std.proofs.Common.{◌≡◌, ◌-◌, fold, replicate}
use Rattle.html_render_layout_paragraphs.specs.Paragraph.{put_fitting}
use Rattle.html_render_layout_paragraphs.proofs.paragraph.Paragraph.put_fitting_copies.Given as goal

-- The result is that of placing the remaining copies on the present line buffer.
abbrev pub invariant-loop-k : goal.invariant-loop-k
invariant-loop-k g l =
    record l.initial.self { page = fold (put_fitting l.initial.self.setting) l.initial.self.page (replicate l.count l.character) }
    ≡ record l.self { page = fold (put_fitting l.self.setting) l.self.page (replicate (l.count - l._k) l.character) }
