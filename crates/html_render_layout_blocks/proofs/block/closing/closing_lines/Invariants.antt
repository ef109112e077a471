use Rattle.std.proofs.Common.{◌≡◌, ◌++◌, map, drop, option_map}
use Rattle.std.specs.Prelude.{string_bytes}
use Rattle.std.specs.Str.{chars}
use Rattle.html_render_layout_blocks.specs.Closing.{closing_lines}
use Rattle.html_render_layout_blocks.proofs.block.closing.closing_lines.Given as goal

-- The result is the present lines, followed by those of the remaining texts.
abbrev pub invariant-loop-text : goal.invariant-loop-text
invariant-loop-text g l =
    closing_lines l.setting l.cut l.tag (map (λ t. chars (string_bytes t)) l.texts)
    ≡ option_map (λ ls. l.lines ++ ls)
    (closing_lines l.setting l.cut l.tag (map (λ t. chars (string_bytes t)) (drop l.text-index l.texts)))
