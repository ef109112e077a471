-- Closing lines of a document: each text begins a line.
use Rattle.std.specs.Prelude.{ℕ, Bool, List, [], ◌∷◌, ◌++◌, Option, Some, map, ◌==◌, if◌then◌else◌}
use Rattle.html_render_dom_values.specs.Outcome.{◌>>=◌}
use Rattle.html_render_layout_paragraphs.specs.CutText.{text_lines}
use Rattle.html_render_layout_lines.specs.Line.{Line}
use Rattle.html_render_layout_blocks.specs.declared.block.BlockSetting.{BlockSetting}

-- Lines of texts, with a space for each newline, cut at the width of the block or left whole. None, cut and with overflow off, if a character is wider
-- than the block.
abbrev pub closing_lines : {T M : Type 0} → BlockSetting → (cut : Bool) → T → List (List ℕ) → Option (List (Line T M))
closing_lines setting cut tag [] = Some []
closing_lines setting cut tag (t ∷ ts) = do
  first ← text_lines (record { width = setting.width; overflow = setting.overflow }) cut tag (map (λ c. if c == 10 then 32 else c) t)
  later ← closing_lines setting cut tag ts
  Some (first ++ later)
