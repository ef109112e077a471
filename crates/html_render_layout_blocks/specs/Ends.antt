-- Operations at the end of a document, one by one, as the code calls them.
use Rattle.std.specs.Prelude.{ℕ, Bool, List, Option}
use Rattle.html_render_dom_values.specs.Outcome.{◌>>=◌}
use Rattle.html_render_layout_blocks.specs.Block as block
use Rattle.html_render_layout_blocks.specs.Block.{Block}
use Rattle.html_render_layout_blocks.specs.Parts.{Parts}

-- Operations at the end of a document. `None` means "too narrow".
pub record DocumentEnd (B T : Type 0) : Type 0 where
  pub finish : B → Option B
  pub add_closing_lines : B → (cut : Bool) → T → List (List ℕ) → Option B

-- Operations at the end of a document, over these paragraphs and pictures.
abbrev pub ending : {P R T M : Type 0} → Parts P R T M → DocumentEnd (Block P R T M) T
ending parts = record { finish = block.finish parts; add_closing_lines = block.add_closing_lines parts }

-- Block after both operations.
abbrev pub ended_by : {B T : Type 0} → DocumentEnd B T → B → (cut : Bool) → T → List (List ℕ) → Option B
ended_by end b cut tag texts = end.finish b >>= λ e. end.add_closing_lines e cut tag texts
