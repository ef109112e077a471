-- What a current block ends as, once a reference to its block does.
use Rattle.std.specs.Borrow.{Lends, Fml, RattleType, MutBor}
use Rattle.html_render_layout_blocks.specs.Machine.{MachineBlock}
use Rattle.html_render_layout_blocks.specs.contracts.block.Block.{the_row as block_row}
use Rattle.html_render_layout_blocks.specs.contracts.held.CurrentBlock.{the_row}

-- once the reference r ends, the current block is the last one behind r
abbrev pub lends_block : (T M : RattleType) → (lender r : MutBor (MachineBlock T.Denot M.Denot)) → Fml
lends_block T M lender r = Lends (the_row T M) (block_row T M) lender r (λ block. block)
