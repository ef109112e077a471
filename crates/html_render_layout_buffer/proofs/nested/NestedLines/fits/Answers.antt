use Rattle.std.proofs.Common.{arith}
use Rattle.html_render_layout_buffer.proofs.OpenBlocks.{opened, fits-is}
use Rattle.html_render_layout_buffer.proofs.nested.NestedLines.fits.Goals as goal

pub returns : goal.returns
returns g c = λ os o outer. fits-is _ _ c.args.width _ os o (opened _ _ c.self.invariant c.self.view_is) (omega arith) outer c.fits.ensures
