-- An optional handle has one number.
use Rattle.std.specs.Prelude.{◌≡◌, ℕ, zero, suc}
use Rattle.std.proofs.Common.{refl}
use Rattle.html_render_dom_nodes.specs.Handles.{handle_in, number_for}

pub number_kept : (n : ℕ) → number_for (handle_in n) ≡ n
number_kept zero = refl
number_kept (suc n) = refl
