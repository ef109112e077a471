-- Optional handles, stored as a number: 0 for none, otherwise one more than the node's number.
use Rattle.std.specs.Prelude.{ℕ, zero, suc, Option, Some, None}

abbrev pub handle_in : ℕ → Option ℕ
handle_in zero = None
handle_in (suc number) = Some number

abbrev pub number_for : Option ℕ → ℕ
number_for None = zero
number_for (Some number) = suc number
