-- Meaning of a test on two numbers.
use Rattle.std.proofs.Common.{◌≡◌, ℕ, ◌<◌, ◌≤◌, true, false, nat_lt, arith, inl, inr, ◌⊎◌, suc}
use Rattle.std.proofs.lemmas.Bool.Decides.{leb_tells}

pub ltb-tells : (a b : ℕ) → ((nat_lt a b ≡ true) × (a < b)) ⊎ ((nat_lt a b ≡ false) × (b ≤ a))
ltb-tells a b = elim (leb_tells (suc a) b) [ inl t ↦ inl (t.0, omega arith) | inr t ↦ inr (t.0, omega arith) ]
