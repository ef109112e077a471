-- Copies that are taken one by one.
use Rattle.std.proofs.Common.{◌≡◌, ℕ, ◌+◌, ◌-◌, ◌<◌, ◌∷◌, replicate, ap, arith, suc}

pub copies_left : {A : Type 0} (n i : ℕ) (x : A) → i < n → replicate (n - i) x ≡ x ∷ replicate (n - (i + 1)) x
copies_left n i x h = let e : n - i ≡ suc (n - (i + 1)) = omega arith in ap (λ k. replicate k x) e
