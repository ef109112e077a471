-- The longest end of an address without a slash.
use Rattle.std.proofs.Common.{◌≡◌, ℕ, ◌-◌, ◌<◌, ◌≤◌, ◌+◌, ◌==◌, List, Bool, true, false, not, length, drop, get_or, sym, ap, ◌∙◌, arith, inl, inr}
use Rattle.std.specs.List.{list_any, after_last}
use Rattle.std.proofs.lemmas.Bool.{cases_Bool, true≢false}
use Rattle.std.proofs.lemmas.List.{get_or-drop, length-drop}
use Rattle.std.proofs.lemmas.List.Folds.{list_any_at}
use Rattle.std.proofs.lemmas.List.Sums.{suffix_len_is}

-- whether there is a slash among these bytes
abbrev pub has_slash : List ℕ → Bool
has_slash bs = list_any (λ b. b == 47) bs

-- where no slash is from `start` on, no byte there is one
no-slash : (bs : List ℕ) (start : ℕ) → has_slash (drop start bs) ≡ false → (k : ℕ) → start ≤ k → k < length bs → not (get_or bs k 0 == 47) ≡ true
no-slash bs start h k low high = elim (cases_Bool (get_or bs k 0 == 47)) [
  | inl e ↦
      let same : start + (k - start) ≡ k = omega (arith, low) in
      let here : (get_or (drop start bs) (k - start) 0 == 47) ≡ true =
      ap (λ b. b == 47) (get_or-drop start bs (k - start) 0 ∙ ap (λ i. get_or bs i 0) same) ∙ e in
      absurd (true≢false (sym (list_any_at (λ b. b == 47) (drop start bs) (k - start) 0 (omega (arith, low, high, length-drop start bs)) here) ∙ h))
  | inr e ↦ ap not e
]

-- an end without a slash, after a slash or nothing, is the file name
pub ends_address : (bs : List ℕ) (start : ℕ) → start ≤ length bs → (0 < start → get_or bs (start - 1) 0 ≡ 47) → has_slash (drop start bs) ≡ false →
    after_last (λ b. b == 47) bs ≡ drop start bs
ends_address bs start within slash h =
    let rest = suffix_len_is (λ b. not (b == 47)) bs start 0 within (no-slash bs start h) (λ some. ap (λ b. not (b == 47)) (slash some)) in
    ap (λ n. drop n bs) (omega (arith, within, rest))
