-- Bytes that a text lacks, and joined texts.
use Rattle.std.specs.Prelude.{◌≡◌, ℕ, false, ◌==◌, List, ◌++◌, Option, option_map}
use Rattle.std.specs.List.{All}

-- whether no byte of a text is this one
abbrev pub Lacks : (byte : ℕ) → List ℕ → Type 0
Lacks byte bs = All (λ b. (b == byte) ≡ false) bs

-- text with more text at its end; none if that is none
abbrev pub text_followed_by : List ℕ → Option (List ℕ) → Option (List ℕ)
text_followed_by bs more = option_map (λ cs. bs ++ cs) more
