-- The characters of a fence.
use Rattle.std.proofs.Common.{◌≡◌, ◌<◌, ◌∷◌, [], replicate, arith}
use Rattle.std.specs.Str.{chars}
use Rattle.std.proofs.lemmas.List.Elements.{All-replicate}
use Rattle.std.proofs.lemmas.Str.{chars-IsAscii}
use Rattle.std.proofs.lemmas.Str.Ascii.{IsAscii-from_all}

-- the characters of a fence are its bytes
pub chars_fence : chars (96 ∷ (96 ∷ (96 ∷ []))) ≡ 96 ∷ (96 ∷ (96 ∷ []))
chars_fence = chars-IsAscii (replicate 3 96) (IsAscii-from_all (replicate 3 96) (All-replicate (λ b. b < 128) 3 96 (omega arith)))
