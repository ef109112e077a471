-- Reading from an input and writing to an output, where their bytes are known.
use Rattle.std.specs.Prelude.{◌≡◌, ℕ, List, ◌++◌, Option, Result, MatchResult}
use Rattle.std.specs.Io.KnownBytes.{Appends, Consumes, IsAtEnd}

-- whether the bytes are all that remained to be read
abbrev pub ReadsAll : (old new : Option (List ℕ)) → (bytes : List ℕ) → Type 0
ReadsAll old new bytes = Consumes old new bytes × IsAtEnd new

-- whether a front of the bytes was appended
pub record AppendsFront (old new : Option (List ℕ)) (bytes : List ℕ) : Type 0 where
  pub front : List ℕ
  pub rest : List ℕ
  pub whole : bytes ≡ front ++ rest
  pub appended : Appends old new front

-- whether all of the bytes were appended, or the write failed after a front of them
abbrev pub Writes : {A E : Type 0} → (old new : Option (List ℕ)) → Result A E → (bytes : List ℕ) → Type 0
Writes old new result bytes = MatchResult result (λ _. Appends old new bytes) (λ _. AppendsFront old new bytes)
