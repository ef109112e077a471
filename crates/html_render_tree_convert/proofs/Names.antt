-- Names that are compared byte by byte.
use Rattle.std.proofs.Common.{◌≡◌, ℕ, ◌<◌, true, List, length, get_or, arith}
use Rattle.std.specs.Str.{bytes_eq}
use Rattle.std.proofs.lemmas.List.{ext_get_or}
use Rattle.std.proofs.lemmas.Slice.Eq.{bytes_eq-Decides}

pub same_bytes : (a b : List ℕ) → length a ≡ length b → ((k : ℕ) → k < length b → get_or a k 0 ≡ get_or b k 0) → bytes_eq a b ≡ true
same_bytes a b len same = (bytes_eq-Decides a b).1 (ext_get_or 0 a b len (λ k low. same k (omega (arith, low, len))))
