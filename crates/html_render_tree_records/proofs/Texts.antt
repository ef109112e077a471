-- The characters of a string spell its bytes.
use Rattle.std.proofs.Common.{◌≡◌, string_bytes, String}
use Rattle.std.specs.Str.{chars, encode_utf8_all}
use Rattle.std.proofs.lemmas.Str.{IsUtf8-string_bytes, encodes-chars}

pub spelled : {Z : Type 0} (s : String Z) → encode_utf8_all (chars (string_bytes s)) ≡ string_bytes s
spelled s = encodes-chars (string_bytes s) (IsUtf8-string_bytes s)
