-- Bytes that are a script.
use Rattle.std.proofs.Common.{◌≡◌, ℕ, List, Ok, Err, IsUtf8}
use Rattle.std.specs.Str.{is_utf8}
use Rattle.std.proofs.lemmas.Bool.{cond-true, cond-false, false_from_ne_true}
use Rattle.std.proofs.lemmas.Str.{IsUtf8-from_is_utf8, is_utf8-from_IsUtf8}
use Rattle.html_render_tree.specs.declared.htree.faults.Fault.TheVariants.{Input}
use Rattle.html_render_tree.specs.Program.{script_of}

pub script-there : (bytes : List ℕ) → IsUtf8 bytes → script_of bytes ≡ Ok bytes
script-there bytes text = cond-true (is_utf8 bytes) _ _ (is_utf8-from_IsUtf8 bytes text)

pub script-refused : (bytes : List ℕ) → ¬ (IsUtf8 bytes) → script_of bytes ≡ Err Input
script-refused bytes bad = cond-false (is_utf8 bytes) _ _ (false_from_ne_true _ (λ t. bad (IsUtf8-from_is_utf8 bytes t)))
