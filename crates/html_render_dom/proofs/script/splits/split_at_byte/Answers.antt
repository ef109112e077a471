-- A text may be cut before and after an ASCII byte.
use Rattle.std.proofs.Common.{◌≡◌, ◌-◌, ◌==◌, ◌<◌, ℕ, Some, None, List, length, get_or, take, arith, ap, ◌∙◌}
use Rattle.std.specs.List.{position_or_len}
use Rattle.std.proofs.lemmas.Bool.{eqb-true, false_from_ne_true}
use Rattle.std.proofs.lemmas.List.Sums.{position_or_len_is}
use Rattle.std.proofs.lemmas.Str.{IsCharBoundary-after_ascii}
use Rattle.memchr.specs.Find.{IsFirstByte, is_byte}
use Rattle.html_render_dom.proofs.script.splits.split_at_byte.Goals as goal

found : (byte : ℕ) (bs : List ℕ) (at : ℕ) → IsFirstByte (is_byte byte) bs (Some at) → (at < length bs) × (position_or_len (λ b. b == byte) bs ≡ at) × (get_or bs at 0 ≡ byte)
found byte bs at first = (
  first.0.high,
  position_or_len_is (λ b. b == byte) bs at 0 (omega (arith, first.0.high))
      (λ k lt. false_from_ne_true (get_or bs k 0 == byte) (first.0.before k (omega arith) lt)) (λ _. first.1),
  eqb-true _ byte first.1,
)

absent : (byte : ℕ) (bs : List ℕ) → IsFirstByte (is_byte byte) bs None → position_or_len (λ b. b == byte) bs ≡ length bs
absent byte bs nowhere =
    position_or_len_is (λ b. b == byte) bs (length bs) 0 (omega arith)
    (λ k lt. false_from_ne_true (get_or bs k 0 == byte) (nowhere k (omega arith) lt)) (λ lt. absurd (omega (arith, lt)))

pub range-before-requires-clause-end_boundary : goal.range-before-requires-clause-end_boundary
range-before-requires-clause-end_boundary c =
    let here = found c.args.byte c.args.text.now c.in-Some.at (rw c.as_bytes.ensures.value at c.in-Some.ensures) in
    (omega (arith, here.0), λ within high. absurd (omega (arith, here.2, c.requires, high)))

pub range_from-after-requires : goal.range_from-after-requires
range_from-after-requires c = λ _.
    let here = found c.args.byte c.args.text.now c.in-Some.at (rw c.as_bytes.ensures.value at c.in-Some.ensures) in
    IsCharBoundary-after_ascii c.args.text.now c.in-Some.at c.utf8.text here.0 (omega (arith, here.2, c.requires))

pub returns-in-Some : goal.returns-in-Some
returns-in-Some c =
    let here = found c.args.byte c.args.text.now c.in-Some.at (rw c.as_bytes.ensures.value at c.in-Some.ensures) in
    let whole : c.in-Some.at - 0 ≡ c.in-Some.at = omega arith in
    rw here.1 (here.0, c.range-before.ensures.value ∙ ap (λ (n : ℕ). take n c.args.text.now) whole, c.range_from-after.ensures.value)

pub returns-in-None : goal.returns-in-None
returns-in-None c = absent c.args.byte c.args.text.now (rw c.as_bytes.ensures.value at c.in-None.ensures)
