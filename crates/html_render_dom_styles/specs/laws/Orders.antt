-- Specificities and keys are totally ordered, and tie exactly if they are equal.
use Rattle.std.specs.Prelude.{◌≡◌, ℕ, Bool, true, false, ◌↔◌}
use Rattle.std.specs.declared.cmp.Ordering.{Ordering}
use Rattle.std.specs.declared.cmp.Ordering.TheVariants.{Equal, Greater}
use Rattle.std.specs.Ordering.{is_le, is_gt, nat_cmp, bool_cmp, ordering_then, ordering_reverse}
use Rattle.std.specs.Cmp.{IsTotalOrder, bool_cmp_total}
use Rattle.std.proofs.lemmas.Cmp.{nat_cmp_total, on_total, then_total, tied_itself, upto, ranked}
use Rattle.std.proofs.Common.{refl, ap, ◌∙◌, subst}
use Rattle.html_render_dom_styles.specs.declared.specificities.Specificity.{Specificity}
use Rattle.html_render_dom_styles.specs.Specificities.{specificity_cmp}
use Rattle.html_render_dom_styles.specs.Keeping.{Key, key_cmp}

pub specificity_cmp-total : IsTotalOrder specificity_cmp
specificity_cmp-total =
    then_total (on_total (λ s. s.inline) bool_cmp_total)
    (then_total (on_total (λ s. s.id) nat_cmp_total)
    (then_total (on_total (λ s. s.class) nat_cmp_total) (on_total (λ s. s.typ) nat_cmp_total)))

pub key_cmp-total : IsTotalOrder key_cmp
key_cmp-total =
    then_total (on_total (λ k. k.important) bool_cmp_total)
    (then_total (on_total (λ k. k.origin_rank) nat_cmp_total) (on_total (λ k. k.specificity) specificity_cmp-total))

-- two orders taken in turn tie only if both tie
then_both : (r s : Ordering) → ordering_then r s ≡ Equal → (r ≡ Equal) × (s ≡ Equal)
then_both Equal s e = (refl, e)
then_both r s e = cc

bool_tied : (a b : Bool) → bool_cmp a b ≡ Equal → a ≡ b
bool_tied false true e = cc
bool_tied true false e = cc
bool_tied a b e = refl

nat_tied : (m n : ℕ) (r : Ordering) → r ≡ nat_cmp m n → r ≡ Equal → m ≡ n
nat_tied m n Equal h e = ranked m n Equal h
nat_tied m n r h e = cc

specificity_tied : (a b : Specificity) → specificity_cmp a b ≡ Equal → a ≡ b
specificity_tied a b e =
    let first = then_both _ _ e in
    let second = then_both _ _ first.1 in
    let third = then_both _ _ second.1 in
    joined (bool_tied _ _ first.0) (nat_tied _ _ _ refl second.0) (nat_tied _ _ _ refl third.0) (nat_tied _ _ _ refl third.1)
  where
    joined : a.inline ≡ b.inline → a.id ≡ b.id → a.class ≡ b.class → a.typ ≡ b.typ → a ≡ b
    joined p q r s = λ i. record { inline = p i; id = q i; class = r i; typ = s i }

key_tied : (a b : Key) → key_cmp a b ≡ Equal → a ≡ b
key_tied a b e =
    let first = then_both _ _ e in
    let second = then_both _ _ first.1 in
    joined (bool_tied _ _ first.0) (nat_tied _ _ _ refl second.0) (specificity_tied _ _ second.1)
  where
    joined : a.important ≡ b.important → a.origin_rank ≡ b.origin_rank → a.specificity ≡ b.specificity → a ≡ b
    joined p q r = λ i. record { important = p i; origin_rank = q i; specificity = r i }

pub specificity_cmp-Equal : (a b : Specificity) → (specificity_cmp a b ≡ Equal) ↔ (a ≡ b)
specificity_cmp-Equal a b = (specificity_tied a b, λ e. subst (λ c. specificity_cmp a c ≡ Equal) e (tied_itself specificity_cmp-total a))

pub key_cmp-Equal : (a b : Key) → (key_cmp a b ≡ Equal) ↔ (a ≡ b)
key_cmp-Equal a b = (key_tied a b, λ e. subst (λ c. key_cmp a c ≡ Equal) e (tied_itself key_cmp-total a))

-- at most is not greater; if a isn't at most b, then b is at most a
le_from_not_gt : (r : Ordering) → is_gt r ≡ false → is_le r ≡ true
le_from_not_gt Greater e = cc
le_from_not_gt r e = refl

not_gt_from_le : (r : Ordering) → is_le r ≡ true → is_gt r ≡ false
not_gt_from_le Greater e = cc
not_gt_from_le r e = refl

turned_le : (r : Ordering) → is_le r ≡ false → is_le (ordering_reverse r) ≡ true
turned_le Greater e = refl
turned_le r e = cc

-- of two keys one is at most the other, and being at most is transitive
pub key-turned : (a b : Key) → is_le (key_cmp a b) ≡ false → is_le (key_cmp b a) ≡ true
key-turned a b e = ap is_le (key_cmp-total.antisymm b a) ∙ turned_le (key_cmp a b) e

pub key-chain : (a b c : Key) → is_le (key_cmp a b) ≡ true → is_le (key_cmp b c) ≡ true → is_le (key_cmp a c) ≡ true
key-chain a b c p q = le_from_not_gt (key_cmp a c) (upto key_cmp-total a b c (not_gt_from_le (key_cmp a b) p) (not_gt_from_le (key_cmp b c) q))

pub ruleset orders = (specificity_cmp-total, key_cmp-total, specificity_cmp-Equal, key_cmp-Equal)
