-- The winner so far, and the next update, of which the key decides.
use Rattle.std.specs.Prelude.{ℕ, Bool, true, Option, Some, None}
use Rattle.std.specs.Ordering.{is_le, nat_cmp, bool_cmp, on, then_cmp}
use Rattle.std.specs.declared.cmp.Ordering.{Ordering}
use Rattle.html_render_dom_styles.specs.declared.specificities.Specificity.{Specificity}
use Rattle.html_render_dom_styles.specs.declared.updates.Update.{Update}
use Rattle.html_render_dom_styles.specs.Cascade.{rank_of}
use Rattle.html_render_dom_styles.specs.Specificities.{specificity_cmp}

-- the data of an update that are compared
pub record Key : Type 0 where
  pub important : Bool
  pub origin_rank : ℕ
  pub specificity : Specificity

abbrev pub key_of : {T : Type 0} → Update T → Key
key_of u = record { important = u.important; origin_rank = rank_of u.important u.origin; specificity = u.specificity }

-- the order of keys, in which `update_cmp` compares updates
abbrev pub key_cmp : Key → Key → Ordering
key_cmp = then_cmp (on (λ k. k.important) bool_cmp) (then_cmp (on (λ k. k.origin_rank) nat_cmp) (on (λ k. k.specificity) specificity_cmp))

-- whether an update with a key replaces the winner so far
abbrev pub yields_to : {T : Type 0} → Option (Update T) → Key → Bool
yields_to None key = true
yields_to (Some kept) key = is_le (key_cmp (key_of kept) key)
