-- The winner among updates of a property, as in CSS Cascading and Inheritance Level 3, section 6: importance and origin
-- decide first, then specificity, then the order of appearance.
use Rattle.std.specs.Prelude.{ℕ, ◌-◌, Bool, List, Option, None, option_map, filter, if◌then◌else◌}
use Rattle.std.specs.declared.cmp.Ordering.{Ordering}
use Rattle.std.specs.Ordering.{is_le, nat_cmp, bool_cmp, on, then_cmp}
use Rattle.std.specs.List.{list_all, last_or}
use Rattle.html_render_dom_styles.specs.declared.origins.StyleOrigin.{StyleOrigin}
use Rattle.html_render_dom_styles.specs.declared.origins.StyleOrigin.TheVariants as origin
use Rattle.html_render_dom_styles.specs.declared.updates.Update.{Update}
use Rattle.html_render_dom_styles.specs.Specificities.{specificity_cmp}

-- the rank of an origin among normal declarations; the greatest wins
abbrev pub normal_rank : StyleOrigin → ℕ
normal_rank origin.None = 0
normal_rank origin.Agent = 1
normal_rank origin.User = 2
normal_rank origin.Author = 3

-- the rank of an origin among declarations of one importance; important ones reverse the order
abbrev pub rank_of : (important : Bool) → StyleOrigin → ℕ
rank_of important origin = if important then 3 - normal_rank origin else normal_rank origin

-- the order of two updates, their appearance aside: by importance, then by the rank of the origin, then by specificity
abbrev pub update_cmp : {T : Type 0} → Update T → Update T → Ordering
update_cmp =
    then_cmp (on (λ u. u.important) bool_cmp)
    (then_cmp (on (λ u. rank_of u.important u.origin) nat_cmp) (on (λ u. u.specificity) specificity_cmp))

-- the last of the greatest updates of the list; the empty list has no winner
abbrev pub winner : {T : Type 0} → List (Update T) → Option (Update T)
winner us = last_or None (filter (λ u. list_all (λ v. is_le (update_cmp v u)) us) us)

-- the value of an update, if there is one
abbrev pub value_of : {T : Type 0} → Option (Update T) → Option T
value_of u = option_map (λ v. v.value) u
