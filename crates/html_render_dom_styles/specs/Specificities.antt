-- The order and the sum of specificities: Selectors Level 3, section 9.
use Rattle.std.specs.Prelude.{ℕ, ◌+◌, min, false, ◌||◌}
use Rattle.std.specs.Ordering.{nat_cmp, bool_cmp, on, then_cmp}
use Rattle.std.specs.declared.cmp.Ordering.{Ordering}
use Rattle.html_render_dom_styles.specs.declared.specificities.Specificity.{Specificity}

abbrev pub no_specificity : Specificity
no_specificity = record { inline = false; id = 0; class = 0; typ = 0 }

-- the order of specificities: by `inline`, then by the counts of ids, of classes, and of element names and pseudo-elements
abbrev pub specificity_cmp : Specificity → Specificity → Ordering
specificity_cmp =
    then_cmp (on (λ s. s.inline) bool_cmp)
    (then_cmp (on (λ s. s.id) nat_cmp) (then_cmp (on (λ s. s.class) nat_cmp) (on (λ s. s.typ) nat_cmp)))

-- the sum of two counts, at most 65535
abbrev pub count_sum : ℕ → ℕ → ℕ
count_sum m n = min (m + n) 65535

abbrev pub specificity_sum : Specificity → Specificity → Specificity
specificity_sum a b = record {
  inline = a.inline || b.inline;
  id = count_sum a.id b.id;
  class = count_sum a.class b.class;
  typ = count_sum a.typ b.typ;
}
