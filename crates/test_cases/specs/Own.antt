-- The results of the decorators that cases name, where they differ from plain text.
use Rattle.std.specs.Prelude.{ℕ, ◌+◌, ◌-◌, ◌^◌, List, codes, if◌then◌else◌, min, pos}
use Rattle.std.specs.List.{repeat}
use Rattle.std.specs.Ordering.{int_eq}
use Rattle.html_render_tree.specs.Place.{Place}
use Rattle.html_render_tree.specs.Place.TheVariants.{QuotePrefix, OrderedItemPrefix}
use Rattle.test_cases.specs.declared.decorators.Own.{Own}
use Rattle.test_cases.specs.declared.decorators.Own.TheVariants.{Grow, Odd, Refusing}

-- the text of a decorator at a place, which is that of the decorator below if unchanged
abbrev pub text : Own → Place → (below : List ℕ) → List ℕ
text (Grow level) QuotePrefix below = repeat level (codes ">")
text Odd (OrderedItemPrefix number) below = if int_eq number (pos 2) then codes "(two) " else below
text own place below = below

-- the decorator of a sub-block
abbrev pub subblock : Own → Own
subblock (Grow level) = Grow (min (level + 1) (2 ^ 64 - 1))
subblock Odd = Odd
subblock (Refusing call) = Refusing call
