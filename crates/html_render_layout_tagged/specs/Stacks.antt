-- A table of annotation stacks, indexed by tags.
use Rattle.std.specs.Prelude.{◌≡◌, ℕ, ◌+◌, ◌<◌, ◌≤◌, List, [], ◌∷◌, ◌++◌, length}
use Rattle.std.proofs.Common.{get_or}
use Rattle.html_render_layout_tagged.specs.declared.stacks.Pushed.{Pushed}

-- stack of a tag, its outermost annotation first; empty if the table has no such tag
abbrev pub stack_at : {A : Type 0} → List (List A) → ℕ → List A
stack_at stacks tag = get_or stacks tag []

-- table of stacks after more are pushed in order, each on an earlier one
abbrev pub stacks_after : {A : Type 0} → List (List A) → List (Pushed A) → List (List A)
stacks_after stacks [] = stacks
stacks_after stacks (p ∷ ps) = stacks_after (stacks ++ (stack_at stacks p.below ++ p.annotation ∷ []) ∷ []) ps

-- table of the empty stack and the pushed ones
abbrev pub stacks_of : {A : Type 0} → List (Pushed A) → List (List A)
stacks_of ps = stacks_after ([] ∷ []) ps

-- whether `p` may be pushed as the stack of `tag`: it is on one of a lower tag, and `depth` is its number of annotations
pub record IsPushed {A : Type 0} (stacks : List (List A)) (tag : ℕ) (p : Pushed A) : Type 0 where
  pub lower : p.below < tag
  pub depth : p.depth ≡ length (stack_at stacks p.below) + 1
  pub within : p.depth ≤ tag

-- whether stacks may be pushed in this order
abbrev pub ArePushed : {A : Type 0} → List (List A) → List (Pushed A) → Type 0
ArePushed stacks [] = Unit {0}
ArePushed stacks (p ∷ ps) = IsPushed stacks (length stacks) p × ArePushed (stacks ++ (stack_at stacks p.below ++ p.annotation ∷ []) ∷ []) ps

-- whether `p` is the stack of `tag`
pub record IsStack {A : Type 0} (stacks : List (List A)) (tag : ℕ) (p : Pushed A) : Type 0 where
  pub is : stack_at stacks tag ≡ stack_at stacks p.below ++ p.annotation ∷ []
  pub pushed : IsPushed stacks tag p
