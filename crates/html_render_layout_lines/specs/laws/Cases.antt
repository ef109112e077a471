-- Facts on values that may be missing, on choices, and on lists that are empty.
use Rattle.std.proofs.Common.{◌≡◌, List, [], ◌∷◌, length, arith, Bool, true, false, cond, Option, Some, None, refl, IfSome, option_and_then, option_map}
use Rattle.std.proofs.lemmas.List.{nil_from_length}
use Rattle.std.proofs.lemmas.Bool.{eqb-true, ne_eqb}
use Rattle.html_render_layout_lines.specs.Line.{is_empty}

pub bind_some : {A B : Type 0} (P : A → Type 0) (Q : B → Type 0) (f : A → Option B) (o : Option A) → IfSome o P →
    ((x : A) → P x → IfSome (f x) Q) → IfSome (option_and_then f o) Q
bind_some P Q f None h k = tt
bind_some P Q f (Some x) h k = k x h

pub map_if : {A B : Type 0} (P : A → Type 0) (Q : B → Type 0) (f : A → B) (o : Option A) → IfSome o P → ((x : A) → P x → Q (f x)) →
    IfSome (option_map f o) Q
map_if P Q f None h k = tt
map_if P Q f (Some x) h k = k x h

pub if_cases : {X : Type 0} (P : X → Type 0) (b : Bool) (x y : X) → (b ≡ true → P x) → (b ≡ false → P y) → P (cond b x y)
if_cases P true x y f g = f refl
if_cases P false x y f g = g refl

pub if_true : {X : Type 0} (b : Bool) (x y : X) → b ≡ true → cond b x y ≡ x
if_true true x y e = refl
if_true false x y e = cc

pub if_false : {X : Type 0} (b : Bool) (x y : X) → b ≡ false → cond b x y ≡ y
if_false true x y e = cc
if_false false x y e = refl

-- a list that is empty, and one that isn't
pub nil_from_is_empty : {X : Type 0} (xs : List X) → is_empty xs ≡ true → xs ≡ []
nil_from_is_empty xs e = nil_from_length xs (eqb-true _ 0 e)

pub is_empty-cons : {X : Type 0} (x : X) (xs : List X) → is_empty (x ∷ xs) ≡ false
is_empty-cons x xs = ne_eqb (length (x ∷ xs)) 0 (λ e. omega (arith, e))
