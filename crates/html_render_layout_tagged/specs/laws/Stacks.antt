-- A pushed stack is the last of its table, and keeps its tag.
use Rattle.std.proofs.lemmas.Bool.{eqb-true, eq-eqb}
use Rattle.std.specs.Prelude.{◌≡◌, ℕ, zero, suc, ◌+◌, ◌<◌, Bool, true, false, ◌&&◌, ◌==◌, List, [], ◌∷◌, ◌++◌, length, refl}
use Rattle.std.specs.Prelude.{Option, Some, None, MatchOption}
use Rattle.std.specs.Slice.{IsItemAt}
use Rattle.std.proofs.Common.{Bor, true≢false, arith, length-append, get_or, get_or-append-add, sym, ap, ◌∙◌, subst}
use Rattle.std.proofs.lemmas.List.{get_or_append_left, get_or_past}
use Rattle.std.proofs.Math.Bool.{and_comm}
use Rattle.std.specs.Cmp.Lexicographic.{pointwise, unequal}
use Rattle.html_render_layout_tagged.specs.declared.stacks.Pushed.{Pushed}
use Rattle.html_render_layout_tagged.specs.Stacks.{stack_at, stacks_after, stacks_of, IsPushed, ArePushed, IsStack}

pub stacks_after-push : {A : Type 0} (stacks : List (List A)) (ps : List (Pushed A)) (p : Pushed A) →
    stacks_after stacks (ps ++ p ∷ []) ≡ stacks_after stacks ps ++ (stack_at (stacks_after stacks ps) p.below ++ p.annotation ∷ []) ∷ []
stacks_after-push stacks [] p = refl
stacks_after-push stacks (q ∷ ps) p = stacks_after-push (stacks ++ (stack_at stacks q.below ++ q.annotation ∷ []) ∷ []) ps p

pub length-stacks_after : {A : Type 0} (stacks : List (List A)) (ps : List (Pushed A)) →
    length (stacks_after stacks ps) ≡ length stacks + length ps
length-stacks_after stacks [] = omega arith
length-stacks_after stacks (q ∷ ps) =
    let one = (stack_at stacks q.below ++ q.annotation ∷ []) ∷ [] in
    omega (arith, length-stacks_after (stacks ++ one) ps, length-append stacks one)

pub ArePushed-push : {A : Type 0} (stacks : List (List A)) (ps : List (Pushed A)) (p : Pushed A) → ArePushed stacks ps →
    IsPushed (stacks_after stacks ps) (length (stacks_after stacks ps)) p → ArePushed stacks (ps ++ p ∷ [])
ArePushed-push stacks [] p known new = (new, tt)
ArePushed-push stacks (q ∷ ps) p known new =
    (known.0, ArePushed-push (stacks ++ (stack_at stacks q.below ++ q.annotation ∷ []) ∷ []) ps p known.1 new)

-- a stack of the table is unchanged by later ones
pub stack_at-after : {A : Type 0} (stacks : List (List A)) (ps : List (Pushed A)) (tag : ℕ) → tag < length stacks →
    stack_at (stacks_after stacks ps) tag ≡ stack_at stacks tag
stack_at-after stacks [] tag h = refl
stack_at-after stacks (p ∷ ps) tag h =
    let one = (stack_at stacks p.below ++ p.annotation ∷ []) ∷ [] in
    stack_at-after (stacks ++ one) ps tag (omega (arith, h, length-append stacks one)) ∙ get_or_append_left stacks one [] tag h

-- the first of the pushed stacks is the stack of the first new tag
first : {A : Type 0} (stacks : List (List A)) (p : Pushed A) (ps : List (Pushed A)) → IsPushed stacks (length stacks) p →
    IsStack (stacks_after stacks (p ∷ ps)) (length stacks + 0) p
first stacks p ps known =
    let new = stack_at stacks p.below ++ p.annotation ∷ [] in
    let below : stack_at (stacks_after (stacks ++ new ∷ []) ps) p.below ≡ stack_at stacks p.below =
    stack_at-after stacks (p ∷ ps) p.below known.lower in
    let here : stack_at (stacks_after (stacks ++ new ∷ []) ps) (length stacks + 0) ≡ new =
    stack_at-after (stacks ++ new ∷ []) ps (length stacks + 0) (omega (arith, length-append stacks (new ∷ [])))
    ∙ get_or-append-add stacks (new ∷ []) 0 [] in
    record {
      is = here ∙ ap (λ s. s ++ p.annotation ∷ []) (sym below);
      pushed = record {
        lower = omega (arith, known.lower);
        depth = known.depth ∙ ap (λ s. length s + 1) (sym below);
        within = omega (arith, known.within);
      };
    }

-- each pushed stack is the stack of its tag
pub IsStack-at : {A : Type 0} (stacks : List (List A)) (ps : List (Pushed A)) (i : ℕ) (p : Pushed A) → ArePushed stacks ps →
    i < length ps → p ≡ get_or ps i p → IsStack (stacks_after stacks ps) (length stacks + i) p
IsStack-at stacks [] i p known h e = absurd (omega (arith, h))
IsStack-at stacks (q ∷ ps) zero p known h e = subst (λ x. IsStack (stacks_after stacks (q ∷ ps)) (length stacks + 0) x) (sym e) (first stacks q ps known.0)
IsStack-at stacks (q ∷ ps) (suc i) p known h e =
    let one = (stack_at stacks q.below ++ q.annotation ∷ []) ∷ [] in
    let place : length (stacks ++ one) + i ≡ length stacks + suc i = omega (arith, length-append stacks one) in
    subst (λ n. IsStack (stacks_after (stacks ++ one) ps) n p) place
    (IsStack-at (stacks ++ one) ps i p known.1 (omega (arith, h)) e)

-- the stack of tag 0 is empty
pub stack_at-zero : {A : Type 0} (ps : List (Pushed A)) → stack_at (stacks_of ps) 0 ≡ []
stack_at-zero {A} ps = stack_at-after {A = A} ([] ∷ []) ps 0 (omega arith)

-- reading at the index of a tag gives the top of its stack, or none if the stack is empty
pub read-at : {A : Type 0} (ps : List (Pushed A)) (tag i : ℕ) (r : Option (Bor (Pushed A))) → ArePushed ([] ∷ []) ps → i + 1 ≡ tag →
    IsItemAt ps i r → MatchOption r (stack_at (stacks_of ps) tag ≡ []) (λ p. IsStack (stacks_of ps) tag p.now)
read-at {A} ps tag i None known e item = get_or_past (stacks_of ps) tag [] (omega (arith, e, item.3, length-stacks_after {A = A} ([] ∷ []) ps))
read-at {A} ps tag i (Some p) known e item =
    let place : length {A = List A} ([] ∷ []) + i ≡ tag = omega (arith, e) in
    subst (λ n. IsStack (stacks_of ps) n p.now) place (IsStack-at ([] ∷ []) ps i p.now known item.3.0 item.1)

-- a tag that the table doesn't have has the empty stack, as tag 0
pub stack_at-kept : {A : Type 0} (ps : List (Pushed A)) (tag : ℕ) → length ps < tag → stack_at (stacks_of ps) 0 ≡ stack_at (stacks_of ps) tag
stack_at-kept {A} ps tag h =
    stack_at-zero ps ∙ sym (get_or_past (stacks_of ps) tag [] (omega (arith, h, length-stacks_after {A = A} ([] ∷ []) ps)))

-- ---- equal stacks

-- a stack has one annotation more than the one below
height : {A : Type 0} (stacks : List (List A)) (tag : ℕ) (p : Pushed A) → IsStack stacks tag p →
    length (stack_at stacks tag) ≡ length (stack_at stacks p.below) + 1
height stacks tag p known = ap length known.is ∙ length-append (stack_at stacks p.below) (p.annotation ∷ [])

-- two lists of equal length, each with one more element, are equal if the lists and these elements are
pub pointwise-push : {A : Type 0} (eq : A → A → Bool) (xs ys : List A) (x y : A) → length xs ≡ length ys →
    pointwise eq (xs ++ x ∷ []) (ys ++ y ∷ []) ≡ pointwise eq xs ys && eq x y
pointwise-push eq [] [] x y e = elim (eq x y) as (λ b. b && true ≡ b) [ true ↦ refl | false ↦ refl ]
pointwise-push eq [] (z ∷ ys) x y e = absurd (omega (arith, e))
pointwise-push eq (z ∷ xs) [] x y e = absurd (omega (arith, e))
pointwise-push {A} eq (w ∷ xs) (z ∷ ys) x y e =
    let rest = pointwise-push eq xs ys x y (omega (arith, e)) in
    elim (eq w z) as (λ b. b && pointwise eq (xs ++ x ∷ []) (ys ++ y ∷ []) ≡ (b && pointwise eq xs ys) && eq x y)
    [ true ↦ rest | false ↦ refl ]

-- two stacks are equal if their depths, the annotations on top and the stacks below are
pub pointwise-tops : {A : Type 0} (eq : A → A → Bool) (stacks : List (List A)) (i j : ℕ) (p q : Pushed A) →
    IsStack stacks i p → IsStack stacks j q → pointwise eq (stack_at stacks i) (stack_at stacks j)
    ≡ ((p.depth == q.depth) && eq p.annotation q.annotation) && pointwise eq (stack_at stacks p.below) (stack_at stacks q.below)
pointwise-tops {A} eq stacks i j p q left right = by (p.depth == q.depth) refl
  where
    by : (b : Bool) → (p.depth == q.depth) ≡ b → pointwise eq (stack_at stacks i) (stack_at stacks j)
        ≡ (b && eq p.annotation q.annotation) && pointwise eq (stack_at stacks p.below) (stack_at stacks q.below)
    by true e =
        rw (left.is, right.is) (pointwise-push eq (stack_at stacks p.below) (stack_at stacks q.below) p.annotation q.annotation
        (omega (arith, left.pushed.depth, right.pushed.depth, eqb-true p.depth q.depth e)))
        ∙ and_comm (pointwise eq (stack_at stacks p.below) (stack_at stacks q.below)) (eq p.annotation q.annotation)
    by false e =
        unequal eq (stack_at stacks i) (stack_at stacks j)
        (λ same. true≢false (sym (eq-eqb p.depth q.depth
        (left.pushed.depth ∙ sym (height stacks i p left) ∙ same ∙ height stacks j q right ∙ sym right.pushed.depth)) ∙ e))
