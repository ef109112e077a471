-- Laws of the winner: it is determined by the winner of a first part of the list and the updates after that part.
use Rattle.std.specs.Prelude.{◌≡◌, Bool, true, false, ◌&&◌, List, [], ◌∷◌, ◌++◌, Option, Some, None, filter, fold, option_to_list}
use Rattle.std.specs.List.{list_all, last_or}
use Rattle.std.specs.Ordering.{is_le}
use Rattle.std.proofs.Common.{refl, sym, ap, ◌∙◌, inl, inr, append_assoc, cond}
use Rattle.std.proofs.lemmas.Bool.{and_parts, cases_Bool, false≢true}
use Rattle.std.proofs.lemmas.List.{append-nil}
use Rattle.std.proofs.lemmas.List.Elements.{filter-append}
use Rattle.std.proofs.lemmas.List.Folds.{list_all-append}
use Rattle.html_render_dom_styles.specs.declared.updates.Update.{Update}
use Rattle.html_render_dom_styles.specs.Cascade.{update_cmp, winner}
use Rattle.html_render_dom_styles.specs.Keeping.{key_of}
use Rattle.html_render_dom_styles.specs.laws.Orders.{key-turned, key-chain}

last_or-some : {X : Type 0} (o : Option X) (xs : List X) (x : X) → last_or None xs ≡ Some x → last_or o xs ≡ Some x
last_or-some o [] x e = cc
last_or-some o (y ∷ xs) x e = e

last_or-push : {X : Type 0} (o : Option X) (xs : List X) (x : X) → last_or o (xs ++ x ∷ []) ≡ Some x
last_or-push o [] x = refl
last_or-push o (y ∷ xs) x = last_or-push (Some y) xs x

and_second : (a b : Bool) → (b ≡ true → a ≡ true) → (a && b) ≡ b
and_second a false h = elim a as (λ c. (c && false) ≡ false) [ true ↦ refl | false ↦ refl ]
and_second a true h = rw (h refl) refl

and_first : (a b : Bool) → (a ≡ true → b ≡ true) → (a && b) ≡ a
and_first false b h = refl
and_first true b h = h refl

and_true : (a : Bool) → (a && true) ≡ a
and_true false = refl
and_true true = refl

and_before : (a b : Bool) → (a ≡ true → b ≡ true) → (a && (b && true)) ≡ a
and_before a b h = ap (λ c. a && c) (and_true b) ∙ and_first a b h

and_last : (a b : Bool) → (b ≡ true → a ≡ true) → (a && (b && true)) ≡ b
and_last a b h = ap (λ c. a && c) (and_true b) ∙ and_second a b h

-- an item at the front of a list doesn't change the last one that passes a test, if there is one
kept_behind : {X : Type 0} (test : X → Bool) (x : X) (xs : List X) (w : X) → last_or None (filter test xs) ≡ Some w →
    last_or None (filter test (x ∷ xs)) ≡ Some w
kept_behind test x xs w e = elim (cases_Bool (test x)) [ inl a ↦ rw a (last_or-some (Some x) (filter test xs) w e) | inr a ↦ rw a e ]

first_alone : {X : Type 0} (test : X → Bool) (x : X) (xs : List X) → test x ≡ true → filter test xs ≡ [] →
    last_or None (filter test (x ∷ xs)) ≡ Some x
first_alone test x xs a e = rw (a, e) refl

pushed : {X : Type 0} (test : X → Bool) (xs : List X) (x : X) → test x ≡ true → last_or None (xs ++ filter test (x ∷ [])) ≡ Some x
pushed test xs x a = rw a (last_or-push None xs x)

unpushed : {X : Type 0} (test : X → Bool) (xs : List X) (x : X) → test x ≡ false → last_or None (xs ++ filter test (x ∷ [])) ≡ last_or None xs
unpushed test xs x a = rw a (ap (last_or None) (append-nil xs))

module _ {U : Type 0} (le : U → U → Bool) where
  abbrev greatest : List U → U → Bool
  greatest us u = list_all (λ v. le v u) us

  abbrev last_greatest : List U → Option U
  last_greatest us = last_or None (filter (greatest us) us)

  -- whether w is the last of the greatest items
  record IsBest (us : List U) (w : U) : Type 0 where
    same : (v : U) → greatest us v ≡ le w v
    last : last_or None (filter (le w) us) ≡ Some w

  IsBest-is : (us : List U) (w : U) → IsBest us w → last_greatest us ≡ Some w
  IsBest-is us w b = ap (λ test. last_or None (filter test us)) (λ i v. b.same v i) ∙ b.last

  -- the last of the greatest items after one more item
  abbrev pub later : Option U → U → Option U
  later None u = Some u
  later (Some w) u = cond (le w u) (Some u) (Some w)

  module _ (turned : (u v : U) → le u v ≡ false → le v u ≡ true) (chain : (u v w : U) → le u v ≡ true → le v w ≡ true → le u w ≡ true) where
    itself : (u : U) → le u u ≡ true
    itself u = elim (cases_Bool (le u u)) [ inl e ↦ e | inr e ↦ turned u u e ]

    -- no item that is at most w is at least u, if u isn't at most w
    filter-none : (us : List U) (u w : U) → greatest us w ≡ true → le u w ≡ false → filter (le u) us ≡ []
    filter-none [] u w h e = refl
    filter-none (x ∷ us) u w h e =
        let both = and_parts (le x w) (greatest us w) h in
        elim (cases_Bool (le u x)) [
          | inl a ↦ absurd (false≢true (sym e ∙ chain u x w a both.0))
          | inr a ↦ rw a (filter-none us u w both.1 e)
        ]

    IsBest-one : (u : U) → IsBest (u ∷ []) u
    IsBest-one u = record { same = λ v. and_true (le u v); last = rw (itself u) refl }

    -- a list that isn't empty has a last of its greatest items
    best_of : (u : U) (us : List U) → (w : U) × IsBest (u ∷ us) w
    best_of u [] = (u, IsBest-one u)
    best_of u (x ∷ us) =
        let rest = best_of x us in
        let b = rest.1 in
        elim (cases_Bool (le u rest.0)) [
          | inl e ↦ (
            rest.0,
            record {
              same = λ v. ap (λ t. le u v && t) (b.same v) ∙ and_second (le u v) (le rest.0 v) (λ h. chain u rest.0 v e h);
              last = kept_behind (le rest.0) u (x ∷ us) rest.0 b.last;
            },
          )
          | inr e ↦ (
            u,
            record {
              same = λ v. ap (λ t. le u v && t) (b.same v) ∙ and_first (le u v) (le rest.0 v) (λ h. chain rest.0 u v (turned u rest.0 e) h);
              last = first_alone (le u) u (x ∷ us) (itself u) (filter-none (x ∷ us) u rest.0 (b.same rest.0 ∙ itself rest.0) e);
            },
          )
        ]

    IsBest-push : (us : List U) (w u : U) → IsBest us w → last_greatest (us ++ u ∷ []) ≡ cond (le w u) (Some u) (Some w)
    IsBest-push us w u b =
        elim (cases_Bool (le w u)) [
          | inl e ↦ rw e (IsBest-is (us ++ u ∷ []) u (record {
            same = λ v. list_all-append (λ y. le y v) us (u ∷ []) ∙ ap (λ t. t && (le u v && true)) (b.same v)
                ∙ and_last (le w v) (le u v) (λ h. chain w u v e h);
            last = ap (last_or None) (filter-append (le u) us (u ∷ [])) ∙ pushed (le u) (filter (le u) us) u (itself u);
          }))
          | inr e ↦ rw e (IsBest-is (us ++ u ∷ []) w (record {
            same = λ v. list_all-append (λ y. le y v) us (u ∷ []) ∙ ap (λ t. t && (le u v && true)) (b.same v)
                ∙ and_before (le w v) (le u v) (λ h. chain u w v (turned w u e) h);
            last = ap (last_or None) (filter-append (le w) us (u ∷ [])) ∙ unpushed (le w) (filter (le w) us) u e ∙ b.last;
          }))
        ]

    last_greatest-push : (us : List U) (u : U) → last_greatest (us ++ u ∷ []) ≡ later (last_greatest us) u
    last_greatest-push [] u = IsBest-is (u ∷ []) u (IsBest-one u)
    last_greatest-push (x ∷ us) u =
        let b = best_of x us in
        IsBest-push (x ∷ us) b.0 u b.1 ∙ ap (λ o. later o u) (sym (IsBest-is (x ∷ us) b.0 b.1))

    last_greatest-append : (us vs : List U) → last_greatest (us ++ vs) ≡ fold later (last_greatest us) vs
    last_greatest-append us [] = ap last_greatest (append-nil us)
    last_greatest-append us (v ∷ vs) =
        ap last_greatest (sym (append_assoc us (v ∷ []) vs))
        ∙ last_greatest-append (us ++ v ∷ []) vs
        ∙ ap (λ o. fold later o vs) (last_greatest-push us v)

    last_greatest-one : (o : Option U) → last_greatest (option_to_list o) ≡ o
    last_greatest-one None = refl
    last_greatest-one (Some u) = IsBest-is (u ∷ []) u (IsBest-one u)

-- whether an update wins over an earlier one
abbrev pub yields : {T : Type 0} → Update T → Update T → Bool
yields earlier u = is_le (update_cmp earlier u)

-- a single update is the winner of its list
pub winner-one : {T : Type 0} (o : Option (Update T)) → winner (option_to_list o) ≡ o
winner-one o = last_greatest-one yields (λ u v. key-turned (key_of u) (key_of v)) (λ u v w. key-chain (key_of u) (key_of v) (key_of w)) o

-- the winner of a list with one more update at its end
pub winner-push : {T : Type 0} (us : List (Update T)) (u : Update T) → winner (us ++ u ∷ []) ≡ later yields (winner us) u
winner-push us u = last_greatest-push yields (λ u v. key-turned (key_of u) (key_of v))
    (λ u v w. key-chain (key_of u) (key_of v) (key_of w)) us u

-- only the winner of the first part of a list counts
pub winner-front : {T : Type 0} (us vs : List (Update T)) → winner (option_to_list (winner us) ++ vs) ≡ winner (us ++ vs)
winner-front {T} us vs =
    appended (option_to_list (winner us)) ∙ ap (λ o. fold (later yields) o vs) (winner-one (winner us)) ∙ sym (appended us)
  where
    appended : (ws : List (Update T)) → winner (ws ++ vs) ≡ fold (later yields) (winner ws) vs
    appended ws = last_greatest-append yields (λ u v. key-turned (key_of u) (key_of v))
        (λ u v w. key-chain (key_of u) (key_of v) (key_of w)) ws vs
