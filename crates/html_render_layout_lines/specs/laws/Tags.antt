-- Lines with other tags have the same columns; and what is chosen, or follows, commutes with a map if its parts do.
use Rattle.std.proofs.Common.{◌≡◌, ℕ, ◌+◌, Bool, true, false, cond, List, [], ◌∷◌, map, refl, ap, ◌∙◌, Option, None, Some, option_map, option_and_then}
use Rattle.std.specs.List.{fold}
use Rattle.html_render_layout_lines.specs.declared.line.Element.{Element}
use Rattle.html_render_layout_lines.specs.declared.line.Element.TheVariants as element
use Rattle.html_render_layout_lines.specs.Line.{Line, columns, element_width}
use Rattle.html_render_layout_lines.specs.Tags.{element_with, line_with}

pub if_with : {X Y : Type 0} (h : X → Y) (b d : Bool) (x y : X) (u v : Y) → d ≡ b → u ≡ h x → v ≡ h y → cond d u v ≡ h (cond b x y)
if_with h true d x y u v s e f = ap (λ b. cond b u v) s ∙ e
if_with h false d x y u v s e f = ap (λ b. cond b u v) s ∙ f

-- what follows commutes with the map if each step does
pub then_with : {A B C D : Type 0} (h : A → B) (g : C → D) (k : A → Option C) (l : B → Option D) (o : Option A) (p : Option B) →
    p ≡ option_map h o → ((a : A) → l (h a) ≡ option_map g (k a)) → option_and_then l p ≡ option_map g (option_and_then k o)
then_with h g k l None p e f = ap (option_and_then l) e
then_with h g k l (Some a) p e f = ap (option_and_then l) e ∙ f a

pub map_with : {A B C D : Type 0} (h : A → B) (g : C → D) (k : A → C) (l : B → D) (o : Option A) (p : Option B) → p ≡ option_map h o →
    ((a : A) → l (h a) ≡ g (k a)) → option_map l p ≡ option_map g (option_map k o)
map_with h g k l None p e f = ap (option_map l) e
map_with h g k l (Some a) p e f = ap (option_map l) e ∙ ap Some (f a)

-- sums of equal parts
pub sum_same : {A B : Type 0} (h : A → B) (v : A → ℕ) (w : B → ℕ) → ((a : A) → w (h a) ≡ v a) → (n : ℕ) (xs : List A) →
    fold (λ n x. n + w x) n (map h xs) ≡ fold (λ n x. n + v x) n xs
sum_same h v w e n [] = refl
sum_same h v w e n (x ∷ xs) = ap (λ k. fold (λ n y. n + w y) (n + k) (map h xs)) (e x) ∙ sum_same h v w e (n + v x) xs

module _ {T U M : Type 0} (f : T → U) where
  element_same : (e : Element T M) → element_width (element_with f e) ≡ element_width e
  element_same (element.Character c t) = refl
  element_same (element.Mark m) = refl

  pub columns-with : (line : Line T M) → columns (line_with f line) ≡ columns line
  columns-with line = sum_same (element_with f) (λ e. element_width e) (λ e. element_width e) element_same 0 line

  pub marks-with : (ms : List M) → line_with f (map (λ (m : M). element.Mark m) ms) ≡ map (λ (m : M). element.Mark m) ms
  marks-with [] = refl
  marks-with (m ∷ ms) = ap (λ l. element.Mark m ∷ l) (marks-with ms)
