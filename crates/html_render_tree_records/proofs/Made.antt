-- Settings are made one after another.
use Rattle.std.proofs.Common.{◌≡◌, ℕ, ◌-◌, List, [], ◌∷◌, ◌++◌, length, take, Option, Some, None, ap, sym, subst, refl, ◌∙◌, arith, length-append}
use Rattle.std.specs.List.{slice_get}
use Rattle.std.specs.Option.{option_and_then}
use Rattle.std.proofs.lemmas.Option.{none-some}
use Rattle.html_render_tree.specs.Rendering.{Options}
use Rattle.html_render_tree_records.specs.Settings.{configured, with_setting, IsFaultySetting}
use Rattle.html_render_tree_records.specs.declared.settings.Setting.{Setting}

through : {A B : Type 0} (f g : A → Option B) (o : Option A) (x y : B) → ((a : A) → f a ≡ Some x → g a ≡ Some y) → option_and_then f o ≡ Some x → option_and_then g o ≡ Some y
through f g None x y each is = absurd (none-some x is)
through f g (Some a) x y each is = each a is

taken : {X : Type 0} (done rest : List X) → take (length done) (done ++ rest) ≡ done
taken [] rest = refl
taken (x ∷ done) rest = ap (λ xs. x ∷ xs) (taken done rest)

got : {X : Type 0} (done : List X) (x : X) (rest : List X) → slice_get (done ++ x ∷ rest) (length done) ≡ Some x
got [] x rest = refl
got (y ∷ done) x rest = got done x rest

number_is : {X : Type 0} (done rest : List X) → length (done ++ rest) - length rest ≡ length done
number_is done rest = omega (arith, length-append done rest)

module _ {S : Type 0} (text : List ℕ) where
  pub configured-after : (done : List Setting) (begin options next : Options S) (setting : Setting)
      → configured text done begin ≡ Some options → with_setting text options setting ≡ Some next → configured text (done ++ setting ∷ []) begin ≡ Some next
  configured-after [] begin options next setting is made =
      let made_none : Some begin ≡ Some options = is in
      let same : begin ≡ options = cc in
      ap (λ (o : Option (Options S)). option_and_then (configured text []) o) (ap (λ (o : Options S). with_setting text o setting) same ∙ made)
  configured-after (s ∷ done) begin options next setting is made =
      through (configured text done) (configured text (done ++ setting ∷ [])) (with_setting text begin s) options next
      (λ o h. configured-after done o options next setting h made) is

  faulty_at : (done : List Setting) (begin options : Options S) (setting : Setting) (rest : List Setting)
      → configured text done begin ≡ Some options → with_setting text options setting ≡ None
      → IsFaultySetting text (done ++ setting ∷ rest) begin (length (done ++ setting ∷ rest) - length (setting ∷ rest))
  faulty_at done begin options setting rest is not_made =
      subst (λ (n : ℕ). IsFaultySetting text (done ++ setting ∷ rest) begin n) (sym (number_is done (setting ∷ rest))) (record {
        options = options;
        made_before = ap (λ (xs : List Setting). configured text xs begin) (taken done (setting ∷ rest)) ∙ is;
        setting = setting;
        is_setting = got done setting rest;
        not_made = not_made;
      })

  -- the settings ahead are a faulty one and others
  pub faulty-after : (settings done ahead rest : List Setting) (begin options : Options S) (setting : Setting)
      → settings ≡ done ++ ahead → ahead ≡ setting ∷ rest → configured text done begin ≡ Some options → with_setting text options setting ≡ None
      → IsFaultySetting text settings begin (length settings - length ahead)
  faulty-after settings done ahead rest begin options setting all first is not_made =
      let from : (ahead' : List Setting) → ahead' ≡ setting ∷ rest → IsFaultySetting text (done ++ ahead') begin (length (done ++ ahead') - length ahead') =
      λ ahead' e. subst (λ (xs : List Setting). IsFaultySetting text (done ++ xs) begin (length (done ++ xs) - length xs)) (sym e) (faulty_at done begin options setting rest is not_made) in
      subst (λ (xs : List Setting). IsFaultySetting text xs begin (length xs - length ahead)) (sym all) (from ahead first)
