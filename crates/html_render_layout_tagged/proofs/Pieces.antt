-- Putting a text before pieces is putting its characters before them, one by one.
use Rattle.std.proofs.Common.{◌≡◌, ℕ, ◌<◌, Bool, true, List, [], ◌∷◌, ◌++◌, length, refl, sym, ap, ◌∙◌, append_assoc, arith}
use Rattle.std.proofs.lemmas.Bool.{cond_both}
use Rattle.std.specs.Cmp.{IsEquivalence}
use Rattle.std.specs.Str.{chars, IsUtf8, encode_utf8_all}
use Rattle.std.proofs.lemmas.Str.{encodes-chars}
use Rattle.html_render_layout_lines.specs.Line.{Line}
use Rattle.html_render_layout_lines.specs.TaggedText.{under}
use Rattle.html_render_layout_tagged.specs.Grouping.{LinePart, Str, FragmentStart, in_front, grouped}

module _ {T : Type 0} (equal : T → T → Bool) where
  -- two texts under equal tags, one after the other, are put before pieces as one text
  pub in_front-joined : IsEquivalence equal → (text next : List ℕ) (old tag : T) (ps : List (LinePart T)) → equal old tag ≡ true →
      in_front equal (text ++ next) old ps ≡ in_front equal text old (in_front equal next tag ps)
  in_front-joined laws text next old tag [] e = rw e refl
  in_front-joined laws text next old tag (FragmentStart name ∷ ps) e = rw e refl
  in_front-joined laws text next old tag (Str more other ∷ ps) e =
      let same : equal old other ≡ equal tag other = laws.congr old tag other e in
      cond_both (equal tag other) _ _ (λ (x : List (LinePart T)). in_front equal (text ++ next) old (Str more other ∷ ps) ≡ in_front equal text old x)
      (λ f. rw (e, same, f) (ap (λ x. Str x old ∷ ps) (append_assoc text next more)))
      (λ f. rw (e, same, f) refl)

  -- grouping the characters of a text before other elements
  grouped-under : IsEquivalence equal → (names : List (List ℕ)) (tag : T) (c : ℕ) (cs : List ℕ) (more : Line T ℕ) →
      grouped equal names (under tag (c ∷ cs) ++ more) ≡ in_front equal (c ∷ cs) tag (grouped equal names more)
  grouped-under laws names tag c [] more = refl
  grouped-under laws names tag c (d ∷ ds) more =
      ap (in_front equal (c ∷ []) tag) (grouped-under laws names tag d ds more)
      ∙ sym (in_front-joined laws (c ∷ []) (d ∷ ds) tag tag (grouped equal names more) (laws.refl tag))

  pub grouped-text : IsEquivalence equal → (names : List (List ℕ)) (tag : T) (bs : List ℕ) (more : Line T ℕ) → IsUtf8 bs → 0 < length bs →
      grouped equal names (under tag (chars bs) ++ more) ≡ in_front equal (chars bs) tag (grouped equal names more)
  grouped-text laws names tag bs more utf8 some = by (chars bs) (encodes-chars bs utf8)
    where
      by : (cs : List ℕ) → encode_utf8_all cs ≡ bs → grouped equal names (under tag cs ++ more) ≡ in_front equal cs tag (grouped equal names more)
      by [] e = absurd (omega (arith, some, ap length e))
      by (c ∷ cs) e = grouped-under laws names tag c cs more
