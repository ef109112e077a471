-- Lines that are moved behind prefixes, if they fit.
use Rattle.std.proofs.Common.{◌≡◌, ℕ, ◌+◌, Bool, true, false, cond, leb, ◌||◌, ◌&&◌, List, [], ◌∷◌, ◌++◌, map, Some, None, option_map, refl}
use Rattle.std.proofs.Common.{ap, ◌∙◌, sym, arith}
use Rattle.std.specs.List.{list_all}
use Rattle.std.proofs.lemmas.List.Folds.{list_all-map}
use Rattle.html_render_layout_lines.specs.Line.{Line, columns, marks_line}
use Rattle.html_render_layout_lines.specs.TaggedText.{under, text_columns}
use Rattle.html_render_layout_lines.specs.laws.Columns.{columns-append, columns-marks, columns-under}
use Rattle.html_render_layout_buffer.specs.Prefixed.{prefixed}
use Rattle.html_render_layout_buffer.specs.Pieces.{fits_after}
use Rattle.html_render_layout_blocks.specs.Joined.{moved}

module _ {T M : Type 0} where
  abbrev within : ℕ → Line T M → Bool
  within w l = leb (columns l) w

  same-all : (p q : Line T M → Bool) (ls : List (Line T M)) → ((l : Line T M) → p l ≡ q l) → list_all p ls ≡ list_all q ls
  same-all p q [] e = refl
  same-all p q (l ∷ ls) e = ap (λ b. b && list_all p ls) (e l) ∙ ap (λ b. q l && b) (same-all p q ls e)

  all-fit : (w a b : ℕ) (p q : Line T M) (ls : List (Line T M)) → columns p ≡ a → columns q ≡ b →
      list_all (within w) (prefixed p q ls) ≡ fits_after a b w ls
  all-fit w a b p q [] e f = refl
  all-fit w a b p q (l ∷ ls) e f =
      ap (λ n. leb n w && list_all (within w) (map (λ (k : Line T M). q ++ k) ls)) (omega (arith, e, columns-append p l))
      ∙ ap (λ r. leb (a + columns l) w && r)
      (list_all-map (within w) (λ (k : Line T M). q ++ k) ls
      ∙ same-all (λ k. within w (q ++ k)) (λ k. leb (b + columns k) w) ls (λ k. ap (λ n. leb n w) (omega (arith, f, columns-append q k))))

  pub moved_is : (w : ℕ) (o : Bool) (ns : List M) (tag later_tag : T) (cs ds : List ℕ) (done ls : List (Line T M)) (fit : Bool) →
      fit ≡ fits_after (text_columns cs) (text_columns ds) w ls →
      moved w o ns (under tag cs) (under later_tag ds) done ls
      ≡ cond (o || fit) (Some (done ++ prefixed (marks_line ns ++ under tag cs) (under later_tag ds) ls)) None
  moved_is w o ns tag later_tag cs ds done ls fit e =
      let first : Line T M = marks_line ns ++ under tag cs in
      let all : List (Line T M) = prefixed first (under later_tag ds) ls in
      let own : columns first ≡ text_columns cs =
      omega (arith, columns-append {T = T} {M = M} (marks_line ns) (under tag cs), columns-marks T ns, columns-under M tag cs) in
      let same : list_all (within w) all ≡ fit = all-fit w (text_columns cs) (text_columns ds) first (under later_tag ds) ls own (columns-under M later_tag ds) ∙ sym e in
      ap (λ b. option_map (λ (x : List (Line T M)). done ++ x) (cond (o || b) (Some all) None)) same ∙ by (o || fit) all
    where
      by : (b : Bool) (all : List (Line T M)) →
          option_map (λ (x : List (Line T M)). done ++ x) (cond b (Some all) None) ≡ cond b (Some (done ++ all)) None
      by true all = refl
      by false all = refl

  pub moved_some : (w : ℕ) (o : Bool) (ns : List M) (tag later_tag : T) (cs ds : List ℕ) (done ls : List (Line T M)) (fit : Bool) →
      fit ≡ fits_after (text_columns cs) (text_columns ds) w ls → (o || fit) ≡ true →
      moved w o ns (under tag cs) (under later_tag ds) done ls ≡ Some (done ++ prefixed (marks_line ns ++ under tag cs) (under later_tag ds) ls)
  moved_some w o ns tag later_tag cs ds done ls fit e f =
      moved_is w o ns tag later_tag cs ds done ls fit e
      ∙ ap (λ b. cond b (Some (done ++ prefixed (marks_line ns ++ under tag cs) (under later_tag ds) ls)) None) f

  pub moved_none : (w : ℕ) (o : Bool) (ns : List M) (tag later_tag : T) (cs ds : List ℕ) (done ls : List (Line T M)) (fit : Bool) →
      fit ≡ fits_after (text_columns cs) (text_columns ds) w ls → (o || fit) ≡ false →
      moved w o ns (under tag cs) (under later_tag ds) done ls ≡ None
  moved_none w o ns tag later_tag cs ds done ls fit e f =
      moved_is w o ns tag later_tag cs ds done ls fit e
      ∙ ap (λ b. cond b (Some (done ++ prefixed (marks_line ns ++ under tag cs) (under later_tag ds) ls)) None) f

pub ruleset moves = (moved_some, moved_none)
