-- A border between two rows of the same columns.
use Rattle.std.proofs.Common.{◌≡◌, ℕ, zero, suc, ◌+◌, ◌<◌, ◌≤◌, Bool, true, false, max, List, [], ◌∷◌, ◌++◌, get_or, length, map, drop, replicate, refl, sym, ap, ◌∙◌, arith, append_assoc, append-nil}
use Rattle.std.proofs.lemmas.List.{map-append, length-map, get_or-map, drop_more, drop_all}
use Rattle.std.proofs.lemmas.List.FromFn.{fill_by_all}
use Rattle.std.specs.List.{range_with_len}
use Rattle.html_render_layout_lines.specs.declared.line.Element.{Element}
use Rattle.html_render_layout_lines.specs.declared.line.Element.TheVariants.{Character}
use Rattle.html_render_layout_lines.specs.Line.{Line}
use Rattle.html_render_layout_buffer.specs.Padding.{repeated}
use Rattle.html_render_layout_pictures.specs.declared.borders.TheConstants.{BORDERS}
use Rattle.html_render_layout_pictures.specs.declared.picture.Frame.{Frame}
use Rattle.html_render_layout_pictures.specs.Picture.{border, joint}
use Rattle.html_render_layout_pictures.specs.Separators.{separators_from}

by-places : {X : Type 0} (f : Bool → X) (s : List Bool) → map (λ x. f (get_or s x false)) (range_with_len 0 (length s)) ≡ map f s
by-places f s = sym (fill_by_all (λ x. f (get_or s x false)) (map f s) (length s) (f false) (length-map s f) (λ k lt. get_or-map f s k false (f false) lt))

module _ {T M : Type 0} (frame : Frame T) where
  abbrev sign : Bool → Element T M
  sign b = Character (joint b b) frame.tag

  -- a cross at each separator
  abbrev pub crossed : (blank : ℕ) (others : List ℕ) → Line T M
  crossed blank others = map sign (separators_from blank others)

  dashes : (n : ℕ) → map sign (replicate n false) ≡ repeated frame.tag BORDERS.line n
  dashes zero = refl
  dashes (suc n) = ap (λ l. Character BORDERS.line frame.tag ∷ l) (dashes n)

  -- the characters before a cross, and the cross
  pub crossed-more : (blank w : ℕ) (ws : List ℕ) → crossed blank (w ∷ ws)
      ≡ (repeated frame.tag BORDERS.line blank ++ Character BORDERS.cross frame.tag ∷ []) ++ crossed w ws
  crossed-more blank w ws =
      map-append sign (replicate blank false) (true ∷ separators_from w ws)
      ∙ ap (λ l. l ++ sign true ∷ crossed w ws) (dashes blank)
      ∙ sym (append_assoc (repeated frame.tag BORDERS.line blank) (sign true ∷ []) (crossed w ws))

  -- after the last cross
  pub crossed-end : (blank : ℕ) → crossed blank [] ≡ repeated frame.tag BORDERS.line blank
  crossed-end blank = ap (λ s. map sign s) (append-nil (replicate blank false)) ∙ dashes blank

  pub border-crossed : (blank : ℕ) (others : List ℕ) → border {M = M} frame (separators_from blank others) (separators_from blank others) ≡ crossed blank others
  border-crossed blank others =
      let s = separators_from blank others in
      let same : max (length s) (length s) ≡ length s = omega arith in
      ap (λ n. map (λ x. sign (get_or s x false)) (range_with_len 0 n)) same ∙ by-places sign s

  -- the cells from a place on: the one there, and those after it
  pub next-crossed : (line drawn : Line T M) (blank i : ℕ) (others : List ℕ) → i < length others →
      drawn ≡ (line ++ repeated frame.tag BORDERS.line blank) ++ Character BORDERS.cross frame.tag ∷ [] →
      drawn ++ crossed (get_or others i 0) (drop (i + 1) others) ≡ line ++ crossed blank (drop i others)
  next-crossed line drawn blank i others p e =
      let w = get_or others i 0 in
      let here : drop i others ≡ w ∷ drop (i + 1) others = drop_more others i 0 p in
      let cross : Line T M = Character BORDERS.cross frame.tag ∷ [] in
      let before : Line T M = repeated frame.tag BORDERS.line blank in
      ap (λ l. l ++ crossed w (drop (i + 1) others)) (e ∙ append_assoc line before cross)
      ∙ append_assoc line (before ++ cross) (crossed w (drop (i + 1) others))
      ∙ ap (λ l. line ++ l) (sym (crossed-more blank w (drop (i + 1) others)))
      ∙ ap (λ l. line ++ crossed blank l) (sym here)

  -- after the last cell
  pub all-crossed : (line : Line T M) (blank i : ℕ) (others : List ℕ) → length others ≤ i →
      line ++ repeated frame.tag BORDERS.line blank ≡ line ++ crossed blank (drop i others)
  all-crossed line blank i others h =
      ap (λ l. line ++ l) (sym (crossed-end blank)) ∙ ap (λ l. line ++ crossed blank l) (sym (drop_all i others h))
