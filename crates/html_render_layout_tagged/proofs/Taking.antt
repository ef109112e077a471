-- Appending to a line under construction, element by element.
use Rattle.std.proofs.Common.{◌≡◌, ℕ, ◌<◌, Bool, true, List, [], ◌∷◌, ◌++◌, length, Some, None, refl, sym, ap, ◌∙◌, subst}
use Rattle.std.proofs.Common.{append_assoc, append-nil, arith, String, string_bytes}
use Rattle.std.proofs.lemmas.Str.{chars-nil}
use Rattle.std.specs.declared.alloc.Global.{Global}
use Rattle.std.specs.Cmp.{IsEquivalence}
use Rattle.std.specs.Cmp.Lexicographic.{pointwise, lists_equiv}
use Rattle.std.specs.Str.{chars, IsUtf8}
use Rattle.html_render_layout_lines.specs.declared.line.Element.TheVariants as element
use Rattle.html_render_layout_lines.specs.Line.{Line}
use Rattle.html_render_layout_lines.specs.Tags.{line_with}
use Rattle.html_render_layout_lines.specs.TaggedText.{under}
use Rattle.html_render_layout_tagged.specs.Stacks.{stack_at}
use Rattle.html_render_layout_tagged.specs.declared.grouping.Progress.{Progress}
use Rattle.html_render_layout_tagged.specs.declared.grouping.OpenString.{OpenString}
use Rattle.html_render_layout_tagged.specs.Grouping.{LinePart, in_front, grouped, pieces_of}
use Rattle.html_render_layout_tagged.specs.Progress.{pieces_with, Takes}
use Rattle.html_render_layout_tagged.proofs.Pieces.{in_front-joined, grouped-text}

line_with-under : {T U : Type 0} (f : T → U) (tag : T) (cs : List ℕ) (more : Line T ℕ) →
    line_with f (under tag cs ++ more) ≡ under (f tag) cs ++ line_with f more
line_with-under f tag [] more = refl
line_with-under f tag (c ∷ cs) more = ap (λ es. element.Character c (f tag) ∷ es) (line_with-under f tag cs more)

module _ {A : Type 0} (eq : A → A → Bool) (stacks : List (List A)) (names : List (List ℕ)) where
  -- an empty text changes nothing
  pub Takes-empty : (p : Progress A) (bs : List ℕ) (tag : ℕ) → length bs ≡ 0 → Takes eq stacks names p (under tag (chars bs)) p
  Takes-empty p [] tag e = λ more.
      ap (λ cs. pieces_with eq stacks p (grouped (pointwise eq) names (line_with (stack_at stacks) (under tag cs ++ more)))) (sym chars-nil)
  Takes-empty p (b ∷ bs) tag e = absurd (omega (arith, e))

  -- appending some elements and then others is appending both
  pub Takes-then : (p q r : Progress A) (es fs : Line ℕ ℕ) → Takes eq stacks names p es q → Takes eq stacks names q fs r →
      Takes eq stacks names p (es ++ fs) r
  Takes-then p q r es fs one two = λ more. two more ∙ one (fs ++ more)
      ∙ ap (λ es. pieces_with eq stacks p (grouped (pointwise eq) names (line_with (stack_at stacks) es))) (sym (append_assoc es fs more))

  -- a text that is put before all later pieces is appended
  pub Takes-text : IsEquivalence eq → (p q : Progress A) (bs : List ℕ) (tag : ℕ) → IsUtf8 bs → 0 < length bs →
      ((ps : List (LinePart (List A))) → pieces_with eq stacks q ps ≡ pieces_with eq stacks p (in_front (pointwise eq) (chars bs) (stack_at stacks tag) ps)) →
      Takes eq stacks names p (under tag (chars bs)) q
  Takes-text laws p q bs tag utf8 some h = λ more.
      h (grouped (pointwise eq) names (line_with (stack_at stacks) more))
      ∙ ap (pieces_with eq stacks p) (sym (grouped-text (pointwise eq) (lists_equiv laws) names (stack_at stacks tag) bs
      (line_with (stack_at stacks) more) utf8 some)
      ∙ ap (grouped (pointwise eq) names) (sym (line_with-under (stack_at stacks) tag (chars bs) more)))

  -- a part and what is left after it
  pub Takes-part : (p q now : Progress A) (part left line : Line ℕ ℕ) → line ≡ part ++ left → Takes eq stacks names p part q →
      Takes eq stacks names q left now → Takes eq stacks names p line now
  Takes-part p q now part left line e one two = subst (λ l. Takes eq stacks names p l now) (sym e) (Takes-then p q now part left one two)

  -- a whole line
  pub whole-line : (p q : Progress A) (line : Line ℕ ℕ) → p.done.items ≡ [] → p.last ≡ None → Takes eq stacks names p line q →
      pieces_with eq stacks q [] ≡ grouped (pointwise eq) names (line_with (stack_at stacks) line)
  whole-line p q line done last all =
      all [] ∙ rw (done, last) (ap (λ l. grouped (pointwise eq) names (line_with (stack_at stacks) l)) (append-nil line))

-- a text under an equal tag joins the last string
pub joined : {A : Type 0} (eq : A → A → Bool) (stacks : List (List A)) → IsEquivalence eq → (p : Progress A) (last : OpenString)
    (text : String Global) (cs : List ℕ) (tag : ℕ) → p.last ≡ Some last →
    chars (string_bytes text) ≡ chars (string_bytes last.text) ++ cs →
    pointwise eq (stack_at stacks last.tag) (stack_at stacks tag) ≡ true → (ps : List (LinePart (List A))) →
    pieces_with eq stacks (record { done = p.done; last = Some (record { text = text; tag = last.tag }) }) ps
    ≡ pieces_with eq stacks p (in_front (pointwise eq) cs (stack_at stacks tag) ps)
joined eq stacks laws p last text cs tag is joins same ps =
    rw (is, joins) (ap (λ x. pieces_of p.done.items ++ x) (in_front-joined (pointwise eq) (lists_equiv laws) (chars (string_bytes last.text)) cs
    (stack_at stacks last.tag) (stack_at stacks tag) ps same))
