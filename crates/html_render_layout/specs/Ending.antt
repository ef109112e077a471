-- The closing lines of a document.
use Rattle.std.specs.Prelude.{ℕ, ◌+◌, Bool, List, [], ◌∷◌, ◌++◌, codes, if◌then◌else◌}
use Rattle.std.specs.Fmt.{decimal}
use Rattle.html_render_parts.specs.Decoration.{Decoration}

-- footnote of each link: its number, from this one on, and its target, in UTF-8
abbrev pub footnotes : (number : ℕ) → (targets : List (List ℕ)) → List (List ℕ)
footnotes number [] = []
footnotes number (t ∷ ts) = (codes "[" ++ decimal number ++ codes "]: " ++ t) ∷ footnotes (number + 1) ts

module _ {S A : Type 0} (d : Decoration S A) where
  -- texts of the closing lines: footnotes, if there are any, and then what the decorator returns for all targets
  abbrev pub closing_texts : (link_footnotes : Bool) → S → (targets : List (List ℕ)) → List (List ℕ)
  closing_texts link_footnotes decorator targets = (if link_footnotes then footnotes 1 targets else []) ++ d.finalise decorator targets
