-- Texts of closing lines: footnote by footnote, and as characters.
use Rattle.std.proofs.Common.{◌≡◌, ℕ, ◌+◌, Bool, List, [], ◌∷◌, ◌++◌, map, Option, Some, None, refl, sym, ap, ◌∙◌, append_assoc}
use Rattle.std.proofs.Common.{option_and_then, option_map}
use Rattle.std.proofs.lemmas.Simd.{map-map}
use Rattle.std.specs.Fmt.{decimal}
use Rattle.std.specs.Prelude.{codes}
use Rattle.std.specs.Str.{chars}
use Rattle.html_render_parts.specs.Decoration.{Decoration}
use Rattle.html_render_layout_blocks.specs.Ends.{DocumentEnd, ended_by}
use Rattle.html_render_layout.specs.declared.state.LayoutState.{LayoutState}
use Rattle.html_render_layout.specs.Ending.{footnotes, closing_texts}
use Rattle.html_render_layout.specs.Layout.{on_block}

pub ruleset joined = (append_assoc)

-- one more footnote
pub footnotes-more : (number : ℕ) (all old new : List (List ℕ)) (t : List ℕ) (ts : List (List ℕ)) →
    all ≡ old ++ footnotes number (t ∷ ts) → new ≡ old ++ (codes "[" ++ decimal number ++ codes "]: " ++ t) ∷ [] → all ≡ new ++ footnotes (number + 1) ts
footnotes-more number all old new t ts before more =
    before ∙ sym (append_assoc old ((codes "[" ++ decimal number ++ codes "]: " ++ t) ∷ []) (footnotes (number + 1) ts))
    ∙ ap (λ xs. xs ++ footnotes (number + 1) ts) (sym more)

-- state with this block, if there is one
abbrev pub with_new : {S K T B : Type 0} → LayoutState S K T B → Option B → Option (LayoutState S K T B)
with_new s o = option_map (λ c. record s { block = c }) o

-- the end of a document, by the finished block and the texts
pub ended-by : {S A K T B X : Type 0} (d : Decoration S A) (end : DocumentEnd B T) (link_footnotes wrap_links : Bool) (tag : T)
    (s : LayoutState S K T B) (b : B) (f : X → List ℕ) (texts : List X) → end.finish s.block ≡ Some b →
    map f texts ≡ closing_texts d link_footnotes s.decorator s.targets →
    on_block (λ b. ended_by end b wrap_links tag (map chars (closing_texts d link_footnotes s.decorator s.targets))) s ≡ with_new s (end.add_closing_lines b wrap_links tag (map (λ t. chars (f t)) texts))
ended-by d end link_footnotes wrap_links tag s b f texts finished same =
    ap (λ o. with_new s (option_and_then (λ b. end.add_closing_lines b wrap_links tag
    (map chars (closing_texts d link_footnotes s.decorator s.targets))) o)) finished
    ∙ ap (λ ts. with_new s (end.add_closing_lines b wrap_links tag ts)) (ap (map chars) (sym same) ∙ map-map chars f texts)
