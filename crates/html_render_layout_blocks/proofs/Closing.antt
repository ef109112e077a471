-- Closing lines as the code builds them: a space for each newline, and text by text.
use Rattle.std.proofs.Common.{◌≡◌, ◌==◌, length, map, ℕ, Bool, true, false, cond, eqb, ◌&&◌, List, [], ◌∷◌, ◌++◌, Option, Some, None, refl, sym, ap, ◌∙◌}
use Rattle.std.proofs.Common.{append-nil, append_assoc, option_map, option_and_then}
use Rattle.std.proofs.lemmas.Bool.{and_parts}
use Rattle.std.proofs.lemmas.List.{map-append}
use Rattle.std.proofs.lemmas.Str.{chars-encodes, encodes-append}
use Rattle.std.specs.Str.{chars, IsUtf8}
use lib.Utf8.{encode, encodes, scalar, scalars}
use Rattle.html_render_dom_values.specs.declared.errors.Error.{Error}
use Rattle.html_render_dom_values.specs.declared.errors.Error.TheVariants.{TooNarrow, Fail, OutOfMemory}
use Rattle.html_render_dom_values.specs.Outcome.{Refuses}
use Rattle.html_render_dom_values.specs.laws.Outcome.{Refuses-then, Refuses-same}
use Rattle.html_render_layout_paragraphs.specs.CutText.{text_lines}
use Rattle.html_render_layout_lines.specs.Line.{Line}
use Rattle.html_render_layout_blocks.specs.declared.block.BlockSetting.{BlockSetting}
use Rattle.html_render_layout_lines.specs.laws.Cases.{if_cases}
use Rattle.html_render_layout_blocks.specs.Block.{start_block, add_lines, add_closing_lines}
use Rattle.html_render_layout_blocks.specs.Closing.{closing_lines}
use Rattle.html_render_layout_blocks.specs.RowSteps.{on_one_line}
use Rattle.html_render_layout_blocks.specs.Machine.{machine, MachineBlock}
use Rattle.html_render_layout_blocks.specs.laws.Related.{line_setting}

pub ruleset ends = (append-nil)

-- ---- Newlines

pub encodes-unbroken : (cs : List ℕ) (c : ℕ) → encodes (on_one_line (cs ++ c ∷ [])) ≡ encodes (on_one_line cs) ++ encode (cond (eqb c 10) 32 c)
encodes-unbroken cs c =
    ap encodes (map-append (λ d. cond (eqb d 10) 32 d) cs (c ∷ [])) ∙ encodes-append (on_one_line cs) (cond (eqb c 10) 32 c ∷ [])
    ∙ ap (λ bs. encodes (on_one_line cs) ++ bs) (append-nil (encode (cond (eqb c 10) 32 c)))

pub ruleset unbroken_text = (encodes-unbroken)

scalars-unbroken : (cs : List ℕ) → scalars cs ≡ true → scalars (on_one_line cs) ≡ true
scalars-unbroken [] e = refl
scalars-unbroken (c ∷ cs) e =
    let h = and_parts (scalar c) (scalars cs) e in
    ap (λ b. b && scalars (on_one_line cs)) (if_cases (λ d. scalar d ≡ true) (eqb c 10) 32 c (λ _. refl) (λ _. h.0))
    ∙ scalars-unbroken cs h.1

-- Characters of a text that was written with a space for each newline.
pub chars-unbroken : (bs : List ℕ) → IsUtf8 bs → chars (encodes (on_one_line (chars bs))) ≡ on_one_line (chars bs)
chars-unbroken bs u =
    let same : chars bs ≡ u.0 = ap chars (sym u.1.1) ∙ chars-encodes u.0 u.1.0 in
    chars-encodes (on_one_line (chars bs)) (scalars-unbroken (chars bs) (ap scalars same ∙ u.1.0))

-- ---- Text by text

pub closing-step : {T M : Type 0} (s : BlockSetting) (cut : Bool) (tag : T) (t : List ℕ) (ts : List (List ℕ)) (old new : List (Line T M)) →
    option_map (λ more. old ++ more) (text_lines (line_setting s) cut tag (on_one_line t)) ≡ Some new →
    option_map (λ ls. old ++ ls) (closing_lines s cut tag (t ∷ ts)) ≡ option_map (λ ls. new ++ ls) (closing_lines s cut tag ts)
closing-step {T} {M} s cut tag t ts old new = by (text_lines (line_setting s) cut tag (on_one_line t)) (closing_lines s cut tag ts)
  where
    by : (o p : Option (List (Line T M))) → option_map (λ more. old ++ more) o ≡ Some new →
        option_map (λ ls. old ++ ls) (option_and_then (λ first. option_and_then (λ later. Some (first ++ later)) p) o)
        ≡ option_map (λ ls. new ++ ls) p
    by None p e = cc
    by (Some first) None e = refl
    by (Some first) (Some later) e =
        let same : old ++ first ≡ new = cc in
        ap Some (sym (append_assoc old first later) ∙ ap (λ ls. ls ++ later) same)

-- Closing lines of one or more texts, in a block that is started.
pub closing_added : {X T M : Type 0} (f : X → List ℕ) (xs : List X) (b d : MachineBlock T M) (cut : Bool) (tag : T) (ls : List (Line T M)) →
    (length xs == 0) ≡ false → start_block machine b ≡ Some d → closing_lines d.setting cut tag (map f xs) ≡ Some ls →
    add_closing_lines machine b cut tag (map f xs) ≡ Some (add_lines machine d ls)
closing_added f [] b d cut tag ls some own lines = cc
closing_added {X} {T} {M} f (x ∷ xs) b d cut tag ls some own lines =
    ap (option_and_then (λ (e : MachineBlock T M). option_and_then (λ ks. Some (add_lines machine e ks)) (closing_lines e.setting cut tag (map f (x ∷ xs))))) own
    ∙ ap (option_and_then (λ ks. Some (add_lines machine d ks))) lines

-- ---- a text that is refused

refused-map : {X Y : Type 0} (e : Error) (o : Option X) (f : X → Y) → Refuses e o → Refuses e (option_map f o)
refused-map TooNarrow o f h = ap (option_map f) h
refused-map Fail o f h = absurd h
refused-map OutOfMemory o f h = tt

-- what refuses a text refuses all lines
pub closing-refused : {T M : Type 0} (e : Error) (s : BlockSetting) (cut : Bool) (tag : T) (t : List ℕ) (ts : List (List ℕ)) (ls : List (Line T M))
    (all : Option (List (Line T M))) → all ≡ option_map (λ more. ls ++ more) (closing_lines s cut tag (t ∷ ts)) →
    Refuses e (text_lines {M = M} (line_setting s) cut tag (on_one_line t)) → Refuses e all
closing-refused {M = M} e s cut tag t ts ls all is h =
    Refuses-same e all _ is (refused-map e (closing_lines s cut tag (t ∷ ts)) (λ more. ls ++ more)
    (Refuses-then e (text_lines {M = M} (line_setting s) cut tag (on_one_line t)) _ h))
