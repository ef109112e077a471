-- Texts that are cut where lines are full: the lines have each character of the text, each line is full, and the cuts
-- don't depend on the tag.
use Rattle.std.proofs.Common.{◌≡◌, ℕ, ◌+◌, ◌<◌, Bool, true, false, leb, ◌||◌, List, [], ◌∷◌, ◌++◌, map, Option, refl, sym, ap, ◌∙◌, subst}
use Rattle.std.proofs.Common.{append_assoc, append-nil, IfSome, option_map}
use Rattle.std.proofs.lemmas.Bool.{leb-false}
use Rattle.std.proofs.lemmas.List.{map-append}
use Rattle.html_render_layout_lines.specs.declared.line.Element.{Element}
use Rattle.html_render_layout_lines.specs.declared.line.Element.TheVariants as element
use Rattle.html_render_layout_lines.specs.Character.{width_of, tag_on, character_of}
use Rattle.html_render_layout_lines.specs.Line.{Line, columns, element_width, is_empty}
use Rattle.html_render_layout_paragraphs.specs.Paragraph.{LineBuffer, Setting, empty_buffer, with_character, continued, put_character, put_items}
use Rattle.html_render_layout_paragraphs.specs.Stream.{styled}
use Rattle.html_render_layout_lines.specs.TaggedText.{under}
use Rattle.html_render_layout_paragraphs.specs.CutText.{kept_style, text_lines, together, AreLongest}
use Rattle.html_render_layout_lines.specs.Tags.{line_with, lines_with}
use Rattle.html_render_layout_lines.specs.laws.Cases.{bind_some, map_if, if_cases}
use Rattle.html_render_layout_lines.specs.laws.Tags.{map_with}
use Rattle.html_render_layout_paragraphs.specs.laws.Tags.{page_with, put_items-with, styled-with}

-- ---- Lines that grow

together-push : {T M : Type 0} (ls : List (Line T M)) (l : Line T M) → together (ls ++ l ∷ []) ≡ together ls ++ l
together-push [] l = append-nil l
together-push (k ∷ ls) l = ap (λ r. k ++ r) (together-push ls l) ∙ sym (append_assoc k (together ls) l)

-- One more character on the last line: the lines before it stay full.
grown_longest : {T M : Type 0} (w : ℕ) (ls : List (Line T M)) (l : Line T M) (e : Element T M) → (l ≡ [] → ls ≡ []) →
    AreLongest w (ls ++ l ∷ []) → AreLongest w (ls ++ (l ++ e ∷ []) ∷ [])
grown_longest w [] l e first h = tt
grown_longest w (k ∷ []) [] e first h = absurd h
grown_longest w (k ∷ []) (x ∷ xs) e first h = (h.0, tt)
grown_longest w (k ∷ [] ∷ ls) l e first h = h
grown_longest {T} {M} w (k ∷ (x ∷ xs) ∷ ls) l e first h =
    (h.0, grown_longest w ((x ∷ xs) ∷ ls) l e (λ none. absurd (differs (first none))) h.1)
  where
    differs : {k : Line T M} {ks : List (Line T M)} → k ∷ ks ≡ [] → ⊥
    differs e = cc

-- One more line, for a character that doesn't fit on the last one: all lines before it are full.
next_longest : {T M : Type 0} (w : ℕ) (ls : List (Line T M)) (l : Line T M) (e : Element T M) → w < columns l + element_width e →
    AreLongest w (ls ++ l ∷ []) → AreLongest w ((ls ++ l ∷ []) ++ (e ∷ []) ∷ [])
next_longest w [] l e more h = (more, tt)
next_longest w (k ∷ []) [] e more h = h
next_longest w (k ∷ []) (x ∷ xs) e more h = (h.0, (more, tt))
next_longest w (k ∷ [] ∷ ls) l e more h = h
next_longest w (k ∷ (x ∷ xs) ∷ ls) l e more h = (h.0, next_longest w ((x ∷ xs) ∷ ls) l e more h.1)

pushed-some : {A : Type 0} (xs : List A) (x : A) → xs ++ x ∷ [] ≡ [] → ⊥
pushed-some [] x e = cc
pushed-some (y ∷ xs) x e = cc

-- ---- The line buffer of a text that is cut

-- Whether a line buffer has exactly these elements, no mark waits, and its lines are full. Its open line is empty only if
-- there is no other line.
record Fills {T M : Type 0} (w : ℕ) (all : Line T M) (page : LineBuffer T M) : Type 0 where
  pub elements : together page.lines ++ page.line ≡ all
  pub longest : AreLongest w (page.lines ++ page.line ∷ [])
  pub first : page.line ≡ [] → page.lines ≡ []
  pub none_waits : page.waiting ≡ []

one_tag : {T : Type 0} (M : Type 0) (b : Bool) (tag : T) (c : ℕ) (ms : List M) → ms ≡ [] → ◌≡◌ {A = Line T M} (element.Character c tag ∷ [])
    (map (λ (m : M). element.Mark m) ms ++ element.Character c (tag_on b (character_of (kept_style tag) c)) ∷ [])
one_tag M true tag c ms none = rw none refl
one_tag M false tag c ms none = rw none refl

on_line_fills : {T M : Type 0} (w : ℕ) (all : Line T M) (page : LineBuffer T M) (tag : T) (c : ℕ) → Fills w all page →
    Fills w (all ++ element.Character c tag ∷ []) (with_character page (character_of (kept_style tag) c))
on_line_fills {T} {M} w all page tag c h =
    subst (λ (l : Line T M). Fills w (all ++ element.Character c tag ∷ []) (record page { line = page.line ++ l; waiting = [] }))
    (one_tag M page.continues tag c page.waiting h.none_waits) (record {
      elements = sym (append_assoc (together page.lines) page.line (element.Character c tag ∷ []))
          ∙ ap (λ l. l ++ element.Character c tag ∷ []) h.elements;
      longest = grown_longest w page.lines page.line (element.Character c tag) h.first h.longest;
      first = λ e. absurd (pushed-some page.line (element.Character c tag) e);
      none_waits = refl;
    })

on_next_line_fills : {T M : Type 0} (w : ℕ) (all : Line T M) (page : LineBuffer T M) (tag : T) (c : ℕ) → w < columns page.line + width_of c →
    Fills w all page → Fills w (all ++ element.Character c tag ∷ []) (with_character (continued page) (character_of (kept_style tag) c))
on_next_line_fills {T} {M} w all page tag c more h =
    if_cases (λ (p : LineBuffer T M). Fills w (all ++ element.Character c tag ∷ []) (with_character p (character_of (kept_style tag) c)))
    (is_empty page.line) _ _ (λ _. on_line_fills w all page tag c h)
    (λ _. subst (λ (l : Line T M). Fills w (all ++ element.Character c tag ∷ [])
    (record { lines = page.lines ++ page.line ∷ []; line = l; continues = true; waiting = [] }))
    (one_tag M true tag c page.waiting h.none_waits) (record {
      elements = ap (λ l. l ++ element.Character c tag ∷ []) (together-push page.lines page.line ∙ h.elements);
      longest = next_longest w page.lines page.line (element.Character c tag) more h.longest;
      first = λ e. absurd (pushed-some [] (element.Character c tag) e);
      none_waits = refl;
    }))

put_character_fills : {T M : Type 0} (s : Setting) (all : Line T M) (page : LineBuffer T M) (tag : T) (c : ℕ) → Fills s.width all page →
    IfSome (put_character s page (character_of (kept_style tag) c)) (Fills s.width (all ++ element.Character c tag ∷ []))
put_character_fills {T} {M} s all page tag c h =
    let Filled : Option (LineBuffer T M) → Type 0 = λ o. IfSome o (Fills s.width (all ++ element.Character c tag ∷ [])) in
    if_cases Filled (leb (columns page.line + width_of c) s.width) _ _ (λ _. on_line_fills s.width all page tag c h)
    (λ e. if_cases Filled (leb (width_of c) s.width || s.overflow) _ _
    (λ _. on_next_line_fills s.width all page tag c (leb-false _ _ e) h) (λ _. tt))

put_items_fill : {T M : Type 0} (s : Setting) (all : Line T M) (page : LineBuffer T M) (tag : T) (cs : List ℕ) → Fills s.width all page →
    IfSome (put_items s page (styled (kept_style tag) cs)) (Fills s.width (all ++ under tag cs))
put_items_fill s all page tag [] h = subst (λ l. Fills s.width l page) (sym (append-nil all)) h
put_items_fill {T} {M} s all page tag (c ∷ cs) h =
    let more : Line T M = all ++ element.Character c tag ∷ [] in
    bind_some (Fills s.width more) (Fills s.width (all ++ under tag (c ∷ cs)))
    (λ (p : LineBuffer T M). put_items s p (styled (kept_style tag) cs)) (put_character s page (character_of (kept_style tag) c))
    (put_character_fills s all page tag c h)
    (λ p k. subst (λ l. IfSome (put_items s p (styled (kept_style tag) cs)) (Fills s.width l))
    (append_assoc all (element.Character c tag ∷ []) (under tag cs)) (put_items_fill s more p tag cs k))

text_fills : {T : Type 0} (M : Type 0) (s : Setting) (tag : T) (cs : List ℕ) →
    IfSome (put_items s (empty_buffer []) (styled (kept_style tag) cs)) (Fills {M = M} s.width (under tag cs))
text_fills M s tag cs =
    put_items_fill s [] (empty_buffer []) tag cs (record { elements = refl; longest = tt; first = λ e. refl; none_waits = refl })

-- THE LAW: the lines have each character of the text, in order, and nothing else.
pub cut_holds : {T : Type 0} (M : Type 0) (s : Setting) (tag : T) (cs : List ℕ) →
    IfSome (text_lines {M = M} s true tag cs) (λ ls. together ls ≡ under tag cs)
cut_holds {T} M s tag cs =
    map_if (Fills s.width (under tag cs)) (λ ls. together ls ≡ under tag cs) (λ (p : LineBuffer T M). p.lines ++ p.line ∷ [])
    (put_items s (empty_buffer []) (styled (kept_style tag) cs)) (text_fills M s tag cs) (λ p h. together-push p.lines p.line ∙ h.elements)

-- THE LAW: a text is cut only where a line is full.
pub cut_longest : {T : Type 0} (M : Type 0) (s : Setting) (tag : T) (cs : List ℕ) →
    IfSome (text_lines {M = M} s true tag cs) (AreLongest s.width)
cut_longest {T} M s tag cs =
    map_if (Fills s.width (under tag cs)) (AreLongest s.width) (λ (p : LineBuffer T M). p.lines ++ p.line ∷ [])
    (put_items s (empty_buffer []) (styled (kept_style tag) cs)) (text_fills M s tag cs) (λ p h. h.longest)

-- ---- Tags

module _ {T U M : Type 0} (f : T → U) where
  -- Cuts don't depend on the tag.
  pub cut-with : (s : Setting) (tag : T) (cs : List ℕ) →
      text_lines s true (f tag) cs ≡ option_map (lines_with {M = M} f) (text_lines s true tag cs)
  cut-with s tag cs =
      map_with (page_with f) (lines_with f) (λ (p : LineBuffer T M). p.lines ++ p.line ∷ []) (λ (p : LineBuffer U M). p.lines ++ p.line ∷ [])
      (put_items s (empty_buffer []) (styled (kept_style tag) cs)) (put_items s (empty_buffer []) (styled (kept_style (f tag)) cs))
      (ap (put_items s (empty_buffer [])) (sym (styled-with f (kept_style tag) cs))
      ∙ put_items-with f s (empty_buffer []) (styled (kept_style tag) cs))
      (λ p. sym (map-append (line_with f) p.lines (p.line ∷ [])))

pub ruleset cuts = (cut_holds, cut_longest)
