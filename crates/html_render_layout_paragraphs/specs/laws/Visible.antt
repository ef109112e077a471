-- No visible character is lost, none is added, and they keep their order.
use Rattle.std.proofs.Common.{◌≡◌, ℕ, ◌+◌, ◌-◌, ◌%◌, true, not, ◌||◌, List, map, fold, [], ◌∷◌, ◌++◌, Option, Some, None, refl}
use Rattle.std.proofs.Common.{sym, ap, ◌∙◌, leb, eqb, replicate, append_assoc, append-nil, IfSome, zero, suc}
use Rattle.std.specs.Bool.{beq}
use Rattle.std.specs.Char.{is_whitespace}
use Rattle.std.proofs.lemmas.Bool.{eqb-true, and_parts}
use Rattle.std.proofs.Math.Bool.{or-true}
use Rattle.std.proofs.lemmas.Option.{IfSome_then}
use Rattle.std.specs.Option.{option_or}
use Rattle.html_render_dom_values.specs.declared.white_space.WhiteSpace.{WhiteSpace}
use Rattle.html_render_dom_values.specs.declared.white_space.WhiteSpace.TheVariants.{Normal, Pre, PreWrap}
use Rattle.html_render_dom_values.specs.WhiteSpace.{preserves}
use Rattle.html_render_layout_lines.specs.declared.character.Kind.{Kind}
use Rattle.html_render_layout_lines.specs.declared.character.Kind.TheVariants.{Letter, Space, Divider, Dropped, Preserved, Newline, Tab, SoftSpace, SoftTab}
use Rattle.html_render_layout_lines.specs.declared.character.Character.{Character}
use Rattle.html_render_layout_lines.specs.declared.character.Item.{Item}
use Rattle.html_render_layout_lines.specs.declared.character.Item.TheVariants as item
use Rattle.html_render_layout_lines.specs.declared.line.Element.TheVariants as element
use Rattle.html_render_layout_lines.specs.Character.{kind, is_collapsible, has_no_width, width_of, tag_on}
use Rattle.html_render_layout_lines.specs.Line.{Line, columns, marks_line, word_columns, is_empty}
use Rattle.html_render_layout_paragraphs.specs.Paragraph.{Piece, Word, Gap, Cut, Single, Loose, pieces, with_kind, with_mark, LineBuffer, Setting, fits}
use Rattle.html_render_layout_paragraphs.specs.Paragraph.{with_waiting_mark, with_character, put_character, put_items, put_single}
use Rattle.html_render_layout_paragraphs.specs.Placing.{with_line_break, put_word}
use Rattle.html_render_layout_paragraphs.specs.Paragraph.{page_for_word, with_due_space, continued, page_for_single, put_fitting, tab_spaces, place}
use Rattle.html_render_layout_paragraphs.specs.Paragraph.{paragraph, empty_buffer, all_lines}
use Rattle.html_render_layout_lines.specs.laws.Visible.{visible_in_line-append, visible_in_lines-push, visible_in_line-marks}
use Rattle.html_render_layout_lines.specs.Visible.{is_visible, if_visible, visible_in_items, visible_in_line, visible_in_lines}
use Rattle.html_render_layout_lines.specs.laws.Cases.{bind_some, if_cases, nil_from_is_empty}
use Rattle.html_render_layout_paragraphs.specs.laws.Cases.{page_for_single_cases}

-- Visible characters of a line buffer, in order.
abbrev seen : {T M : Type 0} → LineBuffer T M → List ℕ
seen page = visible_in_lines page.lines ++ visible_in_line page.line

-- Whether line buffer p has the visible characters of `page`, followed by these.
abbrev Adds : {T M : Type 0} → LineBuffer T M → List ℕ → LineBuffer T M → Type 0
Adds page cs p = seen p ≡ seen page ++ cs

adds_none : {T M : Type 0} (page p : LineBuffer T M) → seen p ≡ seen page → Adds page [] p
adds_none page p e = e ∙ sym (append-nil (seen page))

adds_then : {T M : Type 0} (page p q : LineBuffer T M) (cs ds : List ℕ) → Adds page cs p → Adds p ds q → Adds page (cs ++ ds) q
adds_then page p q cs ds h k = k ∙ ap (λ r. r ++ ds) h ∙ append_assoc (seen page) cs ds

with_character_adds : {T M : Type 0} (page : LineBuffer T M) (c : Character T) → Adds page (if_visible c.code) (with_character page c)
with_character_adds {T} {M} page c =
    let last : Line T M = element.Character c.code (tag_on page.continues c) ∷ [] in
    let one : visible_in_line last ≡ if_visible c.code = append-nil (if_visible c.code) in
    let new : visible_in_line (marks_line page.waiting ++ last) ≡ if_visible c.code = visible_in_line-append (marks_line page.waiting) last
    ∙ ap (λ r. r ++ visible_in_line last) (visible_in_line-marks T page.waiting) ∙ one in
    ap (λ r. visible_in_lines page.lines ++ r) (visible_in_line-append page.line (marks_line page.waiting ++ last)
    ∙ ap (λ r. visible_in_line page.line ++ r) new)
    ∙ sym (append_assoc (visible_in_lines page.lines) (visible_in_line page.line) (if_visible c.code))

continued_seen : {T M : Type 0} (page : LineBuffer T M) → seen (continued page) ≡ seen page
continued_seen {T} {M} page =
    if_cases (λ (p : LineBuffer T M). seen p ≡ seen page) (is_empty page.line) _ _ (λ _. refl)
    (λ _. append-nil (visible_in_lines (page.lines ++ page.line ∷ [])) ∙ visible_in_lines-push page.lines page.line)

all_lines_seen : {T M : Type 0} (page : LineBuffer T M) → visible_in_lines (all_lines page) ≡ seen page
all_lines_seen {T} {M} page =
    if_cases (λ (ls : List (Line T M)). visible_in_lines ls ≡ seen page) (is_empty page.line) _ _
    (λ e. sym (ap (λ l. visible_in_lines page.lines ++ visible_in_line l) (nil_from_is_empty page.line e)
    ∙ append-nil (visible_in_lines page.lines)))
    (λ _. visible_in_lines-push page.lines page.line)

blank-space : if_visible 32 ≡ []
unfolding is_visible
blank-space = refl

with_due_space_seen : {T M : Type 0} (page : LineBuffer T M) (pending : Option (Character T)) → seen (with_due_space page pending) ≡ seen page
with_due_space_seen page None = refl
with_due_space_seen {T} {M} page (Some c) =
    let last : Line T M = element.Character 32 (tag_on page.continues c) ∷ [] in
    let none : visible_in_line last ≡ [] = ap (λ r. r ++ []) blank-space in
    if_cases (λ (p : LineBuffer T M). seen p ≡ seen page) (is_empty page.line) _ _ (λ _. refl)
    (λ _. ap (λ r. visible_in_lines page.lines ++ r) (visible_in_line-append page.line last ∙ ap (λ r. visible_in_line page.line ++ r) none
    ∙ append-nil (visible_in_line page.line)))

put_character_adds : {T M : Type 0} (s : Setting) (page : LineBuffer T M) (c : Character T) →
    IfSome (put_character s page c) (Adds page (if_visible c.code))
put_character_adds s page c =
    if_cases (λ o. IfSome o (Adds page (if_visible c.code))) (leb (columns page.line + width_of c.code) s.width) _ _
    (λ e. with_character_adds page c)
    (λ _. if_cases (λ o. IfSome o (Adds page (if_visible c.code))) (leb (width_of c.code) s.width || s.overflow) _ _
    (λ e. with_character_adds (continued page) c ∙ ap (λ r. r ++ if_visible c.code) (continued_seen page))
    (λ _. tt))

put_items_adds : {T M : Type 0} (s : Setting) (page : LineBuffer T M) (xs : List (Item T M)) →
    IfSome (put_items s page xs) (Adds page (visible_in_items xs))
put_items_adds s page [] = adds_none page page refl
put_items_adds {T} {M} s page (item.Character c ∷ xs) =
    bind_some (Adds page (if_visible c.code)) (Adds page (if_visible c.code ++ visible_in_items xs)) (λ (p : LineBuffer T M). put_items s p xs)
    (put_character s page c) (put_character_adds s page c)
    (λ p h. IfSome_then (put_items s p xs) (put_items_adds s p xs)
    (λ q k. adds_then page p q (if_visible c.code) (visible_in_items xs) h k))
put_items_adds s page (item.Mark m ∷ xs) = put_items_adds s (with_waiting_mark page m) xs

-- Whether no character is visible.
abbrev AllBlank : {T : Type 0} → List (Character T) → Type 0
AllBlank [] = Unit {0}
AllBlank (c ∷ cs) = (if_visible c.code ≡ []) × AllBlank cs

visible_in_blanks : {T : Type 0} (M : Type 0) (cs : List (Character T)) → AllBlank cs →
    visible_in_items {M = M} (map (λ d. item.Character d) cs) ≡ []
visible_in_blanks M [] h = refl
visible_in_blanks M (c ∷ cs) h = ap (λ r. r ++ visible_in_items {M = M} (map (λ d. item.Character d) cs)) h.0 ∙ visible_in_blanks M cs h.1

put_fitting_seen : {T M : Type 0} (s : Setting) (page : LineBuffer T M) (c : Character T) → if_visible c.code ≡ [] →
    seen (put_fitting s page c) ≡ seen page
put_fitting_seen {T} {M} s page c h =
    if_cases (λ (p : LineBuffer T M). seen p ≡ seen page) (leb (columns page.line + width_of c.code) s.width) _ _
    (λ _. with_character_adds page c ∙ ap (λ r. seen page ++ r) h ∙ append-nil (seen page)) (λ _. refl)

put_all_fitting_seen : {T M : Type 0} (s : Setting) (page : LineBuffer T M) (cs : List (Character T)) → AllBlank cs →
    seen (fold (put_fitting s) page cs) ≡ seen page
put_all_fitting_seen s page [] h = refl
put_all_fitting_seen s page (c ∷ cs) h = put_all_fitting_seen s (put_fitting s page c) cs h.1 ∙ put_fitting_seen s page c h.0

tab_blank : {T : Type 0} (n : ℕ) (c : Character T) → AllBlank (replicate n (record c { code = 32 }))
tab_blank zero c = tt
tab_blank (suc n) c = (blank-space, tab_blank n c)

put_word_adds : {T M : Type 0} (s : Setting) (page : LineBuffer T M) (pending : Option (Character T)) (word : List (Item T M)) →
    IfSome (put_word s page pending word) (Adds page (visible_in_items word))
put_word_adds {T} {M} s page pending word =
    let e : seen (page_for_word s page pending word) ≡ seen page =
    if_cases (λ (p : LineBuffer T M). seen p ≡ seen page)
    (fits s (with_due_space page pending) (word_columns word)) _ _ (λ _. with_due_space_seen page pending)
    (λ _. continued_seen page) in
    IfSome_then (put_items s (page_for_word s page pending word) word) (put_items_adds s (page_for_word s page pending word) word)
    (λ q k. k ∙ ap (λ r. r ++ visible_in_items word) e)

-- Visible characters of a character that is placed by itself: the character, if it is preserved and visible.
abbrev shown : {T : Type 0} → Kind → Character T → List ℕ
shown Preserved c = if_visible c.code
shown k c = []

-- Whether a character of a kind is a letter, is preserved, or isn't visible.
abbrev IsHidden : {T : Type 0} → Kind → Character T → Type 0
IsHidden Letter c = Unit {0}
IsHidden Preserved c = Unit {0}
IsHidden k c = if_visible c.code ≡ []

put_single_adds : {T M : Type 0} (s : Setting) (page : LineBuffer T M) (k : Kind) (c : Character T) → IsHidden k c →
    IfSome (put_single s page k c) (Adds page (shown k c))
put_single_adds s page Preserved c h = put_character_adds s page c
put_single_adds s page SoftSpace c h = adds_none page (put_fitting s page c) (put_fitting_seen s page c h)
put_single_adds s page Newline c h =
    adds_none page (with_line_break page) (append-nil (visible_in_lines (page.lines ++ page.line ∷ []))
    ∙ visible_in_lines-push page.lines page.line)
put_single_adds {T} {M} s page Tab c h =
    let spaces : List (Character T) = tab_spaces page c in
    let none = visible_in_blanks M spaces (tab_blank (8 - columns page.line % 8) c) in
    IfSome_then (put_items s page (map (λ d. item.Character d) spaces)) (put_items_adds s page (map (λ d. item.Character d) spaces))
    (λ p k. k ∙ ap (λ r. seen page ++ r) none)
put_single_adds s page SoftTab c h =
    adds_none page (fold (put_fitting s) page (tab_spaces page c))
    (put_all_fitting_seen s page (tab_spaces page c) (tab_blank (8 - columns page.line % 8) c))
put_single_adds s page k c h = adds_none page page refl

-- Visible characters of pieces, in order.
abbrev in_pieces : {T M : Type 0} → List (Piece T M) → List ℕ
in_pieces [] = []
in_pieces (Word k w ∷ ps) = visible_in_items w ++ in_pieces ps
in_pieces (Single k c ∷ ps) = shown k c ++ in_pieces ps
in_pieces (p ∷ ps) = in_pieces ps

-- Whether each character that is placed by itself is preserved or isn't visible.
abbrev AreProper : {T M : Type 0} → List (Piece T M) → Type 0
AreProper [] = Unit {0}
AreProper (Single k c ∷ ps) = IsHidden k c × AreProper ps
AreProper (p ∷ ps) = AreProper ps

place_adds : {T M : Type 0} (s : Setting) (page : LineBuffer T M) (pending : Option (Character T)) (ps : List (Piece T M)) → AreProper ps →
    IfSome (place s page pending ps) (Adds page (in_pieces ps))
place_adds s page pending [] h = adds_none page page refl
place_adds {T} {M} s page pending (Word k w ∷ ps) h =
    bind_some (Adds page (visible_in_items w)) (Adds page (visible_in_items w ++ in_pieces ps)) (λ (p : LineBuffer T M). place s p None ps)
    (put_word s page pending w) (put_word_adds s page pending w)
    (λ p f. IfSome_then (place s p None ps) (place_adds s p None ps h) (λ q g. adds_then page p q (visible_in_items w) (in_pieces ps) f g))
place_adds s page pending (Gap c ∷ ps) h = place_adds s page (option_or pending (Some c)) ps h
place_adds s page pending (Cut ∷ ps) h = place_adds s page pending ps h
place_adds {T} {M} s page pending (Single k c ∷ ps) h =
    let e : seen (page_for_single s page pending k) ≡ seen page =
    page_for_single_cases (λ (p : LineBuffer T M). seen p ≡ seen page) s page pending k refl (λ _. with_due_space_seen page pending) in
    bind_some (Adds (page_for_single s page pending k) (shown k c)) (Adds page (shown k c ++ in_pieces ps))
    (λ (p : LineBuffer T M). place s p None ps) (put_single s (page_for_single s page pending k) k c)
    (put_single_adds s (page_for_single s page pending k) k c h.0)
    (λ p f. IfSome_then (place s p None ps) (place_adds s p None ps h.1)
    (λ q g. adds_then page p q (shown k c) (in_pieces ps) (f ∙ ap (λ r. r ++ shown k c) e) g))
place_adds s page pending (Loose m ∷ ps) h = place_adds s (with_waiting_mark page m) pending ps h

-- ---- Visible characters of the pieces are those that were fed

dark_space : (n : ℕ) → is_collapsible n ≡ true → if_visible n ≡ []
unfolding is_visible
dark_space n e = let space = (and_parts (is_whitespace n) (not (eqb n 0xA0)) e).0 in rw space refl

dark_divider : (n : ℕ) → eqb n 0x200B ≡ true → if_visible n ≡ []
unfolding is_visible
dark_divider n e = rw (e, or-true (is_whitespace n)) refl

dark_dropped : (n : ℕ) → has_no_width n ≡ true → if_visible n ≡ []
unfolding is_visible
dark_dropped n e = rw (e, or-true (is_whitespace n || eqb n 0x200B)) refl

dark_at : (n m : ℕ) → eqb n m ≡ true → if_visible m ≡ [] → if_visible n ≡ []
dark_at n m e h = let same_number : n ≡ m = eqb-true n m e in rw same_number h

dark_newline : if_visible 10 ≡ []
unfolding is_visible
dark_newline = refl

dark_tab : if_visible 9 ≡ []
unfolding is_visible
dark_tab = refl

hidden : {T : Type 0} (mode : WhiteSpace) (c : Character T) → IsHidden (kind mode c.code) c
unfolding kind
hidden Normal c =
    if_cases (λ k. IsHidden k c) (is_collapsible c.code) _ _ (λ e. dark_space c.code e)
    (λ _. if_cases (λ k. IsHidden k c) (eqb c.code 0x200B) _ _ (λ e. dark_divider c.code e)
    (λ _. if_cases (λ k. IsHidden k c) (has_no_width c.code) _ _ (λ e. dark_dropped c.code e) (λ _. tt)))
hidden Pre c =
    if_cases (λ k. IsHidden k c) (eqb c.code 10) _ _ (λ e. dark_at c.code 10 e dark_newline)
    (λ _. if_cases (λ k. IsHidden k c) (eqb c.code 9) _ _ (λ e. dark_at c.code 9 e dark_tab)
    (λ _. if_cases (λ k. IsHidden k c) (has_no_width c.code) _ _ (λ e. dark_dropped c.code e) (λ _. tt)))
hidden PreWrap c =
    if_cases (λ k. IsHidden k c) (eqb c.code 10) _ _ (λ e. dark_at c.code 10 e dark_newline)
    (λ _. if_cases (λ k. IsHidden k c) (eqb c.code 9) _ _ (λ e. dark_at c.code 9 e dark_tab)
    (λ _. if_cases (λ k. IsHidden k c) (has_no_width c.code) _ _ (λ e. dark_dropped c.code e)
    (λ _. if_cases (λ k. IsHidden k c) (is_collapsible c.code) _ _ (λ e. dark_space c.code e)
    (λ _. if_cases (λ k. IsHidden k c) (eqb c.code 0x200B) _ _ (λ e. dark_divider c.code e) (λ _. tt)))))

with_letter_keeps : {T M : Type 0} (c : Character T) (ps : List (Piece T M)) →
    in_pieces (with_kind Letter c ps) ≡ if_visible c.code ++ in_pieces ps
with_letter_keeps {T} {M} c (Word k w ∷ ps) =
    if_cases (λ (qs : List (Piece T M)). in_pieces qs ≡ if_visible c.code ++ (visible_in_items w ++ in_pieces ps))
    (beq (preserves c.mode) k) _ _
    (λ _. append_assoc (if_visible c.code) (visible_in_items w) (in_pieces ps))
    (λ _. ap (λ r. r ++ (visible_in_items w ++ in_pieces ps)) (append-nil (if_visible c.code)))
with_letter_keeps c ps = ap (λ r. r ++ in_pieces ps) (append-nil (if_visible c.code))

with_kind_keeps : {T M : Type 0} (k : Kind) (c : Character T) (ps : List (Piece T M)) → IsHidden k c →
    in_pieces (with_kind k c ps) ≡ if_visible c.code ++ in_pieces ps
with_kind_keeps Letter c ps h = with_letter_keeps c ps
with_kind_keeps Preserved c ps h = refl
with_kind_keeps k c ps h = ap (λ r. r ++ in_pieces ps) (sym h)

with_mark_keeps : {T M : Type 0} (m : M) (ps : List (Piece T M)) → in_pieces (with_mark m ps) ≡ in_pieces ps
with_mark_keeps m (Word k w ∷ ps) = refl
with_mark_keeps m ps = refl

pieces_keep : {T M : Type 0} (xs : List (Item T M)) → in_pieces (pieces xs) ≡ visible_in_items xs
pieces_keep [] = refl
pieces_keep (item.Character c ∷ xs) = with_kind_keeps (kind c.mode c.code) c (pieces xs) (hidden c.mode c)
    ∙ ap (λ r. if_visible c.code ++ r) (pieces_keep xs)
pieces_keep (item.Mark m ∷ xs) = with_mark_keeps m (pieces xs) ∙ pieces_keep xs

with_kind_proper : {T M : Type 0} (k : Kind) (c : Character T) (ps : List (Piece T M)) → IsHidden k c → AreProper ps →
    AreProper (with_kind k c ps)
with_kind_proper {T} {M} Letter c (Word k w ∷ ps) i h =
    if_cases (λ (qs : List (Piece T M)). AreProper qs) (beq (preserves c.mode) k) _ _ (λ _. h) (λ _. h)
with_kind_proper Letter c ps i h = h
with_kind_proper Space c ps i h = h
with_kind_proper Divider c ps i h = h
with_kind_proper Dropped c ps i h = h
with_kind_proper k c ps i h = (i, h)

with_mark_proper : {T M : Type 0} (m : M) (ps : List (Piece T M)) → AreProper ps → AreProper (with_mark m ps)
with_mark_proper m (Word k w ∷ ps) h = h
with_mark_proper m ps h = h

pieces_proper : {T M : Type 0} (xs : List (Item T M)) → AreProper (pieces xs)
pieces_proper [] = tt
pieces_proper (item.Character c ∷ xs) = with_kind_proper (kind c.mode c.code) c (pieces xs) (hidden c.mode c) (pieces_proper xs)
pieces_proper (item.Mark m ∷ xs) = with_mark_proper m (pieces xs) (pieces_proper xs)

page_keeps : {T M : Type 0} (s : Setting) (marks : List M) (xs : List (Item T M)) →
    IfSome (paragraph s marks xs) (λ p. seen p ≡ visible_in_items xs)
page_keeps s marks xs = IfSome_then (paragraph s marks xs) (place_adds s (empty_buffer marks) None (pieces xs) (pieces_proper xs)) (λ p k. k
    ∙ pieces_keep xs)

-- THE LAW: the lines have exactly the visible characters that were fed, in order.
pub paragraph_keeps : {T M : Type 0} (s : Setting) (marks : List M) (xs : List (Item T M)) →
    IfSome (paragraph s marks xs) (λ p. visible_in_lines (all_lines p) ≡ visible_in_items xs)
paragraph_keeps s marks xs = IfSome_then (paragraph s marks xs) (page_keeps s marks xs) (λ p h. all_lines_seen p ∙ h)
