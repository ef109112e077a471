-- Lines of a row whose characters have one tag.
use Rattle.std.proofs.Common.{◌≡◌, ◌==◌, ℕ, ◌+◌, ◌-◌, ◌<◌, ◌≤◌, Bool, true, false, cond, List, [], ◌∷◌, ◌++◌, drop, length, get_or, replicate, refl, sym, ap, ◌∙◌, arith, append_assoc, append-nil}
use Rattle.std.specs.Prelude.{String}
use Rattle.std.specs.String.{string_bytes}
use Rattle.std.specs.Str.{chars}
use Rattle.std.proofs.lemmas.Str.{chars-nil}
use Rattle.std.proofs.lemmas.List.{map-append, replicate-append-replicate, drop_more, drop-drop, drop_all}
use Rattle.std.proofs.lemmas.List.Sums.{sum_by-append}
use Rattle.html_render_layout_lines.specs.declared.line.Element.{Element}
use Rattle.html_render_layout_lines.specs.declared.line.Element.TheVariants as element
use Rattle.html_render_layout_lines.specs.Character.{width_of}
use Rattle.html_render_layout_lines.specs.Line.{Line, columns, text_bytes, marks_line}
use Rattle.html_render_layout_lines.specs.TaggedText.{text_columns, under}
use Rattle.html_render_layout_buffer.specs.Lines.{BufferedLines}
use Rattle.html_render_layout_buffer.specs.Padding.{repeated}
use Rattle.html_render_layout_pictures.specs.declared.borders.TheConstants.{BORDERS}
use Rattle.html_render_layout_pictures.specs.declared.cells.RowCell.{RowCell}
use Rattle.html_render_layout_pictures.specs.declared.gaps.Filler.TheVariants.{Space}
use Rattle.html_render_layout_pictures.specs.declared.picture.Frame.{Frame}
use Rattle.html_render_layout_pictures.specs.RowCells.{cell_at, cells_of, line_total}
use Rattle.html_render_layout_pictures.specs.Rows.{separator, marked_cell, filled_at, cells_behind}
use Rattle.html_render_layout_pictures.specs.laws.Fillers.{fillers_width, under-replicate}
use Rattle.html_render_layout_pictures.proofs.CellLines.{none-here, line-here}

-- ---- a text and its columns

pub no-text : {Z : Type 0} (text : String Z) → string_bytes text ≡ [] → chars (string_bytes text) ≡ []
no-text text e = ap chars e ∙ chars-nil

pub no-columns : {Z : Type 0} (text : String Z) → string_bytes text ≡ [] → 0 ≡ text_columns (chars (string_bytes text))
no-columns text e = sym (ap text_columns (no-text text e))

pub columns-added : (old new cs : List ℕ) (n m sum : ℕ) → n ≡ text_columns old → m ≡ text_columns cs → sum ≡ n + m → new ≡ old ++ cs → sum ≡ text_columns new
columns-added old new cs n m sum e h s k = omega (arith, e, h, s, ap text_columns k, sum_by-append width_of old cs)

-- ---- spaces

pub spaces_wide : (count : ℕ) → text_columns (replicate count 0x20) ≡ count
spaces_wide count = fillers_width Space count

-- some of them, and the ones that are left, are all of them
pub spaces_parted : (text : List ℕ) (next left : ℕ) → next ≤ left → (text ++ replicate next 0x20) ++ replicate (left - next) 0x20 ≡ text ++ replicate left 0x20
spaces_parted text next left h =
    let whole : next + (left - next) ≡ left = omega (arith, h) in
    append_assoc text (replicate next 0x20) (replicate (left - next) 0x20)
    ∙ ap (λ l. text ++ l) (replicate-append-replicate next (left - next) 0x20)
    ∙ ap (λ n. text ++ replicate n 0x20) whole

pub spaces_ended : (text : List ℕ) (few count : ℕ) → few ≤ count → (text ++ replicate (count - few) 0x20) ++ replicate few 0x20 ≡ text ++ replicate count 0x20
spaces_ended text few count h =
    let whole : count - few + few ≡ count = omega (arith, h) in
    append_assoc text (replicate (count - few) 0x20) (replicate few 0x20)
    ∙ ap (λ l. text ++ l) (replicate-append-replicate (count - few) few 0x20)
    ∙ ap (λ n. text ++ replicate n 0x20) whole

-- the last of them with a separator
pub gap-parted : (text : List ℕ) (missing few c : ℕ) → few ≤ missing →
    (text ++ replicate (missing - few) 0x20) ++ (replicate few 0x20 ++ c ∷ []) ≡ (text ++ replicate missing 0x20) ++ c ∷ []
gap-parted text missing few c h =
    let whole : missing - few + few ≡ missing = omega (arith, h) in
    sym (append_assoc (text ++ replicate (missing - few) 0x20) (replicate few 0x20) (c ∷ []))
    ∙ ap (λ l. l ++ c ∷ []) (append_assoc text (replicate (missing - few) 0x20) (replicate few 0x20))
    ∙ ap (λ l. (text ++ l) ++ c ∷ []) (replicate-append-replicate (missing - few) few 0x20 ∙ ap (λ n. replicate n 0x20) whole)

-- the lines of the cell at a place, and of those after it, are among all lines
pub next-within : {M : Type 0} (start i n : ℕ) (c : RowCell M) (others : List (RowCell M)) → i < length others → c ≡ get_or others i c →
    start + line_total (drop i others) ≤ n → start + c.count + line_total (drop (i + 1) others) ≤ n
next-within start i n c others p is h =
    let here : drop i others ≡ c ∷ drop (i + 1) others = drop_more others i c p ∙ ap (λ x. x ∷ drop (i + 1) others) (sym is) in
    omega (arith, h, ap line_total here)

module _ {T M : Type 0} where
  -- ---- a cell's own line

  abbrev written : T → List ℕ → BufferedLines T M
  written tag text = record { lines = []; line = under tag text }

  pub none-put : (tag : T) (text : List ℕ) (c : RowCell M) (ls : List (Line T M)) (k : ℕ) → c.count ≤ length ls → c.count ≤ k →
      under tag text ++ repeated tag 0x20 c.width ≡ under tag text ++ filled_at tag k (marked_cell (cell_at c ls))
  none-put tag text c ls k h n = ap (λ (b : BufferedLines T M). b.line) (none-here tag (written tag text) c ls k h n)

  pub line-put : (tag : T) (old new : List ℕ) (c : RowCell M) (ls : List (Line T M)) (start k missing : ℕ) → k < c.count → start + c.count ≤ length ls →
      c.marks.items ≡ [] → get_or ls (start + k) [] ≡ under tag (chars (text_bytes (get_or ls (start + k) []))) →
      new ≡ old ++ chars (text_bytes (get_or ls (start + k) [])) → missing ≡ c.width - columns (get_or ls (start + k) []) →
      under tag new ++ repeated tag 0x20 missing ≡ under tag old ++ filled_at tag k (marked_cell (cell_at c (drop start ls)))
  line-put tag old new c ls start k missing h w marks plain e m =
      let own : Line T M = get_or ls (start + k) [] in
      let more : under tag new ≡ under tag old ++ own =
      ap (λ cs. under {M = M} tag cs) e ∙ map-append (λ (x : ℕ). element.Character x tag) old (chars (text_bytes own))
      ∙ ap (λ (l : Line T M). under tag old ++ l) (sym plain) in
      let whole : written tag new ≡ record { lines = []; line = (under tag old ++ own) ++ cond (k + 1 == c.count) (marks_line c.marks.items) [] } =
      ap (λ (l : Line T M). record { lines = []; line = l }) (more ∙ sym (append-nil (under tag old ++ own))
      ∙ ap (λ l. (under tag old ++ own) ++ l) (none-marked (k + 1 == c.count))) in
      ap (λ (b : BufferedLines T M). b.line) (line-here tag (written tag old) (written tag new) c ls start k missing h w whole m)
    where
      none-marked : (b : Bool) → [] ≡ cond b (marks_line {T = T} c.marks.items) []
      none-marked true = sym (ap (λ ms. marks_line {T = T} ms) marks)
      none-marked false = refl

  -- ---- cell after cell

  pub one-plain : (frame : Frame T) (k : ℕ) (old t1 t2 : List ℕ) (missing left : ℕ) (c : RowCell M) (cs : List (RowCell M)) (ls : List (Line T M)) →
      t1 ≡ (old ++ replicate missing 0x20) ++ cond frame.borders BORDERS.separator 0x20 ∷ [] →
      under frame.tag t2 ++ repeated frame.tag 0x20 left ≡ under frame.tag t1 ++ filled_at frame.tag k (marked_cell (cell_at c ls)) →
      (under frame.tag t2 ++ repeated frame.tag 0x20 left) ++ cells_behind frame k (cells_of cs (drop c.count ls))
      ≡ (under frame.tag old ++ repeated frame.tag 0x20 missing) ++ cells_behind frame k (cells_of (c ∷ cs) ls)
  one-plain frame k old t1 t2 missing left c cs ls e h =
      let char : ℕ → Element T M = λ x. element.Character x frame.tag in
      let sep : ℕ = cond frame.borders BORDERS.separator 0x20 in
      let front : Line T M = under frame.tag old ++ repeated frame.tag 0x20 missing in
      let own : Line T M = filled_at frame.tag k (marked_cell (cell_at c ls)) in
      let behind : Line T M = cells_behind frame k (cells_of cs (drop c.count ls)) in
      let gap : under frame.tag t1 ≡ front ++ separator frame ∷ [] =
      ap (λ xs. under {M = M} frame.tag xs) e ∙ map-append char (old ++ replicate missing 0x20) (sep ∷ [])
      ∙ ap (λ l. l ++ char sep ∷ []) (map-append char old (replicate missing 0x20) ∙ ap (λ l. under frame.tag old ++ l) (under-replicate M frame.tag 0x20 missing)) in
      ap (λ l. l ++ behind) (h ∙ ap (λ l. l ++ own) gap ∙ append_assoc front (separator frame ∷ []) own)
      ∙ append_assoc front (separator frame ∷ own) behind

  -- the cells from a place on: the one there, and those after it
  pub next-plain : (frame : Frame T) (k : ℕ) (old t1 t2 : List ℕ) (missing left start i : ℕ) (c : RowCell M) (others : List (RowCell M)) (ls : List (Line T M)) →
      i < length others → c ≡ get_or others i c →
      t1 ≡ (old ++ replicate missing 0x20) ++ cond frame.borders BORDERS.separator 0x20 ∷ [] →
      under frame.tag t2 ++ repeated frame.tag 0x20 left ≡ under frame.tag t1 ++ filled_at frame.tag k (marked_cell (cell_at c (drop start ls))) →
      (under frame.tag t2 ++ repeated frame.tag 0x20 left) ++ cells_behind frame k (cells_of (drop (i + 1) others) (drop (start + c.count) ls))
      ≡ (under frame.tag old ++ repeated frame.tag 0x20 missing) ++ cells_behind frame k (cells_of (drop i others) (drop start ls))
  next-plain frame k old t1 t2 missing left start i c others ls p is e h =
      let front : Line T M = under frame.tag t2 ++ repeated frame.tag 0x20 left in
      let here : c ∷ drop (i + 1) others ≡ drop i others = ap (λ x. x ∷ drop (i + 1) others) is ∙ sym (drop_more others i c p) in
      ap (λ (y : List (Line T M)). front ++ cells_behind frame k (cells_of (drop (i + 1) others) y)) (sym (drop-drop c.count start ls))
      ∙ one-plain frame k old t1 t2 missing left c (drop (i + 1) others) (drop start ls) e h
      ∙ ap (λ cs. (under frame.tag old ++ repeated frame.tag 0x20 missing) ++ cells_behind frame k (cells_of cs (drop start ls))) here

  -- after the last cell
  pub all-put : (frame : Frame T) (k : ℕ) (text : List ℕ) (missing i : ℕ) (others : List (RowCell M)) (ls : List (Line T M)) (whole : Line T M) → length others ≤ i →
      (under frame.tag text ++ repeated frame.tag 0x20 missing) ++ cells_behind frame k (cells_of (drop i others) ls) ≡ whole →
      under frame.tag (text ++ replicate missing 0x20) ≡ whole
  all-put frame k text missing i others ls whole h e =
      let all : Line T M = under frame.tag text ++ repeated frame.tag 0x20 missing in
      map-append (λ (x : ℕ). element.Character x frame.tag) text (replicate missing 0x20)
      ∙ ap (λ l. under frame.tag text ++ l) (under-replicate M frame.tag 0x20 missing)
      ∙ sym (append-nil all)
      ∙ ap (λ cs. all ++ cells_behind frame k (cells_of cs ls)) (sym (drop_all i others h)) ∙ e
