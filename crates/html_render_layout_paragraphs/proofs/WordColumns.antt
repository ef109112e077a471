-- Columns of a word that grows.
use Rattle.std.proofs.Common.{◌≡◌, ℕ, ◌+◌, ◌-◌, ◌≤◌, List, [], ◌∷◌, ◌++◌, Option, None, Some, take, drop, length, subst, sym, refl, ap, ◌∙◌, arith, option_and_then}
use Rattle.std.proofs.lemmas.List.{map-append, drop-drop, length-drop}
use Rattle.std.proofs.lemmas.List.Sums.{sum_by-cons}
use Rattle.std.specs.Str.{chars}
use Rattle.html_render_layout_lines.specs.declared.character.Item.{Item}
use Rattle.html_render_layout_lines.specs.declared.character.Item.TheVariants as item
use Rattle.html_render_layout_lines.specs.declared.character.TextStyle.{TextStyle}
use Rattle.html_render_layout_lines.specs.declared.line.Element.{Element}
use Rattle.html_render_layout_lines.specs.declared.line.tagged_text.Run.{Run}
use Rattle.html_render_layout_lines.specs.declared.line.tagged_text.Run.TheVariants as run
use Rattle.html_render_layout_lines.specs.Character.{width_of, character_of}
use Rattle.html_render_layout_lines.specs.Line.{Line, word_columns}
use Rattle.html_render_layout_paragraphs.specs.Paragraph.{LineBuffer, Setting, put_items, with_waiting_mark}
use Rattle.html_render_layout_paragraphs.specs.laws.Whole.{put_items-append, then_same}
use Rattle.html_render_layout_lines.specs.laws.Columns.{word_columns-append, word_columns-cons}
use Rattle.html_render_layout_paragraphs.specs.Stream.{State, on_page, styled}
use Rattle.html_render_layout_paragraphs.specs.Feeding.{put_runs}
use Rattle.html_render_layout_lines.specs.TaggedText.{Cuts, under, text_columns, item_of, items_of, elements_of, open_elements}

pub items-append : {T M : Type 0} (a b : Line (TextStyle T) M) → items_of (a ++ b) ≡ items_of a ++ items_of b
items-append {T} {M} a b = map-append {B = Item T M} (λ (e : Element (TextStyle T) M). item_of e) a b

pub items-under : {T : Type 0} (M : Type 0) (style : TextStyle T) (cs : List ℕ) → items_of {M = M} (under style cs) ≡ styled style cs
items-under M style [] = refl
items-under {T} M style (c ∷ cs) = ap (λ (xs : List (Item T M)). item.Character (character_of style c) ∷ xs) (items-under M style cs)

pub word_columns-styled : {T : Type 0} (M : Type 0) (style : TextStyle T) (cs : List ℕ) →
    word_columns {M = M} (styled style cs) ≡ text_columns cs
word_columns-styled M style [] = refl
word_columns-styled M style (c ∷ cs) =
    omega (
      arith,
      word_columns-cons {M = M} (item.Character (character_of style c)) (styled style cs),
      sum_by-cons width_of c cs,
      word_columns-styled M style cs,
    )

-- A word that grows, and its columns.
pub items-grown : {T M : Type 0} (word more new : Line (TextStyle T) M) → new ≡ word ++ more → items_of new ≡ items_of word ++ items_of more
items-grown {T} {M} word more new e = ap (λ (l : Line (TextStyle T) M). items_of l) e ∙ items-append word more

pub columns-grown : {T M : Type 0} (word more new : Line (TextStyle T) M) (n : ℕ) → new ≡ word ++ more → n ≡ word_columns (items_of more) →
    word_columns (items_of word) + n ≡ word_columns (items_of new)
columns-grown word more new n e h =
    omega (arith, h, ap word_columns (items-grown word more new e), word_columns-append (items_of word) (items_of more))

pub ruleset texts = (word_columns-styled)

-- ---- Items of a word that is placed part by part

put_runs-items : {T M : Type 0} (s : Setting) (page : LineBuffer T M) (rs : List (Run (TextStyle T) M)) (bs : List ℕ) →
    put_items s page (items_of (elements_of rs bs)) ≡ put_runs s page rs bs
put_runs-items s page [] bs = refl
put_runs-items s page (run.Mark m ∷ rs) bs = put_runs-items s (with_waiting_mark page m) rs bs
put_runs-items {T} {M} s page (run.Text n style ∷ rs) bs =
    let cs : List ℕ = chars (take n bs) in
    let whole : items_of (elements_of (run.Text n style ∷ rs) bs) ≡ styled style cs ++ items_of (elements_of rs (drop n bs)) =
    items-append (under style cs) (elements_of rs (drop n bs))
    ∙ ap (λ (xs : List (Item T M)). xs ++ items_of (elements_of rs (drop n bs))) (items-under M style cs) in
    ap (put_items s page) whole ∙ put_items-append s page (styled style cs) (items_of (elements_of rs (drop n bs)))
    ∙ then_same _ _ (put_items s page (styled style cs)) (λ p. put_runs-items s p rs (drop n bs))

-- A step that leaves a state, and what is placed after it.
on_page-then : {T M : Type 0} (st new : State T M) (o : Option (LineBuffer T M)) (f : State T M → Option (LineBuffer T M)) → on_page st o ≡ Some new →
    on_page st (option_and_then (λ (p : LineBuffer T M). f (record st { page = p })) o) ≡ on_page new (f new)
on_page-then st new None f e = cc
on_page-then {T} {M} st new (Some p) f e =
    let same : record st { page = p } ≡ new = cc in
    ap (λ (t : State T M). on_page t (f t)) same

-- The runs that are left after one with a text.
pub text-placed : {T M : Type 0} (all : Option (State T M)) (st new : State T M) (rs more : List (Run (TextStyle T) M)) (bs slice : List ℕ) (at n end : ℕ)
    (style : TextStyle T) → at ≤ length bs → Cuts rs (drop at bs) → all ≡ on_page st (put_runs st.setting st.page rs (drop at bs)) →
    rs ≡ run.Text n style ∷ more → end ≡ at + n → slice ≡ take (end - at) (drop at bs) →
    on_page st (put_items st.setting st.page (styled style (chars slice))) ≡ Some new →
    (end ≤ length bs) × Cuts more (drop end bs) × (all ≡ on_page new (put_runs new.setting new.page more (drop end bs)))
text-placed {T} {M} all st new rs more bs slice at n end style within cuts e r h s placed =
    let here : Cuts (run.Text n style ∷ more) (drop at bs) = subst (λ x. Cuts x (drop at bs)) r cuts in
    let rest : drop n (drop at bs) ≡ drop end bs = drop-drop n at bs ∙ ap (λ k. drop k bs) (sym h) in
    let count : end - at ≡ n = omega (arith, h) in
    let text : take n (drop at bs) ≡ slice = sym (s ∙ ap (λ k. take k (drop at bs)) count) in (
      omega (arith, h, within, here.0, length-drop at bs),
      subst (λ x. Cuts more x) rest here.2,
      e ∙ rw (r, rest, text) (on_page-then st new (put_items st.setting st.page (styled style (chars slice)))
          (λ t. put_runs t.setting t.page more (drop end bs)) placed),
    )

-- Placing a word is placing its closed runs and then its open run.
pub put_items-parts : {T M : Type 0} (s : Setting) (page : LineBuffer T M) (rs : List (Run (TextStyle T) M)) (tag : Option (TextStyle T))
    (closed behind : List ℕ) → put_items s page (items_of (elements_of rs closed ++ open_elements tag behind))
    ≡ option_and_then (λ (p : LineBuffer T M). put_items s p (items_of (open_elements tag behind))) (put_runs s page rs closed)
put_items-parts {T} {M} s page rs tag closed behind =
    ap (put_items s page) (items-append (elements_of rs closed) (open_elements tag behind))
    ∙ put_items-append s page (items_of (elements_of rs closed)) (items_of (open_elements tag behind))
    ∙ ap (option_and_then (λ (p : LineBuffer T M). put_items s p (items_of (open_elements tag behind)))) (put_runs-items s page rs closed)

pub ruleset item_parts = (put_items-parts)

pub ruleset open_runs = (items-under)
