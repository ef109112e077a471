-- The text of a record is a piece of the text, or there is none.
use Rattle.std.proofs.Common.{◌≡◌, ℕ, Bool, true, false, cond, List, Bor, Option, Some, None, IfSome, IfNone, ap, sym, refl, ◌∙◌}
use Rattle.std.specs.Option.{option_map}
use Rattle.std.proofs.lemmas.Bool.{and_from, and_parts, le-leb, leb-true}
use Rattle.std.proofs.lemmas.Str.{IsUtf8-from_is_utf8, is_utf8-from_IsUtf8}
use Rattle.html_render_dom.specs.Steps.{IsPiece, piece}
use Rattle.html_render_tree_records.specs.Settings.{text_at}

not_true : (b : Bool) → ¬ (b ≡ true) → b ≡ false
not_true true h = absurd (h refl)
not_true false h = refl

text_at-some : (text : List ℕ) (start size : ℕ) → IsPiece text start size → text_at text start size ≡ Some (piece text start size)
text_at-some text start size h =
    ap (λ (b : Bool). cond b (Some (piece text start size)) None) (and_from _ _ (le-leb _ _ h.0) (is_utf8-from_IsUtf8 _ h.1))

text_at-none : (text : List ℕ) (start size : ℕ) → ¬ IsPiece text start size → text_at text start size ≡ None
text_at-none text start size h =
    ap (λ (b : Bool). cond b (Some (piece text start size)) None)
    (not_true _ (λ e. let both = and_parts _ _ e in h (leb-true _ _ both.0, IsUtf8-from_is_utf8 _ both.1)))

pub text_at-from : (text : List ℕ) (start size : ℕ) (r : Option (Bor (List ℕ)))
    → IfSome r (λ s. (s.now ≡ piece text start size) × IsPiece text start size) → IfNone r (¬ IsPiece text start size)
    → option_map (λ (p : Bor (List ℕ)). p.now) r ≡ text_at text start size
text_at-from text start size (Some s) h none = ap Some h.0 ∙ sym (text_at-some text start size h.1)
text_at-from text start size None h none = sym (text_at-none text start size none)
