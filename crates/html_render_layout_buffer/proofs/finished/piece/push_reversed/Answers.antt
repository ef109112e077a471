use Rattle.std.proofs.Common.{◌≡◌, ℕ, List, [], ◌∷◌, ◌++◌, reverse, length, chars, IsUtf8, refl, sym, ap, ◌∙◌, append_assoc}
use Rattle.std.proofs.lemmas.List.{map-append, reverse-append, reverse-reverse, nil_from_length}
use Rattle.std.proofs.lemmas.Str.{chars_from_encodes}
use Rattle.html_render_layout_lines.specs.declared.line.Element.TheVariants.{Character}
use Rattle.html_render_layout_lines.specs.Line.{Line}
use Rattle.html_render_layout_lines.specs.TaggedText.{under}
use Rattle.std.proofs.Math.Utf8.{encode, encodes}
use Rattle.html_render_layout_buffer.proofs.finished.piece.push_reversed.Goals as goal

reversed : {T : Type 0} (M : Type 0) (tag : T) (cs : List ℕ) → under {M = M} tag (reverse cs) ≡ reverse (under tag cs)
reversed M tag [] = refl
reversed {T} M tag (c ∷ cs) =
    let one : Line T M = Character c tag ∷ [] in
    ap (under tag) (reverse-append (c ∷ []) cs) ∙ map-append (λ (d : ℕ). Character d tag) (reverse cs) (c ∷ [])
    ∙ ap (λ r. r ++ one) (reversed M tag cs) ∙ sym (reverse-append one (under tag cs))

more_items : {T M : Type 0} (tag : T) (old items new : Line T M) (cs : List ℕ) (c : ℕ) →
    new ≡ items ++ Character c tag ∷ [] → items ≡ old ++ under tag cs → new ≡ old ++ under tag (cs ++ c ∷ [])
more_items {T} {M} tag old items new cs c e f =
    let one : Line T M = Character c tag ∷ [] in
    e ∙ ap (λ (l : Line T M). l ++ one) f ∙ append_assoc old (under tag cs) one
    ∙ ap (λ (l : Line T M). old ++ l) (sym (map-append (λ (d : ℕ). Character d tag) cs (c ∷ [])))

more_text : (rest left : List ℕ) (cs text : List ℕ) (c : ℕ) → rest ≡ left ++ encode c → rest ++ encodes (reverse cs) ≡ text →
    left ++ encodes (reverse (cs ++ c ∷ [])) ≡ text
more_text rest left cs text c e f =
    ap (λ r. left ++ encodes r) (reverse-append cs (c ∷ []))
    ∙ sym (append_assoc left (encode c) (encodes (reverse cs)))
    ∙ ap (λ r. r ++ encodes (reverse cs)) (sym e) ∙ f

pub loop-c-preserved : goal.loop-c-preserved
loop-c-preserved g c = record {
  pushed = more_items _ _ _ _ _ _ c.in_ok-push.ensures.items c.loop-c.invariant.pushed;
  text = more_text c.loop-c.c-iterator.iter.rest.now c.next.new.self.iter.rest.now c.loop-c.yielded c.args.text.now c.in-Some.c c.in-Some.ensures.steps
      c.loop-c.invariant.text;
}

all_items : {T : Type 0} (M : Type 0) (tag : T) (rest cs text : List ℕ) → IsUtf8 text → length rest ≡ 0 →
    rest ++ encodes (reverse cs) ≡ text →
    under {M = M} tag cs ≡ reverse (under tag (chars text))
all_items M tag rest cs text utf8 end e =
    let all : reverse cs ≡ chars text = chars_from_encodes (reverse cs) text utf8
    (ap (λ r. r ++ encodes (reverse cs)) (sym (nil_from_length rest end)) ∙ e) in
    ap (under tag) (sym (reverse-reverse cs) ∙ ap reverse all) ∙ reversed M tag (chars text)

pub returns : goal.returns
returns g c =
    c.loop-c.invariant.pushed
    ∙ ap (λ r. c.args.elements.now.items ++ r)
    (all_items g.row.M.Denot c.args.tag c.loop-c.c-iterator.iter.rest.now c.loop-c.yielded c.args.text.now c.utf8.text
    c.in-None.ensures.steps.0 c.loop-c.invariant.text)
