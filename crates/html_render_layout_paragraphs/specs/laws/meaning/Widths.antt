-- No line of a paragraph passes the width, except for a single character with overflow on.
use Rattle.std.proofs.Common.{Bool, List, [], inl, inr, ap, arith, All}
use Rattle.std.proofs.lemmas.List.Elements.{All-nil, All-cons}
use Rattle.html_render_layout_lines.specs.declared.character.Item.{Item}
use Rattle.html_render_layout_lines.specs.Line.{Line}
use Rattle.html_render_layout_paragraphs.specs.Paragraph.{Setting}
use Rattle.html_render_layout_paragraphs.specs.Meaning.{Part, StandOn, nothing, whole, alone, between, no_between, soft, no_soft, marked, AreBrokenInto, none, last}
use Rattle.html_render_layout_paragraphs.specs.Meaning.{broken, full, cut, stop, soft_stop, IsParagraph, spaced, characters_on, IsWithinOrSingle}
use Rattle.html_render_layout_paragraphs.specs.laws.meaning.Words.{characters_on-word}
use Rattle.html_render_layout_paragraphs.specs.laws.meaning.Standing.{spaced-start}

stands-within : {T M : Type 0} {s : Setting} {b : Bool} {before : List M} {ps : List (Part T M)} {line : Line T M} {ms : List M} →
    StandOn s b before ps line ms → IsWithinOrSingle s line
stands-within nothing = inl (omega arith)
stands-within (whole space word h f) = inl f
stands-within {T} {M} {s} {b} (alone {marks = ms} space word h one o) =
    let e = characters_on-word b (spaced b [] space) ms word in
    let f = ap (λ (l : Line T M). characters_on l) (spaced-start M b space) in
    inr (o, omega (arith, e, f, one))
stands-within (between c h f) = inl f
stands-within (no_between c h f) = stands-within h
stands-within (soft c h f) = inl f
stands-within (no_soft c h f) = stands-within h
stands-within (marked m h) = stands-within h

lines-within : {T M : Type 0} {s : Setting} {b : Bool} {before : List M} {ps : List (Part T M)} {ls : List (Line T M)} {left : List M} →
    AreBrokenInto s b before ps ls left → All (IsWithinOrSingle s) ls
lines-within {s = s} (none h) = All-nil (IsWithinOrSingle s)
lines-within {s = s} (last {line = line} h i) = All-cons (IsWithinOrSingle s) line [] (stands-within h) (All-nil (IsWithinOrSingle s))
lines-within {s = s} (broken {line = line} {lines = ls} h d) = All-cons (IsWithinOrSingle s) line ls (stands-within h) (lines-within d)
lines-within {s = s} (full {line = line} {lines = ls} space word h i f d) =
    All-cons (IsWithinOrSingle s) line ls (stands-within h) (lines-within d)
lines-within {s = s} (cut {line = line} {lines = ls} space front c back h k i f d) =
    All-cons (IsWithinOrSingle s) line ls (stands-within k) (lines-within d)
lines-within (stop c rest h d) = lines-within d
lines-within (soft_stop c rest h d) = lines-within d

pub described_within : {T M : Type 0} (s : Setting) (marks : List M) (xs : List (Item T M)) (ls : List (Line T M)) (left : List M) →
    IsParagraph s marks xs ls left → All (IsWithinOrSingle s) ls
described_within s marks xs ls left h = lines-within h
