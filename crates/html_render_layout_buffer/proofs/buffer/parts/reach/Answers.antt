use Rattle.std.proofs.Common.{rules, ◌≡◌, ◌+◌, ◌-◌, ◌<◌, ◌≤◌, ◌++◌, drop, length, sym, ap, ◌∙◌, subst, arith, length-append}
use Rattle.std.specs.Prelude.{encode_utf8}
use Rattle.std.specs.Str.{chars, IsUtf8}
use Rattle.std.proofs.lemmas.List.{drop_at, drop-drop, length-drop}
use Rattle.std.proofs.lemmas.Str.{IsUtf8-take, IsCharBoundary-from_drop}
use Rattle.html_render_layout_buffer.specs.Parts.{reach}
use Rattle.html_render_layout_buffer.proofs.PartLines.{reach-next, reach-nil}
use Rattle.html_render_layout_buffer.proofs.buffer.parts.reach.Goals as goal

pub loop-count-preserved : goal.loop-count-preserved
loop-count-preserved c =
    let text = c.args.text.now in
    let n = c.loop-count.count in
    let size = c.len_utf8-count.result in
    let first = c.split_first_character-c.result.0 in
    let behind = c.split_first_character-c.result.1.now in
    let parts = c.split_first_character-c.ensures in
    let was = c.loop-count.invariant in
    let bytes : length (encode_utf8 first) ≡ size = search rules in
    let some : n < c.args.limit = omega arith in
    let whole : drop n text ≡ encode_utf8 first ++ behind = sym was.rest ∙ parts.bytes in
    let rest : behind ≡ drop (n + size) text =
    sym (drop_at (encode_utf8 first) behind size bytes) ∙ ap (drop size) (sym whole) ∙ drop-drop size n text in
    let within : n + size ≤ length text =
    omega (arith, was.within, bytes, ap length whole, length-drop n text, length-append (encode_utf8 first) behind) in
    let left : reach (c.args.limit - n) (chars c.loop-count.rest.now) ≡ size + reach (c.args.limit - (n + size)) (chars behind) =
    ap (λ cs. reach (c.args.limit - n) cs) parts.characters ∙ reach-next c.args.limit n size first (chars behind) some bytes in
    record {
      rest = rest;
      within = within;
      front = IsUtf8-take text (n + size) c.utf8.text (IsCharBoundary-from_drop text (n + size) within (subst IsUtf8 rest parts.text));
      utf8 = parts.text;
      left = omega (arith, was.left, left);
    }

pub returns-else-not-is_empty-clause-count : goal.returns-else-not-is_empty-clause-count
returns-else-not-is_empty-clause-count c =
    let none : length c.loop-count.rest.now ≡ 0 = search rules in
    omega (arith, c.loop-count.invariant.left, reach-nil (c.args.limit - c.loop-count.count) c.loop-count.rest.now none)
