use Rattle.std.proofs.Common.{◌≡◌, ◌+◌, ◌<◌, get_or, refl, sym, ap, ◌∙◌, arith}
use Rattle.std.proofs.lemmas.Str.{IsCharBoundary-after_ascii}
use Rattle.html_render_layout_paragraphs.proofs.SpacedWords.{no-front, next-words, next-fed}
use Rattle.html_render_layout_paragraphs.proofs.paragraph.Paragraph.fitting_words.Goals as goal

pub range_from-requires : goal.range_from-requires
range_from-requires g c = λ _. IsCharBoundary-after_ascii c.args.text.now 0 c.utf8.text c.requires.some c.requires.byte

pub loop-bytes-init : goal.loop-bytes-init
loop-bytes-init g c = record {
  front = no-front c.args.text.now c.utf8.text;
  within = c.requires.some;
  byte = c.requires.byte;
  room = omega arith;
  no_mark = λ h. absurd (omega arith);
  next = rw c.range_from.ensures.value at c.stretch_in_front-next.ensures;
  fed = refl;
}

pub range_from-requires-in-loop-bytes : goal.range_from-requires-in-loop-bytes
range_from-requires-in-loop-bytes g c =
    let within = rw c.as_bytes-then-next-room.ensures.value at c.if-has_space_at.ensures.within in
    let byte = rw c.as_bytes-then-next-room.ensures.value at c.if-has_space_at.ensures.byte in
    λ _. IsCharBoundary-after_ascii c.args.text.now (c.loop-bytes.bytes + 1 + c.loop-bytes.next.bytes) c.utf8.text within byte

pub loop-bytes-preserved : goal.loop-bytes-preserved
loop-bytes-preserved g c =
    let text = c.args.text.now in
    let n = c.loop-bytes.bytes in
    let k = c.loop-bytes.next.bytes in
    let v = c.loop-bytes.next.columns in
    let inv = c.loop-bytes.invariant in
    let space : get_or text n 0 ≡ 32 = ap (λ t. get_or t n 0) (sym c.as_bytes.ensures.value) ∙ c.loop-bytes-test.true in
    let within = rw c.as_bytes-then-next-room.ensures.value at c.if-has_space_at.ensures.within in
    let byte = rw c.as_bytes-then-next-room.ensures.value at c.if-has_space_at.ensures.byte in
    let behind = rw c.as_bytes-then-next-room.ensures.value at c.if-has_space_at.ensures.space in
    let some : 0 < c.room_behind_space-room.result = omega arith in
    let has = c.room_behind_space-room.ensures some in
    record {
      front = next-words c.args.style.mode text n c.loop-bytes.columns k v c.utf8.text inv.front inv.within space inv.next;
      within = within;
      byte = byte;
      room = omega arith;
      no_mark = λ h. has.no_mark;
      next = rw c.range_from-in-loop-bytes.ensures.value at c.stretch_in_front-next-in-loop-bytes.ensures;
      fed = inv.fed
          ∙ next-fed c.args.self.now c.args.style text n c.loop-bytes.columns k v c.utf8.text c.requires.mode inv.front inv.within space inv.next
          (omega arith) within byte behind c.requires.closed c.requires.word has.some has.no_mark
          (omega (arith, has.fits));
    }
