use Rattle.html_render_layout_buffer.proofs.WordParts.{word-utf8, bytes-put, slots-put, is-word}
use Rattle.html_render_layout_buffer.proofs.buffer.word.put_word.Goals as goal

pub returns : goal.returns
returns g c =
    let cut = c.parts-cut.result in
    let word = is-word cut.closed.now cut.tag cut.closed_text.now cut.open_text.now c.args.word.now.elements c.parts-cut.ensures.cuts
    c.parts-cut.ensures.has_tag c.parts-cut.ensures.utf8 c.parts-cut.ensures.elements in
    record {
      text = bytes-put _ _ _ _ _ _ _ _ word c.in_ok-put_closed.ensures.text c.in_ok-push_str.ensures.bytes;
      slots = slots-put c.args.continues _ _ _ _ _ _ _ _ word c.in_ok-put_closed.ensures.slots c.in_ok-put_open.ensures;
      utf8 = word-utf8 _ _ _ _ _ word;
    }
