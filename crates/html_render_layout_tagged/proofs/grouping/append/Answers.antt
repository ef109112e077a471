use Rattle.std.proofs.Common.{sym, string_bytes}
use Rattle.std.proofs.lemmas.Str.{chars-append}
use Rattle.html_render_layout_tagged.proofs.grouping.append.Goals as goal

pub returns : goal.returns
returns c =
    rw c.in_ok-push_str.ensures.bytes (chars-append (string_bytes c.args.text.now) c.args.more.now
    (rw (sym c.as_str-text.ensures.value) c.as_str-text.utf8))
