use Rattle.std.proofs.Common.{◌∙◌, sym, ap, map-id}
use Rattle.std.proofs.lemmas.Iterator.{YieldsList-from_chars}
use Rattle.std.proofs.lemmas.Iterator.Consumers.{YieldsList-end}
use Rattle.std.specs.String.{string_bytes}
use Rattle.std.proofs.lemmas.Str.{IsUtf8-string_bytes, chars_from_encodes}
use Rattle.html_render_layout.specs.Layout.{struck}
use Rattle.html_render_layout.proofs.Struck.{struck-more}
use Rattle.html_render_layout.proofs.walk.texts.struck.Goals as goal

pub loop-c-preserved : goal.loop-c-preserved
loop-c-preserved c = struck-more _ _ c.loop-c.yielded c.in-Some.c c.loop-c.invariant c.in_ok-push_struck.ensures

pub returns : goal.returns
returns c =
    let end = YieldsList-end (YieldsList-from_chars c.args.text.now c.utf8.text cc) c.loop-c.yielded _ c.loop-c.yielded_by _ _ c.in-None.is
    c.next.ensures.steps in
    sym (chars_from_encodes (struck c.loop-c.yielded) (string_bytes c.loop-c.written) (IsUtf8-string_bytes c.loop-c.written) (sym c.loop-c.invariant))
    ∙ ap struck (sym (map-id c.loop-c.yielded) ∙ end.0)
