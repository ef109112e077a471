-- The front of the array is the text and what was copied behind it, and both are UTF-8.
use Rattle.std.proofs.Common.{◌≡◌, ◌+◌, length, take, refl, ap, arith, length-take-le}
use Rattle.std.proofs.lemmas.Slice.{take-put_mid}
use Rattle.std.proofs.lemmas.Str.{IsUtf8-append, IsUtf8-had}
use Rattle.html_render_dom_values.proofs.inline_text.InlineText.push_str.Goals as goal

pub invariant_of-self : goal.invariant_of-self
invariant_of-self g c =
    let len = c.self.inside.len in
    let more = c.args.more.now in
    let taken : length (take len c.self.inside.bytes) ≡ len = length-take-le len c.self.inside.bytes (omega arith) in
    let copied : c.copy_from_slice.new.self ≡ more = cc in (
      omega (arith, taken, ap length c.self.view_is),
      ∣ rw (copied, take-put_mid len _ c.self.inside.bytes more (len + length more) refl (omega arith)) (
          IsUtf8-append _ _ (IsUtf8-had _ c.self.invariant.1) c.utf8.more
          ) ∣₁,
    )
