-- Each part of a colour is written as two lower-case hexadecimal digits.
use Rattle.std.proofs.Common.{◌≡◌, ℕ, ◌<◌, false, Some, ap, arith}
use Rattle.std.proofs.lemmas.Fmt.{hex_byte}
use Rattle.std.specs.Fmt.{digits, digits_output, format_spec, styled_digits_output}
use Rattle.html_render_dom_values.specs.Colours as colours
use Rattle.html_render_dom_values.proofs.colours.ColourDisplay.fmt.Goals as goal

hex_written : (d : _) (s : _) (n : ℕ) → n < 256 → digits_output d ≡ Some (digits 16 false n) →
    s ≡ format_spec 32 0 4 2 18446744073709551615 → styled_digits_output d s ≡ Some (colours.hex_byte n)
hex_written d s n small e f = rw (f, e) (ap Some (hex_byte false n small))

pub returns-clause-writes : goal.returns-clause-writes
returns-clause-writes g c =
    let colour = c.args.self.now in
    let red = hex_written c.in_radix.result c.laid_out.result colour.r (omega arith) c.in_radix.ensures c.laid_out.ensures in
    let green = hex_written c.in_radix-2.result c.laid_out-2.result colour.g (omega arith) c.in_radix-2.ensures c.laid_out-2.ensures in
    let blue = hex_written c.in_radix-3.result c.laid_out-3.result colour.b (omega arith) c.in_radix-3.ensures c.laid_out-3.ensures in
    rw (red, green, blue) at c.write.ensures.writes
