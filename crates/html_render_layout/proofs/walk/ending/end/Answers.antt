use Rattle.std.proofs.Common.{◌≡◌, map}
use Rattle.std.specs.Prelude.{string_bytes}
use Rattle.html_render_dom_values.specs.laws.Outcome.{Gives-same, Gives-mapped}
use Rattle.html_render_layout_blocks.specs.Machine as machine
use Rattle.html_render_layout.specs.Ending.{closing_texts}
use Rattle.html_render_layout.proofs.Ending.{ended-by}
use Rattle.html_render_layout.proofs.walk.ending.end.Goals as goal

pub returns : goal.returns
returns g c =
    let s = c.args.state.now in
    let same : map (λ t. string_bytes t) c.as_slice-2.result.now
    ≡ closing_texts g.D.TextDecorator.decoration c.args.link_footnotes s.decorator s.targets =
    cc (c.as_slice.ensures, c.as_slice-2.ensures.value, c.in_ok-texts.ensures.ok) in
    Gives-same c.add_closing_lines.result _ _ _
    (ended-by g.D.TextDecorator.decoration machine.ending c.args.link_footnotes c.args.wrap_links c.args.tag s c.finish.new.self
    (λ t. string_bytes t) c.as_slice-2.result.now c.in_ok-finish.ensures.ok same)
    (Gives-mapped c.add_closing_lines.result _ c.add_closing_lines.new.self (λ b. record s { block = b }) c.add_closing_lines.ensures)
