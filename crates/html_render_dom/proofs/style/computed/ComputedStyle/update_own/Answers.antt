-- Each declaration changes its own property.
use Rattle.html_render_dom.proofs.Applies.{still, taken}
use Rattle.html_render_dom.proofs.style.computed.ComputedStyle.update_own.Goals as goal

pub returns-in-Colour : goal.returns-in-Colour
returns-in-Colour c = rw c.in-Colour.is
    (λ i. record (still c.args.self.now i) { colour = taken _ _ _ c.maybe_update.ensures i })

pub returns-in-BgColour : goal.returns-in-BgColour
returns-in-BgColour c = rw c.in-BgColour.is
    (λ i. record (still c.args.self.now i) { bg_colour = taken _ _ _ c.maybe_update-in-BgColour.ensures i })

pub returns-in-Display : goal.returns-in-Display
returns-in-Display c = rw c.in-Display.is
    (λ i. record (still c.args.self.now i) { display = taken _ _ _ c.maybe_update-in-Display.ensures i })

pub returns-in-WhiteSpace : goal.returns-in-WhiteSpace
returns-in-WhiteSpace c = rw c.in-WhiteSpace.is
    (λ i. record (still c.args.self.now i) { white_space = taken _ _ _ c.maybe_update-in-WhiteSpace.ensures i })

pub returns-in_ok-update_content-in-Content : goal.returns-in_ok-update_content-in-Content
returns-in_ok-update_content-in-Content c = rw c.in-Content.is
    (λ i. record (still c.args.self.now i) { content = c.in_ok-update_content-in-Content.ensures.ok i })
