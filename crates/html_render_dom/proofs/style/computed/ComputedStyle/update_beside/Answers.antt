-- Only content counts for a pseudo-element.
use Rattle.html_render_dom.proofs.Applies.{still, other_beside}
use Rattle.html_render_dom.proofs.style.computed.ComputedStyle.update_beside.Goals as goal

pub returns-in_ok-update_content-in-Before : goal.returns-in_ok-update_content-in-Before
returns-in_ok-update_content-in-Before c = rw (c.in-Content.is, c.in-Before.is)
    (λ i. record (still c.args.self.now i) { content_before = c.in_ok-update_content-in-Before.ensures.ok i })

pub returns-in_ok-update_content-in-After : goal.returns-in_ok-update_content-in-After
returns-in_ok-update_content-in-After c = rw (c.in-Content.is, c.in-After.is)
    (λ i. record (still c.args.self.now i) { content_after = c.in_ok-update_content-in-After.ensures.ok i })

pub returns-in_default : goal.returns-in_default
returns-in_default c =
    other_beside c.args.self.now c.args.declaration.now.important c.args.origin c.args.specificity c.args.place
    c.args.declaration.now.style c.in_default.not-Content
