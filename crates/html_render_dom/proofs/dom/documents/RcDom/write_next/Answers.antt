use Rattle.std.proofs.Common.{ap, ◌∙◌, arith}
use Rattle.std.proofs.lemmas.List.Elements.{All-push}
use Rattle.std.proofs.lemmas.Result.{on_ok_weaker}
use Rattle.html_render_dom.specs.Frames.{FrameFits}
use Rattle.html_render_dom.proofs.Dumps.{after_child, child-facts, fits-after, stepped}
use Rattle.html_render_dom.proofs.dom.documents.RcDom.write_next.Goals as goal

pub write_start-requires-clause-node : goal.write_start-requires-clause-node
write_start-requires-clause-node c =
    (child-facts c.args.self.now c.entry.ensures.forest c.args.frame _ _ (c.as_slice-children.ensures
    ∙ ap (λ n. n.children) c.entry.ensures.node) (omega arith) c.index-children-frame.is).2

pub write_start-requires-clause-frames : goal.write_start-requires-clause-frames
write_start-requires-clause-frames c =
    let dom = c.args.self.now in
    let p = child-facts dom c.entry.ensures.forest c.args.frame _ _ (c.as_slice-children.ensures
    ∙ ap (λ n. n.children) c.entry.ensures.node) (omega arith) c.index-children-frame.is in
    rw c.in_ok-push.ensures.items
    (All-push (FrameFits dom) c.args.frames.now.items (after_child c.args.frame) c.requires.frames
    (fits-after dom c.entry.ensures.forest c.args.frame _ p c.requires.frame))

pub returns-in_ok-push-clause-ok : goal.returns-in_ok-push-clause-ok
returns-in_ok-push-clause-ok c =
    let dom = c.args.self.now in
    let p = child-facts dom c.entry.ensures.forest c.args.frame _ _ (c.as_slice-children.ensures
    ∙ ap (λ n. n.children) c.entry.ensures.node) (omega arith) c.index-children-frame.is in
    on_ok_weaker c.write_start.result
    (λ e. e ∙ stepped dom c.entry.ensures.forest c.args.frame _ p _ c.args.frames.now.items _ c.in_ok-push.ensures.items) c.write_start.ensures.text
