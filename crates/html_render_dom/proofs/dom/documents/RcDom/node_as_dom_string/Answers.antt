use Rattle.std.proofs.Common.{arith, ◌++◌, ◌∷◌, [], ap, sym, ◌∙◌, subst, string_bytes}
use Rattle.std.proofs.lemmas.List.Elements.{All-pop}
use Rattle.html_render_dom.specs.Dom.{IsForest, tree_of}
use Rattle.html_render_dom.specs.laws.Trees.{depth-le, HaveTrees-tree_of}
use Rattle.html_render_dom.specs.Frames.{FrameFits, rest}
use Rattle.html_render_dom.proofs.Dumps.{rest-push}
use Rattle.html_render_dom.proofs.dom.documents.RcDom.node_as_dom_string.Goals as goal

pub write_start-requires-clause-indent : goal.write_start-requires-clause-indent
write_start-requires-clause-indent c =
    let dom = c.args.self.now in
    let h = c.args.node in
    let f = subst IsForest c.self.view_is c.self.invariant in
    let deep = depth-le dom f (tree_of dom h) (h ∷ []) (HaveTrees-tree_of dom f h c.requires) in
    omega (arith, deep)

pub write_next-requires-clause-frames : goal.write_next-requires-clause-frames
write_next-requires-clause-frames c = (All-pop (FrameFits c.args.self.now) _ _ _ c.pop.ensures.items c.loop-frame.invariant.1).0

pub loop-frame-preserved : goal.loop-frame-preserved
loop-frame-preserved c =
    let dom = c.args.self.now in
    let before = string_bytes c.loop-frame.text in (
      c.in_ok-write_next.ensures.ok ∙ ap (λ r. before ++ r) (sym (rest-push dom c.pop.new.self.items c.in-Some.frame))
          ∙ ap (λ fs. before ++ rest dom fs) (sym c.in-Some.ensures.items) ∙ c.loop-frame.invariant.0,
      c.in_ok-write_next.ensures.frames,
    )
