use Rattle.std.proofs.Common.{ap}
use Rattle.html_render_layout_buffer.specs.Levels.{NestedFields}
use Rattle.html_render_layout_buffer.proofs.OpenBlocks.{made, is-nested, opened, outer-of, ended, waiting-is}
use Rattle.html_render_layout_buffer.proofs.nested.NestedLines.end_block.Goals as goal

pub invariant_of-self-in-Ok : goal.invariant_of-self-in-Ok
invariant_of-self-in-Ok g c =
    let was = opened _ _ c.self.invariant c.self.view_is in
    let outer = outer-of _ _ _ c.in-Some.level was (ap (λ (x : NestedFields _ _). x.levels) c.in-Some.ensures.some) in
    is-nested _ _ (ended _ _ _ _ c.in-Some.level c.args.marks.now outer.0 outer.1.0 was outer.1.1 c.in-Some.ensures.some c.in-Ok.ensures.closed)

pub returns-in-Ok-clause-block : goal.returns-in-Ok-clause-block
returns-in-Ok-clause-block g c =
    let was = opened _ _ c.self.invariant c.self.view_is in
    λ os o outer. made _ _ (ended _ _ _ _ c.in-Some.level c.args.marks.now os o was outer c.in-Some.ensures.some c.in-Ok.ensures.closed)

pub returns-in-Ok-clause-waiting : goal.returns-in-Ok-clause-waiting
returns-in-Ok-clause-waiting g c =
    let was = opened _ _ c.self.invariant c.self.view_is in
    λ os o outer. waiting-is _ _ _ c.in-Some.level c.args.marks.now _ os o was outer c.in-Some.ensures.some c.in-Ok.ensures.waiting
