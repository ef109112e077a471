use Rattle.std.proofs.Common.{ap, Some, sym, ◌∙◌, map}
use Rattle.html_render_dom_styles.specs.Rules.{rule_of}
use Rattle.html_render_parts.specs.laws.Refusal.{Fails-same}
use Rattle.html_render_tree_convert.specs.Results.{render_tree_of}
use Rattle.html_render_tree_convert.proofs.Running.{documents_convert}
use Rattle.html_render_tree_convert.proofs.VisitRuns.{Written, fails-handed, fails-tree, written}
use Rattle.html_render_tree_convert.proofs.convert.dom_to_render_tree.Goals as goal
use Rattle.html_render_tree_convert.proofs.convert.dom_to_render_tree.Goals.{In_ok-entries}

-- the nodes are those of the render tree of the definition
nodes-written : (c : In_ok-entries) → Written (render_tree_of (map rule_of c.args.rules.now) c.args.dom.now) c.in_ok-entries.entries.items
nodes-written c =
    let rules = map rule_of c.args.rules.now in
    let dom = c.args.dom.now in
    written (render_tree_of rules dom) c.in_ok-entries.entries.items (sym (documents_convert rules dom) ∙ c.in_ok-entries.ensures.ok)

pub from_entries-requires : goal.from_entries-requires
from_entries-requires c = (nodes-written c).preorder

pub returns : goal.returns
returns c =
    let m = (goal.at.returns c).In_ok-entries in
    record { ok = (nodes-written m).is ∙ ap Some (sym c.from_entries.ensures); err = tt }

pub returns-in_err-entries : goal.returns-in_err-entries
returns-in_err-entries c =
    let rules = map rule_of c.args.rules.now in
    let dom = c.args.dom.now in
    let e = c.in_err-entries.field-0.0 in
    fails-handed c.from_residual.result e _ _ c.from_residual.ensures.1
    (fails-tree e (render_tree_of rules dom) (Fails-same e _ _ (sym (documents_convert rules dom)) c.in_err-entries.ensures.err))
