-- THE LAW: the events of trees do to an open element what their results do.
use Rattle.std.proofs.Common.{◌≡◌, Bool, true, false, if◌then◌else◌, List, [], ◌∷◌, ◌++◌, Option, Some, None, option_map, refl, sym, ap, subst, ◌∙◌, append_assoc, append-nil}
use Rattle.std.specs.Prelude.{option_to_list}
use Rattle.html_render_dom.specs.Dom.{Dom, tree_of}
use Rattle.html_render_dom_nodes.specs.Content.{Content}
use Rattle.html_render_dom_styles.specs.Rules.{Rule as StyleRule}
use Rattle.html_render_dom_values.specs.Forest.{Forest, none, node}
use Rattle.html_render_dom_values.specs.Outcome.{◌>>=◌}
use Rattle.html_render_layout_nodes.specs.Preorder.{flatten}
use Rattle.html_render_tree_convert.specs.Plans.{plan_of}
use Rattle.html_render_tree_convert.specs.Results.{Result, alone, beside, children_in, has_stray, made, render_tree_of, result_of, results}
use Rattle.html_render_tree_convert.specs.declared.mapping.ElementKind.{ElementKind}
use Rattle.html_render_tree_convert.specs.declared.mapping.ElementKind.TheVariants as element
use Rattle.html_render_tree_convert.specs.declared.plans.Element.{Element}
use Rattle.html_render_tree_convert.specs.declared.plans.Plan.{Plan}
use Rattle.html_render_tree_convert.specs.declared.plans.Plan.TheVariants.{Nothing, Alone, Over}
use Rattle.html_render_tree_convert.specs.declared.tables.Part.TheVariants as part
use Rattle.html_render_tree_convert.specs.Events.{Event, Parts, Close, children_events, events, node_events, nothing_inside}
use Rattle.html_render_tree_walk.specs.Walk.{picks}
use Rattle.html_render_tree_convert.specs.OpenElements.{OpenIn, State, innermost, outside, root}
use Rattle.html_render_tree_convert.specs.declared.elements.Open.{Open}
use Rattle.html_render_tree_convert.specs.declared.elements.OpenKind.TheVariants as open_kind
use Rattle.html_render_tree_convert.specs.Steps.{all_parted, all_written, begun, closed, converted, opened, run}
use Rattle.html_render_tree_walk.specs.declared.cursor.Pick.{Pick}
use Rattle.html_render_tree_walk.specs.declared.cursor.Pick.TheVariants.{All, Captions, Others, Feet}
use Rattle.html_render_tree_convert.proofs.Closing.{after_result, captions-come, captions_open, closes, contents-come, filter-all, of_kind, results_over, table, table-closes, table_begun}
use Rattle.html_render_tree_convert.proofs.Coming.{all_come, all_come-append, kept, none-come}

-- run of more events, once results have come into the innermost element
abbrev run_after : List Event → OpenIn → List Open → Option (List Result) → Option State
run_after es q ps os = os >>= λ rs. run es (outside ps (all_come rs q))

-- events that do what results do
record Runs (ev : List Event) (os : Option (List Result)) : Type 0 where
  pub after : (es : List Event) (q : OpenIn) (ps : List Open) → run (ev ++ es) (outside ps q) ≡ run_after es q ps os

nothing-runs : Runs [] (Some [])
nothing-runs = record { after = λ es q ps. ap (λ w. run es (outside ps w)) (sym (none-come q)) }

-- results one after another
abbrev both : Option (List Result) → Option (List Result) → Option (List Result)
both os us = do
  rs ← os
  more ← us
  Some (rs ++ more)

runs-both : {ev ew : List Event} {os us : Option (List Result)} → Runs ev os → Runs ew us → Runs (ev ++ ew) (both os us)
runs-both {ev} {ew} {os} {us} one more = record {
  after = λ es q ps. ap (λ l. run l (outside ps q)) (append_assoc ev ew es) ∙ one.after (ew ++ es) q ps ∙ by es q ps os;
}
  where
    all : (es : List Event) (q : OpenIn) (ps : List Open) (rs : List Result) (u : Option (List Result)) →
        run_after es (all_come rs q) ps u ≡ run_after es q ps (both (Some rs) u)
    all es q ps rs None = refl
    all es q ps rs (Some l) = ap (λ w. run es (outside ps w)) (all_come-append rs l q)

    by : (es : List Event) (q : OpenIn) (ps : List Open) (o : Option (List Result)) → run_after (ew ++ es) q ps o ≡ run_after es q ps (both o us)
    by es q ps None = refl
    by es q ps (Some rs) = more.after es (all_come rs q) ps ∙ all es q ps rs us

-- the results that an element or a node leaves
abbrev as_list : Option (Option Result) → Option (List Result)
as_list made = option_map option_to_list made

-- children come, and their element closes
close-run : {ev : List Event} {os : Option (List Result)} → Runs ev os → (s : State) (leaves : List Result → Option (Option Result)) (q : OpenIn)
    (ps : List Open) → ((rs : List Result) → closed (results_over rs s) ≡ after_result q ps (leaves rs)) → (es : List Event) →
    run ((ev ++ Close ∷ []) ++ es) s ≡ run_after es q ps (as_list (os >>= leaves))
close-run {ev} {os} runs s leaves q ps h es =
    ap (λ l. run l s) (append_assoc ev (Close ∷ []) es) ∙ runs.after (Close ∷ es) (innermost s) s.outer ∙ by os
  where
    last : (m : Option (Option Result)) → (after_result q ps m >>= run es) ≡ run_after es q ps (as_list m)
    last None = refl
    last (Some r) = refl

    by : (o : Option (List Result)) → run_after (Close ∷ es) (innermost s) s.outer o ≡ run_after es q ps (as_list (o >>= leaves))
    by None = refl
    by (Some rs) = ap (λ x. x >>= run es) (h rs) ∙ last (leaves rs)

-- ---- an element

-- what an element becomes over its children
abbrev over_children : Element → (inside : Pick → Option (List Result)) → Option (Option Result)
over_children e inside = children_in e.kind inside >>= λ children. made e children.0 children.1

-- what an element makes of the results of its children
of_table : (f : (captions others : List Result) → Option (Option Result)) (captions others feet : Option (List Result)) →
    (option_map (kept open_kind.Captions) captions >>= λ c. both others feet >>= f c)
    ≡ ◌>>=◌ {A = List Result × List Result} (do
      c ← captions
      o ← others
      l ← feet
      Some (kept open_kind.Captions c, o ++ l)) (λ children. f children.0 children.1)
of_table f None others feet = refl
of_table f (Some c) None feet = refl
of_table f (Some c) (Some o) None = refl
of_table f (Some c) (Some o) (Some l) = refl

of_all : (f : (captions others : List Result) → Option (Option Result)) (all : Option (List Result)) →
    (all >>= f []) ≡ ◌>>=◌ {A = List Result × List Result} (option_map (λ others. ([], others)) all) (λ children. f children.0 children.1)
of_all f None = refl
of_all f (Some l) = refl

module _ (inside_events : Pick → List Event) (inside : Pick → Option (List Result))
    (runs : (pick : Pick) → Runs (inside_events pick) (inside pick)) (e : Element) (es : List Event) (q : OpenIn) (ps : List Open) where
  table-runs : run ((children_events (element.Part part.Table) inside_events ++ Close ∷ []) ++ es) (outside (q.element ∷ ps) (table_begun e q ps))
      ≡ run_after es q ps (as_list (over_children (table e q ps) inside))
  table-runs =
      ap (λ l. run l (outside (q.element ∷ ps) (table_begun e q ps))) (regroup (inside_events Captions) others)
      ∙ (runs Captions).after (Parts ∷ ((others ++ Close ∷ []) ++ es)) (table_begun e q ps) (q.element ∷ ps)
      ∙ by (inside Captions)
      ∙ ap (λ m. run_after es q ps (as_list m)) (of_table (made (table e q ps)) (inside Captions) (inside Others) (inside Feet))
    where
      others : List Event
      others = inside_events Others ++ inside_events Feet

      regroup : (c l : List Event) → ((c ++ Parts ∷ l) ++ Close ∷ []) ++ es ≡ c ++ (Parts ∷ ((l ++ Close ∷ []) ++ es))
      regroup c l = simp append_assoc

      by : (o : Option (List Result)) → run_after (Parts ∷ ((others ++ Close ∷ []) ++ es)) (table_begun e q ps) (q.element ∷ ps) o
          ≡ run_after es q ps (as_list (option_map (kept open_kind.Captions) o >>= λ c. both (inside Others) (inside Feet) >>= made (table e q ps) c))
      by None = refl
      by (Some cs) = let c = kept open_kind.Captions cs in
          ap (λ w. run ((others ++ Close ∷ []) ++ es) (all_parted (outside (q.element ∷ ps) w))) (captions-come e q ps cs)
          ∙ close-run (runs-both (runs Others) (runs Feet)) (all_parted (outside (q.element ∷ ps) (captions_open e q ps c)))
          (made (table e q ps) c) q ps (λ l. table-closes e q ps c l) es

  element-runs : (k : ElementKind) → run ((children_events k inside_events ++ Close ∷ []) ++ es) (begun k (of_kind e k) (outside ps q))
      ≡ run_after es q ps (as_list (over_children (of_kind e k) inside))
  element-runs (element.Part part.Table) = table-runs
  element-runs k =
      close-run (runs All) (begun k (of_kind e k) (outside ps q)) (made (of_kind e k) []) q ps (λ rs. closes e ps rs k refl q) es
      ∙ ap (λ m. run_after es q ps (as_list m)) (of_all (made (of_kind e k)) (inside All))

-- ---- a node

node-runs : (plan : Plan) {inside_events : Pick → List Event} {inside : Pick → Option (List Result)} →
    ((pick : Pick) → Runs (inside_events pick) (inside pick)) → Runs (node_events plan inside_events) (as_list (result_of plan inside))
unfolding opened
node-runs Nothing runs = nothing-runs
node-runs (Alone n) runs = record { after = λ es q ps. ap (λ w. run es (outside ps w)) (contents-come (alone n) q) }
node-runs (Over e false) runs = record { after = λ es q ps. element-runs nothing_inside (λ pick. Some []) (λ pick. nothing-runs) e es q ps e.kind }
node-runs (Over e true) {inside_events} {inside} runs = record { after = λ es q ps. element-runs inside_events inside runs e es q ps e.kind }

-- ---- trees

picked-runs : (b : Bool) {ev : List Event} (r : Option (Option Result)) → Runs ev (as_list r) →
    Runs (if b then ev else []) (as_list (if b then r else Some None))
picked-runs true r runs = runs
picked-runs false r runs = nothing-runs

both-same : (r : Option (Option Result)) (os : Option (List Result)) → both (as_list r) os ≡ (do
  x ← r
  rest ← os
  Some (option_to_list x ++ rest))
both-same None os = refl
both-same (Some x) os = refl

trees-run : (rules : List StyleRule) (t : Forest Content) (pick : Pick) → Runs (events rules t pick) (results rules t pick)
trees-run rules none pick = nothing-runs
trees-run rules (node content children others) pick =
    let plan = plan_of rules content children in
    subst (Runs (events rules (node content children others) pick)) (both-same _ (results rules others pick))
    (runs-both (picked-runs (picks pick content) (result_of plan (results rules children)) (node-runs plan (trees-run rules children)))
    (trees-run rules others pick))

-- ---- documents

root-written : (rs : List Result) → all_written (outside [] (all_come rs (innermost root)))
    ≡ option_map flatten (if has_stray rs then None else Some (beside rs))
root-written rs = simp filter-all (by (has_stray rs))
  where
    by : (b : Bool) → (if b then None else Some (flatten (beside rs))) ≡ option_map flatten (if b then None else Some (beside rs))
    by true = refl
    by false = refl

pub documents_convert : (rules : List StyleRule) (dom : Dom) → converted rules (tree_of dom 0) ≡ option_map flatten (render_tree_of rules dom)
documents_convert rules dom =
    ap (λ l. run l root >>= all_written) (sym (append-nil (events rules (tree_of dom 0) All)))
    ∙ ap (λ o. o >>= all_written) ((trees-run rules (tree_of dom 0) All).after [] (innermost root) [])
    ∙ by (results rules (tree_of dom 0) All)
  where
    by : (o : Option (List Result)) → (run_after [] (innermost root) [] o >>= all_written)
        ≡ option_map flatten (o >>= λ rs. if has_stray rs then None else Some (beside rs))
    by None = refl
    by (Some rs) = root-written rs
