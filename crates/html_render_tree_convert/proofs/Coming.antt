-- What results of the definition do to an open element and to the nodes that are written.
use Rattle.std.proofs.Common.{◌≡◌, Bool, true, false, ◌||◌, if◌then◌else◌, List, [], ◌∷◌, ◌++◌, map, Some, refl, sym, ap, ◌∙◌, inl, inr, append_assoc, append-nil}
use Rattle.std.specs.Prelude.{filter, flat_map, option_to_list, unwrap_or}
use Rattle.std.specs.List.{list_any}
use Rattle.std.proofs.Math.Bool.{or_assoc, or-false, or-true}
use Rattle.std.proofs.lemmas.Bool.{cases_Bool}
use Rattle.std.proofs.lemmas.List.{map-append}
use Rattle.std.proofs.lemmas.List.Elements.{filter-append}
use Rattle.std.proofs.lemmas.List.Folds.{list_any-append}
use Rattle.std.proofs.lemmas.Grind.{flat_map-append}
use Rattle.html_render_dom_values.specs.Forest.{none, node, followed_by}
use Rattle.html_render_dom_styles.specs.Selectors.{is_filled}
use Rattle.html_render_layout_nodes.specs.Preorder.{flatten}
use Rattle.html_render_layout_nodes.specs.laws.Preorder.{flatten-followed_by}
use Rattle.html_render_layout_nodes.specs.laws.Splits.{followed_by-none, followed_by-followed_by}
use Rattle.html_render_layout_nodes.specs.declared.tree.NodeKind.TheVariants.{Block}
use Rattle.html_render_layout_nodes.specs.declared.tree.RenderNode.{RenderNode}
use Rattle.html_render_tree_convert.specs.Results.{Role, Result, any_stray, beside, cell_of, has_stray, row_of, spans_of}
use Rattle.html_render_tree_convert.specs.Results as role
use Rattle.html_render_tree_convert.specs.Held.{Entries, Held, Insertion, Nodes, due_of, leaf, nothing, nothing_held, sized}
use Rattle.html_render_tree_convert.specs.OpenElements.{OpenIn}
use Rattle.html_render_tree_convert.specs.declared.elements.Open.{Open}
use Rattle.html_render_tree_convert.specs.declared.elements.OpenKind.{OpenKind}
use Rattle.html_render_tree_convert.specs.declared.elements.OpenKind.TheVariants as open_kind
use Rattle.html_render_tree_convert.specs.Steps.{Closed, accepts, come, counts_in, is_captions}
use Rattle.html_render_tree_convert.proofs.Entries.{filled, filled-nothing}

-- ---- results in an open element

-- results that an open element of a kind keeps, whether one counts, and whether a part of a table is among them that is in none
abbrev pub kept : OpenKind → List Result → List Result
kept k rs = filter (λ r. accepts k r.role r.node.kind) rs

abbrev pub counted : OpenKind → Result → Bool
counted k r = counts_in k r.role r.node.kind r.has_children

abbrev pub strays : OpenKind → List Result → Bool
strays (open_kind.Parts spans) rs = any_stray rs
strays (open_kind.Rows rows) rs = any_stray rs
strays (open_kind.Row cells) rs = any_stray rs
strays k rs = has_stray rs

-- a caption above its table
abbrev pub as_block : Result → Result
as_block r = record r { node = record r.node { kind = Block } }

-- what is gathered of results that are kept
abbrev pub all_gathered : OpenKind → List Result → OpenKind
all_gathered (open_kind.Parts spans) rs = open_kind.Parts (spans ++ flat_map (λ r. unwrap_or (spans_of r.role) []) rs)
all_gathered (open_kind.Rows rows) rs = open_kind.Rows (rows ++ flat_map (λ r. option_to_list (row_of r.role)) rs)
all_gathered (open_kind.Row cells) rs = open_kind.Row (cells ++ flat_map (λ r. option_to_list (cell_of r.role)) rs)
all_gathered k rs = k

-- their nodes
abbrev pub nodes_in : OpenKind → List Result → Nodes
nodes_in open_kind.Captions rs = beside (map as_block rs)
nodes_in k rs = beside rs

-- nodes in an open element, the first with what is due in it
abbrev pub with_due : OpenKind → Held → Nodes → Nodes
with_due (open_kind.Parts spans) d t = filled 2 d.own t
with_due (open_kind.Rows rows) d t = filled 2 (due_of d) t
with_due (open_kind.Row cells) d t = filled 1 (due_of d) t
with_due k d t = t

abbrev pub has_nodes : Nodes → Bool
has_nodes none = false
has_nodes (node n children others) = true

-- what is due after these nodes
abbrev pub unless_taken : Nodes → Insertion → Insertion
unless_taken none i = i
unless_taken (node n children others) i = nothing

abbrev pub due_after : OpenKind → Nodes → Held → Held
due_after (open_kind.Parts spans) t d = record d { own = unless_taken t d.own }
due_after (open_kind.Rows rows) t d = record d { own = unless_taken t d.own; given = unless_taken t d.given }
due_after (open_kind.Row cells) t d = record d { own = unless_taken t d.own; given = unless_taken t d.given }
due_after k t d = d

-- nodes of results in an open element
abbrev pub nodes_come : List Result → Open → Nodes
nodes_come rs o = with_due o.kind o.due (nodes_in o.kind (kept o.kind rs))

-- an open element once results have come
abbrev pub results_come : List Result → Open → Open
results_come rs o = let l = kept o.kind rs in record o {
  kind = all_gathered o.kind l;
  due = due_after o.kind (nodes_in o.kind l) o.due;
  has_results = o.has_results || list_any (counted o.kind) rs;
  has_children = o.has_children || is_filled l;
  is_stray = o.is_stray || strays o.kind l;
}

abbrev pub all_come : List Result → OpenIn → OpenIn
all_come rs q = record { element = results_come rs q.element; tree = q.tree ++ flatten (nodes_come rs q.element) }

-- an element of a kind
abbrev pub at : OpenKind → OpenIn → OpenIn
at k q = record q { element = record q.element { kind = k } }

-- ---- no results, and results after others

pub none-come : (q : OpenIn) → all_come [] q ≡ q
none-come q = by q.element.kind
  where
    by : (k : OpenKind) → all_come [] (at k q) ≡ at k q
    by (open_kind.Parts spans) = simp (or-false, append-nil)
    by (open_kind.Rows rows) = simp (or-false, append-nil)
    by (open_kind.Row cells) = simp (or-false, append-nil)
    by k = simp (or-false, append-nil)

pub beside-append : (xs ys : List Result) → beside (xs ++ ys) ≡ followed_by (beside xs) (beside ys)
beside-append [] ys = refl
beside-append (x ∷ xs) ys = simp (beside-append xs ys, followed_by-followed_by)

filled-append : (xs ys : List Result) → is_filled (xs ++ ys) ≡ (is_filled xs || is_filled ys)
filled-append [] ys = refl
filled-append (x ∷ xs) ys = refl

nothing-taken : (t : Nodes) → unless_taken t nothing ≡ nothing
nothing-taken none = refl
nothing-taken (node n children others) = refl

due-twice : (k : OpenKind) (d : Held) (t u : Nodes) → due_after k u (due_after k t d) ≡ due_after k (followed_by t u) d
due-twice (open_kind.Parts spans) d (node n children others) u = simp nothing-taken
due-twice (open_kind.Rows rows) d (node n children others) u = simp nothing-taken
due-twice (open_kind.Row cells) d (node n children others) u = simp nothing-taken
due-twice k d t u = refl

due-once : (k : OpenKind) (d : Held) (t u : Nodes) →
    flatten (with_due k d t) ++ flatten (with_due k (due_after k t d) u) ≡ flatten (with_due k d (followed_by t u))
due-once k d t u = sym (flatten-followed_by (with_due k d t) (with_due k (due_after k t d) u)) ∙ ap flatten (by k t)
  where
    by : (k : OpenKind) (t : Nodes) → followed_by (with_due k d t) (with_due k (due_after k t d) u) ≡ with_due k d (followed_by t u)
    by (open_kind.Parts spans) (node n children others) = ap (λ v. node n (filled 1 d.own children) (followed_by others v)) (filled-nothing 2 u)
    by (open_kind.Rows rows) (node n children others) = ap (λ v. node n (filled 1 (due_of d) children) (followed_by others v)) (filled-nothing 2 u)
    by (open_kind.Row cells) (node n children others) = ap (λ v. node n (filled 0 (due_of d) children) (followed_by others v)) (filled-nothing 1 u)
    by k t = refl

ruleset appends = (or_assoc, append_assoc, filter-append, flat_map-append, map-append, list_any-append, filled-append, beside-append)

pub all_come-append : (xs ys : List Result) (q : OpenIn) → all_come ys (all_come xs q) ≡ all_come (xs ++ ys) q
all_come-append xs ys q = by q.element.kind
  where
    by : (k : OpenKind) → all_come ys (all_come xs (at k q)) ≡ all_come (xs ++ ys) (at k q)
    by (open_kind.Parts spans) = simp (appends, due-twice (open_kind.Parts spans), due-once (open_kind.Parts spans))
    by (open_kind.Rows rows) = simp (append_assoc, due-once (open_kind.Rows rows)) (simp (appends, due-twice (open_kind.Rows rows)))
    by (open_kind.Row cells) = simp (append_assoc, due-once (open_kind.Row cells)) (simp (appends, due-twice (open_kind.Row cells)))
    by k = simp (appends, flatten-followed_by)

-- ---- one result

-- entries of a result: of rows those below, of any other its node's and those below
abbrev pub entries_of : Role → RenderNode → (below : Nodes) → Entries
entries_of (role.Rows rows) n below = flatten below
entries_of _ n below = sized (leaf n ∷ flatten below)

-- what closes as a result
abbrev pub closed_result : Result → Closed
closed_result r = record {
  role = r.role;
  kind = r.node.kind;
  has_children = r.has_children;
  is_stray = r.is_stray;
  entries = entries_of r.role r.node r.below;
}

-- a result as it is written in an open element of a kind
abbrev pub placed : Role → OpenKind → Held → Result → Result
placed role.Contents k d r = r
placed role.Caption k d r = record r { node = record r.node { kind = if is_captions k then Block else r.node.kind } }
placed (role.Rows rows) (open_kind.Parts spans) d r = record r { below = filled 2 d.own r.below }
placed (role.Row cells) (open_kind.Rows rows) d r = record r { below = filled 1 (due_of d) r.below }
placed (role.Cell span) (open_kind.Row cells) d r = record r { below = filled 0 (due_of d) r.below }
placed y k d r = r

-- what is due there as it comes: a row and a cell took it as they opened, and rows if there was a row
abbrev pub spent : Role → OpenKind → Result → Held → Held
spent (role.Rows rows) (open_kind.Parts spans) r d = record d { own = unless_taken r.below d.own }
spent (role.Row cells) (open_kind.Rows rows) r d = record nothing_held { mark = d.mark }
spent (role.Cell span) (open_kind.Row cells) r d = record nothing_held { mark = d.mark }
spent y k r d = d

abbrev pub with_role : Role → Result → Result
with_role y r = record r { role = y }

-- a result comes
pub one-come : (y : Role) (k : OpenKind) (r : Result) (q : OpenIn) →
    come (Some (closed_result (placed y k q.element.due (with_role y r))))
    (record q { element = record q.element { kind = k; due = spent y k r q.element.due } }) ≡ all_come (with_role y r ∷ []) (at k q)
one-come role.Contents open_kind.Root r q = simp (or-false, or-true, append-nil)
one-come y (open_kind.Node keeping) r q = elim (cases_Bool (accepts (open_kind.Node keeping) y r.node.kind)) [
  | inl e ↦ rw e (simp (or-false, or-true, append-nil, followed_by-none))
  | inr e ↦ rw e (simp (or-false, append-nil))
]
one-come y k r q = simp (or-false, or-true, append-nil, followed_by-none)
