-- THE RENDER TREE of a document is good.
use Rattle.std.proofs.Common.{◌≡◌, ℕ, Bool, true, false, not, ◌||◌, if◌then◌else◌, List, [], ◌∷◌, ◌++◌, map, flat_map, filter, Option, Some, None}
use Rattle.std.proofs.Common.{IfSome, option_map, option_to_list, unwrap_or, refl, sym, ap, ◌∙◌, subst, option_and_then, is_some}
use Rattle.std.proofs.lemmas.Bool.{and_from, cond_both, or_left, or_parts, or_right}
use Rattle.html_render_dom_values.specs.Forest.{Forest, none, node, followed_by}
use Rattle.html_render_dom_nodes.specs.Content.{Content, Property, Space, element, html, svg}
use Rattle.html_render_dom.specs.Dom.{Dom, tree_of}
use Rattle.html_render_dom_styles.specs.Rules.{Rule as StyleRule}
use Rattle.html_render_dom_styles.specs.Selectors.{is_filled}
use Rattle.html_render_parts.specs.Grid.{edges_of}
use Rattle.html_render_parts.specs.Positions.{positions_fit}
use Rattle.html_render_parts.specs.Placement.{placed_rows}
use Rattle.html_render_parts.specs.TableCells.{CellGrid, cell_grid_of}
use Rattle.html_render_parts.specs.laws.OwnCells.{cells-own}
use Rattle.html_render_parts.specs.declared.table.Span.{Span}
use Rattle.html_render_layout_nodes.specs.Tables.{TableParts, unmeasured_table}
use Rattle.html_render_layout_nodes.specs.declared.tree.NodeKind.{NodeKind}
use Rattle.html_render_layout_nodes.specs.declared.tree.NodeKind.TheVariants.{Block, Container, Link, Table, TableRow, TableCell, FragmentStart, Text}
use Rattle.html_render_layout_nodes.specs.declared.tree.NodeStyle.{NodeStyle}
use Rattle.html_render_layout_nodes.specs.declared.tree.RenderNode.{RenderNode}
use Rattle.html_render_layout_nodes.specs.RenderNodes.{no_style, without_style}
use Rattle.html_render_tree_walk.specs.Walk.{picks}
use Rattle.html_render_tree_walk.specs.declared.cursor.Pick.{Pick}
use Rattle.html_render_tree_walk.specs.declared.cursor.Pick.TheVariants.{All, Captions, Others, Feet}
use Rattle.html_render_tree_convert.specs.declared.elements.Role.{Role}
use Rattle.html_render_tree_convert.specs.declared.elements.Role.TheVariants.{Contents, Caption, Rows, Row, Cell}
use Rattle.html_render_tree_convert.specs.declared.mapping.ElementKind.{ElementKind}
use Rattle.html_render_tree_convert.specs.declared.mapping.ElementKind.TheVariants.{Node, Part}
use Rattle.html_render_tree_convert.specs.declared.mapping.IfEmpty.TheVariants.{Stands, Vanishes}
use Rattle.html_render_tree_convert.specs.declared.plans.Element.{Element}
use Rattle.html_render_tree_convert.specs.declared.plans.Plan.{Plan}
use Rattle.html_render_tree_convert.specs.declared.plans.Plan.TheVariants as plan
use Rattle.html_render_tree_convert.specs.declared.tables.Part.TheVariants as part
use Rattle.html_render_tree_convert.specs.Plans.{plan_of, text_nodes, displayed_plan}
use Rattle.html_render_tree_convert.specs.Held.{Nodes, all_alone, inserts, insertion_of}
use Rattle.html_render_tree_convert.specs.Steps.{are_rows}
use Rattle.html_render_tree_convert.specs.Results.{Result, beside, nodes_of, of_role, stands_alone}
use Rattle.html_render_tree_convert.specs.Results.{is_caption, any_stray, has_stray, cell_of, row_of, spans_of, table_over, captioned}
use Rattle.html_render_tree_convert.specs.Results.{keeps, built, children_in, is_nothing, left_of, level_in, made, over}
use Rattle.html_render_tree_convert.specs.Results.{result_of, results, render_tree_of, alone, inserted}
use Rattle.html_render_tree.specs.GoodTrees.{TreePlace, Anywhere, InTable, InRow, is_over, are_good, places_around}
use Rattle.html_render_tree.specs.laws.GoodPlaces.{is_leaf, are_good_below, cells_like, rows_like, own_rows-alike, rows-good-same, spanned_in-alike, followed-anywhere}
use Rattle.html_render_tree.specs.laws.GoodPlaces.{followed-rows, into_cell-good, into_row-good, between-good}
use Rattle.std.specs.List.{list_any, AllByRecursion}
use Rattle.std.specs.Option.{option_map_or}
use Rattle.html_render_layout_nodes.specs.laws.Splits.{followed_by-none}
use Rattle.html_render_layout_nodes.specs.Kinds.{holds_insertions}
use Rattle.html_render_dom.specs.declared.style.computed.ComputedStyle.{ComputedStyle}
use Rattle.html_render_tree_convert.specs.declared.mapping.Mapping.{Mapping}
use Rattle.html_render_tree_convert.specs.declared.mapping.Mapping.TheVariants.{Nothing, Parent}
use Rattle.html_render_tree_convert.specs.Conversion.{element_mapping, own_style}
use Rattle.html_render_tree_convert.specs.Marks.{mark_of}

-- ---- results

-- a caption above its table
abbrev as_block : Result → Result
as_block r = record r { node = record r.node { kind = Block } }

-- whether a node may have children, and is no table and no part of one
abbrev IsPlain : NodeKind → Type 0
IsPlain kind = places_around Anywhere kind ≡ Some (Anywhere, Anywhere)

-- whether a result is good in the place of its role: its node over the trees below it; of `Rows` the trees alone
abbrev IsGood : Role → RenderNode → Nodes → Type 0
IsGood Contents n t = are_good Anywhere (node n t none) ≡ true
IsGood Caption n t = IsPlain n.kind × (are_good Anywhere t ≡ true)
IsGood (Rows rows) n t = are_good (InTable (rows_like rows)) t ≡ true
IsGood (Row cells) n t = (n.kind ≡ TableRow) × (are_good (InRow (cells_like cells)) t ≡ true)
IsGood (Cell span) n t = (n.kind ≡ TableCell) × (are_good Anywhere t ≡ true)

-- whether it is, unless a part of a table that is in no table is below it
abbrev IsGoodResult : Result → Type 0
IsGoodResult r = r.is_stray ≡ false → IsGood r.role r.node r.below

abbrev AllGood : List Result → Type 0
AllGood = AllByRecursion IsGoodResult

-- what holds of no results, and with a good one in front that passes a test, holds of those that pass it
passing : (test : Result → Bool) (P : List Result → Type 0) → P [] →
    ((r : Result) (rs : List Result) → test r ≡ true → IsGoodResult r → P rs → P (r ∷ rs)) → (rs : List Result) → AllGood rs → P (filter test rs)
passing test P last first [] g = last
passing test P last first (r ∷ rs) g =
    let k = passing test P last first rs g.1 in
    cond_both (test r) (r ∷ filter test rs) (filter test rs) P (λ e. first r (filter test rs) e g.0 k) (λ e. k)

append-good : (rs others : List Result) → AllGood rs → AllGood others → AllGood (rs ++ others)
append-good [] others g h = h
append-good (r ∷ rs) others g h = (g.0, append-good rs others g.1 h)

abbrev IsGoodIfAny : Option Result → Type 0
IsGoodIfAny o = AllGood (option_to_list o)

-- a claim about an option carries over to what a function makes of it
good-then : {X Y : Type 0} {P : X → Type 0} (Q : Y → Type 0) (f : X → Option Y) (o : Option X) → IfSome o P →
    ((x : X) → P x → IfSome (f x) Q) → IfSome (option_and_then f o) Q
good-then Q f None h is = tt
good-then Q f (Some x) h is = is x h

good-map : {X Y : Type 0} {P : X → Type 0} (Q : Y → Type 0) (f : X → Y) (o : Option X) → IfSome o P → ((x : X) → P x → Q (f x)) →
    IfSome (option_map f o) Q
good-map Q f None h is = tt
good-map Q f (Some x) h is = is x h

-- ---- results beside each other

-- a plain node over good trees is good
plain-good : (n : RenderNode) (t u : Nodes) → IsPlain n.kind → are_good Anywhere t ≡ true → are_good Anywhere u ≡ true →
    are_good Anywhere (node n t u) ≡ true
plain-good n t u plain h k = ap (are_good_below (λ p. are_good p t) (λ p. are_good p u)) plain ∙ and_from _ _ h k

abbrev is_cell : Role → Bool
is_cell x = is_some (cell_of x)

abbrev is_row : Role → Bool
is_row x = is_some (row_of x)

abbrev cells_of : Role → List Span
cells_of x = option_to_list (cell_of x)

abbrev rows_of : Role → List (List Span)
rows_of x = option_to_list (row_of x)

abbrev spans_in : Role → List (List Span)
spans_in x = unwrap_or (spans_of x) []

abbrev all_of : {X : Type 0} (own : Role → List X) → List Result → List X
all_of own rs = flat_map (λ r. own r.role) rs

-- whether a good result of such a role is good in front of good trees, where there is a place for what is its own
abbrev Fits : {X : Type 0} (is : Role → Bool) (own : Role → List X) (at : List X → TreePlace) → Type 0
Fits {X} is own at =
    (role : Role) (n : RenderNode) (t u : Nodes) (xs : List X) → not (is role) ≡ false → IsGood role n t → are_good (at xs) u ≡ true →
    are_good (at (own role ++ xs)) (followed_by (nodes_of role n t) u) ≡ true

alone-fit : Fits stands_alone (λ x. []) (λ (xs : List ℕ). Anywhere)
alone-fit Contents n t u xs e h k = followed-anywhere (node n t none) u h k
alone-fit Caption n t u xs e h k = plain-good n t u h.0 h.1 k
alone-fit role n t u xs e h k = cc

cells-fit : Fits is_cell cells_of (λ cells. InRow (cells_like cells))
cells-fit (Cell span) n t u cells e h k = rw h.0 (and_from _ _ h.1 k)
cells-fit role n t u cells e h k = cc

rows-fit : Fits is_row rows_of (λ rows. InTable (rows_like rows))
rows-fit (Row cells) n t u rows e h k = rw h.0 (and_from _ _ h.1 k)
rows-fit role n t u rows e h k = cc

parts-fit : Fits are_rows spans_in (λ spans. InTable (rows_like spans))
parts-fit (Rows rows) n t u spans e h k = followed-rows (spans_in (Rows rows)) spans t u (rw (spanned_in-alike _ rows) h) k
parts-fit role n t u spans e h k = cc

module _ {X : Type 0} (is : Role → Bool) (own : Role → List X) (at : List X → TreePlace) (last : is_over (at []) ≡ true) (first : Fits is own at) where
  -- good results of such roles are good, one after another
  beside-good : (rs : List Result) → AllGood rs → list_any (λ r. r.is_stray || not (is r.role)) rs ≡ false →
      are_good (at (all_of own rs)) (beside rs) ≡ true
  beside-good [] g s = last
  beside-good (r ∷ rs) g s =
      let both = or_parts (r.is_stray || not (is r.role)) (list_any (λ r. r.is_stray || not (is r.role)) rs) s in
      let this = or_parts r.is_stray (not (is r.role)) both.0 in
      first r.role r.node r.below (beside rs) (all_of own rs) this.1 (g.0 this.0) (beside-good rs g.1 both.1)

  -- and so are those among others
  picked-good : (rs : List Result) → AllGood rs → let these = of_role is rs in any_stray these ≡ false →
      are_good (at (all_of own these)) (beside these) ≡ true
  picked-good =
      passing (λ r. is r.role) (λ rs. any_stray rs ≡ false → are_good (at (all_of own rs)) (beside rs) ≡ true) (λ s. last)
      (λ r rs e h k s. let both = or_parts r.is_stray (any_stray rs) s in
      first r.role r.node r.below (beside rs) (all_of own rs) (ap not e) (h both.0) (k both.1))

-- results that need no table are good anywhere
alone-good : (rs : List Result) → AllGood rs → has_stray rs ≡ false → are_good Anywhere (beside rs) ≡ true
alone-good = beside-good stands_alone (λ x. []) (λ (xs : List ℕ). Anywhere) refl alone-fit

-- captions become blocks
blocks-good : (rs : List Result) → AllGood rs → AllGood (map as_block (of_role is_caption rs))
blocks-good =
    passing (λ r. is_caption r.role) (λ rs. AllGood (map as_block rs)) tt (λ r rs e h k. (λ s. by r.role r.node r.below e (h s), k))
  where
    by : (role : Role) (n : RenderNode) (t : Nodes) → is_caption role ≡ true → IsGood role n t → IsGood role (record n { kind = Block }) t
    by Caption n t e h = (refl, h.1)
    by role n t e h = cc

-- ---- which kinds of nodes elements become: none by itself that of a table or of a part of one; and one that may have children, if
-- children are converted

abbrev is_plain : NodeKind → Bool
is_plain (Table grid) = false
is_plain TableRow = false
is_plain TableCell = false
is_plain kind = not (is_leaf kind)

plain-if : (kind : NodeKind) → (is_plain kind || holds_insertions kind) ≡ true → IsPlain kind
plain-if Container h = refl
plain-if kind h = cc

-- whether an element becomes a node so, which may have children or not, or a part of a table
abbrev is_inner : (has_children : Bool) → ElementKind → Bool
is_inner true (Node kind) = is_plain kind
is_inner false (Node kind) = are_good Anywhere (node (without_style kind) none none)
is_inner has_children (Part p) = has_children

-- whether a plan is of good nodes
abbrev is_good_plan : Plan → Bool
is_good_plan plan.Nothing = true
is_good_plan (plan.Alone n) = are_good Anywhere (node n none none)
is_good_plan (plan.Over e has_children) = is_inner has_children e.kind

if-true : (b : Bool) → (if b then true else true) ≡ true
if-true true = refl
if-true false = refl

module _ (mark : Option (List ℕ)) (style : ComputedStyle) where
  abbrev fits : Mapping → Bool
  fits m = is_good_plan (displayed_plan m mark style)

  fits-if : (b : Bool) (x y : Mapping) → fits (if b then x else y) ≡ (if b then fits x else fits y)
  fits-if true x y = refl
  fits-if false x y = refl

  fits-nothing : fits Nothing ≡ true
  fits-nothing = elim mark as (λ m. is_good_plan (option_map_or (λ name. plan.Alone (without_style (FragmentStart name))) m plan.Nothing) ≡ true) [ None ↦ refl | Some name ↦ refl ]

  fits-link : (target : Option (List ℕ)) → fits (option_map_or (λ t. Parent (Node (Link t)) Vanishes) target (Parent (Node Container) Stands)) ≡ true
  fits-link None = refl
  fits-link target = refl

  element_fits : (space : Space) (name : List ℕ) (properties : List Property) (below : Forest Content) →
      fits (element_mapping space name properties below) ≡ true
  element_fits html name properties below = simp (fits-if, fits-link, fits-nothing, if-true)
  element_fits svg name properties below = simp (fits-if, if-true)
  element_fits space name properties below = refl

-- THE PLAN of each node is of good nodes
plan-good : (rules : List StyleRule) (content : Content) (below : Forest Content) → is_good_plan (plan_of rules content below) ≡ true
plan-good rules (element name properties template_contents integration_point) below =
    let style = own_style rules name properties in
    cond_both (is_some style.display) plan.Nothing _ (λ p. is_good_plan p ≡ true) (λ e. refl)
    (λ e. element_fits (mark_of name properties) style name.space name.local properties below)
plan-good rules content below = refl

-- ---- what is inserted

front-good : (mark before : Option (List ℕ)) → AllGood (all_alone (text_nodes FragmentStart mark ++ text_nodes Text before))
front-good None None = tt
front-good (Some name) None = (λ s. refl, tt)
front-good None (Some text) = (λ s. refl, tt)
front-good (Some name) (Some text) = (λ s. refl, (λ s. refl, tt))

back-good : (after : Option (List ℕ)) → AllGood (all_alone (text_nodes Text after))
back-good None = tt
back-good (Some text) = (λ s. refl, tt)

alone-strays : (ns : List RenderNode) → has_stray (all_alone ns) ≡ false
alone-strays [] = refl
alone-strays (n ∷ ns) = alone-strays ns

no-texts : (mark before after : Option (List ℕ)) → (is_some mark || (is_some before || is_some after)) ≡ false → (t : Nodes) →
    followed_by (beside (all_alone (text_nodes FragmentStart mark ++ text_nodes Text before))) (followed_by t (beside (all_alone (text_nodes Text after)))) ≡ t
no-texts None None None h t = followed_by-none t
no-texts mark before after h t = cc

-- the grid of a table has its rows
grid-alike : (spans : List (List Span)) →
    IfSome (option_map unmeasured_table (cell_grid_of spans)) (λ grid. rows_like grid.cells.rows ≡ rows_like spans)
grid-alike spans = rw (cells-own spans)
    (cond_both (positions_fit (placed_rows spans)) _ None
    (λ (o : Option CellGrid). IfSome (option_map unmeasured_table o) (λ grid. rows_like grid.cells.rows ≡ rows_like spans))
    (λ e. own_rows-alike (edges_of (placed_rows spans)) 0 [] spans) (λ e. tt))

module _ (e : Element) where
  abbrev in_front : List Result
  in_front = all_alone (insertion_of e).front

  abbrev at_back : List Result
  at_back = all_alone (insertion_of e).back

  abbrev front : Nodes
  front = beside in_front

  abbrev back : Nodes
  back = beside at_back

  f : are_good Anywhere front ≡ true
  f = alone-good in_front (front-good e.texts.mark e.texts.before) (alone-strays (insertion_of e).front)

  b : are_good Anywhere back ≡ true
  b = alone-good at_back (back-good e.texts.after) (alone-strays (insertion_of e).back)

  -- whether a result is good with what the element inserts as one of a kind
  abbrev IsGoodAs : ElementKind → (has_captions : Bool) → Result → Type 0
  IsGoodAs kind has_captions r = IsGoodResult (inserted (level_in kind (inserts e) has_captions) e r)

  over-good : (style : NodeStyle) (kind : NodeKind) (rs : List Result) (has_captions : Bool) → AllGood rs →
      (are_good Anywhere (beside rs) ≡ true → are_good Anywhere (node (over style kind rs).node (beside rs) none) ≡ true) →
      IsGoodAs (Node kind) has_captions (over style kind rs)
  over-good style kind rs has_captions g whole = by (inserts e) (holds_insertions kind) refl refl
    where
      r : Result
      r = over style kind rs

      within : holds_insertions kind ≡ true → has_stray rs ≡ false → IsGood Contents r.node (followed_by front (followed_by r.below back))
      within i s = plain-good r.node _ none (plain-if kind (or_right _ _ i)) (between-good front back f b r.below (alone-good rs g s)) refl

      by : (has_texts inside : Bool) → inserts e ≡ has_texts → holds_insertions kind ≡ inside →
          IsGoodResult (inserted (if not has_texts || inside then Some 0 else None) e r)
      by true false x i =
          let all = in_front ++ r ∷ at_back in
          let good = append-good in_front (r ∷ at_back) (front-good e.texts.mark e.texts.before)
          (λ s. whole (alone-good rs g s), back-good e.texts.after) in
          λ s. plain-good (without_style Container) (beside all) none refl (alone-good all good s) refl
      by false false x i = λ s. rw (no-texts e.texts.mark e.texts.before e.texts.after x r.below) (whole (alone-good rs g s))
      by true true x i = within i
      by false true x i = within i

  table-good : (style : NodeStyle) (grid : TableParts) (parts captions : List Result) →
      (any_stray parts ≡ false → are_good (InTable grid.cells.rows) (beside parts) ≡ true) → AllGood (map as_block captions) →
      IsGoodAs (Part part.Table) (is_filled captions) (if is_filled captions then captioned style grid captions parts else table_over style grid parts)
  table-good style grid parts [] rows c = λ s. and_from _ _ (into_row-good front back f b grid.cells.rows (beside parts) (rows s)) refl
  table-good style grid parts (r ∷ rs) rows c = λ s.
      let table = if list_any (λ r. r.has_children) parts then table_over no_style grid parts ∷ [] else [] in
      let all = map as_block (r ∷ rs) ++ table in
      let k = cond_both (list_any (λ (r : Result). r.has_children) parts) (table_over no_style grid parts ∷ []) [] AllGood
      (λ e. (λ s. and_from _ _ (rows s) refl, tt)) (λ e. tt) in
      and_from _ _ (between-good front back f b (beside all) (alone-good all (append-good (map as_block (r ∷ rs)) table c k) s)) refl

  built-good : (kind : ElementKind) (style : NodeStyle) (captions others : List Result) → is_inner true kind ≡ true →
      AllGood (map as_block captions) → AllGood others → IfSome (built kind style captions others) (IsGoodAs kind (is_filled captions))
  built-good (Part part.Table) style captions others i c g =
      let parts = of_role are_rows others in
      good-then _ _ (option_map unmeasured_table (cell_grid_of (all_of spans_in parts))) (grid-alike (all_of spans_in parts))
      (λ grid a. table-good style grid parts captions
      (λ s. sym (rows-good-same grid.cells.rows (beside parts)) ∙ ap (λ all. are_good (InTable all) (beside parts)) a ∙
      picked-good are_rows spans_in (λ spans. InTable (rows_like spans)) refl parts-fit others g s) c)
  built-good (Part part.Body) style captions others i c g =
      let rows = of_role is_row others in λ s.
      into_row-good front back f b (rows_like (all_of rows_of rows)) (beside rows)
      (picked-good is_row rows_of (λ rows. InTable (rows_like rows)) refl rows-fit others g s)
  built-good (Part part.Row) style captions others i c g =
      let cells = of_role is_cell others in λ s.
      let k = picked-good is_cell cells_of (λ cells. InRow (cells_like cells)) refl cells-fit others g s in
      (refl, into_cell-good front back f b (cells_like (all_of cells_of cells)) (beside cells) k)
  built-good (Part (part.Cell span)) style captions others i c g = λ s. (refl, between-good front back f b (beside others) (alone-good others g s))
  built-good (Part part.Caption) style captions others i c g = λ s. (refl, between-good front back f b (beside others) (alone-good others g s))
  built-good (Node kind) style captions others i c g =
      let kept = filter (λ (r : Result). keeps kind r.node.kind) others in
      over-good style kind kept (is_filled captions) (passing (λ r. keeps kind r.node.kind) AllGood tt (λ r rs e h k. (h, k)) others g)
      (λ k. plain-good (over style kind kept).node (beside kept) none (plain-if kind (or_left _ _ i)) k refl)

  made-good : (captions others : List Result) → IfSome (built e.kind e.style captions others) (IsGoodAs e.kind (is_filled captions)) →
      IfSome (made e captions others) IsGoodIfAny
  made-good captions others h = good-map _ _ (built e.kind e.style captions others) h (left (is_nothing e.kind e.if_empty captions others))
    where
      left : (nothing : Bool) (r : Result) → IsGoodAs e.kind (is_filled captions) r → IsGoodIfAny (left_of e nothing (is_filled captions) r)
      left true r h =
          elim e.texts.mark as (λ m. IsGoodIfAny (option_map (λ name. alone (without_style (FragmentStart name))) m))
          [ None ↦ tt | Some name ↦ (λ s. refl, tt) ]
      left false r h = (h, tt)

-- ---- documents

module _ (inside : Pick → Option (List Result)) (g : (pick : Pick) → IfSome (inside pick) AllGood) where
  abbrev AreGood : List Result × List Result → Type 0
  AreGood children = AllGood (map as_block children.0) × AllGood children.1

  children-good : (kind : ElementKind) → IfSome (children_in kind inside) AreGood
  children-good (Part part.Table) =
      good-then AreGood _ (inside Captions) (g Captions)
      (λ captions c. good-then AreGood _ (inside Others) (g Others)
      (λ others h. good-then AreGood _ (inside Feet) (g Feet) (λ feet k. (blocks-good captions c, append-good others feet h k))))
  children-good kind = good-map AreGood _ (inside All) (g All) (λ others h. (tt, h))

  node-good : (p : Plan) → is_good_plan p ≡ true → IfSome (result_of p inside) IsGoodIfAny
  node-good plan.Nothing h = tt
  node-good (plan.Alone n) h = (λ s. h, tt)
  node-good (plan.Over e true) h =
      good-then _ _ (children_in e.kind inside) (children-good e.kind)
      (λ c good. made-good e c.0 c.1 (built-good e e.kind e.style c.0 c.1 h good.0 good.1))
  node-good (plan.Over e false) h = by e.kind h
    where
      by : (kind : ElementKind) → is_inner false kind ≡ true →
          IfSome (option_and_then (λ (c : List Result × List Result). made (record e { kind = kind }) c.0 c.1) (children_in kind (λ pick. Some []))) IsGoodIfAny
      by (Node kind) i = let e' = record e { kind = Node kind } in made-good e' [] [] (over-good e' e.style kind [] false tt (λ k. i))
      by (Part p) i = cc

results-good : (rules : List StyleRule) (nodes : Forest Content) (pick : Pick) → IfSome (results rules nodes pick) AllGood
results-good rules none pick = tt
results-good rules (node content children others) pick =
    good-then _ _ (if picks pick content then result_of (plan_of rules content children) (λ p. results rules children p) else Some None)
    (cond_both (picks pick content) _ (Some None) (λ o. IfSome o IsGoodIfAny)
    (λ e. node-good (λ p. results rules children p) (λ p. results-good rules children p) (plan_of rules content children)
    (plan-good rules content children)) (λ e. tt))
    (λ r h. good-then _ _ (results rules others pick) (results-good rules others pick) (λ rest k. append-good (option_to_list r) rest h k))

-- THE RENDER TREE of a document is good
pub render_trees_are_good : (rules : List StyleRule) (dom : Dom) (t : Forest RenderNode) → render_tree_of rules dom ≡ Some t →
    are_good Anywhere t ≡ true
render_trees_are_good rules dom t e =
    let IsGoodTree = λ (o : Option Nodes). IfSome o (λ t. are_good Anywhere t ≡ true) in
    subst IsGoodTree e
    (good-then _ _ (results rules (tree_of dom 0) All) (results-good rules (tree_of dom 0) All)
    (λ rs g. cond_both (has_stray rs) None (Some (beside rs)) IsGoodTree (λ s. tt) (λ s. alone-good rs g s)))
