-- Good trees beside each other, insertions into them, and the numbers of rows and cells of a grid.
use Rattle.std.proofs.Common.{◌≡◌, ℕ, ◌+◌, ◌-◌, Bool, true, ◌&&◌, false, if◌then◌else◌, List, [], ◌∷◌, ◌++◌, map, Option, refl, ap, ◌∙◌}
use Rattle.std.specs.Option.{option_map_or}
use Rattle.std.proofs.lemmas.Bool.{and_from, and_parts}
use Rattle.html_render_dom_values.specs.Forest.{none, node, followed_by}
use Rattle.html_render_parts.specs.Placement.{own_from, hanging, due_end, not_due}
use Rattle.html_render_parts.specs.OwnCells.{own_rows_from, on_columns}
use Rattle.html_render_parts.specs.Spans.{spanned, spanned_in, width_of}
use Rattle.html_render_parts.specs.declared.table.Span.{Span}
use Rattle.html_render_parts.specs.declared.table.cells.GridCell.{GridCell}
use Rattle.html_render_parts.specs.declared.table.placement.PositionedCell.{PositionedCell}
use Rattle.html_render_layout_nodes.specs.declared.tree.NodeKind.{NodeKind}
use Rattle.html_render_layout_nodes.specs.declared.tree.NodeKind.TheVariants.{Text, Break, Image, Svg, FragmentStart, Table, TableRow, TableCell}
use Rattle.html_render_tree_convert.specs.Results.{in_first}
use Rattle.html_render_tree_convert.specs.Held.{Nodes}
use Rattle.html_render_tree.specs.GoodTrees.{TreePlace, Anywhere, InTable, InRow, places_around, are_good}

-- two tests, each of which follows from another
and-map : {a b a' b' : Bool} → (a ≡ true → a' ≡ true) → (b ≡ true → b' ≡ true) → (a && b) ≡ true → (a' && b') ≡ true
and-map {a} {b} {a'} {b'} inner outer h = let both = and_parts a b h in and_from a' b' (inner both.0) (outer both.1)

-- ---- rows with equal numbers of cells

-- some cell of a grid
abbrev some_cell : GridCell
some_cell = record { rowspan = 0; first = 0; columns = 0 }

-- some cell for each of these
abbrev pub cells_like : {X : Type 0} → List X → List GridCell
cells_like {X} cells = map (λ (cell : X). some_cell) cells

-- some row of cells for each of these rows
abbrev pub rows_like : {X : Type 0} → List (List X) → List (List GridCell)
rows_like {X} rows = map (λ (cells : List X). cells_like cells) rows

-- the number of cells doesn't depend on the cells, and that of a grid's rows not on spans
cells_like-map : {X Y : Type 0} (f : X → Y) (cells : List X) → cells_like (map f cells) ≡ cells_like cells
cells_like-map f [] = refl
cells_like-map f (c ∷ cells) = ap (λ cs. some_cell ∷ cs) (cells_like-map f cells)

pub spanned_in-alike : (widest : ℕ) (rows : List (List Span)) → rows_like (spanned_in widest rows) ≡ rows_like rows
spanned_in-alike widest [] = refl
spanned_in-alike widest (cells ∷ rows) = rw (cells_like-map (spanned (widest - width_of cells)) cells, spanned_in-alike widest rows) refl

own-alike : (edges : List ℕ) (row cursor : ℕ) (hs : List PositionedCell) (cells : List Span) →
    cells_like (map (on_columns edges) (own_from row cursor hs cells)) ≡ cells_like cells
own-alike edges row cursor hs [] = refl
own-alike edges row cursor hs (s ∷ cells) = ap (λ cs. some_cell ∷ cs) (own-alike edges row (due_end cursor hs + s.colspan) (not_due cursor hs) cells)

pub own_rows-alike : (edges : List ℕ) (row : ℕ) (hung : List PositionedCell) (rows : List (List Span)) →
    rows_like (map (map (on_columns edges)) (own_rows_from row hung rows)) ≡ rows_like rows
own_rows-alike edges row hung [] = refl
own_rows-alike edges row hung (cells ∷ rows) =
    rw (own-alike edges row 0 hung cells, own_rows-alike edges (row + 1) (hanging (row + 1) (hung ++ own_from row 0 hung cells)) rows) refl

-- whether nodes of a kind have no children: texts, line breaks, images, drawings and fragment marks
abbrev pub is_leaf : NodeKind → Bool
is_leaf (Text text) = true
is_leaf Break = true
is_leaf (Image image) = true
is_leaf (Svg title) = true
is_leaf (FragmentStart name) = true
is_leaf _ = false

-- ---- a first tree and its later siblings

-- whether children and later siblings are good in the places around a node, if it is allowed where it is
abbrev pub are_good_below : (below beside : TreePlace → Bool) → Option (TreePlace × TreePlace) → Bool
are_good_below below beside around = option_map_or (λ p. below p.0 && beside p.1) around false

abbrev good_over : TreePlace → NodeKind → (children others : Nodes) → Bool
good_over place kind children others = are_good_below (λ p. are_good p children) (λ p. are_good p others) (places_around place kind)

-- the later siblings may be others, if these are good
at-anywhere : (kind : NodeKind) (t u u' : Nodes) → (are_good Anywhere u ≡ true → are_good Anywhere u' ≡ true) →
    good_over Anywhere kind t u ≡ true → good_over Anywhere kind t u' ≡ true
at-anywhere (Table grid) t u u' outer h = and-map {a = are_good (InTable grid.cells.rows) t} (λ e. e) outer h
at-anywhere TableRow t u u' outer h = cc
at-anywhere TableCell t u u' outer h = cc
at-anywhere kind t u u' outer h = and-map {a = are_good (if is_leaf kind then InRow [] else Anywhere) t} (λ e. e) outer h

-- in a row the children may be others, and in a table both
at-row : (kind : NodeKind) (c : GridCell) (cs : List GridCell) (t t' u : Nodes) → (are_good Anywhere t ≡ true → are_good Anywhere t' ≡ true) →
    good_over (InRow (c ∷ cs)) kind t u ≡ true → good_over (InRow (c ∷ cs)) kind t' u ≡ true
at-row TableCell c cs t t' u inner h = and-map inner (λ e. e) h
at-row kind c cs t t' u inner h = cc

at-table : (kind : NodeKind) (c : List GridCell) (cs ds : List (List GridCell)) (t t' u u' : Nodes) →
    (are_good (InRow c) t ≡ true → are_good (InRow c) t' ≡ true) → (are_good (InTable cs) u ≡ true → are_good (InTable ds) u' ≡ true) →
    good_over (InTable (c ∷ cs)) kind t u ≡ true → good_over (InTable (c ∷ ds)) kind t' u' ≡ true
at-table TableRow c cs ds t t' u u' inner outer h = and-map inner outer h
at-table kind c cs ds t t' u u' inner outer h = cc

-- ---- good trees followed by good trees

pub followed-anywhere : (t u : Nodes) → are_good Anywhere t ≡ true → are_good Anywhere u ≡ true → are_good Anywhere (followed_by t u) ≡ true
followed-anywhere none u h k = k
followed-anywhere (node n children others) u h k = at-anywhere n.kind children others (followed_by others u) (λ e. followed-anywhere others u e k) h

pub followed-rows : {X : Type 0} (a b : List (List X)) (t u : Nodes) → are_good (InTable (rows_like a)) t ≡ true →
    are_good (InTable (rows_like b)) u ≡ true → are_good (InTable (rows_like (a ++ b))) (followed_by t u) ≡ true
followed-rows [] b none u h k = k
followed-rows [] b (node n children others) u h k = cc
followed-rows (c ∷ a) b none u h k = cc
followed-rows (c ∷ a) b (node n children others) u h k =
    at-table n.kind (cells_like c) (rows_like a) (rows_like (a ++ b)) children children others (followed_by others u)
    (λ e. e) (λ e. followed-rows a b others u e k) h

-- trees are good in rows with equal numbers of cells, and in tables of such rows
cells-good-same : (cs : List GridCell) (t : Nodes) → are_good (InRow (cells_like cs)) t ≡ are_good (InRow cs) t
cells-good-same [] t = refl
cells-good-same (c ∷ cs) none = refl
cells-good-same (c ∷ cs) (node n children others) = by n.kind (cells-good-same cs others)
  where
    by : (kind : NodeKind) → are_good (InRow (cells_like cs)) others ≡ are_good (InRow cs) others →
        good_over (InRow (some_cell ∷ cells_like cs)) kind children others ≡ good_over (InRow (c ∷ cs)) kind children others
    by TableCell e = ap (λ b. are_good Anywhere children && b) e
    by kind e = refl

pub rows-good-same : (rows : List (List GridCell)) (t : Nodes) → are_good (InTable (rows_like rows)) t ≡ are_good (InTable rows) t
rows-good-same [] t = refl
rows-good-same (c ∷ cs) none = refl
rows-good-same (c ∷ cs) (node n children others) = by n.kind (cells-good-same c children) (rows-good-same cs others)
  where
    by : (kind : NodeKind) → are_good (InRow (cells_like c)) children ≡ are_good (InRow c) children →
        are_good (InTable (rows_like cs)) others ≡ are_good (InTable cs) others →
        good_over (InTable (cells_like c ∷ rows_like cs)) kind children others ≡ good_over (InTable (c ∷ cs)) kind children others
    by TableRow e f = ap (λ b. b && are_good (InTable (rows_like cs)) others) e ∙ ap (λ b. are_good (InRow c) children && b) f
    by kind e f = refl

-- ---- trees between others

module _ (front back : Nodes) (f : are_good Anywhere front ≡ true) (b : are_good Anywhere back ≡ true) where
  pub between-good : (t : Nodes) → are_good Anywhere t ≡ true → are_good Anywhere (followed_by front (followed_by t back)) ≡ true
  between-good t h = followed-anywhere front (followed_by t back) f (followed-anywhere t back h b)

  pub into_cell-good : (cells : List GridCell) (t : Nodes) → are_good (InRow cells) t ≡ true → are_good (InRow cells) (in_first 1 front back t) ≡ true
  into_cell-good cells none h = h
  into_cell-good [] (node n children others) h = cc
  into_cell-good (c ∷ cs) (node n children others) h =
      at-row n.kind c cs children (followed_by front (followed_by children back)) others (between-good children) h

  pub into_row-good : (rows : List (List GridCell)) (t : Nodes) → are_good (InTable rows) t ≡ true →
      are_good (InTable rows) (in_first 2 front back t) ≡ true
  into_row-good rows none h = h
  into_row-good [] (node n cells others) h = cc
  into_row-good (c ∷ cs) (node n cells others) h =
      at-table n.kind c cs cs cells (in_first 1 front back cells) others others (into_cell-good c cells) (λ e. e) h
