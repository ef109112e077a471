-- Properties of each kind of node: its name in a dump, and whether it accepts insertions.
use Rattle.std.specs.Prelude.{ℕ, Bool, true, false, List, codes}
use Rattle.html_render_layout_nodes.specs.declared.tree.Emphasis.TheVariants.{Em, Strong, Code}
use Rattle.html_render_layout_nodes.specs.declared.tree.NodeKind.{NodeKind}
use Rattle.html_render_layout_nodes.specs.declared.tree.NodeKind.TheVariants.{Text, Container, Break, Block, Div, Emphasis, Header, BlockQuote, Ul}
use Rattle.html_render_layout_nodes.specs.declared.tree.NodeKind.TheVariants.{Ol, ListItem, Dl, Dt, Dd, Strikeout, Superscript, Link, Image, Svg}
use Rattle.html_render_layout_nodes.specs.declared.tree.NodeKind.TheVariants.{FragmentStart, Table, TableRow, TableCell}

-- the name of a kind in a dump
abbrev pub kind_name : NodeKind → List ℕ
kind_name (Text text) = codes "Text"
kind_name Container = codes "Container"
kind_name Break = codes "Break"
kind_name Block = codes "Block"
kind_name Div = codes "Div"
kind_name (Emphasis Em) = codes "Em"
kind_name (Emphasis Strong) = codes "Strong"
kind_name (Emphasis Code) = codes "Code"
kind_name (Header level) = codes "Header"
kind_name BlockQuote = codes "BlockQuote"
kind_name Ul = codes "Ul"
kind_name (Ol start) = codes "Ol"
kind_name ListItem = codes "ListItem"
kind_name Dl = codes "Dl"
kind_name Dt = codes "Dt"
kind_name Dd = codes "Dd"
kind_name Strikeout = codes "Strikeout"
kind_name Superscript = codes "Sup"
kind_name (Link target) = codes "Link"
kind_name (Image image) = codes "Img"
kind_name (Svg title) = codes "Svg"
kind_name (FragmentStart name) = codes "FragStart"
kind_name (Table grid) = codes "Table"
kind_name TableRow = codes "TableRow"
kind_name TableCell = codes "TableCell"

-- whether content that is inserted at a node of a kind goes among its children
abbrev pub holds_insertions : NodeKind → Bool
holds_insertions Container = true
holds_insertions Block = true
holds_insertions Div = true
holds_insertions BlockQuote = true
holds_insertions ListItem = true
holds_insertions Dl = true
holds_insertions Dt = true
holds_insertions Dd = true
holds_insertions _ = false
