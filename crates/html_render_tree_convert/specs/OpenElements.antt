-- Elements that are open during a walk.
use Rattle.std.specs.Prelude.{Bool, false, List, []}
use Rattle.html_render_tree_convert.specs.Held.{Entries, Held, nothing_held}
use Rattle.html_render_tree_convert.specs.declared.elements.Open.{Open}
use Rattle.html_render_tree_convert.specs.declared.elements.OpenKind.{OpenKind}
use Rattle.html_render_tree_convert.specs.declared.elements.OpenKind.TheVariants.{Root}
use Rattle.html_render_tree_convert.specs.declared.mapping.IfEmpty.{IfEmpty}
use Rattle.html_render_tree_convert.specs.declared.mapping.IfEmpty.TheVariants.{Stands}

-- an open element to which no result has come, at the start of a tree
abbrev pub created : OpenKind → Held → IfEmpty → (has_children : Bool) → Open
created kind due if_empty has_children = record {
  kind = kind;
  due = due;
  start = 0;
  if_empty = if_empty;
  has_results = false;
  has_children = has_children;
  is_wrapped = false;
  is_stray = false;
}

-- an open element, and the nodes that are written
pub record OpenIn : Type 0 where
  pub element : Open
  pub tree : Entries

-- STATE of a conversion: the innermost open element, those outside it, from the inside to the outside, and the nodes that are written
pub record State : Type 0 where
  pub element : Open
  pub outer : List Open
  pub tree : Entries

-- a state of an open element and those outside it
abbrev pub outside : List Open → OpenIn → State
outside ps p = record { element = p.element; outer = ps; tree = p.tree }

-- the innermost open element of a state
abbrev pub innermost : State → OpenIn
innermost s = record { element = s.element; tree = s.tree }

-- a document before its first event
abbrev pub root : State
root = record { element = created Root nothing_held Stands false; outer = []; tree = [] }
