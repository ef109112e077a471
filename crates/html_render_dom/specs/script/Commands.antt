-- Commands of a script's lines, by their bytes.
use Rattle.std.specs.Prelude.{ℕ, ◌==◌, nat_eq, Bool, if◌then◌else◌, List, [], ◌∷◌, length, drop, codes, Option, Some, None, option_map}
use Rattle.std.specs.List.{after_first, before_first, position_or_len, starts_with}
use Rattle.html_render_dom_nodes.specs.Content.{Name, svg}
use Rattle.html_render_dom.specs.Edits.{html_name}

-- call on the document's current node, or nothing
pub data Command : Type 0 where
  do_nothing : Command
  append_text : (contents : List ℕ) → Command
  append_comment : (contents : List ℕ) → Command
  open_element : Name → Command
  close_element : Command
  give_attribute : (name value : List ℕ) → Command

-- name in the SVG namespace
abbrev pub svg_name : (local : List ℕ) → Name
svg_name local = record { space = svg; local = local }

-- text with its escapes `\n` (a line feed) and `\\` (a backslash) resolved; none where a backslash precedes anything else
abbrev pub unescaped : List ℕ → Option (List ℕ)
unescaped [] = Some []
unescaped (b ∷ []) = if b == 92 then None else Some (b ∷ [])
unescaped (b ∷ c ∷ rest) =
    if b == 92 then
    if c == 110 then option_map (λ bs. 10 ∷ bs) (unescaped rest)
    else if c == 92 then option_map (λ bs. 92 ∷ bs) (unescaped rest)
    else None
    else option_map (λ bs. b ∷ bs) (unescaped (c ∷ rest))

-- name that isn't empty
abbrev pub named : List ℕ → Option (List ℕ)
named name = if length name == 0 then None else Some name

-- name of an element, by `name` of HTML or `svg:name`
abbrev pub element_name : List ℕ → Option Name
element_name bs =
    if starts_with nat_eq bs (codes "svg:") then option_map svg_name (named (drop 4 bs))
    else option_map html_name (named bs)

-- attribute of this name, which isn't empty, with a value whose escapes are resolved
abbrev pub attribute_given : (name value : List ℕ) → Option Command
attribute_given name value = if length name == 0 then None else option_map (give_attribute name) (unescaped value)

-- attribute of `name=value`; the first `=` ends the name
abbrev pub attribute_of : List ℕ → Option Command
attribute_of bs =
    let is_equals : ℕ → Bool = λ b. b == 61 in
    if position_or_len is_equals bs == length bs then None
    else attribute_given (before_first is_equals bs) (after_first is_equals bs)

-- call of a line that is neither empty nor a text: `!comment`, `<name`, `>` alone, or `@name=value`
abbrev pub call_of : (line : List ℕ) → Option Command
call_of [] = None
call_of (first ∷ rest) =
    if first == 33 then option_map append_comment (unescaped rest)
    else if first == 60 then option_map open_element (element_name rest)
    else if first == 62 then if length rest == 0 then Some close_element else None
    else if first == 64 then attribute_of rest
    else None

-- command of a line: nothing if it is empty, a text as `"text`, or a call; none if it is faulty
abbrev pub command_of : (line : List ℕ) → Option Command
command_of [] = Some do_nothing
command_of (first ∷ rest) = if first == 34 then option_map append_text (unescaped rest) else call_of (first ∷ rest)
