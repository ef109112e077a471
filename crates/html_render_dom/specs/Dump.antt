-- The dump of a forest: lines for doctypes, for texts, and for starts and ends of elements.
use Rattle.std.specs.Prelude.{ℕ, ◌+◌, ◌==◌, Bool, if◌then◌else◌, List, [], ◌∷◌, ◌++◌, length, codes, replicate}
use Rattle.std.specs.Str.{trim}
use Rattle.html_render_dom_nodes.specs.Content.{Content, document, doctype, text, comment, element, instruction}
use Rattle.html_render_dom_values.specs.Forest.{Forest, none, node}

-- a line: an indent in spaces, a piece and a line feed
abbrev pub dump_line : (indent : ℕ) → List ℕ → List ℕ
dump_line indent piece = replicate indent 32 ++ (piece ++ 10 ∷ [])

-- whether a text is empty or white space alone
abbrev pub is_white_space_alone : List ℕ → Bool
is_white_space_alone contents = length (trim contents) == 0

abbrev pub start_line : (indent : ℕ) → (name : List ℕ) → List ℕ
start_line indent name = dump_line indent (codes "<" ++ (name ++ codes ">"))

abbrev pub end_line : (indent : ℕ) → (name : List ℕ) → List ℕ
end_line indent name = dump_line indent (codes "</" ++ (name ++ codes ">"))

abbrev pub text_line : (indent : ℕ) → (contents : List ℕ) → List ℕ
text_line indent contents = if is_white_space_alone contents then [] else dump_line indent (codes "Text:" ++ contents)

-- The dump of a forest, its trees in order. Children of an element are indented one space further than it, children of a
-- document like the document. Blank texts, comments, processing instructions, contents of templates, and children of other
-- nodes are left out.
abbrev pub dump : (indent : ℕ) → Forest Content → List ℕ
dump indent none = []
dump indent (node document children beside) = dump indent children ++ dump indent beside
dump indent (node (doctype name public_id system_id) children beside) = dump_line indent (codes "<doctype>") ++ dump indent beside
dump indent (node (text contents) children beside) = text_line indent contents ++ dump indent beside
dump indent (node (comment contents) children beside) = dump indent beside
dump indent (node (element name properties template_contents integration_point) children beside) =
    (start_line indent name.local ++ (dump (indent + 1) children ++ end_line indent name.local)) ++ dump indent beside
dump indent (node (instruction target contents) children beside) = dump indent beside
