-- The shape of a text, word by word, and the shapes of nodes, one by one.
use Rattle.std.specs.Prelude.{ℕ, ◌+◌, ◌-◌, ◌==◌, ◌||◌, List, length, sum, if◌then◌else◌}
use Rattle.std.specs.List.{fold}
use Rattle.html_render_dom_values.specs.Forest.{Forest}
use Rattle.html_render_parts_widths.specs.declared.shares.ColumnNeed.{ColumnNeed}
use Rattle.html_render_parts_widths.specs.Shares.{whole_widths}
use Rattle.html_render_layout_lines.specs.Character.{is_collapsible, width_of}
use Rattle.html_render_layout_nodes.specs.declared.tree.RenderNode.{RenderNode}
use Rattle.html_render_layout_estimates.specs.declared.settings.LayoutSettings.{LayoutSettings}
use Rattle.html_render_layout_estimates.specs.declared.words.WordShape.{WordShape}
use Rattle.html_render_layout_estimates.specs.declared.words.WordShape.TheVariants.{Part, Broken}
use Rattle.html_render_layout_estimates.specs.TextSize.{saturated}
use Rattle.html_render_layout_estimates.specs.Words.{word_break, joined_shapes, longest_word, unless_preserved, kind_shape, worded_kind}

abbrev pub character_shape : ℕ → WordShape
character_shape c = if is_collapsible c || c == 0x200B then word_break else Part (width_of c)

-- the shape of a run and the characters after it
abbrev pub shape_after : WordShape → List ℕ → WordShape
shape_after s cs = fold (λ t c. joined_shapes t (character_shape c)) s cs

-- a block with its lines after a prefix
abbrev pub enclosed : (prefix : ℕ) → WordShape → WordShape
enclosed prefix s = Broken 0 (saturated (longest_word s + prefix)) 0

-- the columns at which a table cuts no word: the columns at which its columns cut none, and the separators
abbrev pub table_word : List ColumnNeed → ℕ
table_word needs = saturated (sum (whole_widths needs) + (length needs - 1))

-- a measured node with the longest words of its columns, if it is a table
abbrev pub worded_node : RenderNode → (below : Forest WordShape) → RenderNode
worded_node n below = record n { kind = worded_kind n.kind below }

-- the shape of a node, measured and with its words, over the shapes of its children
abbrev pub node_shape : LayoutSettings → RenderNode → (below : Forest WordShape) → WordShape
node_shape settings n below = unless_preserved n.style.white_space (kind_shape settings n.kind n.estimate.prefix below)
