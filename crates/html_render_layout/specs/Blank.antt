-- Texts that show nothing as items of lists.
use Rattle.std.specs.Prelude.{◌≡◌, ℕ, true, false, List, None}
use Rattle.std.specs.List.{list_all}
use Rattle.std.specs.Str.{chars}
use Rattle.html_render_dom_values.specs.declared.white_space.WhiteSpace.TheVariants.{Normal}
use Rattle.html_render_layout_lines.specs.Character.{is_collapsible}
use Rattle.html_render_layout_nodes.specs.declared.tree.NodeKind.TheVariants.{Text}
use Rattle.html_render_layout_nodes.specs.declared.tree.NodeStyle.{NodeStyle}
use Rattle.html_render_layout_nodes.specs.declared.tree.RenderNode.{RenderNode}
use Rattle.html_render_layout.specs.Layout.{OwnBlock}
use Rattle.html_render_layout.specs.Layout.{Indented}
use Rattle.html_render_layout.specs.declared.state.TextContext.{TextContext}

-- the style changes nothing of texts
pub record IsPlain (style : NodeStyle) : Type 0 where
  pub colour : style.colour ≡ None
  pub background : style.background ≡ None
  pub white_space : style.white_space ≡ Normal
  pub ordinary : style.preformatted ≡ false

-- the node is a text of collapsible white space alone, in no style
pub record IsBlank {T : Type 0} (n : RenderNode) (text : TextContext T) : Type 0 where
  pub content : List ℕ
  pub kind : n.kind ≡ Text content
  pub blank : list_all is_collapsible (chars content) ≡ true
  pub style : IsPlain n.style
  pub mode : text.mode ≡ Normal
  pub ordinary : text.preformatted ≡ false

-- the block is an indented one of these columns
pub record IsIndented (b : OwnBlock) (columns min_width : ℕ) : Type 0 where
  pub prefix : List ℕ
  pub block : b ≡ Indented prefix columns min_width
