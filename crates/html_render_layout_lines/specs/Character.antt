-- What a character is to the wrapping of a paragraph, in each of the three white space modes.
use Rattle.std.specs.Prelude.{ℕ, Bool, false, not, ◌&&◌, ◌==◌, is_none, nat_le, unwrap_or, if◌then◌else◌}
use Rattle.std.specs.Char.{is_whitespace}
use Rattle.unicode_width.specs.Width.{char_width}
use Rattle.html_render_dom_values.specs.declared.white_space.WhiteSpace.{WhiteSpace}
use Rattle.html_render_dom_values.specs.declared.white_space.WhiteSpace.TheVariants.{Normal, Pre, PreWrap}
use Rattle.html_render_layout_lines.specs.declared.character.Character.{Character}
use Rattle.html_render_layout_lines.specs.declared.character.TextStyle.{TextStyle}
use Rattle.html_render_layout_lines.specs.declared.character.Kind.{Kind}
use Rattle.html_render_layout_lines.specs.declared.character.Kind.TheVariants.{Letter, Space, Divider, Dropped, Preserved, Newline, Tab, SoftSpace, SoftTab}

-- white space that is collapsed: all but the space that doesn't break
abbrev pub is_collapsible : ℕ → Bool
is_collapsible c = is_whitespace c && not (c == 0xA0)

abbrev pub has_no_width : ℕ → Bool
has_no_width c = is_none (char_width false c)

-- the columns of a character; a control character has none
unfoldable pub width_of : ℕ → ℕ
width_of c = unwrap_or (char_width false c) 0

unfoldable pub kind : WhiteSpace → ℕ → Kind
kind Normal c =
    if is_collapsible c then Space
    else if c == 0x200B then Divider
    else if has_no_width c then Dropped
    else Letter
kind Pre c =
    if c == 10 then Newline
    else if c == 9 then Tab
    else if has_no_width c then Dropped
    else Preserved
kind PreWrap c =
    if c == 10 then Newline
    else if c == 9 then SoftTab
    else if has_no_width c then Dropped
    else if is_collapsible c then SoftSpace
    else if c == 0x200B then Divider
    else Letter

-- a printable ASCII character other than the space
abbrev pub is_plain : ℕ → Bool
is_plain c = nat_le 0x21 c && nat_le c 0x7E

-- the tag of a character: that for a continuation line, or the ordinary one
abbrev pub tag_on : {T : Type 0} → Bool → Character T → T
tag_on continues c = if continues then c.continuation_tag else c.tag

-- a character of a text with the style's mode and tags
abbrev pub character_of : {T : Type 0} → TextStyle T → ℕ → Character T
character_of style c = record { code = c; mode = style.mode; tag = style.tag; continuation_tag = style.continuation_tag }
