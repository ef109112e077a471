-- Each character that draws tables takes one column. Widths are computed from the tables of Unicode, outside of East Asian
-- contexts.
use Rattle.std.proofs.Common.{◌≡◌, ℕ, false, Some, None, map, replicate, get_or, refl, ap}
use Rattle.std.specs.Prelude.{unwrap_or}
use Rattle.unicode_width.specs.Width.{char_width, alone}
use Rattle.unicode_width.specs.Kind.{kind, named_kind, named_rows, unnamed_kind, letter_kind, width_kind}
use Rattle.unicode_width.specs.Kind.{is_ambiguous, is_ambiguous_symbol, is_jamo_after_lead, is_marked_ambiguous, is_prepended, is_wide, is_zero_width}
use Rattle.ucd_table.specs.Rows.{value_in, in_ranges}
use Rattle.ucd_props.specs.Binary.{is_regional_indicator, is_prepended_concatenation_mark}
use Rattle.ucd_props.specs.Ranges.{regional_indicator_ranges, prepended_concatenation_mark_ranges}
use Rattle.ucd_emoji.specs.Binary.{is_emoji_modifier, is_emoji_presentation}
use Rattle.ucd_emoji.specs.Ranges.{emoji_modifier_ranges, emoji_presentation_ranges}
use Rattle.ucd_bidi.specs.JoiningGroup.{joining_group}
use Rattle.ucd_bidi.specs.JoiningGroupRows.{joining_group_rows}
use Rattle.ucd_breaks.specs.GraphemeClusterBreak.{grapheme_cluster_break}
use Rattle.ucd_breaks.specs.GraphemeClusterBreakRows.{grapheme_cluster_break_rows}
use Rattle.ucd_breaks.specs.LineBreak.{line_break}
use Rattle.ucd_breaks.specs.LineBreakRows.{line_break_rows}
use Rattle.ucd_category.specs.GeneralCategory.{general_category}
use Rattle.ucd_category.specs.GeneralCategoryRows.{general_category_rows}
use Rattle.ucd_derived.specs.Binary.{is_default_ignorable_code_point, is_grapheme_extend}
use Rattle.ucd_derived.specs.DefaultIgnorableCodePointRanges.{default_ignorable_code_point_ranges}
use Rattle.ucd_derived.specs.GraphemeExtendRanges.{grapheme_extend_ranges}
use Rattle.ucd_east_asian.specs.EastAsianWidth.{east_asian_width}
use Rattle.ucd_east_asian.specs.EastAsianWidthRows.{east_asian_width_rows}
use Rattle.ucd_east_asian.specs.HangulSyllableType.{hangul_syllable_type}
use Rattle.ucd_east_asian.specs.HangulSyllableTypeRows.{hangul_syllable_type_rows}
use Rattle.ucd_normal.specs.Decomposition.{decomposition}
use Rattle.ucd_normal.specs.DecompositionRows.{decomposition_rows}
use Rattle.html_render_layout_pictures.specs.Glyphs.{glyphs}

pub glyph_widths : map (char_width false) glyphs ≡ replicate 7 (Some 1)
unfolding char_width alone kind named_kind named_rows unnamed_kind letter_kind width_kind is_ambiguous
    is_ambiguous_symbol is_jamo_after_lead is_marked_ambiguous is_prepended is_wide is_zero_width value_in in_ranges
    is_regional_indicator is_prepended_concatenation_mark regional_indicator_ranges prepended_concatenation_mark_ranges
    is_emoji_modifier is_emoji_presentation emoji_modifier_ranges emoji_presentation_ranges joining_group joining_group_rows
    grapheme_cluster_break grapheme_cluster_break_rows line_break line_break_rows general_category general_category_rows
    is_default_ignorable_code_point is_grapheme_extend default_ignorable_code_point_ranges grapheme_extend_ranges east_asian_width
    east_asian_width_rows hangul_syllable_type hangul_syllable_type_rows decomposition decomposition_rows
glyph_widths = refl

-- width of the character at an index of `glyphs`: 1, and 0 past its end
pub width_at : (place : ℕ) → unwrap_or (get_or (map (char_width false) glyphs) place None) 0 ≡ unwrap_or (get_or (replicate 7 (Some 1)) place None) 0
width_at place = ap (λ ws. unwrap_or (get_or ws place None) 0) glyph_widths
