-- THE OPTIONS that records of settings make of those of a configuration, over the text of which their texts are pieces.
use Rattle.std.specs.Prelude.{◌≡◌, ℕ, ◌+◌, ◌==◌, ◌++◌, ◌/◌, ◌%◌, if◌then◌else◌, Bool, true, false, not, ◌&&◌, nat_le, List, [], ◌∷◌, length, take, slice_get}
use Rattle.std.specs.Prelude.{Option, Some, None, option_map, option_and_then}
use Rattle.std.specs.Str.{is_utf8}
use Rattle.html_render_dom_values.specs.Outcome.{◌>>=◌}
use Rattle.html_render_dom_values.specs.declared.errors.Error.TheVariants.{TooNarrow, Fail, OutOfMemory}
use Rattle.html_render_dom_styles.specs.declared.origins.StyleOrigin.{StyleOrigin}
use Rattle.html_render_dom_styles.specs.declared.origins.StyleOrigin.TheVariants as origin
use Rattle.html_render_dom_styles.specs.Rules.{Rule, StyleValue, colour, bg_colour, display, white_space, content}
use Rattle.html_render_dom_styles.specs.Selectors.{words}
use Rattle.html_render_dom_styles.specs.declared.rules.Display.TheVariants as shown
use Rattle.html_render_dom_styles.specs.declared.rules.PseudoElement.{PseudoElement}
use Rattle.html_render_dom_styles.specs.declared.rules.PseudoElement.TheVariants.{Before, After}
use Rattle.html_render_dom_values.specs.declared.colours.Colour.{Colour}
use Rattle.html_render_dom_values.specs.declared.white_space.WhiteSpace.{WhiteSpace}
use Rattle.html_render_dom_values.specs.declared.white_space.WhiteSpace.TheVariants.{Normal, Pre, PreWrap}
use Rattle.html_render_layout_estimates.specs.declared.settings.ImageRenderMode.{ImageRenderMode}
use Rattle.html_render_layout_estimates.specs.declared.settings.ImageRenderMode.TheVariants.{IgnoreEmpty, ShowAlways, Replace, Filename}
use Rattle.html_render_tree.specs.Decorations.{decorations}
use Rattle.html_render_tree.specs.Rendering.{Options}
use Rattle.html_render_dom.specs.Steps.{piece}
use Rattle.html_render_tree_records.specs.declared.faults.Fault.{Fault}
use Rattle.html_render_tree_records.specs.declared.faults.Fault.TheVariants as fault
use Rattle.html_render_tree_records.specs.declared.settings.Setting.{Setting}

-- piece of a text; none if it isn't within the text, or isn't UTF-8
abbrev pub text_at : (text : List ℕ) → (start size : ℕ) → Option (List ℕ)
text_at text start size =
    if nat_le (start + size) (length text) && is_utf8 (piece text start size) then Some (piece text start size) else None

-- text that a record may state; if it doesn't, its start and length mean nothing
abbrev pub stated : (is_stated : Bool) → Option (List ℕ) → Option (Option (List ℕ))
stated is_stated t = if is_stated then option_map Some t else Some None

-- colour 0xRRGGBB
abbrev pub rgb : ℕ → Colour
rgb n = record { r = n / 65536 % 256; g = n / 256 % 256; b = n % 256 }

abbrev pub treatment : ℕ → Option WhiteSpace
treatment n = if n == 0 then Some Normal else if n == 1 then Some Pre else if n == 2 then Some PreWrap else None

-- declaration of a rule; none where the record declares nothing
abbrev pub declared_in : (text : List ℕ) → Setting → Option StyleValue
declared_in text s =
    if s.number == 0 then Some (colour (rgb s.value)) else if s.number == 1 then Some (bg_colour (rgb s.value))
    else if s.number == 2 then Some (display shown.None) else if s.number == 3 then option_map white_space (treatment s.value)
    else if s.number == 4 then option_map content (text_at text s.text s.text_length) else None

abbrev pub origin_in : (flags : ℕ) → StyleOrigin
origin_in flags =
    if flags % 4 == 0 then origin.None else if flags % 4 == 1 then origin.Agent else if flags % 4 == 2 then origin.User else origin.Author

abbrev pub place_in : (flags : ℕ) → Option PseudoElement
place_in flags = if flags / 8 % 2 == 1 then Some Before else if flags / 16 % 2 == 1 then Some After else None

-- rule of a record; none where it declares nothing, or states a text that is no piece
abbrev pub rule_in : (text : List ℕ) → Setting → Option Rule
rule_in text s = do
  value ← declared_in text s
  element ← stated (s.flags / 32 % 2 == 1) (text_at text s.element s.element_length)
  id ← stated (s.flags / 64 % 2 == 1) (text_at text s.id s.id_length)
  classes ← text_at text s.classes s.classes_length
  Some (record {
    origin = origin_in s.flags;
    element = element;
    id = id;
    classes = words classes;
    pseudo = place_in s.flags;
    declarations = record { important = s.flags / 4 % 2 == 1; style = value } ∷ [];
  })

-- mode of images with an empty title; none where the record is faulty
abbrev pub image_mode_in : (text : List ℕ) → Setting → Option ImageRenderMode
image_mode_in text s =
    if s.number == 0 then Some IgnoreEmpty else if s.number == 1 then Some ShowAlways
    else if s.number == 2 then option_map Replace (text_at text s.text s.text_length) else if s.number == 3 then Some Filename else None

-- options after a record; none where the record is faulty
abbrev pub with_setting : {S : Type 0} → (text : List ℕ) → Options S → Setting → Option (Options S)
with_setting text options s =
    if s.kind == 1 then Some (record options { overflow = true })
    else if s.kind == 2 then Some (record options { rules = options.rules ++ decorations })
    else if s.kind == 3 then Some (record options { settings = record options.settings { link_footnotes = not (s.number == 0) } })
    else if s.kind == 4 then Some (record options { settings = record options.settings { wrap_links = false } })
    else if s.kind == 5 then Some (record options { settings = record options.settings { unicode_strikeout = not (s.number == 0) } })
    else if s.kind == 6 then option_map (λ mode. record options { settings = record options.settings { empty_images = mode } }) (image_mode_in text s)
    else if s.kind == 7 then Some (record options { settings = record options.settings { pad_block_width = true } })
    else if s.kind == 8 then Some (record options { max_wrap_width = Some s.number })
    else if s.kind == 9 then Some (record options { settings = record options.settings { min_wrap_width = s.number } })
    else if s.kind == 10 then Some (record options { settings = record options.settings { raw_mode = not (s.number == 0); table_borders = false } })
    else if s.kind == 11 then Some (record options { settings = record options.settings { table_borders = false } })
    else if s.kind == 12 then Some (record options { settings = record options.settings { fence_tables = true } })
    else if s.kind == 13 then option_map (λ rule. record options { rules = options.rules ++ rule ∷ [] }) (rule_in text s)
    else if s.kind == 14 then Some (record options { settings = record options.settings { whole_words = true } })
    else None

-- options after records, one after another; none where one is faulty
abbrev pub configured : {S : Type 0} → (text : List ℕ) → List Setting → Options S → Option (Options S)
configured text [] options = Some options
configured text (s ∷ settings) options = option_and_then (configured text settings) (with_setting text options s)

-- whether the setting of this number is faulty: those before it make options, and it makes none of these
pub record IsFaultySetting {S : Type 0} (text : List ℕ) (settings : List Setting) (begin : Options S) (number : ℕ) : Type 0 where
  pub options : Options S
  pub made_before : configured text (take number settings) begin ≡ Some options
  pub setting : Setting
  pub is_setting : slice_get settings number ≡ Some setting
  pub not_made : with_setting text options setting ≡ None

-- whether this is a reason for settings without options: one is faulty, or memory is out
abbrev pub IsSettingFault : {S : Type 0} → (text : List ℕ) → List Setting → (begin : Options S) → Fault → Type 0
IsSettingFault text settings begin (fault.Setting number) = IsFaultySetting text settings begin number
IsSettingFault text settings begin (fault.Refused OutOfMemory) = Unit {0}
IsSettingFault text settings begin (fault.Refused TooNarrow) = ⊥
IsSettingFault text settings begin (fault.Refused Fail) = ⊥
IsSettingFault text settings begin (fault.Step number) = ⊥
IsSettingFault text settings begin fault.Decorator = ⊥
