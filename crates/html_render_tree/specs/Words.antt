-- THE WORDS of the program: `WIDTH [plain|rich|bare] [overflow]`.
use Rattle.std.specs.Prelude.{ℕ, ◌^◌, nat_eq, nat_lt, Bool, true, false, ◌&&◌, if◌then◌else◌, List, [], ◌∷◌, length, codes, Option, Some, None}
use Rattle.std.specs.Cmp.Lexicographic.{pointwise}
use Rattle.std.specs.Str.{all_ascii_digits}
use Rattle.std.specs.Str.Parse.{digits_value, without_leading_plus}
use Rattle.html_render_dom_values.specs.Outcome.{◌>>=◌}
use Rattle.html_render_tree.specs.declared.htree.words.Preset.{Preset}
use Rattle.html_render_tree.specs.declared.htree.words.Preset.TheVariants.{Plain, Rich, Bare}
use Rattle.html_render_tree.specs.declared.htree.words.Settings.{Settings}

-- whether two words are equal
abbrev pub is_word : List ℕ → List ℕ → Bool
is_word = pointwise nat_eq

-- preset that a word names
abbrev pub preset_of : List ℕ → Option Preset
preset_of word =
    if is_word word (codes "plain") then Some Plain
    else if is_word word (codes "rich") then Some Rich
    else if is_word word (codes "bare") then Some Bare
    else None

-- whether digits are a number below 2 ^ 64, with one digit at least
abbrev pub is_number : List ℕ → Bool
is_number digits = nat_lt 0 (length digits) && all_ascii_digits digits && nat_lt (digits_value 10 digits) (2 ^ 64)

-- width that a word states: decimal digits, with an optional plus before them
abbrev pub width_named : List ℕ → Option ℕ
width_named word = let digits = without_leading_plus word in if is_number digits then Some (digits_value 10 digits) else None

-- settings of a word for the width and one for the preset
abbrev pub settings_with : (width preset : List ℕ) → (overflow : Bool) → Option Settings
settings_with width preset overflow = do
  p ← preset_of preset
  w ← width_named width
  Some (record { width = w; preset = p; overflow = overflow })

-- settings of the words; none for words of any other form
abbrev pub settings_of : (words : List (List ℕ)) → Option Settings
settings_of (width ∷ []) = settings_with width (codes "plain") false
settings_of (width ∷ second ∷ []) =
    if is_word second (codes "overflow") then settings_with width (codes "plain") true else settings_with width second false
settings_of (width ∷ second ∷ third ∷ []) =
    if is_word third (codes "overflow") then settings_with width second true else None
settings_of _ = None
