-- Lines under a colour map: the map is called once for each string, in order. Its results are written, with a newline after each line.
use Rattle.std.specs.Prelude.{◌≡◌, ℕ, List, [], ◌∷◌, ◌++◌, Result, Ok, String, string_bytes}
use Rattle.std.specs.Str.{encode_utf8_all}
use Rattle.std.specs.Borrow.{Bor}
use Rattle.std.specs.declared.alloc.Global.{Global}
use Rattle.html_render_dom_values.specs.declared.errors.Error.{Error}
use Rattle.html_render_layout_tagged.specs.Grouping.{LinePart, Str, FragmentStart}

module _ {F A : Type 0} (step : F → Bor (List A) → Bor (List ℕ) → Result (String Global) Error → F → Type 0) where
  -- whether a call of the map `before` for this text under these annotations may return `answer`, and leave the map as `after`
  abbrev pub MayAnswer : (before : F) → (text : List ℕ) → (tag : List A) → (answer : String Global) → (after : F) → Type 0
  MayAnswer before text tag answer after = (annotations : Bor (List A)) × (string : Bor (List ℕ)) ×
      (annotations.now ≡ tag) × (string.now ≡ encode_utf8_all text) × step before annotations string (Ok answer) after

  -- whether one call for each string of a line, in order, takes the map from `before` to `after`, and `written`, in UTF-8, is the
  -- calls' results and then a newline
  abbrev pub IsColouredLine : (before : F) → List (LinePart (List A)) → (written : List ℕ) → (after : F) → Type 0
  IsColouredLine before [] written after = (written ≡ 10 ∷ []) × (after ≡ before)
  IsColouredLine before (Str text tag ∷ ps) written after = (answer : String Global) × (rest : List ℕ) × (next : F)
      × MayAnswer before text tag answer next × IsColouredLine next ps rest after × (written ≡ string_bytes answer ++ rest)
  IsColouredLine before (FragmentStart name ∷ ps) written after = IsColouredLine before ps written after

  -- whether one call for each string of these lines, in order, takes the map from `before` to `after`, and `written`, in UTF-8, is
  -- the text of the lines, one after another
  abbrev pub IsColoured : (before : F) → List (List (LinePart (List A))) → (written : List ℕ) → (after : F) → Type 0
  IsColoured before [] written after = (written ≡ []) × (after ≡ before)
  IsColoured before (line ∷ lines) written after = (first : List ℕ) × (rest : List ℕ) × (next : F)
      × IsColouredLine before line first next × IsColoured next lines rest after × (written ≡ first ++ rest)
