-- LINES OF TAGGED STRINGS AS RECORDS OF BYTES: each record is a letter and its contents.
use Rattle.std.specs.Prelude.{ℕ, ◌-◌, ◌^◌, true, false, List, [], ◌∷◌, ◌++◌, length, min, codes}
use Rattle.std.specs.Int.{w32, to_le_bytes}
use Rattle.std.specs.List.{flat_map}
use Rattle.std.specs.Str.{encode_utf8_all}
use Rattle.html_render_dom_values.specs.declared.colours.Colour.{Colour}
use Rattle.html_render_layout_tagged.specs.Grouping.{LinePart, Str, FragmentStart}
use Rattle.html_render_parts.specs.declared.decorate.rich.RichAnnotation.{RichAnnotation}
use Rattle.html_render_parts.specs.declared.decorate.rich.RichAnnotation.TheVariants as rich

-- number in 4 bytes, the lowest first; one of 2 ^ 32 or more is written as the greatest
abbrev pub number_bytes : ℕ → List ℕ
number_bytes n = to_le_bytes w32 (min n (2 ^ 32 - 1))

-- text in UTF-8, after its length in bytes
abbrev pub sized : (text : List ℕ) → List ℕ
sized text = number_bytes (length text) ++ text

-- colour in three bytes
abbrev pub colour_bytes : Colour → List ℕ
colour_bytes c = c.r ∷ c.g ∷ c.b ∷ []

-- record of an annotation of plain text
abbrev pub plain_record : List ℕ
plain_record = codes "d"

-- record of an annotation of rich text
abbrev pub rich_record : RichAnnotation → List ℕ
rich_record rich.Default = codes "d"
rich_record (rich.Link target) = codes "l" ++ sized target
rich_record (rich.Image source) = codes "i" ++ sized source
rich_record rich.Emphasis = codes "e"
rich_record rich.Strong = codes "b"
rich_record rich.Strikeout = codes "s"
rich_record rich.Code = codes "c"
rich_record (rich.Preformat false) = codes "p"
rich_record (rich.Preformat true) = codes "q"
rich_record (rich.Colour c) = codes "f" ++ colour_bytes c
rich_record (rich.BgColour c) = codes "g" ++ colour_bytes c

-- parts of lines, where each annotation has a record
module _ {A : Type 0} (annotation_record : A → List ℕ) where
  -- record of a string with its annotations, or of a fragment mark with its name
  abbrev pub piece_record : LinePart (List A) → List ℕ
  piece_record (Str text tag) = codes "S" ++ number_bytes (length tag) ++ flat_map annotation_record tag ++ sized (encode_utf8_all text)
  piece_record (FragmentStart name) = codes "F" ++ sized name

  abbrev pub pieces_record : List (LinePart (List A)) → List ℕ
  pieces_record pieces = flat_map piece_record pieces

  -- record of a line, and those of its parts
  abbrev pub line_record : List (LinePart (List A)) → List ℕ
  line_record pieces = codes "L" ++ pieces_record pieces

  -- THE RECORDS of lines
  abbrev pub line_records : List (List (LinePart (List A))) → List ℕ
  line_records lines = flat_map line_record lines
