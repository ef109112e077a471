-- Results of a decorator, as functions of its value. S is the decorator's type, A that of its annotations. Texts are in
-- UTF-8.
use Rattle.std.specs.Prelude.{ℕ, ℤ, List, Option}
use Rattle.html_render_dom_values.specs.declared.colours.Colour.{Colour}

-- text before a part, and annotation of the part's characters
pub record Start (A : Type 0) : Type 0 where
  pub text : List ℕ
  pub annotation : A

-- decoration of a part of a document: text and annotation at its start, text at its end
pub record Round (S A : Type 0) : Type 0 where
  pub start : S → Start A
  pub end : S → List ℕ

-- all results of a decorator
pub record Decoration (S A : Type 0) : Type 0 where
  -- decoration of a link; only its start depends on the target
  pub link_start : S → (target : List ℕ) → Start A
  pub link_end : S → List ℕ
  pub em : Round S A
  pub strong : Round S A
  pub strikeout : Round S A
  pub code : Round S A
  pub superscript : Round S A
  -- text for an image, and annotation of its characters; a drawing has an empty source
  pub image : S → (source title : List ℕ) → Start A
  -- innermost annotation of preformatted characters: except on continuation lines, and on these
  pub preformat_first : S → A
  pub preformat_continuing : S → A
  -- prefix of each line of a heading of a level, and of a quote
  pub header_prefix : S → (level : ℕ) → List ℕ
  pub quote_prefix : S → List ℕ
  -- prefix of the first line of a list's item
  pub unordered_item_prefix : S → List ℕ
  pub ordered_item_prefix : S → (number : ℤ) → List ℕ
  -- annotation of characters of a colour, and of those on a background
  pub push_colour : S → Colour → Option A
  pub push_background : S → Colour → Option A
  -- closing lines of a document, for the targets of all its links in order
  pub finalise : S → (targets : List (List ℕ)) → List (List ℕ)
  -- decorator of a sub-block
  pub subblock : S → S

-- decoration of a link to a target
abbrev pub link : {S A : Type 0} → Decoration S A → (target : List ℕ) → Round S A
link d target = record { start = λ s. d.link_start s target; end = d.link_end }
