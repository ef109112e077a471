-- Decorators that change some results of another decorator, the one below. S is the type of the changes, B that of the
-- annotations below, A that of the changed annotations, D that of the decorator below. Texts are in UTF-8.
use Rattle.std.specs.Prelude.{ℕ, List, Option, Some, None}
use Rattle.html_render_parts.specs.Decoration.{Decoration, Start, Round}
use Rattle.html_render_parts.specs.declared.decorate.place.Place.{Place}
use Rattle.html_render_parts.specs.declared.decorate.place.Place.TheVariants.{LinkStart, LinkEnd, EmStart, EmEnd, StrongStart, StrongEnd, StrikeoutStart}
use Rattle.html_render_parts.specs.declared.decorate.place.Place.TheVariants.{StrikeoutEnd, CodeStart, CodeEnd, SuperscriptStart, SuperscriptEnd, Image}
use Rattle.html_render_parts.specs.declared.decorate.place.Place.TheVariants.{PreformatFirst, PreformatCont, HeaderPrefix, QuotePrefix}
use Rattle.html_render_parts.specs.declared.decorate.place.Place.TheVariants.{UnorderedItemPrefix, OrderedItemPrefix, Colour, Background}
use Rattle.html_render_parts.specs.declared.decorate.altered.Altered.{Altered}

-- changes to the results of a decorator
pub record Alteration (S B A : Type 0) : Type 0 where
  -- the text at a place, for the one below
  pub text : S → Place → (below : List ℕ) → List ℕ
  -- the annotation at a place, for the one below
  pub annotation : S → Place → (below : B) → A
  -- the annotation of a colour or a background for which there is none below
  pub colour : S → Place → Option A
  -- the closing lines, for the targets of all links and the closing lines below
  pub lines : S → (targets below : List (List ℕ)) → List (List ℕ)
  -- the changes in a sub-block
  pub subblock : S → S

-- no changes
abbrev pub unchanged : {S A : Type 0} → Alteration S A A
unchanged = record {
  text = λ s place below. below;
  annotation = λ s place below. below;
  colour = λ s place. None;
  lines = λ s targets below. below;
  subblock = λ s. s;
}

-- changed text and annotation at the start of a part
abbrev pub changed : {S B A : Type 0} → Alteration S B A → S → Place → Start B → Start A
changed c s place start = record { text = c.text s place start.text; annotation = c.annotation s place start.annotation }

-- changed annotation of a colour or a background
abbrev pub coloured : {S B A : Type 0} → Alteration S B A → S → Place → Option B → Option A
coloured c s place (Some below) = Some (c.annotation s place below)
coloured c s place None = c.colour s place

-- changed decoration of a part, whose start and end are these places
abbrev pub around : {D S B A : Type 0} → Alteration S B A → (start end : Place) → Round D B → Round (Altered D S) A
around c start end part = record {
  start = λ s. changed c s.changes start (part.start s.below);
  end = λ s. c.text s.changes end (part.end s.below);
}

-- changed results of a decorator: the definition of `Altered`
abbrev pub altered : {D S B A : Type 0} → Decoration D B → Alteration S B A → Decoration (Altered D S) A
altered d c = record {
  link_start = λ s target. changed c s.changes (LinkStart target) (d.link_start s.below target);
  link_end = λ s. c.text s.changes LinkEnd (d.link_end s.below);
  em = around c EmStart EmEnd d.em;
  strong = around c StrongStart StrongEnd d.strong;
  strikeout = around c StrikeoutStart StrikeoutEnd d.strikeout;
  code = around c CodeStart CodeEnd d.code;
  superscript = around c SuperscriptStart SuperscriptEnd d.superscript;
  image = λ s source title. changed c s.changes (Image source title) (d.image s.below source title);
  preformat_first = λ s. c.annotation s.changes PreformatFirst (d.preformat_first s.below);
  preformat_continuing = λ s. c.annotation s.changes PreformatCont (d.preformat_continuing s.below);
  header_prefix = λ s level. c.text s.changes (HeaderPrefix level) (d.header_prefix s.below level);
  quote_prefix = λ s. c.text s.changes QuotePrefix (d.quote_prefix s.below);
  unordered_item_prefix = λ s. c.text s.changes UnorderedItemPrefix (d.unordered_item_prefix s.below);
  ordered_item_prefix = λ s number. c.text s.changes (OrderedItemPrefix number) (d.ordered_item_prefix s.below number);
  push_colour = λ s colour. coloured c s.changes (Colour colour) (d.push_colour s.below colour);
  push_background = λ s colour. coloured c s.changes (Background colour) (d.push_background s.below colour);
  finalise = λ s targets. c.lines s.changes targets (d.finalise s.below targets);
  subblock = λ s. record { below = d.subblock s.below; changes = c.subblock s.changes };
}
