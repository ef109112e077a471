-- The decorators of plain text and of rich text, for any type S of their values.
use Rattle.std.specs.Prelude.{ℕ, ℤ, true, false, List, [], ◌++◌, Some, None, codes}
use Rattle.std.specs.Fmt.{signed_decimal}
use Rattle.std.specs.List.{repeat}
use Rattle.html_render_parts.specs.Decoration.{Decoration, Round}
use Rattle.html_render_parts.specs.declared.decorate.rich.RichAnnotation.{RichAnnotation}
use Rattle.html_render_parts.specs.declared.decorate.rich.RichAnnotation.TheVariants.{Default, Link, Image, Emphasis, Strong, Strikeout, Code, Preformat}
use Rattle.html_render_parts.specs.declared.decorate.rich.RichAnnotation.TheVariants.{Colour, BgColour}

-- decoration of a part by a text before it, a text after it and an annotation
abbrev pub between : {S A : Type 0} → (start end : List ℕ) → A → Round S A
between start end a = record { start = λ s. record { text = start; annotation = a }; end = λ s. end }

-- decoration of a part by an annotation alone
abbrev pub annotated : {S A : Type 0} → A → Round S A
annotated a = between [] [] a

-- prefix of a heading: one `#` for each level, and a space
abbrev pub hashes : (level : ℕ) → List ℕ
hashes level = repeat level (codes "#") ++ codes " "

-- prefix of an ordered list's item: its number in decimal, a full stop and a space
abbrev pub number_and_dot : (number : ℤ) → List ℕ
number_and_dot number = signed_decimal number ++ codes ". "

-- decorator of plain text, with the annotation `a` for all parts
abbrev pub plain : {S A : Type 0} → A → Decoration S A
plain a = record {
  link_start = λ s target. record { text = codes "["; annotation = a };
  link_end = λ s. codes "]";
  em = annotated a;
  strong = annotated a;
  strikeout = annotated a;
  code = annotated a;
  superscript = between (codes "^{") (codes "}") a;
  image = λ s source title. record { text = codes "[" ++ title ++ codes "]"; annotation = a };
  preformat_first = λ s. a;
  preformat_continuing = λ s. a;
  header_prefix = λ s level. hashes level;
  quote_prefix = λ s. codes "> ";
  unordered_item_prefix = λ s. codes "* ";
  ordered_item_prefix = λ s number. number_and_dot number;
  push_colour = λ s colour. None;
  push_background = λ s colour. None;
  finalise = λ s targets. [];
  subblock = λ s. s;
}

-- decorator of rich text: annotations instead of texts; results that aren't stated here are those of plain text
abbrev pub rich : {S : Type 0} → Decoration S RichAnnotation
rich = record (plain Default) {
  link_start = λ s target. record { text = []; annotation = Link target };
  link_end = λ s. [];
  em = annotated Emphasis;
  strong = annotated Strong;
  strikeout = annotated Strikeout;
  code = annotated Code;
  image = λ s source title. record { text = title; annotation = Image source };
  preformat_first = λ s. Preformat false;
  preformat_continuing = λ s. Preformat true;
  push_colour = λ s colour. Some (Colour colour);
  push_background = λ s colour. Some (BgColour colour);
}
