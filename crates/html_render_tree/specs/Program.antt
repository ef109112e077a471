-- THE PROGRAM: its outcome for its words and its input.
use Rattle.std.specs.Prelude.{◌≡◌, ℕ, Bool, true, false, if◌then◌else◌, List, Option, ok_or, option_map, Result, Ok, Err}
use Rattle.std.specs.Io.KnownBytes.{Appends, Keeps}
use Rattle.std.specs.Str.{is_utf8}
use Rattle.html_render_dom_values.specs.declared.errors.Error.TheVariants as error
use Rattle.html_render_dom.specs.Dom.{Dom}
use Rattle.html_render_layout_estimates.specs.Settings.{default_settings}
use Rattle.html_render_parts.specs.Decoration.{Decoration}
use Rattle.html_render_parts.specs.Decorators as decorator
use Rattle.html_render_parts.specs.declared.decorate.plain.PlainDecorator.{PlainDecorator}
use Rattle.html_render_parts.specs.declared.decorate.rich.RichDecorator.{RichDecorator}
use Rattle.html_render_tree_convert.specs.Results.{render_tree_of}
use Rattle.html_render_dom.specs.script.Scripts.{document_of}
use Rattle.html_render_tree.specs.declared.htree.faults.Fault.{Fault}
use Rattle.html_render_tree.specs.declared.htree.faults.Fault.TheVariants.{Refused, Arguments, Line, Input, Output}
use Rattle.html_render_tree.specs.declared.htree.words.Preset.{Preset}
use Rattle.html_render_tree.specs.declared.htree.words.Preset.TheVariants.{Plain, Rich, Bare}
use Rattle.html_render_tree.specs.declared.htree.words.Settings.{Settings}
use Rattle.html_render_tree.specs.Decorations.{decorations}
use Rattle.html_render_tree.specs.Rendering.{Options, initial_options, rendered_lines}
use Rattle.html_render_tree.specs.Sequence.{◌>>=◌, with_error}
use Rattle.html_render_tree.specs.Streams.{AppendsFront, ReadsAll}
use Rattle.html_render_tree.specs.Texts.{text_of}
use Rattle.html_render_tree.specs.Words.{settings_of}

-- script of the input's bytes: all of them, if they are UTF-8
abbrev pub script_of : (input : List ℕ) → Result (List ℕ) Fault
script_of input = if is_utf8 input then Ok input else Err Input

-- document that the input's bytes build
abbrev pub document_in : (input : List ℕ) → Result Dom Fault
document_in input = do
  script ← script_of input
  with_error Line (document_of script)

-- ---- the text of a document

-- text in a width under a configuration; `Fail` without a render tree, `TooNarrow` without lines
abbrev pub text_by : {S A : Type 0} → Decoration S A → Options S → Dom → (width : ℕ) → Result (List ℕ) Fault
text_by d options dom width = do
  tree ← ok_or (render_tree_of options.rules dom) (Refused error.Fail)
  ok_or (option_map text_of (rendered_lines d options tree width)) (Refused error.TooNarrow)

-- options of the presets: plain text without decorations and footnotes, plain text with them, and rich text
abbrev pub bare_options : Options PlainDecorator
bare_options = initial_options (record {})

abbrev pub plain_options : Options PlainDecorator
plain_options = record bare_options { rules = decorations; settings = record default_settings { link_footnotes = true } }

abbrev pub rich_options : Options RichDecorator
rich_options = initial_options (record {})

-- options with overflow, if it is allowed
abbrev pub options_with_overflow : {S : Type 0} → (allowed : Bool) → Options S → Options S
options_with_overflow true options = record options { overflow = true }
options_with_overflow false options = options

-- text of a document with a preset
abbrev pub preset_text : Preset → (overflow : Bool) → Dom → (width : ℕ) → Result (List ℕ) Fault
preset_text Plain overflow = text_by (decorator.plain {A = Unit {0}} tt) (options_with_overflow overflow plain_options)
preset_text Rich overflow = text_by decorator.rich (options_with_overflow overflow rich_options)
preset_text Bare overflow = text_by (decorator.plain {A = Unit {0}} tt) (options_with_overflow overflow bare_options)

-- text of a document with these settings
abbrev pub rendered_text : Settings → Dom → Result (List ℕ) Fault
rendered_text settings dom = preset_text settings.preset settings.overflow dom settings.width

-- THE OUTCOME: the text for these words and these bytes of the input, or the first fault, of the words, the input, the
-- script, the conversion and the width in this order
abbrev pub run_outcome : (words : List (List ℕ)) → (input : List ℕ) → Result (List ℕ) Fault
run_outcome words input = do
  settings ← ok_or (settings_of words) Arguments
  dom ← document_in input
  rendered_text settings dom

-- ---- end of a run, by the bytes that remain in its input before and after it, and the bytes of its output

-- whether all of the input was read, with bytes of which this holds
abbrev pub ReadSuch : (old new : Option (List ℕ)) → (Holds : List ℕ → Type 0) → Type 0
ReadSuch old new Holds = (bytes : List ℕ) × ReadsAll old new bytes × Holds bytes

-- whether a fault before anything is written is that of all of the input's bytes; out of memory and a fault of the input
-- always are
abbrev pub IsReadFault : {A : Type 0} → (old new : Option (List ℕ)) → (outcome : List ℕ → Result A Fault) → Fault → Type 0
IsReadFault old new outcome (Refused error.OutOfMemory) = Unit {0}
IsReadFault old new outcome Input = Unit {0}
IsReadFault old new outcome fault = ReadSuch old new (λ bytes. outcome bytes ≡ Err fault)

module _ (words : List (List ℕ)) (input input' output output' : Option (List ℕ)) where
  -- whether this is the text of all of the input's bytes
  abbrev pub IsRunText : (text : List ℕ) → Type 0
  IsRunText text = ReadSuch input input' (λ bytes. run_outcome words bytes ≡ Ok text)

  -- whether a run succeeds: with status 0, the text is appended to the output
  abbrev pub Succeeds : Type 0
  Succeeds = (text : List ℕ) × IsRunText text × Appends output output' text

  -- whether a run ends with a fault: with one of the output after a front of the text was appended, with another one before
  -- anything is written
  abbrev pub EndsWith : Fault → Type 0
  EndsWith Output = (text : List ℕ) × IsRunText text × AppendsFront output output' text
  EndsWith fault = IsReadFault input input' (run_outcome words) fault × Keeps output output'
