-- The end of a run.
use Rattle.std.proofs.Common.{◌≡◌, ℕ, Bool, List, [], Option, Some, None, ok_or, option_map, Result, Ok, Err, IfErr, append-nil, subst, sym}
use Rattle.std.proofs.KnownBytes.{Keeps-refl}
use Rattle.std.proofs.lemmas.Bool.{cond_both}
use Rattle.std.specs.Str.{is_utf8}
use Rattle.html_render_dom_values.specs.declared.errors.Error.TheVariants as error
use Rattle.html_render_dom.specs.Dom.{Dom}
use Rattle.html_render_parts.specs.Decoration.{Decoration}
use Rattle.html_render_parts.specs.Decorators as decorator
use Rattle.html_render_tree_convert.specs.Results.{render_tree_of}
use Rattle.html_render_dom.specs.script.Scripts.{document_of}
use Rattle.html_render_tree.specs.declared.htree.faults.Fault.{Fault}
use Rattle.html_render_tree.specs.declared.htree.faults.Fault.TheVariants.{Refused, Arguments, Line, Input, Output}
use Rattle.html_render_tree.specs.declared.htree.words.Preset.{Preset}
use Rattle.html_render_tree.specs.declared.htree.words.Preset.TheVariants.{Plain, Rich, Bare}
use Rattle.html_render_tree.specs.Program.{bare_options, document_in, options_with_overflow, plain_options, preset_text, rich_options, run_outcome, script_of, text_by, EndsWith, IsReadFault}
use Rattle.html_render_tree.specs.Rendering.{Options, rendered_lines}
use Rattle.html_render_tree.specs.Sequence.{◌>>=◌, with_error}
use Rattle.html_render_tree.specs.Streams.{AppendsFront, Writes}
use Rattle.html_render_tree.specs.Texts.{text_of}
use Rattle.html_render_tree.specs.Words.{settings_of}

-- a write appends a front of its bytes
pub appends_front-from_writes : {A E : Type 0} (old new : Option (List ℕ)) (result : Result A E) (bytes : List ℕ) → Writes old new result bytes → AppendsFront old new bytes
appends_front-from_writes old new (Ok a) bytes all = record { front = bytes; rest = []; whole = sym (append-nil bytes); appended = all }
appends_front-from_writes old new (Err e) bytes some = some

-- ---- no fault of an outcome is one of the output

abbrev IsOther : Fault → Type 0
IsOther Output = ⊥
IsOther fault = Unit {0}

then-other : {A B : Type 0} (r : Result A Fault) (f : A → Result B Fault) → IfErr r IsOther → ((a : A) → IfErr (f a) IsOther) → IfErr (r >>= f) IsOther
then-other (Ok a) f p q = q a
then-other (Err e) f p q = p

ok_or-other : {A : Type 0} (o : Option A) (fault : Fault) → IsOther fault → IfErr (ok_or o fault) IsOther
ok_or-other None fault other = other
ok_or-other (Some a) fault other = tt

script-other : (input : List ℕ) → IfErr (script_of input) IsOther
script-other input = cond_both (is_utf8 input) (Ok input) (Err Input) (λ r. IfErr r IsOther) (λ e. tt) (λ e. tt)

line-other : {A : Type 0} (r : Result A ℕ) → IfErr (with_error Line r) IsOther
line-other (Ok a) = tt
line-other (Err number) = tt

text-other : {S A : Type 0} (d : Decoration S A) (options : Options S) (dom : Dom) (width : ℕ) → IfErr (text_by d options dom width) IsOther
text-other d options dom width =
    then-other (ok_or (render_tree_of options.rules dom) (Refused error.Fail)) _ (ok_or-other (render_tree_of options.rules dom) (Refused error.Fail) tt)
    (λ tree. ok_or-other (option_map text_of (rendered_lines d options tree width)) (Refused error.TooNarrow) tt)

preset-other : (preset : Preset) (overflow : Bool) (dom : Dom) (width : ℕ) → IfErr (preset_text preset overflow dom width) IsOther
preset-other Plain overflow = text-other (decorator.plain {A = Unit {0}} tt) (options_with_overflow overflow plain_options)
preset-other Rich overflow = text-other decorator.rich (options_with_overflow overflow rich_options)
preset-other Bare overflow = text-other (decorator.plain {A = Unit {0}} tt) (options_with_overflow overflow bare_options)

outcome-other : (words : List (List ℕ)) (input : List ℕ) → IfErr (run_outcome words input) IsOther
outcome-other words input =
    then-other (ok_or (settings_of words) Arguments) _ (ok_or-other (settings_of words) Arguments tt)
    (λ settings. then-other (document_in input) _
    (then-other (script_of input) _ (script-other input) (λ script. line-other (document_of script)))
    (λ dom. preset-other settings.preset settings.overflow dom settings.width))

not-output : (words : List (List ℕ)) (input : List ℕ) → run_outcome words input ≡ Err Output → ⊥
not-output words input e = subst (λ r. IfErr r IsOther) e (outcome-other words input)

-- a fault of reading the input ends a run that writes nothing to its output
pub ends_with-from_read : (words : List (List ℕ)) (input input' output : Option (List ℕ)) (fault : Fault)
    → IsReadFault input input' (run_outcome words) fault → EndsWith words input input' output output fault
ends_with-from_read words input input' output (Refused e) read = (read, Keeps-refl output)
ends_with-from_read words input input' output Arguments read = (read, Keeps-refl output)
ends_with-from_read words input input' output (Line number) read = (read, Keeps-refl output)
ends_with-from_read words input input' output Input read = (read, Keeps-refl output)
ends_with-from_read words input input' output Output (bytes, all, e) = absurd (not-output words bytes e)
