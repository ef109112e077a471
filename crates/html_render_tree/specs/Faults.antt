-- THE FAULTS of the program.
use Rattle.std.specs.Prelude.{◌≡◌, ℕ, List, [], ◌∷◌, ◌++◌, codes, Result, Err}
use Rattle.std.specs.Fmt.{decimal}
use Rattle.std.specs.declared.io.ErrorKind.{ErrorKind}
use Rattle.std.specs.declared.io.ErrorKind.TheVariants as kind
use Rattle.html_render_dom_values.specs.Outcome as refusal
use Rattle.html_render_dom_values.specs.declared.errors.Error.TheVariants as error
use Rattle.html_render_dom.specs.declared.script.building.ScriptError.{ScriptError}
use Rattle.html_render_dom.specs.declared.script.building.ScriptError.TheVariants as script
use Rattle.html_render_tree.specs.declared.htree.faults.Fault.{Fault}
use Rattle.html_render_tree.specs.declared.htree.faults.Fault.TheVariants.{Refused, Arguments, Line, Input, Output}

-- exit status: 1 if the document can't be rendered or memory is out, 2 if the words, the input or the script are wrong or a
-- stream fails
abbrev pub exit_status : Fault → ℕ
exit_status (Refused error) = 1
exit_status Arguments = 2
exit_status (Line number) = 2
exit_status Input = 2
exit_status Output = 2

-- text of a fault
abbrev pub fault_message : Fault → List ℕ
fault_message (Refused error) = refusal.message_of error
fault_message Arguments = codes "htree: arguments"
fault_message (Line number) = codes "htree: line " ++ decimal number
fault_message Input = codes "htree: input"
fault_message Output = codes "htree: output"

-- line that is written for a fault: its text and a newline
abbrev pub line_of : Fault → List ℕ
line_of fault = fault_message fault ++ 10 ∷ []

-- ---- faults of errors

-- fault of a script's error
abbrev pub script_fault : ScriptError → Fault
script_fault (script.Refused error) = Refused error
script_fault (script.FaultyLine number) = Line number

-- fault of an error of reading the input, by its kind
abbrev pub read_fault : ErrorKind → Fault
read_fault kind.OutOfMemory = Refused error.OutOfMemory
read_fault _ = Input

-- fault of an error of reading the words, by its kind
abbrev pub words_fault : ErrorKind → Fault
words_fault kind.OutOfMemory = Refused error.OutOfMemory
words_fault _ = Arguments

-- whether a fault is that of a definition without a value; out of memory states nothing
abbrev pub IsFaultOf : {A : Type 0} → Fault → (wanted : Result A Fault) → Type 0
IsFaultOf (Refused error.OutOfMemory) wanted = Unit {0}
IsFaultOf fault wanted = wanted ≡ Err fault
