-- THE RESULT OF A CALL for bytes or for a fault: a status, a size, and the address of the bytes.
use Rattle.std.specs.Prelude.{◌≡◌, ℕ, List, [], ◌∷◌, ◌++◌, length, Option, Some, Result, Ok, Err}
use Rattle.std.specs.Borrow.{MutBor}
use Rattle.std.specs.Ptr.{Ptr, as_mut_ptr}
use Rattle.html_render_dom_values.specs.declared.errors.Error.TheVariants as error
use Rattle.html_render_dom.specs.declared.steps.building.StepError.{StepError}
use Rattle.html_render_dom.specs.declared.steps.building.StepError.TheVariants as step
use Rattle.html_render_tree_records.specs.declared.faults.Fault.{Fault}
use Rattle.html_render_tree_records.specs.declared.faults.Fault.TheVariants.{Refused, Step, Setting, Decorator}

-- fault of steps that build no document
abbrev pub fault_of : StepError → Fault
fault_of (step.Refused e) = Refused e
fault_of (step.Faulty number) = Step number

-- status of a fault
abbrev pub code_of : Fault → ℕ
code_of (Refused error.TooNarrow) = 1
code_of (Refused error.Fail) = 2
code_of (Refused error.OutOfMemory) = 3
code_of (Step number) = 4
code_of (Setting number) = 5
code_of Decorator = 6

-- number of the faulty record, or 0
abbrev pub record_of : Fault → ℕ
record_of (Refused e) = 0
record_of (Step number) = number
record_of (Setting number) = number
record_of Decorator = 0

-- status of a result: 0, or that of a fault
abbrev pub status_of : Result (List ℕ) Fault → ℕ
status_of (Ok bytes) = 0
status_of (Err fault) = code_of fault

-- size of a result: the number of bytes, or the number of the faulty record
abbrev pub result_size : Result (List ℕ) Fault → ℕ
result_size (Ok bytes) = length bytes
result_size (Err fault) = record_of fault

-- whether a slice has these bytes, and begins at this address
pub record HasBytesAt (slice : MutBor (List ℕ)) (bytes : List ℕ) (place : Ptr) : Type 0 where
  pub has_bytes : slice.now ≡ bytes
  pub is_at : place ≡ as_mut_ptr slice

-- whether memory is given away: a slice of these bytes that begins at this address
pub record IsGiven (given : Option (MutBor (List ℕ))) (bytes : List ℕ) (place : Ptr) : Type 0 where
  pub slice : MutBor (List ℕ)
  pub is : given ≡ Some slice
  pub has : HasBytesAt slice bytes place

-- whether this is the address of a result: that of a slice of the bytes with a zero after them, or the old one
abbrev pub IsPlaceOf : Result (List ℕ) Fault → (old_place place : Ptr) → Type 0
IsPlaceOf (Ok bytes) old_place place = (slice : MutBor (List ℕ)) × HasBytesAt slice (bytes ++ 0 ∷ []) place
IsPlaceOf (Err fault) old_place place = place ≡ old_place
