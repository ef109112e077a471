-- Faults of single calls on a document, and the outcome of a call that may be faulty.
use Rattle.std.specs.Prelude.{◌≡◌, Option, Some, None, Result, IfErr, IfOk, OnOk}
use Rattle.html_render_dom_values.specs.declared.errors.Error.TheVariants.{OutOfMemory}
use Rattle.html_render_dom.specs.declared.faults.Fault.{Fault}
use Rattle.html_render_dom.specs.declared.faults.Fault.TheVariants.{Refused, Faulty}

-- whether a fault is one of the definition `wanted`: faulty only if that is `None`, refused if memory is out
abbrev pub IsFaultOf : {X : Type 0} → (wanted : Option X) → Fault → Type 0
IsFaultOf wanted (Refused error) = error ≡ OutOfMemory
IsFaultOf wanted Faulty = wanted ≡ None

-- outcome of a call that leaves `new`: the value of the definition `wanted`, or one of its faults
pub record Takes {X S : Type 0} (result : Result X Fault) (wanted : Option S) (new : S) : Type 0 where
  pub ok : OnOk result (wanted ≡ Some new)
  pub err : IfErr result (IsFaultOf wanted)

-- outcome of reading: what the definition `wanted` reads, or one of its faults
pub record Reads {X S : Type 0} (result : Result X Fault) (wanted : Option S) (read : X → S) : Type 0 where
  pub ok : IfOk result (λ x. wanted ≡ Some (read x))
  pub err : IfErr result (IsFaultOf wanted)
