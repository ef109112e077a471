-- Errors: their messages and numbers, and their relation to a definition that may refuse, an `Option`.
use Rattle.std.specs.Prelude.{◌≡◌, ℕ, List, Option, Some, None, Result, IfErr, OnOk, codes, option_and_then}
use Rattle.html_render_dom_values.specs.declared.errors.Error.{Error}
use Rattle.html_render_dom_values.specs.declared.errors.Error.TheVariants.{TooNarrow, Fail, OutOfMemory}

-- text that an error is displayed as
abbrev pub message_of : Error → List ℕ
message_of TooNarrow = codes "Output width not wide enough."
message_of Fail = codes "Unknown failure"
message_of OutOfMemory = codes "Out of memory"

-- number of an error, its discriminant
abbrev pub number_of : Error → ℕ
number_of TooNarrow = 1
number_of Fail = 2
number_of OutOfMemory = 3

-- relation of an error to the definition `wanted`: `TooNarrow` only if that is `None`, `Fail` never, `OutOfMemory` always
abbrev pub Refuses : {X : Type 0} → Error → Option X → Type 0
Refuses TooNarrow wanted = wanted ≡ None
Refuses Fail wanted = ⊥
Refuses OutOfMemory wanted = Unit {0}

-- outcome of a call that leaves `new`: the value of the definition `wanted`, or an error that refuses as `wanted` does
pub record Gives {X S : Type 0} (result : Result X Error) (wanted : Option S) (new : S) : Type 0 where
  pub ok : OnOk result (wanted ≡ Some new)
  pub err : IfErr result (λ e. Refuses e wanted)

-- whether a result has no error but `OutOfMemory`
abbrev pub OnlyOutOfMemory : {A : Type 0} → Result A Error → Type 0
OnlyOutOfMemory result = IfErr result (λ e. e ≡ OutOfMemory)

-- `f` of the value of `o`; `None` if `o` is `None`
infixl 10 ◌>>=◌
abbrev pub ◌>>=◌ : {A B : Type 0} → Option A → (A → Option B) → Option B
o >>= f = option_and_then f o
