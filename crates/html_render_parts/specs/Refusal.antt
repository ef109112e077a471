-- Errors of grids, and their relation to a definition that may refuse, an `Option`.
use Rattle.std.specs.Prelude.{◌≡◌, Option, Some, None, Result, IfOk, IfErr, OnOk}
use Rattle.html_render_dom_values.specs.declared.errors.Error.{Error}
use Rattle.html_render_dom_values.specs.declared.errors.Error.TheVariants.{TooNarrow, Fail, OutOfMemory}

-- relation of an error to the definition `wanted`: `Fail` only if that is `None`, `TooNarrow` never, `OutOfMemory` always
abbrev pub Fails : {X : Type 0} → Error → Option X → Type 0
Fails TooNarrow wanted = ⊥
Fails Fail wanted = wanted ≡ None
Fails OutOfMemory wanted = Unit {0}

-- outcome of a call that leaves `new`: the value of the definition `wanted`, or an error that fails as `wanted` does
pub record Makes {X S : Type 0} (result : Result X Error) (wanted : Option S) (new : S) : Type 0 where
  pub ok : OnOk result (wanted ≡ Some new)
  pub err : IfErr result (λ e. Fails e wanted)

-- outcome of a call that returns `built`: the value of the definition `wanted`, or an error that fails as `wanted` does
pub record Builds {X S : Type 0} (result : Result X Error) (wanted : Option S) (built : X → S) : Type 0 where
  pub ok : IfOk result (λ x. wanted ≡ Some (built x))
  pub err : IfErr result (λ e. Fails e wanted)
