-- An error of a definition is an error of what continues it.
use Rattle.std.proofs.Common.{◌≡◌, Option, Some, None, Result, Ok, Err, option_and_then, refl, ◌∙◌}
use Rattle.html_render_dom_values.specs.declared.errors.Error.{Error}
use Rattle.html_render_dom_values.specs.declared.errors.Error.TheVariants.{TooNarrow, Fail, OutOfMemory}
use Rattle.html_render_parts.specs.Refusal.{Builds, Fails, Makes}

-- an error of a definition is one of the definition followed by another step
pub Fails-then : {X Y : Type 0} (e : Error) (o : Option X) (f : X → Option Y) → Fails e o → Fails e (option_and_then f o)
Fails-then TooNarrow o f h = absurd h
Fails-then Fail None f h = refl
Fails-then Fail (Some x) f h = cc
Fails-then OutOfMemory o f h = tt

-- an error of a definition is one of any equal definition
pub Fails-same : {X : Type 0} (e : Error) (o p : Option X) → o ≡ p → Fails e p → Fails e o
Fails-same TooNarrow o p q h = absurd h
Fails-same Fail o p q h = cc
Fails-same OutOfMemory o p q h = tt

-- out of memory is possible for any definition
pub Fails-memory : {X : Type 0} (e : Error) (o : Option X) → e ≡ OutOfMemory → Fails e o
Fails-memory OutOfMemory o h = tt
Fails-memory e o h = cc

-- an outcome of a definition is one of any equal definition
pub Makes-same : {X S : Type 0} (result : Result X Error) (o p : Option S) (new : S) → o ≡ p → Makes result p new → Makes result o new
Makes-same (Ok x) o p new q h = record { ok = q ∙ h.ok; err = tt }
Makes-same (Err e) o p new q h = record { ok = tt; err = Fails-same e o p q h.err }

pub Builds-same : {X S : Type 0} (result : Result X Error) (o p : Option S) (built : X → S) → o ≡ p → Builds result p built → Builds result o built
Builds-same (Ok x) o p built q h = record { ok = q ∙ h.ok; err = tt }
Builds-same (Err e) o p built q h = record { ok = tt; err = Fails-same e o p q h.err }

pub ruleset refusals = (Fails-then, Fails-same, Fails-memory)
