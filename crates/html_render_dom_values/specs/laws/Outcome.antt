-- An error of a definition is an error of what continues it.
use Rattle.std.proofs.Common.{◌≡◌, Option, Some, None, Result, Ok, Err, option_and_then, option_map, ap, refl, ◌∙◌}
use Rattle.html_render_dom_values.specs.declared.errors.Error.{Error}
use Rattle.html_render_dom_values.specs.declared.errors.Error.TheVariants.{TooNarrow, Fail, OutOfMemory}
use Rattle.html_render_dom_values.specs.Outcome.{Gives, Refuses}

-- an error of a definition is one of the definition followed by another step
pub Refuses-then : {X Y : Type 0} (e : Error) (o : Option X) (f : X → Option Y) → Refuses e o → Refuses e (option_and_then f o)
Refuses-then TooNarrow None f h = refl
Refuses-then TooNarrow (Some x) f h = cc
Refuses-then Fail o f h = absurd h
Refuses-then OutOfMemory o f h = tt

-- an error of a definition is one of any equal definition
pub Refuses-same : {X : Type 0} (e : Error) (o p : Option X) → o ≡ p → Refuses e p → Refuses e o
Refuses-same TooNarrow o p q h = cc
Refuses-same Fail o p q h = absurd h
Refuses-same OutOfMemory o p q h = tt

-- out of memory is possible for any definition
pub Refuses-memory : {X : Type 0} (e : Error) (o : Option X) → e ≡ OutOfMemory → Refuses e o
Refuses-memory TooNarrow o h = cc
Refuses-memory Fail o h = cc
Refuses-memory OutOfMemory o h = tt

-- an outcome of a definition is one of any equal definition
pub Gives-same : {X S : Type 0} (result : Result X Error) (o p : Option S) (new : S) → o ≡ p → Gives result p new → Gives result o new
Gives-same (Ok x) o p new q h = record { ok = q ∙ h.ok; err = tt }
Gives-same (Err e) o p new q h = record { ok = tt; err = Refuses-same e o p q h.err }

-- an outcome of a definition, mapped
pub Gives-mapped : {X S T : Type 0} (result : Result X Error) (o : Option S) (new : S) (f : S → T) → Gives result o new → Gives result (option_map f o) (f new)
Gives-mapped (Ok x) o new f h = record { ok = ap (λ p. option_map f p) h.ok; err = tt }
Gives-mapped (Err e) o new f h = record { ok = tt; err = Refuses-then e o (λ s. Some (f s)) h.err }

pub ruleset refusals = (Refuses-then, Refuses-same, Refuses-memory)
