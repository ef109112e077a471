-- Results one after another: the first error is that of all.
use Rattle.std.specs.Prelude.{Result, Ok, Err}

infixl 10 ◌>>=◌
abbrev pub ◌>>=◌ : {A B E : Type 0} → Result A E → (A → Result B E) → Result B E
Ok a >>= f = f a
Err e >>= f = Err e

-- result with its error as another one
abbrev pub with_error : {A D E : Type 0} → (D → E) → Result A D → Result A E
with_error f (Ok a) = Ok a
with_error f (Err d) = Err (f d)
