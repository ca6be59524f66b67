-- What `ok_or` takes to be `Ok` was `Some`, and what it takes to be `Err` was `None`, with the error given. Assumes nothing.
use Rattle.std.specs.Prelude.{Option, Some, None, Result, Ok, Err, ok_or}
use mathlib.Core.Path.{◌≡◌}

pub was-some : {A E : Type 0} (o : Option A) (d : E) {a : Result A E} {x : A} → a ≡ ok_or o d → a ≡ Ok x → o ≡ Some x
was-some (Some y) d p q = cc
was-some None d p q = absurd cc

pub was-none : {A E : Type 0} (o : Option A) (d : E) {a : Result A E} {z : E} → a ≡ ok_or o d → a ≡ Err z → o ≡ None
was-none (Some y) d p q = absurd cc
was-none None d p q = cc

pub was-error : {A E : Type 0} (o : Option A) (d : E) {a : Result A E} {z : E} → a ≡ ok_or o d → a ≡ Err z → z ≡ d
was-error (Some y) d p q = absurd cc
was-error None d p q = cc
