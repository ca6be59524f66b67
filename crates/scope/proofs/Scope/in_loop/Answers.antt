-- The innermost loop, if there is one.
-- By the test of its record. Assumes nothing.
use mathlib.Core.Path.{◌≡◌, refl, ap, ◌∙◌}
use mathlib.Core.Bool.{Bool, true, false, not}
use mathlib.Core.Option.{none, some}
use Prim.Native.Nat.{ℕ}
use Rattle.std.specs.Bool.{then_some}
use Rattle.laws.specs.Fix.{pick}
use Rattle.scope.specs.Open.{loop_number, loop_of}
use Rattle.scope.proofs.Scope.in_loop.Goals as goal

-- a test, and what the definition makes of it
as_told : (b : Bool) (r : ℕ) → loop_of (then_some (not b) r) ≡ pick b none (some r)
unfolding pick
as_told true r = refl
as_told false r = refl

pub returns : goal.returns
unfolding loop_number
returns c = ap loop_of c.then_some.ensures ∙ as_told _ c.args.self.inner
