-- What the promise says of runs over natural numbers holds over every type of values: the three demands, and that all functions with a body run alike.
-- Each is what follows of every run of the call; that the tree is bytes is part of the promise. Assumes nothing.
use mathlib.Core.Path.{◌≡◌, refl}
use Prim.Native.Nat.{ℕ}
use Rattle.std.specs.Prelude.{Result, Ok}
use mathlib.Core.Bool.{Bool}
use mathlib.Core.List.{List}
use Rattle.conversion.specs.Written as Written
use Rattle.records.specs.declared.convert_error.ConvertError.{ConvertError}
use Rattle.judge.specs.Judge.{Buffers}
use Rattle.demands.specs.Call.{Counted}
use Rattle.demands.specs.Demands.{AllRunAlike, Demands}
use Rattle.demands.proofs.Demands.{every_call}
use Rattle.converter.specs.declared.Counts.{Counts}
use Rattle.converter.specs.Convert.{counts_from, answer_from, Promised}

-- THE PROMISE over values of any type: `AllRunAlike` has no premise but that the tree was converted
pub promised_everywhere : (W : Type 0) (tree text : List ℕ) (needsMain : Bool) (before : Buffers) (answer : Result Counts ConvertError) (after : Buffers)
    → Promised tree text needsMain before answer after
    → Demands W tree text needsMain before (answer_from tree answer) after
    × ((counts : Written.Counts) (seventh : ℕ) → answer_from tree answer ≡ Counted counts seventh → AllRunAlike W tree text counts after)
promised_everywhere W tree text needsMain before answer after p =
    let d = every_call W tree text needsMain before (answer_from tree answer) after p.calls in
    (d, d.demand3 p.bytes)

-- of a call that answers `Ok`: every function with a body runs as its tree does, with nothing left to show
pub converted_everywhere : (W : Type 0) (tree text : List ℕ) (needsMain : Bool) (before : Buffers) (counts : Counts) (after : Buffers)
    → Promised tree text needsMain before (Ok counts) after → AllRunAlike W tree text (counts_from counts) after
unfolding answer_from
converted_everywhere W tree text needsMain before counts after p =
    (promised_everywhere W tree text needsMain before (Ok counts) after p).1 (counts_from counts) counts.visits refl
