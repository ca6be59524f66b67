-- A function's entry, on the words.
-- What the step by value owes, and the four words that were stored. Assumes nothing.
use native.Mathlib.Omega.{arith}
use lib.ListN.{set}
use Rattle.ir.proofs.LentLaws.{ten, still, function-lent}
use Rattle.ir.proofs.lent.add_function.Goals as goal

pub counters_of-c-requires : goal.counters_of-c-requires
counters_of-c-requires c = ten _ _ c.requires.0

pub bounds-k-4 : goal.bounds-k-4
bounds-k-4 c = omega (arith, ten _ _ c.requires.0)

pub bounds-k-7 : goal.bounds-k-7
bounds-k-7 c = still c.args.k.now 4 c.add_function-next.result.functions 7 (omega (arith, ten _ _ c.requires.0))

pub bounds-k-8 : goal.bounds-k-8
bounds-k-8 c = let k = c.args.k.now in
    let r = c.add_function-next.result in
    still (set k 4 r.functions) 7 r.instructions_before 8 (still k 4 r.functions 8 (omega (arith, ten _ _ c.requires.0)))

pub bounds-k-9 : goal.bounds-k-9
bounds-k-9 c = let k = c.args.k.now in
    let r = c.add_function-next.result in
    still (set (set k 4 r.functions) 7 r.instructions_before) 8 r.variables_before 9
    (still (set k 4 r.functions) 7 r.instructions_before 9 (still k 4 r.functions 9 (omega (arith, ten _ _ c.requires.0))))

pub returns : goal.returns
returns c = function-lent _ _ _ c.requires.0 _ c.counters_of-c.ensures _ _ _ c.add_function-next.ensures
