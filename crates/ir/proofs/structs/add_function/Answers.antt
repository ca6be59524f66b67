-- A function's entry, and the next function begins.
-- From what the two `put_four` wrote. Assumes nothing.
use native.Mathlib.Omega.{arith}
use Rattle.ir.proofs.FunctionDone.{function-done}
use Rattle.records.proofs.WordLaws.{put_eight}
use Rattle.conversion.specs.Written.{bool_number}
use borrow.Author.Rules.{rules}
use Rattle.ir.proofs.structs.add_function.Goals as goal

pub returns : goal.returns
unfolding bool_number
returns c = function-done _ _ _ (search rules) _ _ _ c.requires.0 c.requires.1
    (put_eight _ _ _ _ _ _ _ _ _ _ _ _ (omega (arith, c.requires)) c.put_four.ensures c.put_four-2.ensures)
