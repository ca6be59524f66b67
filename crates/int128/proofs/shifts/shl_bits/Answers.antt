-- `int128::shifts::shl_bits` meets its contract: by less than 64 the lower half's upper bits move into the upper half, by more the lower half becomes it.
-- The laws of `Moved` at 64 bits.
use Rattle.int128.proofs.Moved.{room64, up64, up128}
use borrow.Author.Rules.{rules}
use Rattle.int128.proofs.shifts.shl_bits.Goals as goal

pub overflow_add-result : goal.overflow_add-result
overflow_add-result c = record { fits = room64 c.args.n c.args.x.hi c.args.x.lo (search rules) (search rules) }

pub returns-then-n-lt64 : goal.returns-then-n-lt64
returns-then-n-lt64 c = up64 c.args.n c.args.x.hi c.args.x.lo (search rules) (search rules)

pub returns : goal.returns
returns c = up128 c.args.n c.args.x.hi c.args.x.lo (search rules)
