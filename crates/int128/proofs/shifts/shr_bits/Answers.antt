-- `int128::shifts::shr_bits` meets its contract: by less than 64 the upper half's lower bits move into the lower half, by more the upper half becomes it.
-- The laws of `Moved` at 64 bits.
use Rattle.int128.proofs.Moved.{low64, down64, down128}
use borrow.Author.Rules.{rules}
use Rattle.int128.proofs.shifts.shr_bits.Goals as goal

pub overflow_add-result : goal.overflow_add-result
overflow_add-result c = record { fits = low64 c.args.n c.args.x.hi c.args.x.lo (search rules) (search rules) }

pub returns-then-n-lt64 : goal.returns-then-n-lt64
returns-then-n-lt64 c = down64 c.args.n c.args.x.hi c.args.x.lo (search rules)

pub returns : goal.returns
returns c = down128 c.args.n c.args.x.hi c.args.x.lo (search rules) (search rules)
