-- `int128::quotient::norm_shift` meets its contract: the count of leading zeros brings the top bit to bit 63.
-- `Normal.leading`.
use Rattle.int128.proofs.Normal.{leading}
use borrow.Author.Rules.{rules}
use Rattle.int128.proofs.quotient.norm_shift.Goals as goal

pub returns : goal.returns
returns c = leading c.args.v c.requires (search rules)
