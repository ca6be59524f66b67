-- `bitand` of an `Int128` meets its contract: the operation works on each half by itself.
-- `Bitwise.by_halves` at the library's law of this operation.
use lib.Bits.{bit_and, and_block}
use Rattle.int128.proofs.Bitwise.{by_halves}
use borrow.Author.Rules.{rules}
use Rattle.int128.proofs.bits.Int128BitAnd.bitand.Goals as goal

pub returns : goal.returns
returns c = by_halves bit_and and_block c.args.self c.args.other (search rules) (search rules)
