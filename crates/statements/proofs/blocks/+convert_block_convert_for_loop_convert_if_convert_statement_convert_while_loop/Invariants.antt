-- The functions that convert statements and blocks meet their contracts. Their measures are 3r + 2 for a statement, 3r + 1 for an If, While or For, and three times the first cell's place for a block: a call goes to a lower record, or down this order.
-- Each need is a law of BlockLaws, BlockParts or BlockTurns; the loop's invariant is `BlockLeft`, its measure the cell's place. Assumes nothing.
use lib.ListN.{length}
use Rattle.statements.specs.Lent.{at}
use mathlib.Core.Path.{◌≡◌}
use Rattle.syntax.proofs.Lists.{left}
use Rattle.statements.proofs.BlockTurns.{BlockLeft}
use Prim.Native.Nat.{◌+◌, ◌*◌}
use Rattle.statements.proofs.blocks.+convert_block_convert_for_loop_convert_if_convert_statement_convert_while_loop.Given as goal

abbrev pub decreases-convert_block : goal.decreases-convert_block
decreases-convert_block l = 3 * left l.first

abbrev pub decreases-convert_for_loop : goal.decreases-convert_for_loop
decreases-convert_for_loop l = 3 * l.r + 1

abbrev pub decreases-convert_if : goal.decreases-convert_if
decreases-convert_if l = 3 * l.r + 1

abbrev pub decreases-convert_statement : goal.decreases-convert_statement
decreases-convert_statement l = 3 * l.r + 2

abbrev pub decreases-convert_while_loop : goal.decreases-convert_while_loop
decreases-convert_while_loop l = 3 * l.r + 1

abbrev pub invariant-convert_block-loop-cell : goal.invariant-convert_block-loop-cell
invariant-convert_block-loop-cell l = BlockLeft l.tree l.text l.initial.arena l.initial.scratch (at l.initial.at l.initial.k) l.first l.arena l.scratch l.cell (at l.at l.k) × (length l.k ≡ length l.initial.k)

abbrev pub decreases-convert_block-loop-cell : goal.decreases-convert_block-loop-cell
decreases-convert_block-loop-cell l = left l.cell
