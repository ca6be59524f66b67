-- The size of a type that is no array, by its form. Each answer is a case of `SizeCases`. Assumes nothing.
use native.Mathlib.Omega.{arith}
use Rattle.types.proofs.SizeCases.{plain_none, plain_short, plain_long, plain_byte, plain_address, plain_rest}
use Rattle.types.proofs.size.plain_size.Goals as goal

pub returns-in-1 : goal.returns-in-1
returns-in-1 c text = plain_short _ text _ _ c.form.ensures (omega arith) (omega arith) _ c.is_short.ensures c.if-is_short.true

pub returns-in-1-2 : goal.returns-in-1-2
returns-in-1-2 c text = plain_address _ text _ _ c.form.ensures c.in-1-2.is

pub returns-in-1-2-2 : goal.returns-in-1-2-2
returns-in-1-2-2 c text = plain_long _ text _ _ c.form.ensures (omega arith) (omega arith) _ c.is_short.ensures c.if-is_short.false

pub returns-in-3 : goal.returns-in-3
returns-in-3 c text = search (plain_byte, arith)

pub returns-in_default : goal.returns-in_default
returns-in_default c text = search (plain_none, arith)

pub returns-in_default-2 : goal.returns-in_default-2
returns-in_default-2 c text = search (plain_rest, arith)
