-- A mangled function more in the chains by name: it goes before the others of its name.
-- By the laws of a chain with one function more. Assumes nothing.
use native.Mathlib.Omega.{arith}
use Rattle.keys.proofs.ChainLaws.{name-inside, name-number, keeps_name, chained-name}
use Rattle.keys.proofs.keys.chain_name.Goals as goal

pub original-name-requires : goal.original-name-requires
original-name-requires c = name-inside _ _ c.requires.0.good _ c.requires.1 c.args.scratch.now _ c.reference.ensures c.requires.0.listed.room

pub overflow_mul-name : goal.overflow_mul-name
overflow_mul-name c = let number = name-number _ _ c.requires.0.good _ c.requires.1 _ _ c.reference.ensures c.requires.0.numbered _ c.original-name.ensures in
    omega (arith, number.1, c.requires.0.good.few)

pub overflow_add-n : goal.overflow_add-n
overflow_add-n c = let number = name-number _ _ c.requires.0.good _ c.requires.1 _ _ c.reference.ensures c.requires.0.numbered _ c.original-name.ensures in
    omega (arith, number.1, c.requires.0.good.few)

pub put_before-requires : goal.put_before-requires
put_before-requires c = let number = name-number _ _ c.requires.0.good _ c.requires.1 _ _ c.reference.ensures c.requires.0.numbered _ c.original-name.ensures in
    (omega (arith, number.1, c.requires.0.listed.room), omega (arith, c.requires.1.below, c.requires.0.listed.room))

pub returns : goal.returns
returns c = let number = name-number _ _ c.requires.0.good _ c.requires.1 _ _ c.reference.ensures c.requires.0.numbered _ c.original-name.ensures in record { chaining = chained-name _ _ _ _ _ _ c.requires.0 c.requires.1 c.requires.2 number.0 number.1 c.put_before.ensures; chain_keeps = (keeps_name _ _ _ _ _ _ c.requires.0 c.requires.1 c.requires.2 number.0 number.1 c.put_before.ensures) }
