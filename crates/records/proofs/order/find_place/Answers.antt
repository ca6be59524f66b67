-- The walk along a chain to a record's place. The invariant: from where it stands the place is the one that is looked for.
-- By the laws of the walk, over what the words and the comparison tell. Assumes nothing.
use Prim.Native.Nat.{ℕ, ◌-◌}
use native.Mathlib.Omega.{arith}
use Rattle.records.proofs.WalkLaws.{walk_start, walk_here, walk_end, here-below, here-inside, stops, agrees_from, walk_found, walk_compared, walk_past, walk_less}
use Rattle.records.proofs.order.find_place.Goals.{else-before-shared-2, then-before-shared-2+else-a}
use Rattle.records.proofs.order.find_place.Goals as goal

pub loop-link-init : goal.loop-link-init
loop-link-init c = walk_start _ _ _ _ _ c.requires.leads c.requires.chain_room.3 _ c.load-link.ensures

pub overflow_mul-e-in-loop-link : goal.overflow_mul-e-in-loop-link
overflow_mul-e-in-loop-link c = let k : ℕ = c.loop-link.link - 1 in let here = walk_here _ _ _ _ _ _ _ _ k (omega arith) c.loop-link.invariant in omega (arith, here-below _ _ _ _ _ _ _ _ k here, c.requires.chain_room.0.few, c.requires.chain_room.2)

pub overflow_add-e : goal.overflow_add-e
overflow_add-e c = let k : ℕ = c.loop-link.link - 1 in let here = walk_here _ _ _ _ _ _ _ _ k (omega arith) c.loop-link.invariant in omega (arith, here-below _ _ _ _ _ _ _ _ k here, c.requires.chain_room.0.few, c.requires.chain_room.2)

pub load-before-requires : goal.load-before-requires
load-before-requires c = let k : ℕ = c.loop-link.link - 1 in let here = walk_here _ _ _ _ _ _ _ _ k (omega arith) c.loop-link.invariant in omega (arith, here-inside _ _ _ _ _ _ _ _ k here c.requires.chain_room.0 c.requires.chain_room.2)

pub returns-then-before-shared : goal.returns-then-before-shared
returns-then-before-shared c = let k : ℕ = c.loop-link.link - 1 in let here = walk_here _ _ _ _ _ _ _ _ k (omega arith) c.loop-link.invariant in stops _ _ _ _ _ _ _ _ k here _ c.load-before.ensures c.if-before-shared.true

pub records_agree-a-requires : goal.records_agree-a-requires
records_agree-a-requires c = let k : ℕ = c.loop-link.link - 1 in let here = walk_here _ _ _ _ _ _ _ _ k (omega arith) c.loop-link.invariant in record { record_bytes_in_bounds = (omega (arith, here-below _ _ _ _ _ _ _ _ k here, c.requires.chain_room.1, c.requires.chain_room.2), omega (arith, c.requires.chain_room.1, c.requires.chain_room.2)); from_bound = agrees_from _ _ _ _ _ _ _ _ k here _ c.load-before.ensures c.if-before-shared-2.true }

pub returns-then-a : goal.returns-then-a
returns-then-a c = let k : ℕ = c.loop-link.link - 1 in let here = walk_here _ _ _ _ _ _ _ _ k (omega arith) c.loop-link.invariant in walk_found _ _ _ _ _ _ _ _ k here _ c.load-before.ensures _ _ c.records_agree-a.ensures c.if-a.true

pub overflow_add-at : goal.overflow_add-at
overflow_add-at c = let k : ℕ = c.loop-link.link - 1 in let here = walk_here _ _ _ _ _ _ _ _ k (omega arith) c.loop-link.invariant in omega (arith, here-below _ _ _ _ _ _ _ _ k here, c.requires.chain_room.0.few, c.requires.chain_room.2)

pub load-link-requires-in-loop-link : goal.load-link-requires-in-loop-link
load-link-requires-in-loop-link c = let k : ℕ = c.loop-link.link - 1 in let here = walk_here _ _ _ _ _ _ _ _ k (omega arith) c.loop-link.invariant in omega (arith, here-inside _ _ _ _ _ _ _ _ k here c.requires.chain_room.0 c.requires.chain_room.2)

pub loop-link-smaller : goal.loop-link-smaller
loop-link-smaller c = let k : ℕ = c.loop-link.link - 1 in let here = walk_here _ _ _ _ _ _ _ _ k (omega arith) c.loop-link.invariant in walk_less _ _ _ _ _ _ _ _ k here _ c.load-link-in-loop-link.ensures

pub loop-link-preserved : goal.loop-link-preserved
loop-link-preserved c = let k : ℕ = c.loop-link.link - 1 in let here = walk_here _ _ _ _ _ _ _ _ k (omega arith) c.loop-link.invariant in
    elim c.if-before-shared-2.branch [ then-before-shared-2+else-a w ↦ walk_compared _ _ _ _ _ _ _ _ k here _ c.load-before.ensures _ _ _ _ c.requires.chain_room.0 c.requires.chain_room.2 w.if-before-shared-2.true w.records_agree-a.ensures w.if-a.false w.shared-is c.load-link-in-loop-link.ensures | else-before-shared-2 w ↦ walk_past _ _ _ _ _ _ _ _ k here _ c.load-before.ensures _ _ c.requires.chain_room.0 c.requires.chain_room.2 c.if-before-shared.false w.if-before-shared-2.false w.shared-is c.load-link-in-loop-link.ensures ]

pub returns : goal.returns
returns c = walk_end _ _ _ _ _ _ _ _ c.loop-link-test.false c.loop-link.invariant
