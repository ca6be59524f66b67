-- The walk along a chain to a record's place. The invariant: from where it stands the place is the one that is looked for.
-- By the laws of the walk, over what the words and the comparison tell. Assumes nothing.
use Rattle.records.specs.Order.{record_text}
use Rattle.records.proofs.LinkedLaws.{steps-left}
use Rattle.records.proofs.WalkLaws.{Walk}
use Rattle.records.proofs.order.find_place.Given as goal

abbrev pub invariant-loop-link : goal.invariant-loop-link
invariant-loop-link l = Walk (record_text l.tree l.text) l.n l.r l.head l.scratch l.at l.shared l.link

abbrev pub decreases-loop-link : goal.decreases-loop-link
decreases-loop-link l = steps-left (record_text l.tree l.text) l.n l.scratch l.n l.link
