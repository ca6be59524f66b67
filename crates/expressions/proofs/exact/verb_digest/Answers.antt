-- The verb's digest is the word at the slot of the verb's number.
-- By the law of that word. Assumes nothing.
use Rattle.expressions.proofs.ExactLaws.{verb-slot-inside, verb-digest}
use Rattle.expressions.proofs.exact.verb_digest.Goals as goal

pub kept_digest-requires : goal.kept_digest-requires
kept_digest-requires c = verb-slot-inside _ _ _ _ c.requires.0

pub returns : goal.returns
returns c = verb-digest _ _ _ _ c.requires.0 c.requires.1 _ c.kept_digest.ensures
