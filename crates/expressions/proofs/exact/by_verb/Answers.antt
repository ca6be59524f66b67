-- Without arguments the verb is the whole name, and its slot says which function has it as its key.
-- By the law of the verb's slot. Assumes nothing.
use Rattle.keys.proofs.FunctionLaws.{found-function}
use Rattle.expressions.proofs.ExactLaws.{verb-below, verb-found, verb_alone, verb_missing}
use Rattle.expressions.proofs.exact.by_verb.Goals as goal

pub find_key-requires : goal.find_key-requires
find_key-requires c = let first = c in
    (c.requires.keyed.good, c.requires.keyed.listed.room, verb-below _ _ _ _ c.requires.called.0)

pub mangled_only-requires : goal.mangled_only-requires
mangled_only-requires c = let first = c in
    record { good = c.requires.keyed.good; function_at = found-function _ _ _ (verb-found _ _ _ _ c.requires.called.0 c.requires.keyed _ c.find_key.ensures).function c.in_ok-f.was }

pub returns : goal.returns
returns c = let first = c in
    verb_alone _ _ _ _ c.requires.called.0 c.requires.called.1 c.requires.keyed _ c.find_key.ensures _ c.in_ok-f.was _ c.mangled_only.ensures

pub returns-in_err-f : goal.returns-in_err-f
returns-in_err-f c = rw c.from_residual.ensures (verb_missing _ _ _ _ c.requires.called.0 c.requires.called.1 c.requires.keyed _ c.find_key.ensures c.in_err-f.was)
