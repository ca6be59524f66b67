-- The function whose key is the verb, where it takes the arguments.
-- What `find_key` found is what the map has, since all functions are entered. Assumes nothing.
use Rattle.keys.proofs.FunctionLaws.{found-function}
use Rattle.expressions.proofs.ExactLaws.{filter_hit, filter-left, filter_none, verb-below, verb-found}
use Rattle.expressions.proofs.exact.by_name.Goals as goal

pub find_key-requires : goal.find_key-requires
find_key-requires c = let first = c in
    (c.requires.keyed.good, c.requires.keyed.listed.room, verb-below _ _ _ _ c.requires.called)

pub takes_call-requires : goal.takes_call-requires
takes_call-requires c = record { called = c.requires.called; function_at = found-function _ _ _ (verb-found _ _ _ _ c.requires.called c.requires.keyed _ c.find_key.ensures).function c.in_ok-f.was }

pub returns-then-takes_call : goal.returns-then-takes_call
returns-then-takes_call c = filter_hit _ _ _ _ _ (verb-found _ _ _ _ c.requires.called c.requires.keyed _ c.find_key.ensures).is _ _ (verb-found _ _ _ _ c.requires.called c.requires.keyed _ c.find_key.ensures).function c.in_ok-f.was c.takes_call.ensures c.if-takes_call.true

pub returns : goal.returns
returns c = filter-left _ _ _ _ _ (verb-found _ _ _ _ c.requires.called c.requires.keyed _ c.find_key.ensures).is _ _ c.in_ok-f.was c.takes_call.ensures c.if-takes_call.false

pub returns-in_err-f : goal.returns-in_err-f
returns-in_err-f c = rw c.from_residual.ensures (filter_none _ _ _ _ _ (verb-found _ _ _ _ c.requires.called c.requires.keyed _ c.find_key.ensures).is c.in_err-f.was)
