-- The chain of the verb's number is walked. The invariant: those of all functions are those before the place at hand and behind them what was found so far.
-- By the laws of a walk along a chain of names; the measure is the place. Assumes nothing.
use native.Mathlib.Omega.{arith}
use Rattle.expressions.proofs.CallLaws.{name_start, name_end, name-function, name-less, second-one, first_one, passed-one}
use Rattle.expressions.proofs.ExactLaws.{verb-below}
use Rattle.expressions.proofs.calls.find_functions_by_literals.Goals.{else-takes_call, then-takes_call+in_default}
use Rattle.expressions.proofs.calls.find_functions_by_literals.Goals as goal

pub name_head-at-requires : goal.name_head-at-requires
name_head-at-requires c = let start = c in
    omega (arith, verb-below _ _ _ _ c.requires.called, c.requires.keyed.listed.room)

pub loop-at-init : goal.loop-at-init
loop-at-init c = name_start _ _ _ c.requires.keyed _ c.requires.called _ c.name_head-at.ensures

pub takes_call-requires : goal.takes_call-requires
takes_call-requires c = record { called = c.requires.called; function_at = name-function _ _ _ c.requires.keyed _ c.requires.called _ _ _ c.loop-at.invariant (omega (arith, c.loop-at-test.true)) }

pub returns-in-One : goal.returns-in-One
returns-in-One c = second-one _ _ _ c.requires.keyed _ c.requires.called _ _ _ c.loop-at.invariant (omega (arith, c.loop-at-test.true)) _ c.takes_call.ensures c.if-takes_call.true _ c.in-One.is

pub loop-at-smaller : goal.loop-at-smaller
loop-at-smaller c = name-less _ _ _ c.requires.keyed _ c.requires.called _ _ _ c.loop-at.invariant (omega (arith, c.loop-at-test.true)) _ c.name_before-at.ensures

pub loop-at-preserved : goal.loop-at-preserved
loop-at-preserved c = elim c.if-takes_call.branch [ then-takes_call+in_default w ↦ first_one _ _ _ c.requires.keyed _ c.requires.called _ _ _ c.loop-at.invariant (omega (arith, c.loop-at-test.true)) _ c.takes_call.ensures _ c.name_before-at.ensures _ w.in_default.not-One w.if-takes_call.true w.found-is | else-takes_call w ↦ passed-one _ _ _ c.requires.keyed _ c.requires.called _ _ _ c.loop-at.invariant (omega (arith, c.loop-at-test.true)) _ c.takes_call.ensures _ c.name_before-at.ensures _ w.if-takes_call.false w.found-is ]

pub returns : goal.returns
returns c = name_end _ _ _ c.requires.keyed _ c.requires.called _ _ c.loop-at-test.false c.loop-at.invariant
