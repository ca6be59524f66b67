-- The first function named `main` is what the definition finds: what was asked equals what is left from the place at hand on.
-- The laws of the search at each turn, at a hit and at the end. Assumes nothing.
use native.Mathlib.Omega.{arith}
use Rattle.keys.specs.Keys.{a_function, none_found}
use Rattle.functions.proofs.Turns.{main_start}
use Rattle.functions.proofs.FunctionCases.{main_here, main_next, main_nowhere}
use Rattle.functions.proofs.functions.find_main.Goals as goal

pub loop-j-init : goal.loop-j-init
loop-j-init c = main_start _ _

pub returns-then-is_main : goal.returns-then-is_main
returns-then-is_main c = record {
  is = main_here _ _ _ _ c.requires.listed.0 (omega (arith, c.loop-j-test.true, c.requires.listed.1)) _ c.function_at-f.ensures _ _ c.name_of.ensures c.is_main.ensures
      c.if-is_main.true c.loop-j.invariant;
  function = a_function c.function_at-f.ensures.1;
}

pub loop-j-preserved : goal.loop-j-preserved
loop-j-preserved c =
    main_next _ _ _ _ c.requires.listed.0 (omega (arith, c.loop-j-test.true, c.requires.listed.1)) _ c.function_at-f.ensures _ _ c.name_of.ensures c.is_main.ensures
    c.if-is_main.false c.loop-j.invariant

pub returns : goal.returns
returns c = record { is = main_nowhere _ _ _ _ c.requires.listed.0 _ c.requires.listed.1 c.loop-j-test.false c.loop-j.invariant; function = none_found }
