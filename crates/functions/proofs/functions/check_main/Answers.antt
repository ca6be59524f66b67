-- The program has a `main` that returns an integer, or needs none: the definition's cases.
-- What the search for `main` answered, and what its return type is. Assumes nothing.
use Rattle.keys.proofs.FunctionLaws.{found-function}
use Rattle.functions.proofs.FunctionCases.{main_fine, main_other, main_missing, main_spared}
use Rattle.functions.proofs.functions.check_main.Goals as goal

pub returns-then-returns_int : goal.returns-then-returns_int
returns-then-returns_int c = main_fine _ _ _ _ c.find_main.ensures.is _ c.in-Some.is _ c.returns_int.ensures c.if-returns_int.true

pub returns-then-needs_main : goal.returns-then-needs_main
returns-then-needs_main c = main_missing _ _ _ _ c.find_main.ensures.is c.in-None.is c.if-needs_main.true _ c.refuse_function-then-needs_main.ensures

pub returns-else-returns_int : goal.returns-else-returns_int
returns-else-returns_int c = let at = found-function _ _ _ c.find_main.ensures.function c.in-Some.is in
    main_other _ _ _ _ c.find_main.ensures.is _ c.in-Some.is _ c.returns_int.ensures c.if-returns_int.false
    c.requires.good at _ c.refuse_function.ensures

pub returns-else-needs_main : goal.returns-else-needs_main
returns-else-needs_main c = main_spared _ _ _ _ c.find_main.ensures.is c.in-None.is c.if-needs_main.false
