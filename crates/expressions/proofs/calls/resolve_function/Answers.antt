-- The function of the exact key, or the only one that literals fit.
-- Each answer is a case of the definition. Assumes nothing.
use Rattle.expressions.proofs.CallLaws.{exact_one, choice_one, choice_nobody, choice_several}
use Rattle.expressions.proofs.calls.resolve_function.Goals as goal

pub returns-in-Some : goal.returns-in-Some
returns-in-Some c = exact_one _ _ _ _ _ _ c.find_exact_function.ensures.is c.find_exact_function.ensures.function _ c.in-Some.is

pub returns-in-One : goal.returns-in-One
returns-in-One c = choice_one _ _ _ _ _ _ c.find_exact_function.ensures.is c.in_default.is _ c.find_functions_by_literals.ensures.are c.find_functions_by_literals.ensures.function _ c.in-One.is

pub returns-in-Nobody : goal.returns-in-Nobody
returns-in-Nobody c = choice_nobody _ _ _ _ _ _ c.find_exact_function.ensures.is c.in_default.is _ c.find_functions_by_literals.ensures.are c.in-Nobody.is _ c.refuse.ensures

pub returns-in-Several : goal.returns-in-Several
returns-in-Several c = choice_several _ _ _ _ _ _ c.find_exact_function.ensures.is c.in_default.is _ c.find_functions_by_literals.ensures.are c.in-Several.is _ c.refuse-in-Several.ensures
