-- Whether a function returns an integer: no where it has no return type, else by its type's form.
-- The word of the return type, read as the definition reads it. Assumes nothing.
use Rattle.functions.proofs.FunctionCases.{returns-none, returns-inside, returns-type}
use Rattle.functions.proofs.functions.returns_int.Goals as goal

pub returns-then-ty : goal.returns-then-ty
returns-then-ty c = returns-none _ _ c.requires.good _ c.requires.function_at _ c.reference-ty.ensures c.if-ty.true

pub form-requires : goal.form-requires
form-requires c = returns-inside _ _ c.requires.good _ c.requires.function_at _ c.reference-ty.ensures c.if-ty.false

pub returns : goal.returns
returns c = returns-type _ _ c.requires.good _ c.requires.function_at _ c.reference-ty.ensures c.if-ty.false _ c.form.ensures
