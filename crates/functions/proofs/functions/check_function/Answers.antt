-- One turn: the function under its key, or the definition's refusal, in its order of tests.
-- The case of the turn that each branch is. Assumes nothing.
use mathlib.Core.Path.{sym, ◌∙◌}
use Rattle.functions.proofs.FunctionCases.{is_latin, is_foreign, signature_taken, signature_new, symbol_taken, symbol_new}
use Rattle.functions.proofs.functions.check_function.Goals as goal

pub returns-then-is_ascii : goal.returns-then-is_ascii
returns-then-is_ascii c = is_latin _ _ _ _ _ c.requires.good.0 c.requires.listed c.requires.j_in_bounds.0 c.function_at-f.ensures _ _ _ c.is_mangled.ensures c.name_of-name.ensures c.is_ascii.ensures
    c.if-is_mangled.true c.if-is_ascii.true _ c.refuse_function.ensures

pub returns-then-is_some : goal.returns-then-is_some
returns-then-is_some c = signature_taken _ _ _ _ _ c.requires.good.0 c.requires.listed c.requires.j_in_bounds.0 c.function_at-f.ensures _ _ _ c.is_mangled.ensures c.name_of-name.ensures c.is_ascii.ensures
    _ (c.find_own_key.ensures _ c.requires.j_in_bounds.1).is c.if-is_mangled.true c.if-is_ascii.false (sym c.is_some.ensures ∙ c.if-is_some.true) _ c.refuse_function-then-is_some.ensures

pub returns-then-is_mangled : goal.returns-then-is_mangled
returns-then-is_mangled c = signature_new _ _ _ _ _ c.requires.good.0 c.requires.listed c.requires.j_in_bounds.0 c.function_at-f.ensures _ _ _ c.is_mangled.ensures c.name_of-name.ensures c.is_ascii.ensures
    _ (c.find_own_key.ensures _ c.requires.j_in_bounds.1).is c.if-is_mangled.true c.if-is_ascii.false (sym c.is_some.ensures ∙ c.if-is_some.false)

pub returns-then-not-is_ascii : goal.returns-then-not-is_ascii
returns-then-not-is_ascii c = is_foreign _ _ _ _ _ c.requires.good.0 c.requires.listed c.requires.j_in_bounds.0 c.function_at-f.ensures _ _ _ c.is_mangled.ensures c.name_of-name.ensures c.is_ascii-2.ensures
    c.if-is_mangled.false c.if-not-is_ascii.true _ c.refuse_function-then-not-is_ascii.ensures

pub returns-then-is_some-2 : goal.returns-then-is_some-2
returns-then-is_some-2 c = symbol_taken _ _ _ _ _ c.requires.good.0 c.requires.listed c.requires.j_in_bounds.0 c.function_at-f.ensures _ _ _ c.is_mangled.ensures c.name_of-name.ensures c.is_ascii-2.ensures
    _ (c.find_own_key-2.ensures _ c.requires.j_in_bounds.1).is c.if-is_mangled.false c.if-not-is_ascii.false (sym c.is_some-2.ensures ∙ c.if-is_some-2.true) _ c.refuse_function-then-is_some-2.ensures

pub returns : goal.returns
returns c = symbol_new _ _ _ _ _ c.requires.good.0 c.requires.listed c.requires.j_in_bounds.0 c.function_at-f.ensures _ _ _ c.is_mangled.ensures c.name_of-name.ensures c.is_ascii-2.ensures
    _ (c.find_own_key-2.ensures _ c.requires.j_in_bounds.1).is c.if-is_mangled.false c.if-not-is_ascii.false (sym c.is_some-2.ensures ∙ c.if-is_some-2.false)
