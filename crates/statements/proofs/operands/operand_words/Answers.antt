-- An operand in four words.
-- Each arm by what its match says of the operand. Assumes nothing.
use native.Mathlib.Omega.{arith}
use Rattle.statements.proofs.StackLaws.{mark_most, var_words, int_words, float_words, bool-words, string_words, null_words}
use borrow.Author.Rules.{rules}
use Rattle.statements.proofs.operands.operand_words.Goals as goal

pub overflow_add-tag : goal.overflow_add-tag
overflow_add-tag c = omega (arith, mark_most _ _ c.mark.ensures)

pub overflow_mul-tag : goal.overflow_mul-tag
overflow_mul-tag c = omega (arith, mark_most _ _ c.mark-in-Int.ensures)

pub overflow_add-tag-in-Int : goal.overflow_add-tag-in-Int
overflow_add-tag-in-Int c = omega (arith, mark_most _ _ c.mark.ensures, mark_most _ _ c.mark-in-Int.ensures)

pub returns-in-Var : goal.returns-in-Var
returns-in-Var c = record { bytes = (var_words _ _ c.in-Var.is (search rules)).0; back = (var_words _ _ c.in-Var.is (search rules)).1 }

pub returns-in-Int : goal.returns-in-Int
returns-in-Int c = record { bytes = (int_words _ _ _ _ _ _ _ _ c.in-Int.is c.mark.ensures c.mark-in-Int.ensures c.low.ensures c.high.ensures.0 (search rules)).0; back = (int_words _ _ _ _ _ _ _ _ c.in-Int.is c.mark.ensures c.mark-in-Int.ensures c.low.ensures c.high.ensures.0 (search rules)).1 }

pub returns-in-Float : goal.returns-in-Float
returns-in-Float c = record { bytes = (float_words _ _ c.in-Float.is (search rules)).0; back = (float_words _ _ c.in-Float.is (search rules)).1 }

pub returns-in-Bool : goal.returns-in-Bool
returns-in-Bool c = record { bytes = (bool-words _ _ _ c.in-Bool.is c.mark-in-Bool.ensures).0; back = (bool-words _ _ _ c.in-Bool.is c.mark-in-Bool.ensures).1 }

pub returns-in-DataAddress : goal.returns-in-DataAddress
returns-in-DataAddress c = record { bytes = (string_words _ _ c.in-DataAddress.is (search rules)).0; back = (string_words _ _ c.in-DataAddress.is (search rules)).1 }

pub returns-in-Null : goal.returns-in-Null
returns-in-Null c = record { bytes = (null_words _ c.in-Null.is).0; back = (null_words _ c.in-Null.is).1 }
