-- `find_common` meets its contract: the two types one after the other, then the rule.
-- By the answers of the two calls and of the rule. Assumes nothing.
use mathlib.Core.Path.{refl}
use Rattle.expressions.proofs.TurnLaws.{typing_next}
use Rattle.expressions.proofs.TypingLaws.{is-typed}
use Rattle.expressions.proofs.OperandLaws.{operands-are}
use Rattle.expressions.proofs.CommonLaws.{left-refused, right-refused, takes}
use Rattle.expressions.proofs.expressions.find_common.Goals as goal

pub get_type-requires-in-Ok : goal.get_type-requires-in-Ok
get_type-requires-in-Ok c = record { typing = typing_next _ _ _ _ _ c.requires.typing _ c.get_type.ensures.frame _ (c.get_type.ensures.adds _ c.in-Ok.is); expr = c.requires.expr_2 }

pub common_of-requires : goal.common_of-requires
common_of-requires c = record {
  good = c.requires.typing.ready.keyed.good;
  operands = operands-are _ _ _ _ _ _ refl c.requires.expr (is-typed _ _ _ c.get_type.ensures.typed c.in-Ok.is)
      c.requires.expr_2 (is-typed _ _ _ c.get_type-in-Ok.ensures.typed c.in-Ok-get_type.is);
}

pub returns-in-Err : goal.returns-in-Err
returns-in-Err c = left-refused _ _ _ _ _ _ _ _ _ c.get_type.ensures _ c.in-Err.is

pub returns-in-Err-get_type : goal.returns-in-Err-get_type
returns-in-Err-get_type c = right-refused _ _ _ _ _ _ _ _ _ c.get_type.ensures c.requires.typing _ c.in-Ok.is _ _ c.get_type-in-Ok.ensures _ c.in-Err-get_type.is

pub returns-in-Ok-get_type : goal.returns-in-Ok-get_type
returns-in-Ok-get_type c = takes _ _ _ _ _ _ _ _ _ c.get_type.ensures c.requires.typing _ c.in-Ok.is _ _ c.get_type-in-Ok.ensures _ c.in-Ok-get_type.is _ refl _ c.common_of.ensures
