-- The verb of a cast, the type it goes to, the type it comes from, and whether one can be cast to the other.
-- Each answer is a case of the definition. Assumes nothing.
use mathlib.Core.Bool.{not}
use mathlib.Core.Path.{ap}
use Rattle.expressions.specs.Answers.{IsCast}
use Rattle.expressions.proofs.OperandLaws.{found_type_lem}
use Rattle.expressions.proofs.CallLaws.{cast-not, cast_nowhere, cast-free, cast_fine, cast_wrong}
use Rattle.expressions.proofs.calls.cast_type.Goals as goal

pub returns-then-not-is_cast_verb : goal.returns-then-not-is_cast_verb
returns-then-not-is_cast_verb c = record { is = cast-not _ _ _ _ _ _ c.is_cast_verb.ensures (ap not c.if-not-is_cast_verb.true); type = IsCast.not_cast }

pub returns-in_default : goal.returns-in_default
returns-in_default c = record { is = cast_nowhere _ _ _ _ _ _ c.is_cast_verb.ensures (ap not c.if-not-is_cast_verb.false) _ (c.target_type.ensures.0 _) c.in_default.is; type = IsCast.not_cast }

pub returns-in_default-source_type : goal.returns-in_default-source_type
returns-in_default-source_type c = record { is = cast-free _ _ _ _ _ _ c.is_cast_verb.ensures (ap not c.if-not-is_cast_verb.false) _ (c.target_type.ensures.0 _) _ c.in-Some.is _ c.source_type.ensures.0 c.in_default-source_type.is; type = IsCast.to (found_type_lem _ _ _ c.target_type.ensures.1 c.in-Some.is) }

pub returns-then-can_cast : goal.returns-then-can_cast
returns-then-can_cast c = record { is = cast_fine _ _ _ _ _ _ c.is_cast_verb.ensures (ap not c.if-not-is_cast_verb.false) _ (c.target_type.ensures.0 _) _ c.in-Some.is _ c.source_type.ensures.0 _ c.in-Some-source_type.is _ (c.can_cast.ensures _) c.if-can_cast.true; type = IsCast.to (found_type_lem _ _ _ c.target_type.ensures.1 c.in-Some.is) }

pub returns : goal.returns
returns c = record { is = cast_wrong _ _ _ _ _ _ c.is_cast_verb.ensures (ap not c.if-not-is_cast_verb.false) _ (c.target_type.ensures.0 _) _ c.in-Some.is _ c.source_type.ensures.0 _ c.in-Some-source_type.is _ (c.can_cast.ensures _) c.if-can_cast.false; type = IsCast.no }
