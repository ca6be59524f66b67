-- `common_type` meets its contract: what is kept where the turn remembers the Binary's type, and else what its sides take.
-- By `common-known` and `sides_meet` of TypingLaws. Assumes nothing.
use mathlib.Core.Path.{sym, ap, refl}
use Rattle.records.specs.Rules.{is_expr}
use Rattle.types.proofs.FromGood.{is_expr_lem}
use Rattle.expressions.proofs.TypingLaws.{left-expr, right-expr, common-known}
use Rattle.expressions.proofs.expressions.common_type.Goals as goal

pub returns-then-is_typed : goal.returns-then-is_typed
returns-then-is_typed c = common-known _ _ c.requires.typing.ready.keyed.good _ c.requires.kind _ _ _ c.requires.typing _ c.is_typed.ensures c.if-is_typed.true _ c.beside.ensures

pub find_common-requires : goal.find_common-requires
find_common-requires c = let x = is_expr_lem _ _ c.requires.typing.ready.keyed.good _ c.requires.kind.below (ap is_expr c.requires.kind.kind) in
    record { typing = c.requires.typing; expr = (left-expr _ _ c.requires.typing.ready.keyed.good _ 10 x (sym c.requires.kind.kind) refl _ c.reference-left.ensures).1; expr_2 = (right-expr _ _ c.requires.typing.ready.keyed.good _ 10 x (sym c.requires.kind.kind) refl _ c.reference-right.ensures).1 }
