-- Each value is fitted to its parameter, in place: what is left owes what the whole owes, and the rest has room.
-- By one turn, and the end. Assumes nothing.
use Rattle.statements.specs.Lent.{fitted}
use Rattle.statements.proofs.StayLaws.{names_of}
use mathlib.Core.Path.{refl, sym, ap}
use native.Mathlib.Omega.{arith}
use Rattle.syntax.specs.Places.{args_at}
use Rattle.expressions.proofs.OperandLaws.{first-type}
use Rattle.statements.proofs.FitTurns.{first-cells, fit_start, fit-turn, fit_end}
use Rattle.statements.proofs.fits.fit_args.Goals as goal

pub loop-j-init : goal.loop-j-init
loop-j-init c = (fit_start _ _ _ _ _ _ _ _ _ _ _ (ap (args_at _ _) (sym c.reference-argument.ensures)) (first-cells _ _ c.requires.converting.0.ready.keyed.good _ c.requires.converting.2 _ c.reference-argument.ensures) c.parameters_of-parameter.ensures.0 c.parameters_of-parameter.ensures.1 (record { room = c.requires.converting.0.room; affords = c.requires.afforded.0.tables }) c.requires.afforded.1, refl)

pub parameter_type-expected-requires : goal.parameter_type-expected-requires
parameter_type-expected-requires c = (c.requires.converting.0.ready.keyed.good, c.first_value-at.ensures.params, first-type _ _ c.requires.converting.0.ready.keyed.good _ c.requires.converting.1.below (λ w. omega (arith, c.requires.converting.1.kind)) 4 (omega arith))

pub loop-j-preserved : goal.loop-j-preserved
loop-j-preserved c = (fit-turn _ _ _ _ _ _ _ _ _ _ _ _ _ _ _ c.loop-j.invariant.0 c.loop-j-test.true c.requires.afforded.0.stack c.requires.converting.0.ready.keyed.listed.room c.operand_at-o.result c.operand_at-o.ensures c.first_value-at.result c.first_value-at.ensures _ c.parameter_type-expected.ensures.0 (fitted _ c.fit_operand-fitted.result) _ (c.fit_operand-fitted.ensures _) _ c.push_operand.ensures.written c.push_operand.ensures.back _ c.next_parameter-parameter.ensures.0 c.next_parameter-parameter.ensures.1, omega (arith, c.loop-j.invariant.1, c.k-1.given))

pub returns : goal.returns
returns c = record { fits_as = record { adds = fit_end _ _ _ _ _ _ _ _ _ _ _ _ _ _ _ c.loop-j.invariant.0 (omega arith); stays = c.loop-j.invariant.0.stays _ (omega (arith, c.requires.afforded.0.names)); names = names_of (c.loop-j.invariant.0.stays _ (omega arith)) }; turns = c.loop-j.invariant.0.turns }
