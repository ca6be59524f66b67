-- `convert_body` meets its contract: the block, then MissingReturn, then the entry.
-- By what the block's answer says, each case a law of BodyLaws. Assumes nothing.
use mathlib.Core.Path.{ap}
use native.Mathlib.Omega.{arith}
use Rattle.std.proofs.lemmas.Result.{err_from_is_err_and}
use Rattle.functions.proofs.BodyLaws.{body-list, body_misses, body_refused, body-done, body-visited}
use Rattle.statements.proofs.HeadLaws.{refused-finished}
use Rattle.statements.specs.Lent.{finished_with}
use Rattle.functions.proofs.bodies.convert_body.Goals as goal

pub convert_block-requires-clause-body_at : goal.convert_block-requires-clause-body_at
convert_block-requires-clause-body_at c = body-list c.requires.converting.0.ready.keyed.good c.requires.function_at.0 c.reference-body.ensures

pub returns-then-misses_return : goal.returns-then-misses_return
returns-then-misses_return c = record { body_as = body_misses _ c.reference-body.ensures c.convert_block.ensures.block_as (ap (finished_with _) c.in_ok-convert_block.was) c.misses_return.ensures c.if-misses_return.true; visits = λ k q. refused-finished k q }

pub returns-in_err-convert_block : goal.returns-in_err-convert_block
returns-in_err-convert_block c =
    let p = err_from_is_err_and c.from_residual.result c.from_residual.ensures.1 in
    rw (p.1, p.2) (record { body_as = body_refused _ c.reference-body.ensures c.convert_block.ensures.block_as (ap (finished_with _) c.in_err-convert_block.was); visits = λ k q. refused-finished k q })

pub returns : goal.returns
returns c = record { body_as = body-done _ c.reference-body.ensures c.convert_block.ensures.block_as (ap (finished_with _) c.in_ok-convert_block.was) c.misses_return.ensures c.if-misses_return.false (omega arith) c.add_function.ensures; visits = body-visited _ _ _ c.reference-body.ensures c.convert_block.ensures.visits (ap (finished_with _) c.in_ok-convert_block.was) c.add_function.ensures }
