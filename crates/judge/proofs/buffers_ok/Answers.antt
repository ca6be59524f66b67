-- Row 'buffers'.
-- The code divides where the definition multiplies; test by test the two agree. Assumes nothing.
use Rattle.judge.proofs.RowLaws.{buffers_divided}
use Rattle.judge.proofs.buffers_ok.Goals as goal

pub returns : goal.returns
returns c = buffers_divided _ _ _
