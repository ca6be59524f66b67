-- Whether a number is that of a label.
-- Beyond the function's labels it is none's, below their count the entry tells. Assumes nothing.
use Rattle.ir.proofs.SearchLaws.{label_beyond, label_within}
use Rattle.ir.proofs.counter.is_label.Goals as goal

pub returns-then-i-k : goal.returns-then-i-k
returns-then-i-k c = search label_beyond

pub returns : goal.returns
returns c = search label_within
