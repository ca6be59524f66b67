-- What a lower list holds, else 0.
-- Each return is a case of the definition. Assumes nothing.
use Rattle.judge.proofs.ListClass.{class_lower, class_none}
use Rattle.judge.proofs.rules.class_below.Goals as goal

pub returns-then-i-r : goal.returns-then-i-r
returns-then-i-r c = class_lower c.args.known.now _ _ _ c.index-i.ensures c.if-i-r.true

pub returns : goal.returns
returns c = class_none c.args.known.now _ _ _ c.index-i.ensures c.if-i-r.false
