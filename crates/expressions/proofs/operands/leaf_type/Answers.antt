-- `leaf_type` meets its contract: a name's type by the scope, a literal's by its kind.
-- By whether it is a name. Assumes nothing.
use Rattle.expressions.proofs.LeafLaws.{literal_leaf}
use Rattle.expressions.proofs.operands.leaf_type.Goals as goal

pub returns : goal.returns
returns c = literal_leaf _ _ _ c.args.scope _ _ c.literal_type.ensures
