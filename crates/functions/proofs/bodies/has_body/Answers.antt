-- `has_body` meets its contract: 4 in the detail is the mark of a body.
-- By what a good tree says of a function. Assumes nothing.
use Rattle.functions.proofs.BodyLaws.{body_mark_lem}
use Rattle.functions.proofs.bodies.has_body.Goals as goal

pub returns : goal.returns
returns c = body_mark_lem c.requires.0 c.requires.1 c.detail.ensures
