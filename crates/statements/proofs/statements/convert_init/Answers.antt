-- An Init: of a new name, or of a known one, which a plain Init assigns to.
-- By the mark of the record and what is found. Assumes nothing.
use Rattle.statements.proofs.InitLaws.{init_asked, known-typed, init_constant, init_unknown, init_known, known-types}
use Rattle.statements.specs.Lent.{at}
use Rattle.statements.proofs.statements.convert_init.Goals as goal

pub returns-then-detail-eq1 : goal.returns-then-detail-eq1
returns-then-detail-eq1 c = record { states_as = init_constant c.requires.converting.0 c.requires.kind c.detail.ensures c.if-detail-eq1.true c.init_new.ensures.states_as; types = c.init_new.ensures.types }

pub find_name-requires : goal.find_name-requires
find_name-requires c = init_asked c.requires.converting.0.ready c.requires.kind

pub convert_assign-requires : goal.convert_assign-requires
convert_assign-requires c = record { converting = c.requires.converting; kind = (c.requires.kind, known-typed c.requires.converting.0 c.requires.kind c.detail.ensures c.find_name.ensures c.in-Some.is); in_turn = c.requires.in_turn }

pub returns-in-Some : goal.returns-in-Some
returns-in-Some c = record { states_as = init_known c.requires.converting.0 c.requires.kind c.detail.ensures c.find_name.ensures c.in-Some.is c.if-detail-eq1.false c.convert_assign.ensures.states_as; types = λ sc k h. known-types (at c.args.c c.args.k.now) c.args.r (c.convert_assign.ensures.types sc k h) }

pub returns-in-None : goal.returns-in-None
returns-in-None c = record { states_as = init_unknown c.requires.converting.0 c.requires.kind c.detail.ensures c.find_name.ensures c.in-None.is c.init_new-in-None.ensures.states_as; types = c.init_new-in-None.ensures.types }
