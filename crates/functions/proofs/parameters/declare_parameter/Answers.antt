-- One parameter declared is one more of the definition's: the scope with it, or its name is taken.
-- What `declare_name` owes of the parameter's record; there is always room. Assumes nothing.
use native.Mathlib.Omega.{arith}
use mathlib.Core.Path.{refl}
use Rattle.functions.proofs.ParameterLaws.{place_inside, place-word, place-asked, met_room, met, one_more-turns}
use Rattle.functions.proofs.parameters.declare_parameter.Goals as goal

pub word-requires : goal.word-requires
word-requires c = (place_inside _ _ _ _ c.requires.ready _ c.requires.params_at c.requires.fact.0 c.requires.fact.1 _ c.reference-p.ensures, omega arith)

pub declare_name-requires : goal.declare_name-requires
declare_name-requires c = (
  place-asked _ _ _ _ c.requires.ready _ c.requires.params_at c.requires.fact.0 c.requires.fact.1 _ c.reference-p.ensures,
  met_room _ _ _ _ c.requires.ready _ c.requires.params_at c.requires.fact.0 c.requires.fact.1 _ c.reference-p.ensures _ c.word.ensures _ refl refl,
)

pub overflow_cast-p : goal.overflow_cast-p
overflow_cast-p c = omega (arith, place-word _ _ _ _ c.requires.ready _ c.requires.params_at c.requires.fact.0 c.requires.fact.1 _ c.reference-p.ensures)

pub returns : goal.returns
returns c =
    let answer = met _ _ _ _ c.requires.ready _ c.requires.params_at c.requires.fact.0 c.requires.fact.1 _ c.reference-p.ensures _ c.word.ensures _ refl refl _ _ c.declare_name.ensures in
    rw c.ok_or.ensures.value (record { one_more = answer; turns = one_more-turns answer })
