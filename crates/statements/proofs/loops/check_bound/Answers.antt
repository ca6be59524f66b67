-- A bound's type is asked, and then whether it fits the variable's.
-- By what typing and fitting owe, one after the other. Assumes nothing.
use mathlib.Core.List.{[]}
use Rattle.statements.proofs.ForLaws.{bound_asks, bound_not, bound_is, refused_outcome}
use Rattle.statements.proofs.loops.check_bound.Goals as goal

pub get_type-requires : goal.get_type-requires
get_type-requires c = record { typing = record { ready = c.requires.ready.0; remembers = c.requires.by_index [] }; expr = c.requires.ready.1 }

pub check_fits-requires : goal.check_fits-requires
check_fits-requires c = bound_asks _ c.requires.ready.0 c.requires.ready.1 c.get_type.ensures c.requires.ready.2 c.in-Ok.is

pub returns-in-Err : goal.returns-in-Err
returns-in-Err c = record { by_index_2 = λ k. bound_not _ c.requires.ready.0 c.requires.ready.1 c.get_type.ensures c.in-Err.is; types = λ k. refused_outcome }

pub returns-in-Ok : goal.returns-in-Ok
returns-in-Ok c = record { by_index_2 = λ k. bound_is _ c.requires.ready.0 c.requires.ready.1 c.get_type.ensures c.in-Ok.is c.check_fits.ensures; types = λ k. λ d. c.get_type.ensures.adds _ c.in-Ok.is }
