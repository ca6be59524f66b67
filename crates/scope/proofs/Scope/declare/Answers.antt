-- The scope with one name more, or the name is taken.
-- What the slot answered, and what `put_four` wrote above the open names and `put_word` at the slot. Assumes nothing.
use mathlib.Core.Path.{sym, ◌∙◌}
use native.Mathlib.Omega.{arith}
use borrow.Author.Rules.{rules}
use Rattle.records.specs.Words.{bool_number}
use Rattle.scope.proofs.Names.{declare_at_lem, declare_new_lem}
use Rattle.scope.proofs.Scope.declare.Goals as goal

pub returns-then-is_some : goal.returns-then-is_some
returns-then-is_some c = λ text told tells. declare_at_lem _ c.args.self _ _ _ _ c.open_at.ensures text told tells _ _ (sym c.is_some.ensures ∙ c.if-is_some.true)

pub returns : goal.returns
unfolding bool_number
returns c = λ text told tells. declare_new_lem _ c.args.self _ _ _ _ c.open_at.ensures text told tells _ _ _ _ _ c.requires.names_room c.requires.name_afforded c.requires.o_lt_records
    (omega arith) (omega arith) (omega arith) (search rules) (sym c.is_some.ensures ∙ c.if-is_some.false) c.put_four.ensures c.put_word.ensures
