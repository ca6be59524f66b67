-- `accepts` meets its contract: the test of each class is the definition's.
-- By the class, and for integers by the form of the type. Assumes nothing.
use mathlib.Core.Path.{refl}
use Rattle.syntax.specs.Decode.{program}
use Rattle.conversion.specs.Expressions.{Bools, Any, Numbers, Integers, accepts_class}
use Rattle.expressions.proofs.OperandLaws.{accepts_as, int_form}
use Rattle.expressions.proofs.operands.accepts.Goals as goal

pub returns-in-Bools : goal.returns-in-Bools
unfolding accepts_class
returns-in-Bools c = λ text. accepts_as c.args.tree.now text c.args.ty _ Bools c.in-Bools.is _ refl

pub returns-in-Any : goal.returns-in-Any
unfolding accepts_class
returns-in-Any c = λ text. accepts_as c.args.tree.now text c.args.ty _ Any c.in-Any.is _ refl

pub returns-in-Numbers : goal.returns-in-Numbers
unfolding accepts_class program
returns-in-Numbers c = λ text. accepts_as c.args.tree.now text c.args.ty _ Numbers c.in-Numbers.is _ (c.is_number.ensures text)

pub returns-in-Integers : goal.returns-in-Integers
unfolding accepts_class program
returns-in-Integers c = λ text. accepts_as c.args.tree.now text c.args.ty _ Integers c.in-Integers.is _ (int_form c.args.tree.now text c.args.ty _ c.form.ensures)
