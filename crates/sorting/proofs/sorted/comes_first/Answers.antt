-- Which of two texts comes first, where they agree just so far.
-- By the laws of texts that end there and that go on. Assumes nothing.
use native.Mathlib.Omega.{arith}
use Rattle.sorting.proofs.AheadLaws.{first_ends, first_ended, left-inside, right-inside, first-lower}
use Rattle.sorting.proofs.sorted.comes_first.Goals as goal

pub returns-then-shared-x : goal.returns-then-shared-x
returns-then-shared-x c = first_ends _ _ _ _ _ _ c.requires.0 c.requires.1 c.requires.2 c.if-shared-x.true

pub returns-then-shared-y : goal.returns-then-shared-y
returns-then-shared-y c = first_ended _ _ _ _ _ _ c.requires.0 c.requires.1 c.requires.2 c.if-shared-x.false c.if-shared-y.true

pub overflow_add-result : goal.overflow_add-result
overflow_add-result c = omega (arith, left-inside _ _ _ _ _ _ c.requires.0 c.requires.1 c.requires.2 c.if-shared-x.false c.if-shared-y.false)

pub bounds-text-i : goal.bounds-text-i
bounds-text-i c = left-inside _ _ _ _ _ _ c.requires.0 c.requires.1 c.requires.2 c.if-shared-x.false c.if-shared-y.false

pub overflow_add-result-2 : goal.overflow_add-result-2
overflow_add-result-2 c = omega (arith, right-inside _ _ _ _ _ _ c.requires.0 c.requires.1 c.requires.2 c.if-shared-x.false c.if-shared-y.false)

pub bounds-text-j : goal.bounds-text-j
bounds-text-j c = right-inside _ _ _ _ _ _ c.requires.0 c.requires.1 c.requires.2 c.if-shared-x.false c.if-shared-y.false

pub returns : goal.returns
returns c = first-lower _ _ _ _ _ _ c.requires.0 c.requires.1 c.requires.2 c.if-shared-x.false c.if-shared-y.false
