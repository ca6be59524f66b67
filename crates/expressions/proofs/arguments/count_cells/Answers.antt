-- What is counted and what is left make the whole, cell by cell.
-- The laws of cells, and a number that falls with each. Assumes nothing.
use mathlib.Core.Logic.{⊎_elim, inl, inr}
use native.Mathlib.Omega.{arith}
use Rattle.syntax.proofs.Lists.{left-most, cell_below, next-list, next_falls}
use Rattle.expressions.proofs.ArgumentLaws.{count-more, count_end, parameters_more, parameters_done}
use Rattle.expressions.proofs.arguments.count_cells.Goals as goal

pub loop-cell-init : goal.loop-cell-init
loop-cell-init c = (
  c.requires.list,
  ⊎_elim (λ l. omega (arith, left-most _ _ c.requires.good _ _ l)) (λ l. omega (arith, left-most _ _ c.requires.good _ _ l)) c.requires.list,
  (λ a. (a, λ s. omega arith)),
  λ p. (p, omega arith),
)

pub next_cell-cell-requires : goal.next_cell-cell-requires
next_cell-cell-requires c = ⊎_elim (λ l. cell_below _ _ c.requires.good _ _ l c.loop-cell-test.true) (λ l. cell_below _ _ c.requires.good _ _ l c.loop-cell-test.true) c.loop-cell.invariant.0

pub loop-cell-smaller : goal.loop-cell-smaller
loop-cell-smaller c = ⊎_elim (λ l. next_falls _ _ c.requires.good _ _ _ l c.loop-cell-test.true c.next_cell-cell.ensures) (λ l. next_falls _ _ c.requires.good _ _ _ l c.loop-cell-test.true c.next_cell-cell.ensures) c.loop-cell.invariant.0

pub loop-cell-preserved : goal.loop-cell-preserved
loop-cell-preserved c = (
  ⊎_elim (λ l. inl (next-list _ _ c.requires.good _ _ _ l c.loop-cell-test.true c.next_cell-cell.ensures)) (λ l. inr (next-list _ _ c.requires.good _ _ _ l c.loop-cell-test.true c.next_cell-cell.ensures)) c.loop-cell.invariant.0,
  omega (arith, c.loop-cell.invariant.1, loop-cell-smaller c),
  (λ a. let h = c.loop-cell.invariant.2 a in
      (next-list _ _ c.requires.good _ _ _ h.0 c.loop-cell-test.true c.next_cell-cell.ensures, λ s. count-more _ _ c.requires.good s _ _ _ _ h.0 c.loop-cell-test.true c.next_cell-cell.ensures (h.1 s))),
  λ p. let h = c.loop-cell.invariant.3 p in
      (next-list _ _ c.requires.good _ _ _ h.0 c.loop-cell-test.true c.next_cell-cell.ensures, parameters_more _ _ c.requires.good _ _ _ _ h.0 c.loop-cell-test.true c.next_cell-cell.ensures h.1),
)

pub returns : goal.returns
returns c = record {
  arguments = λ a s. count_end _ _ c.requires.good s _ _ _ c.loop-cell-test.false ((c.loop-cell.invariant.2 a).1 s);
  parameters = λ p. parameters_done _ _ c.requires.good _ _ _ c.loop-cell-test.false (c.loop-cell.invariant.3 p).1;
}
