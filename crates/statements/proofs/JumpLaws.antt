-- A label asked for and then an instruction written: jumps to labels and labels placed.
-- By the law of two steps. Assumes nothing.
use mathlib.Core.Path.{◌≡◌}
use mathlib.Core.List.{List}
use Prim.Native.Nat.{ℕ}
use lib.ListN.{length}
use Rattle.conversion.specs.Ir as Ir
use Rattle.ir.specs.declared.structs.Counters.{Counters}
use Rattle.ir.specs.declared.structs.Label.{Label}
use Rattle.ir.specs.declared.structs.WithCounters.{WithCounters}
use Rattle.ir.specs.Amounts.{amount}
use Rattle.ir.specs.Steps.{named, Emits, NumbersLabel}
use Rattle.statements.specs.Meets.{Adds}
use Rattle.statements.specs.Parts.{place_label, emit_jump, jump_if_not}
use Rattle.statements.proofs.MeetLaws.{adds_then}
use Rattle.statements.proofs.EmitLaws.{emit-adds, label_adds}

-- ---- a label, and the instruction that names it

module _ {kind opener : ℕ} {k k' : Counters} {l l₁ l' : List ℕ} {r : WithCounters Label} where
  pub jump_adds : length l₁ ≡ length l → NumbersLabel kind opener k l r l₁ → length l' ≡ length l₁ → Emits (Ir.Jump r.value.0) r.counters l₁ k' l'
      → Adds (emit_jump (named kind opener)) (amount 1 0 1 0 0) k l tt k' l'
  unfolding emit_jump
  jump_adds e p d q = adds_then (λ i. Ir.emit (Ir.Jump i)) (label_adds e p) (emit-adds d q)

  pub jump_if_not-adds : {cond : Ir.Operand} → length l₁ ≡ length l → NumbersLabel kind opener k l r l₁ → length l' ≡ length l₁
      → Emits (Ir.JumpIfNot cond r.value.0) r.counters l₁ k' l'
      → Adds (jump_if_not cond (named kind opener)) (amount 1 0 1 0 0) k l tt k' l'
  unfolding jump_if_not
  jump_if_not-adds {cond} e p d q = adds_then (λ i. Ir.emit (Ir.JumpIfNot cond i)) (label_adds e p) (emit-adds d q)

  pub place-adds : length l₁ ≡ length l → NumbersLabel kind opener k l r l₁ → length l' ≡ length l₁ → Emits (Ir.Label r.value.0) r.counters l₁ k' l'
      → Adds (place_label (named kind opener)) (amount 1 0 1 0 0) k l tt k' l'
  unfolding place_label
  place-adds e p d q = adds_then (λ i. Ir.emit (Ir.Label i)) (label_adds e p) (emit-adds d q)
