-- The emitter's calls as steps that go on: an instruction, a variable and a label add at most one entry each.
-- What each owes says so but for the arena's length, which the code keeps. Assumes nothing.
use mathlib.Core.Path.{◌≡◌}
use mathlib.Core.List.{List}
use Prim.Native.Nat.{ℕ}
use lib.ListN.{length}
use Rattle.conversion.specs.Ir.{Instr, emit, new_var, label_id}
use Rattle.ir.specs.declared.structs.Counters.{Counters}
use Rattle.ir.specs.declared.structs.VarId.{VarId}
use Rattle.ir.specs.declared.structs.Label.{Label}
use Rattle.ir.specs.declared.structs.WithCounters.{WithCounters}
use Rattle.ir.specs.Amounts.{amount}
use Rattle.ir.specs.Instructions.{var_of}
use Rattle.ir.specs.Steps.{Emits, AddsVar, named, NumbersLabel}
use Rattle.statements.specs.Meets.{Adds}

module _ {k : Counters} {l l' : List ℕ} (long : length l' ≡ length l) where
  pub emit-adds : {i : Instr} {k' : Counters} → Emits i k l k' l' → Adds (emit i) (amount 1 0 0 0 0) k l tt k' l'
  emit-adds p = record { next = p.next; spent = p.spent; long = long }

  pub var_adds : {y : ℕ} {r : WithCounters VarId} → AddsVar y k l r l' → Adds (new_var y) (amount 0 1 0 0 0) k l (var_of r.value) r.counters l'
  var_adds p = record { next = p.next; spent = p.spent; long = long }

  pub label_adds : {kind opener : ℕ} {r : WithCounters Label} → NumbersLabel kind opener k l r l'
      → Adds (label_id (named kind opener)) (amount 0 0 1 0 0) k l r.value.0 r.counters l'
  label_adds p = record { next = p.next; spent = p.spent; long = long }
