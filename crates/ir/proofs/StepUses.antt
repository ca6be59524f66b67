-- Two of the definition's functions as their steps in a row, as a caller cites the laws: a float that takes another mark, and a variable that is cast.
-- By the laws of steps in a row. Assumes nothing.
use mathlib.Core.List.{List}
use mathlib.Core.Bool.{Bool, true}
use Prim.Native.Nat.{ℕ}
use Rattle.conversion.specs.Ir.{VarId, OVar, OFloat, Cast, ◌>>=◌, ◌>>◌, pure, emit, new_var, float_id, float_bits}
use Rattle.conversion.specs.Statements.{refloat, cast_operand}
use Rattle.ir.specs.declared.structs.Counters.{Counters}
use Rattle.ir.specs.Floats.{entry}
use Rattle.ir.specs.Steps.{Next}
use Rattle.ir.proofs.StepLaws.{then_next, seq_next, pure-next}

pub refloat-next : (i : ℕ) (short : Bool) (k k₁ : Counters) (l l₁ : List ℕ) (b j : ℕ) → Next (float_bits i) k l b k l → Next (float_id (entry b short)) k l j k₁ l₁
    → Next (refloat i short) k l (OFloat j) k₁ l₁
unfolding refloat
refloat-next i short k k₁ l l₁ b j p q =
    then_next (λ (b : ℕ). float_id (entry b short) >>= (λ (j : ℕ). pure (OFloat j))) p
    (then_next (λ (j : ℕ). pure (OFloat j)) q (pure-next (OFloat j) k₁ l₁ q.room))

pub cast-next : (x v : VarId) (y : ℕ) (k k₁ k₂ : Counters) (l l₁ l₂ : List ℕ) → Next (new_var y) k l v k₁ l₁ → Next (emit (Cast v (OVar x))) k₁ l₁ tt k₂ l₂
    → Next (cast_operand true x y) k l (OVar v) k₂ l₂
unfolding cast_operand
cast-next x v y k k₁ k₂ l l₁ l₂ p q =
    then_next (λ (v : VarId). emit (Cast v (OVar x)) >> pure (OVar v)) p
    (seq_next (pure (OVar v)) q (pure-next (OVar v) k₂ l₂ q.room))
