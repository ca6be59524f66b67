-- The parts in a row are the definitions of conversion.
-- By regrouping: each definition is its own text, put together from the left or from the right. Assumes nothing.
use mathlib.Core.Path.{◌≡◌, refl}
use Prim.Native.Nat.{ℕ}
use mathlib.Core.Bool.{Bool, true, false}
use Rattle.syntax.specs.Syntax.{UnaryOp, BinaryOp, Expr, Program}
use Rattle.std.proofs.Math.Option.{Option, none, some}
use Rattle.conversion.specs.ConvertError.{BreakOutOfLoop, ContinueOutOfLoop}
use Rattle.conversion.specs.Ir.{VarId, Operand, LabelName, loop_start, loop_end, condition_end, M, ◌>>=◌, ◌>>◌, pure, emit, label_id, Jump}
use Rattle.conversion.specs.Scope.{Scope}
use Rattle.conversion.specs.Expressions.{Functions}
use Rattle.conversion.specs.Statements.{convert_unary, convert_and, convert_or, convert_other, convert_if, convert_if_else, convert_while_loop, for_loop, convert_break, convert_continue}
use Rattle.conversion.proofs.MonadLaws.{regroup, seq_is, pure-first}
use Rattle.statements.specs.Parts.{place_label, emit_jump, jump_if_not, finish_unary, begin_logic, join_and, join_or, end_logic, finish_binary, if_head, while_head, copy_fitted, count_on, test_bound, for_bounds, for_begin, for_test, if_middle, loop_back, loop_jump}

pub unary_parts : (o : UnaryOp) (y : ℕ) (m : M Operand) → convert_unary o y m ≡ m >>= (λ src. finish_unary o y src)
unfolding convert_unary finish_unary
unary_parts o y m = refl

pub and_parts : (r y : ℕ) (left right : M Operand)
    → convert_and r y left right ≡ begin_logic r y >>= (λ dest. left >>= (λ a. join_and r dest a >> (right >>= (λ b. end_logic r dest b))))
unfolding convert_and begin_logic join_and end_logic jump_if_not place_label
and_parts r y left right = simp (seq_is, regroup, pure-first)

pub or_parts : (r y : ℕ) (left right : M Operand)
    → convert_or r y left right ≡ begin_logic r y >>= (λ dest. left >>= (λ a. join_or r dest a >> (right >>= (λ b. end_logic r dest b))))
unfolding convert_or begin_logic join_or end_logic jump_if_not emit_jump place_label
or_parts r y left right = simp (seq_is, regroup, pure-first)

-- a jump that leaves the scope
jump_first : (n : LabelName) (sc : Scope) → label_id n >>= (λ (i : ℕ). emit (Jump i) >> pure sc) ≡ emit_jump n >> pure sc
unfolding emit_jump
jump_first n sc = simp (seq_is, regroup)

module _ (P : Program) (F : Functions) where
  pub other_parts : (o : BinaryOp) (y q : ℕ) (left right : M Operand)
      → convert_other P F o y q left right ≡ left >>= (λ a. right >>= (λ b. finish_binary P o y q a b))
  unfolding convert_other finish_binary
  other_parts o y q left right = refl

  pub if_parts : (r : ℕ) (e : Expr) (sc : Scope) (then : M Scope)
      → convert_if P F r e sc then ≡ if_head P F false r e sc >> (then >> (place_label (condition_end r) >> pure sc))
  unfolding convert_if if_head jump_if_not place_label
  if_parts r e sc then = simp (seq_is, regroup)

  pub if_else_parts : (r : ℕ) (e : Expr) (sc : Scope) (then otherwise : M Scope)
      → convert_if_else P F r e sc then otherwise
      ≡ if_head P F true r e sc >> (then >> (if_middle r >> (otherwise >> (place_label (condition_end r) >> pure sc))))
  unfolding convert_if_else if_head if_middle jump_if_not emit_jump place_label
  if_else_parts r e sc then otherwise = simp (seq_is, regroup)

  pub while_parts : (r : ℕ) (e : Expr) (sc : Scope) (body : M Scope)
      → convert_while_loop P F r e sc body ≡ while_head P F r e sc >> (body >> (loop_back r >> pure sc))
  unfolding convert_while_loop while_head loop_back jump_if_not emit_jump place_label
  while_parts r e sc body = simp (seq_is, regroup)

  pub for_parts : (r : ℕ) (x : VarId) (short unsigned : Bool) (from until : Expr) (sc : Scope) (body : M Scope)
      → for_loop P F r x short unsigned from until sc body
      ≡ for_bounds P F x.ty from until sc >> (for_begin P F r x short unsigned from sc >> (for_test P F r x until sc >> (body >> (loop_back r >> pure sc))))
  unfolding for_loop for_bounds for_begin copy_fitted count_on for_test test_bound loop_back jump_if_not emit_jump place_label
  for_parts r x short unsigned from until sc body = simp (seq_is, regroup)

  pub break_parts : (r : ℕ) (x : Option ℕ) (sc : Scope) → convert_break P F r x sc ≡ loop_jump loop_end BreakOutOfLoop r x sc
  unfolding convert_break loop_jump
  break_parts r none sc = refl
  break_parts r (some x) sc = jump_first (loop_end x) sc

  pub continue_parts : (r : ℕ) (x : Option ℕ) (sc : Scope) → convert_continue P F r x sc ≡ loop_jump loop_start ContinueOutOfLoop r x sc
  unfolding convert_continue loop_jump
  continue_parts r none sc = refl
  continue_parts r (some x) sc = jump_first (loop_start x) sc
