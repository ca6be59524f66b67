-- The run of a function's body over its instructions and the program's tables, with a number for its place. Sentences in quotes are
-- document 01's. Assumes nothing: these are definitions.
use Rattle.std.specs.Prelude.{ℕ, zero, suc, Bool, true, false, List, [], ◌∷◌, ◌++◌, eqb, get_or}
use Rattle.std.proofs.Math.Option.{Option, none, some}
use Rattle.std.proofs.Math.ListN.{get_elem?}
use Rattle.laws.specs.Fix.{pick}
use Rattle.syntax.specs.Syntax.{Text}
use Rattle.conversion.specs.Ir.{Operand, OVar, OInt, OFloat, OBool, ODataAddress, ONull, Instr, Copy, Unary, Binary, Cast, Zero, Arg, Call, Label, Jump, JumpIfNot, Return, Comment, FloatEntry}
use Rattle.runs.specs.Rule.{ValueOrStop, gives, halt, Truth, holds, fails, halts, TypedValue, CallsMade, Rule, Reply, comes, pending, Answers, IntLiteral, FloatLiteral, BoolLiteral, StringLiteral, NullLiteral, Datum, constant, computed, read, Ending, passed, returns, halted}

-- the instructions of a function, each variable with its type from the function's table; its return type; the program's strings and floats
pub record FlatBody : Type 0 where
  pub instrs : List Instr
  pub result : Option ℕ
  pub strings : List Text
  pub floats : List FloatEntry

-- the values of the variables, by number
abbrev pub Vars : Type 0 → Type 0
Vars W = ℕ → W

unfoldable pub write : {W : Type 0} → Vars W → ℕ → W → Vars W
write ρ d v x = pick (eqb x d) v (ρ x)

-- 'Both runs read a literal at its tag's or mark's type, null or a string at that of the unfitted expression'
unfoldable pub datum : {W : Type 0} → List Text → List FloatEntry → Vars W → Operand → Datum W
datum ss fs ρ (OVar x) = computed x.ty (ρ x.id)
datum ss fs ρ (OInt v s u) = constant (IntLiteral v s u)
datum ss fs ρ (OFloat i) = let e = get_or fs i (record { bits = 0; short = false }) in constant (FloatLiteral e.bits e.short)
datum ss fs ρ (OBool b) = constant (BoolLiteral b)
datum ss fs ρ (ODataAddress i) = constant (StringLiteral (get_or ss i []))
datum ss fs ρ ONull = constant NullLiteral

-- whether this is where the label l is placed
unfoldable pub is_label : ℕ → Instr → Bool
is_label l (Label m) = eqb l m
is_label l (Copy d a) = false
is_label l (Unary d o a) = false
is_label l (Binary d o a b) = false
is_label l (Cast d a) = false
is_label l (Zero d) = false
is_label l (Arg a) = false
is_label l (Call d f) = false
is_label l (Jump m) = false
is_label l (JumpIfNot a m) = false
is_label l (Return a) = false
is_label l (Comment r) = false

unfoldable pub one_on : Option ℕ → Option ℕ
one_on none = none
one_on (some p) = some (suc p)

-- the place of a label: the number of instructions before it; none for a label that is placed nowhere
unfoldable pub label_place : List Instr → ℕ → Option ℕ
unfolding one_on
label_place [] l = none
label_place (i ∷ r) l = elim (is_label l i) [ true ↦ some 0 | false ↦ one_on (label_place r l) ]

-- where the run stands: at an instruction, with the arguments that wait, the variables and the calls so far; or at its end; or held up by a
-- reply that is pending; or nowhere, after a jump to a label that is placed nowhere: such a run never ends, and makes no further call
pub data Spot (W : Type 0) : Type 0 where
  spot : ℕ → List (TypedValue W) → Vars W → CallsMade W → Spot W
  over : Ending W → CallsMade W → Spot W
  waits : CallsMade W → Spot W
  lost : CallsMade W → Spot W

-- the answer u into the variable d, then on at p; 'A stop ends either run'
unfoldable pub put_to : {W : Type 0} → ValueOrStop W → ℕ → ℕ → List (TypedValue W) → Vars W → CallsMade W → Spot W
put_to (gives v) d p q ρ h = spot p q (write ρ d v) h
put_to halt d p q ρ h = over halted h

unfoldable pub drop_to : {W : Type 0} → ValueOrStop W → ℕ → List (TypedValue W) → Vars W → CallsMade W → Spot W
drop_to (gives v) p q ρ h = spot p q ρ h
drop_to halt p q ρ h = over halted h

-- the same of a reply
unfoldable pub put_reply : {W : Type 0} → Reply W → ℕ → ℕ → List (TypedValue W) → Vars W → CallsMade W → Spot W
put_reply (comes u) d p q ρ h = put_to u d p q ρ h
put_reply pending d p q ρ h = waits h

unfoldable pub drop_reply : {W : Type 0} → Reply W → ℕ → List (TypedValue W) → Vars W → CallsMade W → Spot W
drop_reply (comes u) p q ρ h = drop_to u p q ρ h
drop_reply pending p q ρ h = waits h

-- a jump to a label, by its place
unfoldable pub jump_to : {W : Type 0} → Option ℕ → List (TypedValue W) → Vars W → CallsMade W → Spot W
jump_to (some p) q ρ h = spot p q ρ h
jump_to none q ρ h = lost h

unfoldable pub branch_to : {W : Type 0} → Truth → ℕ → Option ℕ → List (TypedValue W) → Vars W → CallsMade W → Spot W
branch_to holds p s q ρ h = spot p q ρ h
branch_to fails p s q ρ h = jump_to s q ρ h
branch_to halts p s q ρ h = over halted h

unfoldable pub finish_with : {W : Type 0} → ValueOrStop W → CallsMade W → Spot W
finish_with (gives v) h = over (returns v) h
finish_with halt h = over halted h

module _ {W : Type 0} (R : Rule W) (A : Answers W) (B : FlatBody) where
  unfoldable pub operand : Vars W → Operand → TypedValue W
  operand ρ o = read R (datum B.strings B.floats ρ o)

  -- one instruction, p being the place behind it. 'Copy, Unary, Binary, Cast and Zero write the rule's answer for operands and types. Arg
  -- queues its operand; Call takes the queue and writes its answer, given a destination. Jump goes to its label, JumpIfNot if truth says no;
  -- Label and Comment do nothing. Return ends with the rule's answer'; 'a call that stops was made'
  unfoldable pub execute : Instr → ℕ → List (TypedValue W) → Vars W → CallsMade W → Spot W
  execute (Copy d a) p q ρ h = put_to (R.copy d.ty (operand ρ a)) d.id p q ρ h
  execute (Unary d o a) p q ρ h = put_to (R.unary o d.ty (operand ρ a)) d.id p q ρ h
  execute (Binary d o a b) p q ρ h = put_to (R.binary o d.ty (operand ρ a) (operand ρ b)) d.id p q ρ h
  execute (Cast d a) p q ρ h = put_to (R.cast d.ty (operand ρ a)) d.id p q ρ h
  execute (Zero d) p q ρ h = put_to (R.zero d.ty) d.id p q ρ h
  execute (Arg a) p q ρ h = spot p (q ++ (operand ρ a ∷ [])) ρ h
  execute (Call (some d) f) p q ρ h = put_reply (A h f (some d.ty) q).0 d.id p [] ρ (h ++ (A h f (some d.ty) q).1)
  execute (Call none f) p q ρ h = drop_reply (A h f none q).0 p [] ρ (h ++ (A h f none q).1)
  execute (Label l) p q ρ h = spot p q ρ h
  execute (Jump l) p q ρ h = jump_to (label_place B.instrs l) q ρ h
  execute (JumpIfNot a l) p q ρ h = branch_to (R.truth (operand ρ a)) p (label_place B.instrs l) q ρ h
  execute (Return a) p q ρ h = finish_with (R.return B.result (operand ρ a)) h
  execute (Comment r) p q ρ h = spot p q ρ h

  unfoldable pub fetch : Option Instr → ℕ → List (TypedValue W) → Vars W → CallsMade W → Spot W
  fetch none p q ρ h = over passed h
  fetch (some i) p q ρ h = execute i (suc p) q ρ h

  unfoldable pub step : Spot W → Spot W
  step (spot p q ρ h) = fetch (get_elem? B.instrs p) p q ρ h
  step (over e h) = over e h
  step (waits h) = waits h
  step (lost h) = lost h

  unfoldable pub steps : ℕ → Spot W → Spot W
  steps zero c = c
  steps (suc n) c = steps n (step c)

  -- n steps from the first instruction
  unfoldable pub body_run : Vars W → ℕ → Spot W
  body_run ρ n = steps n (spot 0 [] ρ [])
