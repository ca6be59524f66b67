-- What demand 3 says over the definitions: of a program that converted, each function's two runs share all that is seen outside.
-- Definitions for proofs; accepted/specs/Demand3 says it of bytes. Assumes nothing.
use mathlib.Core.Path.{◌≡◌}
use mathlib.Core.List.{List}
use mathlib.Core.Option.{some}
use Prim.Native.Nat.{ℕ}
use lib.ListN.{get_elem?, length}
use Rattle.syntax.specs.Syntax.{Block, Function, Program}
use Rattle.conversion.specs.Ir.{Instr, texts, IrFunction, IrProgram}
use Rattle.conversion.specs.Expressions.{Functions}
use Rattle.runs.specs.Rule.{Rule, Answers}
use Rattle.runs.specs.TreeRun.{tree_run}
use Rattle.runs.specs.BodyRun.{FlatBody, Vars, body_run}
use Rattle.runs.specs.Shared.{Shared, InPlace}

-- a body's instructions c with the tables of the program that was made
unfoldable pub body_of : Function → List Instr → IrProgram → FlatBody
body_of f c ir = record { instrs = c; result = f.return_type; strings = texts ir.strings; floats = ir.floats }

-- demand 3 for f, the i-th function of the program, with the body b: it became the i-th function of ir, and for every rule over W, whoever answers
-- calls, all parameters' values vs and all contents ρ of the variables, the two runs share all that is seen outside
pub record Agrees (W : Type 0) (P : Program) (F : Functions) (ir : IrProgram) (i : ℕ) (f : Function) (b : Block) : Type 0 where
  pub function : IrFunction
  pub listed : get_elem? ir.funcs i ≡ some function
  pub same : function.func ≡ f.rec_of
  pub code : List Instr
  pub body : function.body ≡ some code
  pub shared : (R : Rule W) (A : Answers W) (vs : List W) (ρ : Vars W) → length vs ≡ length f.params → InPlace vs ρ
      → Shared (tree_run P F f R A b vs) (body_run R A (body_of f code ir) ρ) f.return_type
