-- What a body shows with one who answers, it shows with one who answers more; who answers is asked about functions of the program alone.
-- From the tree's run, whose calls only grow and whose end stays, by the claim in both directions.
use mathlib.Core.Path.{◌≡◌}
use mathlib.Core.List.{List, []}
use mathlib.Core.Option.{some}
use Prim.Native.Nat.{ℕ}
use native.Mathlib.Nat.{le_refl}
use lib.ListN.{length, get_elem?}
use Rattle.laws.proofs.Prefixes.{prefix_get}
use Rattle.syntax.specs.Syntax.{Block, Function, Program}
use Rattle.conversion.specs.ConvertError.{ok}
use Rattle.conversion.specs.Ir.{IrProgram}
use Rattle.conversion.specs.Expressions.{Functions}
use Rattle.conversion.specs.Functions.{get_all_functions}
use Rattle.runs.specs.Rule.{TypedValue, CallsMade, Rule, Answers, Ending}
use Rattle.runs.specs.BodyRun.{Vars, body_run}
use Rattle.runs.specs.Shared.{calls_b, end_b, InPlace}
use Rattle.runs.proofs.Agrees.{body_of, Agrees}
use Rattle.runs.proofs.Less.{Extends, FunctionOf, tree_calls_grow, tree_end_stays}

module _ {W : Type 0} (P : Program) (F : Functions) (ir : IrProgram) (i : ℕ) (f : Function) (b : Block) (found : get_all_functions P.functions [] ≡ ok F)
    (agrees : Agrees W P F ir i f b) (R : Rule W) (A C : Answers W) (more : Extends (FunctionOf P) A C)
    (vs : List W) (ρ : Vars W) (len : length vs ≡ length f.params) (place : InPlace vs ρ) where
  -- its calls
  pub calls_follow : (k : ℕ) (q : ℕ × List (TypedValue W)) → (n : ℕ) × (get_elem? (calls_b (body_run R A (body_of f agrees.code ir) ρ n)) k ≡ some q)
      → (m : ℕ) × (get_elem? (calls_b (body_run R C (body_of f agrees.code ir) ρ m)) k ≡ some q)
  calls_follow k q e =
      let t = ((agrees.shared R A vs ρ len place).calls k q).1 e in
      ((agrees.shared R C vs ρ len place).calls k q).0 (t.0, prefix_get k q (tree_calls_grow P F f R A C found more b vs t.0 t.0 (le_refl t.0)) t.1)

  -- its end, with the calls behind it
  pub ends_follow : (e : Ending W) (h : CallsMade W) → (n : ℕ) × (end_b (body_run R A (body_of f agrees.code ir) ρ n) ≡ some e) × (calls_b (body_run R A (body_of f agrees.code ir) ρ n) ≡ h)
      → (m : ℕ) × (end_b (body_run R C (body_of f agrees.code ir) ρ m) ≡ some e) × (calls_b (body_run R C (body_of f agrees.code ir) ρ m) ≡ h)
  ends_follow e h d =
      let t = ((agrees.shared R A vs ρ len place).ends e h).1 d in
      let s = tree_end_stays P F f R A C found more b vs t.0 t.0 (le_refl t.0) e t.1 in
      ((agrees.shared R C vs ρ len place).ends e h).0 (t.0, rw s t.1, rw s t.2)
