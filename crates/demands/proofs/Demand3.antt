-- Demand 3 on bytes. The answer is taken back to the program behind it, whose bodies the buffers say and whose runs share all that is seen.
-- By the theorem over the definitions, the round trip of the tables, and what a good tree has. Assumes nothing.
use mathlib.Core.Path.{◌≡◌, refl, sym, ◌∙◌, subst}
use Prim.Native.Nat.{ℕ}
use mathlib.Core.Bool.{Bool}
use mathlib.Core.List.{List, []}
use mathlib.Core.Option.{some}
use native.Mathlib.Omega.{arith}
use Rattle.syntax.specs.Syntax.{Block, Function, Program}
use Rattle.syntax.specs.Decode.{program}
use Rattle.conversion.specs.ConvertError as C
use Rattle.conversion.specs.ConvertError.{Result, ok, err}
use Rattle.conversion.specs.Ir.{texts, IrProgram}
use Rattle.conversion.specs.Expressions.{Functions}
use Rattle.conversion.specs.Functions.{get_all_functions, check_main}
use Rattle.conversion.specs.Converter.{convert_all, convert}
use Rattle.conversion.specs.Written.{Counts, Tables, Converted, conversion_of, conversion, counts_of, tables_of}
use Rattle.tables.specs.Read as Read
use Rattle.tables.specs.Read.{Begin, body_at}
use Rattle.tables.proofs.Exists as Exists
use Rattle.tables.proofs.ReadBack.{converted-reads_back}
use Rattle.runs.proofs.Agrees.{Agrees, body_of}
use Rattle.runs.specs.Rule.{asked}
use Rattle.runs.proofs.Whole.{same_runs}
use Rattle.runs.proofs.Demand3.{demand3}
use Rattle.demands.specs.Demand3.{runnable, RunsAlike, Demand3, Demand3ByRule}
use Rattle.demands.proofs.GoodLaws.{good-counts, good_well_formed}

-- ---- the program behind an answer

record Behind (tree text : List ℕ) (needsMain : Bool) (c : Counts) (w : Tables) : Type 0 where
  pub of : IrProgram
  pub converts : convert (program tree text) needsMain ≡ ok of
  pub counted : c ≡ counts_of of
  pub written : w ≡ tables_of of

behind : (tree text : List ℕ) (needsMain : Bool) (c : Counts) (w : Tables) → conversion tree text needsMain ≡ Converted c w → Behind tree text needsMain c w
unfolding conversion conversion_of
behind tree text needsMain c w e = go (convert (program tree text) needsMain) refl e
  where
    go : (x : Result IrProgram) → convert (program tree text) needsMain ≡ x → conversion_of tree x ≡ Converted c w → Behind tree text needsMain c w
    go (ok p) f g = record { of = p; converts = f; counted = cc; written = cc }
    go (err k r) f g = let z : ◌≡◌ {A = ℕ} 0 1 = cc in absurd (omega arith)

-- a program that converts has its functions found
record Found (P : Program) : Type 0 where
  pub functions : Functions
  pub found : get_all_functions P.functions [] ≡ ok functions

found : (P : Program) (needsMain : Bool) (ir : IrProgram) → convert P needsMain ≡ ok ir → Found P
unfolding convert
found P needsMain ir e = go (get_all_functions P.functions []) refl e
  where
    go : (o : Result Functions) → get_all_functions P.functions [] ≡ o
        → C.◌>>=◌ o (λ G. C.◌>>=◌ (check_main P needsMain) (λ u. convert_all P G P.functions [] (record { strings = []; floats = [] }))) ≡ ok ir → Found P
    go (ok G) z w = record { functions = G; found = z }
    go (err h r) z w = let n : ◌≡◌ {A = ℕ} 0 1 = cc in absurd (omega arith)

-- ---- the body that the buffers say is the one that runs

-- the body of a function that agrees, as it is read
unfoldable body_read : {W : Type 0} {P : Program} {F : Functions} {ir : IrProgram} {i : ℕ} {f : Function} {b : Block} → Agrees W P F ir i f b → Read.ReadBody
body_read {ir = ir} a = record {
  func = a.function.func;
  instrs = a.code;
  vars = a.function.vars;
  labels = a.function.labels;
  strings = texts ir.strings;
  floats = ir.floats;
}

body-said : {W : Type 0} {P : Program} {F : Functions} {ir : IrProgram} {i : ℕ} {f : Function} {b : Block} (a : Agrees W P F ir i f b) → Exists.body_of ir i ≡ some (body_read a)
unfolding Exists.body_of Read.◌>>=◌ body_read
body-said {ir = ir} a = rw (a.listed, a.body) refl

runs-alike : (W : Type 0) (tree text : List ℕ) (c : Counts) (t : Tables) (ir : IrProgram) (F : Functions) (i : ℕ) (f : Function) (b : Block)
    → get_all_functions (program tree text).functions [] ≡ ok F → body_at c t text i ≡ Exists.body_of ir i → Agrees W (program tree text) F ir i f b → RunsAlike W tree text c t i f b
unfolding runnable body_of body_read
runs-alike W tree text c t ir F i f b k r a = record { said = record { functions = F; found = k; body = body_read a; reads = r ∙ body-said a; same = a.same }; shared = a.shared }

-- DEMAND 3 ON BYTES
pub good-demand3 : Demand3
good-demand3 W tree text needsMain bytes good c w t e held i f b ef eb =
    let h = behind tree text needsMain c w e in
    let ir = h.of in
    let k = found (program tree text) needsMain ir h.converts in
    runs-alike W tree text c t ir k.functions i f b k.found
    (subst (λ n. body_at n t text i ≡ Exists.body_of ir i) (sym h.counted)
    (converted-reads_back tree text needsMain bytes (omega (arith, good.few)) ir h.converts (good-counts tree text good needsMain ir h.converts) t
    (subst (λ v. Begin v t) h.written held) i))
    (demand3 W (program tree text) needsMain ir k.functions (good_well_formed tree text good) h.converts k.found i f b ef eb)

-- as document 01 has it: calls answered by the rule
pub demand3-asked : Demand3ByRule
demand3-asked W tree text needsMain bytes good c w t e held i f b ef eb =
    let a = good-demand3 W tree text needsMain bytes good c w t e held i f b ef eb in
    record { said = a.said; shared = λ R vs ρ len place. same_runs (a.shared R (asked R) vs ρ len place) }
