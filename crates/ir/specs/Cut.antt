-- The tables cut out of the arena at the end: each at the start of a buffer of its own, with zeros behind it. The instructions stay in their
-- place. Assumes nothing: these are definitions.
use Rattle.std.specs.Prelude.{◌≡◌, List, ℕ, ◌*◌, ◌≤◌, length}
use Rattle.laws.specs.Splice.{part, filled}
use Rattle.conversion.specs.Written.{instruction_bytes, variable_bytes, label_bytes, function_bytes, string_bytes, float_bytes}
use Rattle.ir.specs.declared.structs.Counters.{Counters}
use Rattle.ir.specs.Arena as Arena

-- the five buffers are as long as document 01 lends them
pub record FiveLong (n : ℕ) (variables labels functions strings floats : List ℕ) : Type 0 where
  pub variables_long : (Arena.variables).each * n ≤ length variables
  pub labels_long : (Arena.labels).each * n ≤ length labels
  pub functions_long : (Arena.functions).each * n ≤ length functions
  pub strings_long : (Arena.strings).each * n ≤ length strings
  pub floats_long : (Arena.floats).each * n ≤ length floats

-- the three of the functions' tables
abbrev pub ThreeLong : ℕ → List ℕ → List ℕ → List ℕ → Type 0
ThreeLong n variables labels functions =
    ((Arena.variables).each * n ≤ length variables) × ((Arena.labels).each * n ≤ length labels) × ((Arena.functions).each * n ≤ length functions)

-- 'unused output bytes zero'. From the arena l: what the buffers of the functions' tables hold, each as long as it was
pub record FunctionsCut (k : Counters) (l variables labels functions : List ℕ) : Type 0 where
  pub variables_cut : variables ≡ filled (part l ((Arena.variables).from * k.records) (variable_bytes * k.variables)) (length variables)
  pub labels_cut : labels ≡ filled (part l ((Arena.labels).from * k.records) (label_bytes * k.labels)) (length labels)
  pub functions_cut : functions ≡ filled (part l ((Arena.functions).from * k.records) (function_bytes * k.functions)) (length functions)

-- and those of the program's
pub record PoolCut (k : Counters) (l strings floats : List ℕ) : Type 0 where
  pub strings_cut : strings ≡ filled (part l ((Arena.strings).from * k.records) (string_bytes * k.strings)) (length strings)
  pub floats_cut : floats ≡ filled (part l ((Arena.floats).from * k.records) (float_bytes * k.floats)) (length floats)

-- and the arena itself
pub record Cut (k : Counters) (l l' variables labels functions strings floats : List ℕ) : Type 0 where
  pub instructions_cut : l' ≡ filled (part l 0 (instruction_bytes * k.instructions)) (length l)
  pub of_functions : FunctionsCut k l variables labels functions
  pub of_pool : PoolCut k l strings floats
