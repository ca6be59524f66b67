-- converter.rs: '`get_all_functions`, `check_main`, then `convert_func` for each'. Assumes nothing: these are definitions.
use Rattle.std.specs.Prelude.{Bool, List, [], ◌∷◌, ◌++◌}
use Rattle.syntax.specs.Syntax.{Function, Program}
use Rattle.conversion.specs.ConvertError.{Result, ok, ◌>>=◌}
use Rattle.conversion.specs.Ir.{IrFunction, IrProgram}
use Rattle.conversion.specs.Expressions.{Functions}
use Rattle.conversion.specs.Functions.{Pool, get_all_functions, check_main, convert_func}

-- the functions in record order, behind those already converted
unfoldable pub convert_all : Program → Functions → List Function → List IrFunction → Pool → Result IrProgram
unfolding ◌>>=◌ convert_func
convert_all P F [] l p = ok (record { funcs = l; strings = p.strings; floats = p.floats })
convert_all P F (f ∷ fs) l p = convert_func P F f p >>= λ q. convert_all P F fs (l ++ (q.0 ∷ [])) q.1

-- `convert`
unfoldable pub convert : Program → Bool → Result IrProgram
unfolding ◌>>=◌ get_all_functions check_main convert_all
convert P needsMain = do
  F ← get_all_functions P.functions []
  _ ← check_main P needsMain
  convert_all P F P.functions [] (record { strings = []; floats = [] })
