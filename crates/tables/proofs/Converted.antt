-- A program that converts from a tree whose numbers fit: every variable, label, string and float that an instruction names exists, and every
-- number fits its field. By the laws of blocks for each function, and by induction over the functions for the strings and floats that
-- they share. Assumes nothing.
use mathlib.Core.Path.{◌≡◌, refl}
use mathlib.Core.Bool.{Bool, false, not, ◌&&◌}
use mathlib.Core.List.{List, [], ◌∷◌, ◌++◌}
use mathlib.Core.Option.{Option, none as nothing, some}
use Rattle.laws.specs.All.{All}
use Rattle.laws.proofs.Prefixes.{Prefix, prefix_refl}
use Rattle.syntax.specs.Syntax.{Text, Block, Param, Function, Program}
use Rattle.conversion.specs.ConvertError.{Result, ok, err, AlreadyDeclared, MissingReturn}
use Rattle.conversion.specs.Ir.{Out, made, failed, IrFunction, IrProgram}
use Rattle.conversion.specs.Types.{is_some}
use Rattle.conversion.specs.Scope.{Scope, find_variable, with_variable}
use Rattle.conversion.specs.Expressions.{Functions}
use Rattle.conversion.specs.Functions.{get_all_functions, check_main, always_returns, declare_params, convert_body, Pool, finished, convert_function, convert_func}
use Rattle.conversion.specs.Converter.{convert_all, convert}
use Rattle.conversion.specs.Written.{code_of, counts_of}
use Rattle.conversion.proofs.Called.{map_of}
use Rattle.conversion.specs.Fits.{StringStands, FloatFits}
use Rattle.tables.proofs.Exists.{Word, InstrIn, state_of, FunctionFits, CountsFit, ProgramFits}
use Rattle.tables.proofs.SyntaxFits.{OkIs, ok_is, err_is, OptIs, none_is, held, BlockFits, SignatureFits, FunctionFitsIn, KeyedFit, TreeFits}
use Rattle.tables.proofs.Typing.{ok-bind, signatures}
use Rattle.tables.proofs.Keeps.{all_append, all_map, instr_up, Always, Post, Keeps, then, from, gives, fails, picks, new-variable}
use Rattle.tables.proofs.Operands.{Done, Scoped}
use Rattle.tables.proofs.Blocks.{with_more, block_keeps}

module _ (text : Text) where
  -- ---- the functions by key

  all_functions-fit : (l : List Function) → All (FunctionFitsIn text) l → OkIs (KeyedFit text) (get_all_functions l [])
  all_functions-fit l h = go (get_all_functions l []) refl
    where
      go : (o : Result Functions) → get_all_functions l [] ≡ o → OkIs (KeyedFit text) o
      go (ok G) e = ok_is (map_of (SignatureFits text) Word l [] G (signatures text l h) tt e)
      go (err k r) e = err_is

  -- ---- bodies

  params_keep : (l : List Param) (sc : Scope) → All (λ p. Word p.ty) l → Keeps text (Scoped text sc) (Scoped text) (declare_params l sc)
  unfolding declare_params
  params_keep [] sc h = gives text sc (λ s g. g)
  params_keep (p ∷ l) sc h = picks text (is_some (find_variable p.name sc)) (fails text AlreadyDeclared p.rec_of)
      (then text (new-variable text h.0) λ x.
      from text (λ s g. with_more text sc _ (record { name = p.name; constant = false; var_id = x }) s refl g.0 g.1)
      (params_keep l (with_variable (record { name = p.name; constant = false; var_id = x }) sc) h.1))

  module _ (P : Program) (F : Functions) (treeFits : TreeFits text P) (functionsFit : KeyedFit text F) where
    body_keeps : (f : Function) (b : Block) → SignatureFits text f → BlockFits text b → Keeps text (Always (Unit {0})) Done (convert_body P F f b)
    unfolding convert_body
    body_keeps f b h k = then text
        (from text (λ s g. record { variables = tt; in_loop = none_is; function = h })
        (params_keep f.params (record { variables = []; in_loop = nothing; function = f }) h.params)) λ sc.
        then text (from text (λ s g. g.1) (block_keeps text P F treeFits functionsFit b sc k)) λ d.
        picks text (is_some f.return_type && not (always_returns b)) (fails text MissingReturn f.rec_of) (gives text tt (λ s g. tt))

    -- ---- functions, with the strings and floats so far

    abbrev program_of : List IrFunction → Pool → IrProgram
    program_of l p = record { funcs = l; strings = p.strings; floats = p.floats }

    -- the program so far, its counts aside
    record Made (l : List IrFunction) (p : Pool) : Type 0 where
      funcs : All (FunctionFits (program_of l p)) l
      strings : All (StringStands text) p.strings
      floats : All FloatFits p.floats

    record PoolExtends (p q : Pool) : Type 0 where
      strings : Prefix p.strings q.strings
      floats : Prefix p.floats q.floats

    function_up : (l k : List IrFunction) (p q : Pool) (f : IrFunction) → PoolExtends p q → FunctionFits (program_of l p) f
        → FunctionFits (program_of k q) f
    function_up l k p q f e h = record {
      func = h.func;
      vars = h.vars;
      labels = h.labels;
      body = all_map (InstrIn (state_of (program_of l p) f)) (InstrIn (state_of (program_of k q) f))
          (instr_up (state_of (program_of l p) f) (state_of (program_of k q) f) (record {
            vars = prefix_refl;
            labels = prefix_refl;
            strings = e.strings;
            floats = e.floats;
          })) (code_of f.body) h.body;
    }

    -- what one more function adds
    record Added (p : Pool) (r : IrFunction × Pool) : Type 0 where
      func : FunctionFits (program_of [] r.1) r.0
      more : PoolExtends p r.1
      strings : All (StringStands text) r.1.strings
      floats : All FloatFits r.1.floats

    finished-fits : (f : Function) (p : Pool) (o : Out (Unit {0})) → Word f.rec_of
        → Post text Done (record { vars = []; labels = []; strings = p.strings; floats = p.floats }) o → OkIs (Added p) (finished f o)
    unfolding finished code_of
    finished-fits f p (made u c s) w h = ok_is (record {
      func = record { func = w; vars = h.1.vars; labels = h.1.labels; body = h.2 };
      more = record { strings = h.0.strings; floats = h.0.floats };
      strings = h.1.strings;
      floats = h.1.floats;
    })
    finished-fits f p (failed k r) w h = err_is

    function-fits : (f : Function) (b : Option Block) (p : Pool) → SignatureFits text f → OptIs (BlockFits text) b
        → All (StringStands text) p.strings → All FloatFits p.floats → OkIs (Added p) (convert_function P F f b p)
    unfolding convert_function code_of
    function-fits f nothing p h k i j = ok_is (record {
      func = record { func = h.rec_of; vars = tt; labels = tt; body = tt };
      more = record { strings = prefix_refl; floats = prefix_refl };
      strings = i;
      floats = j;
    })
    function-fits f (some b) p h k i j = finished-fits f p
        (convert_body P F f b (record { vars = []; labels = []; strings = p.strings; floats = p.floats })) h.rec_of
        ((body_keeps f b h (held k)).runs (record { vars = []; labels = []; strings = p.strings; floats = p.floats }) tt
        (record { vars = tt; labels = tt; strings = i; floats = j }))

    all_fit : (fs : List Function) (l : List IrFunction) (p : Pool) → All (FunctionFitsIn text) fs → Made l p
        → OkIs (λ r. CountsFit (counts_of r) → ProgramFits text r) (convert_all P F fs l p)
    unfolding convert_all convert_func
    all_fit [] l p h m = ok_is (λ c. record { funcs = m.funcs; strings = m.strings; floats = m.floats; counts = c })
    all_fit (f ∷ fs) l p h m = ok-bind (function-fits f f.body p h.0.signature h.0.body m.strings m.floats)
        λ q a. all_fit fs (l ++ (q.0 ∷ [])) q.1 h.1 (record {
          funcs = all_append (FunctionFits (program_of (l ++ (q.0 ∷ [])) q.1)) l (q.0 ∷ [])
              (all_map (FunctionFits (program_of l p)) (FunctionFits (program_of (l ++ (q.0 ∷ [])) q.1))
              (λ g k. function_up l (l ++ (q.0 ∷ [])) p q.1 g a.more k) l m.funcs) (
                function_up [] (l ++ (q.0 ∷ [])) q.1 q.1 q.0
                    (record { strings = prefix_refl; floats = prefix_refl }) a.func,
                tt,
              );
          strings = a.strings;
          floats = a.floats;
        })

  -- a program that converts fits, if its counts do
  pub convert-fits : (P : Program) (needsMain : Bool) → TreeFits text P
      → OkIs (λ r. CountsFit (counts_of r) → ProgramFits text r) (convert P needsMain)
  unfolding convert
  convert-fits P needsMain h = ok-bind (all_functions-fit P.functions h)
      λ F k. ok-bind (any (check_main P needsMain))
      λ u j. all_fit P F h k P.functions [] (record { strings = []; floats = [] }) h (record { funcs = tt; strings = tt; floats = tt })
    where
      any : {A : Type 0} (x : Result A) → OkIs (λ a. Unit {0}) x
      any (ok a) = ok_is tt
      any (err e r) = err_is
