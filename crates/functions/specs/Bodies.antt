-- What `convert_func` owes: the function that the definition makes stands in the arena behind those already done, or its error; and the parameters'
-- variables alone. Assumes nothing: these are definitions.
use Rattle.std.specs.Prelude.{◌≡◌, ℕ, ◌+◌, ◌*◌, ◌≤◌, Bool, true, not, ◌&&◌, List, [], ◌∷◌, ◌++◌, length}
use Rattle.laws.specs.Fix.{pick}
use Rattle.records.specs.Words.{word_of, records, E}
use Rattle.records.specs.declared.convert_error.ConvertError.{ConvertError}
use Rattle.syntax.specs.Syntax.{Param}
use Rattle.syntax.specs.Decode.{program}
use Rattle.syntax.specs.Count.{function_records, block_records}
use Rattle.syntax.specs.Exprs.{expression_records}
use Rattle.syntax.specs.Places.{function_of, block_at}
use Rattle.conversion.specs.ConvertError.{Result, ok, err, MissingReturn}
use Rattle.conversion.specs.Ir.{Out, made, failed, M, ◌>>=◌, pure, fail, new_var, IrFunction}
use Rattle.conversion.specs.Types.{is_some}
use Rattle.conversion.specs.Scope as Def
use Rattle.conversion.specs.Statements.{convert_block}
use Rattle.conversion.specs.Functions.{Pool, always_returns, convert_func}
use Rattle.conversion.specs.Visits.{body_visits}
use Rattle.ir.specs.declared.structs.Counters.{Counters}
use Rattle.ir.specs.Amounts.{amount, Affords}
use Rattle.ir.specs.Arena.{NumberedTexts, TablesSoFar, Holds, Room}
use Rattle.ir.specs.Steps.{grown, closed, StopsIn}
use Rattle.scope.specs.Open.{scope_at}
use Rattle.keys.specs.Keys.{all_keys}
use Rattle.expressions.specs.Slots.{visits_at}
use Rattle.statements.specs.Lent.{Converter, Finished}
use Rattle.statements.specs.Converting.{block_amount, Stays, StaysFor}
use Rattle.statements.specs.Meets.{Adds, texts_of}
use Rattle.statements.specs.Turns.{Visited}

-- ---- the parameters

-- `new_var(param.ty)` for each parameter: what `declare_params` does to the variables
unfoldable pub new_vars : List Param → M (Unit {0})
unfolding ◌>>=◌ pure new_var
new_vars [] = pure tt
new_vars (p ∷ l) = new_var p.ty >>= λ x. new_vars l

-- they are added for each of these parameters
abbrev pub ParametersAdd : List Param → Counters → List ℕ → Counters → List ℕ → Type 0
ParametersAdd params k l k' l' = Adds (new_vars params) (amount 0 (length params) 0 0 0) k l tt k' l'

-- ---- a function

-- f has a type to return, and a path through its body that returns nothing
abbrev pub misses_return : List ℕ → List ℕ → ℕ → Bool
misses_return tree text f = is_some (function_of tree text f).return_type && not (always_returns (block_at tree text (word_of tree f E)))

-- the tables where a function begins: the functions before it are done, and there are their strings and floats
abbrev pub begun : List IrFunction → Pool → TablesSoFar
begun before p = record { done = before; code = []; state = record { vars = []; labels = []; strings = p.strings; floats = p.floats } }

-- there is room for functions of n records in all
pub record FunctionsAfforded (k : Counters) (n : ℕ) : Type 0 where
  pub tables : Affords k (block_amount n)
  pub functions : k.functions + n ≤ k.records

-- one function of n records was added
pub record FunctionSpent (k k' : Counters) (n : ℕ) : Type 0 where
  pub records : k'.records ≡ k.records
  pub functions : k'.functions ≡ k.functions + 1
  pub instructions : k'.instructions ≤ k.instructions + 4 * n
  pub variables : k'.variables ≤ k.variables + 3 * n
  pub labels : k'.labels ≤ k.labels + 3 * n
  pub strings : k'.strings ≤ k.strings + n
  pub floats : k'.floats ≤ k.floats + 2 * n

-- the definition makes a function, which stands behind those before it
unfoldable pub FunctionStands : Result (IrFunction × Pool) → List IrFunction → NumberedTexts → Counters → List ℕ → Type 0
FunctionStands (ok q) before texts k l = Holds texts (begun (before ++ (q.0 ∷ [])) q.1) k l
FunctionStands (err e r) before texts k l = ⊥

-- the function f of the tree, whatever was done before it
pub record FunctionDone (tree text : List ℕ) (f : ℕ) (k : Counters) (l : List ℕ) (k' : Counters) (l' : List ℕ) : Type 0 where
  pub room : Room k' l'
  pub spent : FunctionSpent k k' (function_records (function_of tree text f))
  pub stands : (before : List IrFunction) (p : Pool) → Holds (texts_of tree text) (begun before p) k l
      → FunctionStands (convert_func (program tree text) (all_keys tree text) (function_of tree text f) p) before (texts_of tree text) k' l'

pub record ConvertsFunction (tree text : List ℕ) (f : ℕ) (k : Counters) (l s : List ℕ) (a : Finished) (l' s' : List ℕ) : Type 0 where
  pub long : length l' ≡ length l
  pub stays : Stays tree 0 0 s s'
  pub gives : (k' : Counters) → a ≡ Finished.Done k' → FunctionDone tree text f k l k' l'
  pub stops : (e : ConvertError) → a ≡ Finished.Refused e → (before : List IrFunction) (p : Pool) → Holds (texts_of tree text) (begun before p) k l
      → convert_func (program tree text) (all_keys tree text) (function_of tree text f) p ≡ err e.kind e.place

-- where it refuses nothing: the visits of its body; and document 02, point 9, 'For a function whose tree holds e such records, the visits shall be at most e'
pub record FunctionVisited (f : ℕ) (tree text s : List ℕ) (a : Finished) (s' : List ℕ) : Type 0 where
  pub visited : (k : Counters) → a ≡ Finished.Done k → Visited tree s (body_visits (records tree) (function_of tree text f).body) k s'
  pub at_most : (k : Counters) → a ≡ Finished.Done k → visits_at tree s' ≤ visits_at tree s + expression_records (records tree) (function_of tree text f)

-- ---- a function's body, in the scope of its parameters

-- behind the parameters: the block, then 'MissingReturn follows the body's own errors'; the entry is added to what the step leaves
unfoldable pub body_steps : List ℕ → List ℕ → ℕ → Def.Scope → M (Unit {0})
unfolding ◌>>=◌ pick pure fail convert_block is_some always_returns
body_steps tree text f sc =
    convert_block (program tree text) (all_keys tree text) (block_at tree text (word_of tree f E)) sc
    >>= λ x. pick (misses_return tree text f) (fail MissingReturn f) (pure tt)

-- the step gives, and its tables are closed as those of function f
unfoldable pub BodyStands : Out (Unit {0}) → ℕ → NumberedTexts → TablesSoFar → Counters → List ℕ → Type 0
BodyStands (made u c s) f texts t k l = Holds texts (closed f true (grown t c s)) k l
BodyStands (failed e r) f texts t k l = ⊥

pub record BodyDone (tree text : List ℕ) (m : M (Unit {0})) (f : ℕ) (k : Counters) (l : List ℕ) (k' : Counters) (l' : List ℕ) : Type 0 where
  pub room : Room k' l'
  pub spent : FunctionSpent k k' (block_records (block_at tree text (word_of tree f E)))
  pub stands : (t : TablesSoFar) → Holds (texts_of tree text) t k l → BodyStands (m t.state) f (texts_of tree text) t k' l'

pub record ConvertsBody (tree text : List ℕ) (m : M (Unit {0})) (f : ℕ) (c : Converter) (l s : List ℕ) (a : Finished) (l' s' : List ℕ) : Type 0 where
  pub long : length l' ≡ length l
  pub stays : StaysFor tree c s s'
  pub gives : (k' : Counters) → a ≡ Finished.Done k' → BodyDone tree text m f c.counters l k' l'
  pub stops : (e : ConvertError) → a ≡ Finished.Refused e → StopsIn (texts_of tree text) m c.counters l e.kind e.place

abbrev pub BodyAs : Converter → ℕ → List ℕ → List ℕ → List ℕ → List ℕ → Finished → List ℕ → List ℕ → Type 0
BodyAs c f tree text l s a l' s' = ConvertsBody tree text (body_steps tree text f (scope_at tree text s c.scope)) f c l s a l' s'
