-- The parameters of a function in the scope of its body: the first lines of `convert_func`. Assumes nothing: these are definitions.
use Rattle.std.specs.Prelude.{◌≡◌, ℕ, suc, ◌*◌, ◌≤◌, ◌<◌, true, false, List, [], ◌∷◌, ◌++◌, length, Ok, Err}
use Rattle.std.proofs.Math.Option.{none}
use Rattle.laws.specs.Fix.{pick}
use Rattle.laws.specs.Splice.{splice}
use Rattle.records.specs.Layout.{end_of, open_names, name_slots}
use Rattle.records.specs.Words as Words
use Rattle.records.specs.Words.{byte_at, word_at, word_of, records, A, B, C}
use Rattle.records.specs.declared.convert_error.ConvertError.{ConvertError}
use Rattle.syntax.specs.Syntax.{Param}
use Rattle.syntax.specs.Decode.{text_of}
use Rattle.conversion.specs.ConvertError.{Result, ok, err, AlreadyDeclared}
use Rattle.conversion.specs.Types.{is_some}
use Rattle.conversion.specs.Scope as Def
use Rattle.conversion.specs.Scope.{Variable, find_variable, with_variable}
use Rattle.conversion.specs.Written.{word}
use Rattle.scope.specs.declared.Scope.{Scope}
use Rattle.scope.specs.Open.{more, open_name_at, name_slot_at, scope_at}
use Rattle.syntax.specs.Places.{function_of}
use Rattle.expressions.specs.Slots.{original_of, original_word, Ready}
use Rattle.expressions.specs.Answers.{OrRefused, refusal}

-- the parameter in a cell
abbrev pub parameter_in : List ℕ → List ℕ → ℕ → Param
parameter_in tree text cell =
    let r = word_of tree cell A in
    record { rec_of = r; name = text_of tree text r A; ty = word_of tree r C }

-- a parameter as the variable of number k: `Variable { ty, constant: false, var_id: new_var(ty) }`
abbrev pub parameter_of : Param → ℕ → Variable
parameter_of p k = record { name = p.name; constant = false; var_id = record { id = k; ty = p.ty } }

-- the scope with the parameters, numbered from k on; one whose name is taken is AlreadyDeclared: `declare_params` without the variables' table,
-- as `same_run` in proofs/ParameterRun.antt shows
unfoldable pub with_params : List Param → ℕ → Def.Scope → Result Def.Scope
unfolding pick is_some find_variable with_variable
with_params [] k S = ok S
with_params (p ∷ l) k S =
    pick (is_some (find_variable p.name S)) (err AlreadyDeclared p.rec_of) (with_params l (suc k) (with_variable (parameter_of p k) S))

-- the scope before: no variable, no loop
abbrev pub empty_in : List ℕ → List ℕ → ℕ → Def.Scope
empty_in tree text f = record { variables = []; in_loop = none; function = function_of tree text f }

-- the parameters that are declared: all, or those before the first whose name is taken
unfoldable pub until_taken : List Param → ℕ → Def.Scope → List Param
unfolding pick is_some find_variable with_variable
until_taken [] k S = []
until_taken (p ∷ l) k S = pick (is_some (find_variable p.name S)) [] (p ∷ until_taken l (suc k) (with_variable (parameter_of p k) S))

-- the entry of a parameter in the scratch s, as the variable of number k: offset and length of its name in the lowest record with the text, its number, twice its type
abbrev pub parameter_entry : List ℕ → List ℕ → Param → ℕ → List ℕ
parameter_entry tree s p k = word (original_word tree s p.rec_of A) ++ word (original_word tree s p.rec_of B) ++ word k ++ word (2 * p.ty)

-- the scratch x with it: the entry behind those before, and its place at the slot of its name's number
abbrev pub parameter_added : List ℕ → List ℕ → Param → ℕ → List ℕ → List ℕ
parameter_added tree s p k x =
    splice (splice x (open_name_at (records tree) k) (parameter_entry tree s p k)) (name_slot_at (records tree) (original_of tree s p.rec_of)) (word k)

-- with parameters numbered from k on, one after the other
unfoldable pub parameters_added : List ℕ → List ℕ → List Param → ℕ → List ℕ → List ℕ
unfolding word word_of word_at splice
parameters_added tree s [] k x = x
parameters_added tree s (p ∷ l) k x = parameters_added tree s l (suc k) (parameter_added tree s p k x)

-- only the regions of the open names and of their slots may differ
pub record NamesOnly (tree s s' : List ℕ) : Type 0 where
  pub same_length : length s' ≡ length s
  pub before : (i : ℕ) → i < open_names.from * records tree → byte_at s' i ≡ byte_at s i
  pub between : (i : ℕ) → end_of open_names * records tree ≤ i → i < name_slots.from * records tree → byte_at s' i ≡ byte_at s i
  pub behind : (i : ℕ) → end_of name_slots * records tree ≤ i → byte_at s' i ≡ byte_at s i

-- one parameter more, or its name is taken
pub data OneMore (tree text : List ℕ) (sc : Scope) (p : Param) (s s' : List ℕ) : OrRefused Scope → Type 0 where
  done : {sc' : Scope} → Ready tree text s' sc' → sc' ≡ more sc
      → is_some (find_variable p.name (scope_at tree text s sc)) ≡ false
      → scope_at tree text s' sc' ≡ with_variable (parameter_of p sc.names) (scope_at tree text s sc)
      → NamesOnly tree s s' → s' ≡ parameter_added tree s p sc.names s → OneMore tree text sc p s s' (Ok sc')
  refused : {e : ConvertError} → e ≡ record { kind = AlreadyDeclared; place = p.rec_of }
      → is_some (find_variable p.name (scope_at tree text s sc)) ≡ true
      → s' ≡ s → OneMore tree text sc p s s' (Err e)

-- the scope of function f's body; only the entries and their slots are written: of all parameters or, where a name is taken, of those before
pub data ParametersMeet (tree text : List ℕ) (f : ℕ) (s s' : List ℕ) : OrRefused Scope → Type 0 where
  done : {sc : Scope} → with_params (function_of tree text f).params 0 (empty_in tree text f) ≡ ok (scope_at tree text s' sc)
      → Ready tree text s' sc → sc.inner ≡ Words.none → sc.function ≡ f
      → NamesOnly tree s s' → s' ≡ parameters_added tree s (function_of tree text f).params 0 s → ParametersMeet tree text f s s' (Ok sc)
  refused : {e : ConvertError} → with_params (function_of tree text f).params 0 (empty_in tree text f) ≡ refusal e
      → NamesOnly tree s s' → s' ≡ parameters_added tree s (until_taken (function_of tree text f).params 0 (empty_in tree text f)) 0 s
      → ParametersMeet tree text f s s' (Err e)
