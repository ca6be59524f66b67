-- The scope with the parameters is what the conversion's `declare_params` makes, which emits nothing and adds the parameters' types to the variables.
-- By induction over the parameters: a variable's number is the length of the variables' table. Assumes nothing.
use mathlib.Core.Path.{◌≡◌, refl, ◌∙◌}
use mathlib.Core.Bool.{Bool, true, false}
use mathlib.Core.List.{List, [], ◌∷◌, ◌++◌, map, append-nil, append_assoc}
use Prim.Native.Nat.{ℕ, suc}
use native.Mathlib.Omega.{arith}
use lib.ListN.{length, length-append}
use Rattle.laws.specs.Fix.{pick}
use Rattle.syntax.specs.Syntax.{Param}
use Rattle.conversion.specs.ConvertError.{ConvertErrorKind, ok, err, AlreadyDeclared}
use Rattle.conversion.specs.Ir.{State, made, failed, bind, ◌>>=◌, pure, fail, lift, new_var}
use Rattle.conversion.specs.Types.{is_some}
use Rattle.conversion.specs.Scope.{Scope, find_variable, with_variable}
use Rattle.conversion.specs.Functions.{declare_params}
use Rattle.conversion.proofs.MonadLaws.{after_none}
use Rattle.functions.specs.Parameters.{parameter_of, with_params}

-- the state with the parameters' types behind those of the variables
abbrev pub with_types : List Param → State → State
with_types l s = record { vars = s.vars ++ map (λ (p : Param). p.ty) l; labels = s.labels; strings = s.strings; floats = s.floats }

-- one parameter, after what is made of the others
module _ (p : Param) (l : List Param) (S : Scope) (s : State) where
  abbrev next : Scope
  next = with_variable (parameter_of p (length s.vars)) S

  abbrev grown : State
  grown = with_types (p ∷ []) s

  longer : length grown.vars ≡ suc (length s.vars)
  longer = length-append s.vars (p.ty ∷ []) ∙ omega arith

  one_more : (b : Bool) → declare_params l next grown ≡ lift (with_params l (suc (length s.vars)) next) (with_types l grown)
      → pick b (fail AlreadyDeclared p.rec_of) (new_var p.ty >>= λ x. declare_params l (with_variable (record { name = p.name; constant = false; var_id = x }) S)) s
      ≡ lift (pick b (err AlreadyDeclared p.rec_of) (with_params l (suc (length s.vars)) next)) (with_types (p ∷ l) s)
  unfolding pick fail lift bind ◌>>=◌ new_var
  one_more true h = refl
  one_more false h = after_none (declare_params l next grown) ∙ h ∙ rw (append_assoc s.vars (p.ty ∷ []) (map (λ (q : Param). q.ty) l)) refl

pub same_run : (l : List Param) (k : ℕ) (S : Scope) (s : State) → length s.vars ≡ k → declare_params l S s ≡ lift (with_params l k S) (with_types l s)
unfolding declare_params with_params pure lift
same_run [] k S s e = rw (append-nil s.vars) refl
same_run (p ∷ l) k S s e =
    rw (← e) (one_more p l S s (is_some (find_variable p.name S)) (same_run l (suc (length s.vars)) (next p l S s) (grown p l S s) (longer p l S s)))

module _ (l : List Param) (k : ℕ) (S : Scope) (s : State) (e : length s.vars ≡ k) where
  pub run_made : (T : Scope) → with_params l k S ≡ ok T → declare_params l S s ≡ made T [] (with_types l s)
  unfolding lift
  run_made T h = same_run l k S s e ∙ rw h refl

  pub run_failed : (x : ConvertErrorKind) (r : ℕ) → with_params l k S ≡ err x r → declare_params l S s ≡ failed x r
  unfolding lift
  run_failed x r h = same_run l k S s e ∙ rw h refl
