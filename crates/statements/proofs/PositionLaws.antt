-- The walk over the arguments of a call and the parameters beside them, up to a value: what is left gives the types that the whole gives.
-- By one turn past a type, and the two ends: at a value, and behind all arguments. Assumes nothing.
use mathlib.Core.Path.{◌≡◌, sym, ap, ◌∙◌, subst}
use Prim.Native.Nat.{ℕ, suc}
use Rattle.records.specs.Words.{word_of, none, B}
use Rattle.records.specs.Good.{Good}
use Rattle.records.specs.declared.shape.Role.TheVariants.{Arguments}
use mathlib.Core.List.{List}
use Rattle.syntax.specs.Syntax.{Args, no_args}
use Rattle.syntax.specs.Places.{ArgsAt, ParamsAt, args_at, params_at}
use Rattle.conversion.specs.Statements.{parameter_type, value_position, expected_type}
use Rattle.expressions.specs.declared.arguments.Argument.{Argument}
use Rattle.expressions.specs.Answers.{ArgumentIs, an_expr, a_type}
use Rattle.syntax.proofs.Lists.{args_end, next-list}
use Rattle.statements.specs.Answers.{FirstValue}

-- the walk from argument a and parameter p on stands at w and q
pub record Walked (tree text : List ℕ) (a p w q : ℕ) : Type 0 where
  pub args : ArgsAt tree w
  pub params : ParamsAt tree q
  pub types : (k : ℕ) → expected_type (params_at tree text q) (args_at tree text w) k ≡ expected_type (params_at tree text p) (args_at tree text a) k

module _ (tree text : List ℕ) (good : Good tree text) (a p w q : ℕ) (x : Walked tree text a p w q) where
  pub walk_end : w ≡ none → FirstValue tree text a p (record { parameter = q; rest = none })
  unfolding expected_type value_position
  walk_end e =
      let over : args_at tree text w ≡ no_args = ap (args_at tree text) e ∙ args_end tree text good in
      record {
        args = subst (λ (z : ℕ). ArgsAt tree z) e x.args;
        params = x.params;
        first = ap (λ (l : Args). parameter_type (params_at tree text q) (value_position l 0)) (sym over) ∙ x.types 0;
        behind = λ k. ap (λ (l : Args). parameter_type (params_at tree text q) (suc (value_position l k))) (args_end tree text good)
            ∙ ap (λ (l : Args). parameter_type (params_at tree text q) (value_position l (suc k))) (sym over) ∙ x.types (suc k);
      }

  module _ (more : w ≡ none → ⊥) (v : ℕ) (ev : v ≡ word_of tree w B) (i : Argument) (is : ArgumentIs tree text w i) where
    pub at_value : (e : ℕ) → i ≡ Argument.Expr e → FirstValue tree text a p (record { parameter = q; rest = v })
    unfolding expected_type value_position
    at_value e ei = go (subst (λ (z : Argument). ArgumentIs tree text w z) ei is)
      where
        go : ArgumentIs tree text w (Argument.Expr e) → FirstValue tree text a p (record { parameter = q; rest = v })
        go (an_expr r here inside low) = record {
          args = next-list tree text good Arguments w v x.args more ev;
          params = x.params;
          first = ap (λ (l : Args). parameter_type (params_at tree text q) (value_position l 0)) (sym here) ∙ x.types 0;
          behind = λ k. ap (λ (z : ℕ). parameter_type (params_at tree text q) (suc (value_position (args_at tree text z) k))) ev
              ∙ ap (λ (l : Args). parameter_type (params_at tree text q) (value_position l (suc k))) (sym here) ∙ x.types (suc k);
        }

    -- the parameter beside a type is passed by with it
    pub past-type : (y : ℕ) → i ≡ Argument.ToType y → (n : ℕ) → ParamsAt tree n
        → ((k : ℕ) → parameter_type (params_at tree text n) k ≡ parameter_type (params_at tree text q) (suc k)) → Walked tree text a p v n
    unfolding expected_type value_position
    past-type y ei n pn en = go (subst (λ (z : Argument). ArgumentIs tree text w z) ei is)
      where
        go : ArgumentIs tree text w (Argument.ToType y) → Walked tree text a p v n
        go (a_type r here t) = record {
          args = next-list tree text good Arguments w v x.args more ev;
          params = pn;
          types = λ k. en (value_position (args_at tree text v) k) ∙ ap (λ (z : ℕ). parameter_type (params_at tree text q) (suc (value_position (args_at tree text z) k))) ev
              ∙ ap (λ (l : Args). parameter_type (params_at tree text q) (value_position l k)) (sym here) ∙ x.types k;
        }
