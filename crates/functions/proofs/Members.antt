-- What holds of every function of the program holds of the one at a function's record.
-- By the records below a bound, of which the functions are made. Assumes nothing.
use mathlib.Core.Path.{◌≡◌, refl, sym, ap, ◌∙◌, subst}
use Prim.Native.Nat.{ℕ, zero, suc, ◌≤◌, ◌<◌}
use mathlib.Core.Bool.{Bool, true, false, false≢true}
use mathlib.Core.List.{List, [], ◌∷◌, ◌++◌}
use native.Mathlib.Omega.{arith}
use lib.Dec.{eqb}
use borrow.Author.Tests.{eq-eqb, eqb-true, eqb-false}
use Rattle.laws.specs.All.{All}
use Rattle.laws.specs.Fix.{pick}
use Rattle.records.specs.Words.{records, kind_of}
use Rattle.records.specs.Good.{Good}
use Rattle.syntax.specs.Syntax.{Function}
use Rattle.syntax.specs.Exprs.{expression_records}
use Rattle.syntax.specs.Decode.{program}
use Rattle.syntax.specs.Places.{FunctionAt, function_of}
use Rattle.conversion.specs.Visits.{body_visits}
use Rattle.conversion.proofs.VisitLaws.{judged-at_most}
use Rattle.keys.specs.Keys.{records_below, functions_of}
use Rattle.keys.proofs.FunctionLaws.{all_functions_lem, functions-append}

all_left : {X : Type 0} (P : X → Type 0) (l k : List X) → All P (l ++ k) → All P l
all_left P [] k h = tt
all_left P (x ∷ l) k h = (h.0, all_left P l k h.1)

all_right : {X : Type 0} (P : X → Type 0) (l k : List X) → All P (l ++ k) → All P k
all_right P [] k h = h
all_right P (x ∷ l) k h = all_right P l k h.1

module _ (tree text : List ℕ) (P : Function → Type 0) where
  last_one : (r : ℕ) (b : Bool) → b ≡ true → All P (functions_of tree text (pick b (r ∷ []) [])) → P (function_of tree text r)
  unfolding pick functions_of
  last_one r true e h = h.0
  last_one r false e h = absurd (false≢true e)

  -- record r is the function's, or the function is below it
  below_all : (n f : ℕ) → f < n → kind_of tree f ≡ 25 → All P (functions_of tree text (records_below tree n)) → P (function_of tree text f)
  unfolding records_below
  below_all zero f h k all = absurd (omega arith)
  below_all (suc r) f h k all = go (eqb f r) refl (λ l. below_all r f l k)
    where
      rest : List ℕ
      rest = pick (eqb (kind_of tree r) 25) (r ∷ []) []

      two : All P (functions_of tree text (records_below tree r) ++ functions_of tree text rest)
      two = subst (All P) (functions-append tree text (records_below tree r) rest) all

      go : (b : Bool) → eqb f r ≡ b → (f < r → All P (functions_of tree text (records_below tree r)) → P (function_of tree text f)) → P (function_of tree text f)
      go true e lower =
          let here : f ≡ r = eqb-true f r e in
          subst (λ (x : ℕ). P (function_of tree text x)) (sym here)
          (last_one r (eqb (kind_of tree r) 25) (eq-eqb (kind_of tree r) 25 (ap (kind_of tree) (sym here) ∙ k))
          (all_right P (functions_of tree text (records_below tree r)) (functions_of tree text rest) two))
      go false e lower =
          let other : f ≡ r → ⊥ = eqb-false f r e in
          lower (omega arith) (all_left P (functions_of tree text (records_below tree r)) (functions_of tree text rest) two)

  pub member : (f : ℕ) → FunctionAt tree f → All P (program tree text).functions → P (function_of tree text f)
  member f at all = below_all (records tree) f at.below at.kind (subst (All P) (all_functions_lem tree text) all)

-- 'For a function whose tree holds e such records, the visits shall be at most e'
pub function_at-most : (tree text : List ℕ) → Good tree text → (f : ℕ) → FunctionAt tree f
    → body_visits (records tree) (function_of tree text f).body ≤ expression_records (records tree) (function_of tree text f)
function_at-most tree text good f at =
    member tree text (λ g. body_visits (records tree) g.body ≤ expression_records (records tree) g) f at (judged-at_most tree text good.ok)
