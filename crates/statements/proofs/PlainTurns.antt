-- Which records a plain statement types, as the code meets it: a value is typed and then converted; a Declare, an Init and a Return own what they type.
-- By one part of a turn after another, and by the kind of the record. Assumes nothing.
use Rattle.std.specs.Prelude.{Ok}
use mathlib.Core.Path.{◌≡◌, sym, ap, ◌∙◌, subst}
use mathlib.Core.List.{List, []}
use Prim.Native.Nat.{ℕ, ◌<◌}
use native.Mathlib.Omega.{arith}
use Rattle.records.specs.declared.convert_error.ConvertError.{ConvertError}
use Rattle.records.specs.Words.{kind_of, records}
use Rattle.records.specs.Good.{Good}
use Rattle.syntax.proofs.Records.{statement_declare, statement_init, statement_return}
use Rattle.conversion.specs.Visits.{typed_value, typed_own}
use Rattle.ir.specs.declared.structs.Counters.{Counters}
use Rattle.scope.specs.declared.Scope.{Scope}
use Rattle.expressions.specs.Slots.{Typing}
use Rattle.expressions.specs.Answers.{OrRefused, TypeMeets}
use Rattle.statements.specs.Lent.{Converter, Stated}
use Rattle.statements.specs.Converting.{Converting}
use Rattle.statements.specs.Turns.{InTurn, TypedIn, expr_types, value_types, init_types, head_types, own_types}
use Rattle.statements.proofs.TurnLaws.{typed-next}
use Rattle.statements.proofs.StatedLaws.{scope_later, type-stays}

-- what typing asks, in a turn
pub typing_in : {tree text l s : List ℕ} {c : Converter} → Converting tree text l s c → InTurn tree text s c → Typing tree text s c.scope c.turn
typing_in p i = record { ready = p.ready; remembers = i }

-- a refusal owes nothing
pub refused-stated : {X : Type 0} {z : ConvertError} (sc : Scope) (k : Counters) → Stated.Refused z ≡ Stated.Done sc k → X
refused-stated sc k q = let z : ◌≡◌ {A = ℕ} 0 1 = cc in absurd (omega arith)

-- a value is typed, and then converted
module _ {tree text l s : List ℕ} {c : Converter} {e : ℕ} (p : Converting tree text l s c) {ty : OrRefused ℕ} {s₁ : List ℕ} (t : TypeMeets tree text s c.scope c.turn e ty s₁) where
  pub value-next : {y : ℕ} {s₂ : List ℕ} → ty ≡ Ok y → TypedIn tree text c s₁ (expr_types tree text e) s₂ → TypedIn tree text c s (value_types tree text e) s₂
  unfolding typed_value
  value-next {y = y} w u = typed-next c (scope_later p (type-stays p t)) (t.adds y w) u

-- ---- by kind

module _ {tree text s s' : List ℕ} (good : Good tree text) (c : Converter) {r node : ℕ} (low : r < records tree) (e : node ≡ kind_of tree r) where
  as_own : {l : List ℕ} → own_types tree text r ≡ l → TypedIn tree text c s l s' → TypedIn tree text c s (own_types tree text r) s'
  as_own q u = subst (λ (z : List ℕ). TypedIn tree text c s z s') (sym q) u

  pub own-declare : node ≡ 15 → TypedIn tree text c s [] s' → TypedIn tree text c s (own_types tree text r) s'
  unfolding typed_own
  own-declare h u = as_own (ap typed_own (statement_declare tree text r (sym e ∙ h))) u

  pub own_init : node ≡ 16 → TypedIn tree text c s (init_types tree text r) s' → TypedIn tree text c s (own_types tree text r) s'
  unfolding typed_own
  own_init h u = as_own (ap typed_own (statement_init tree text good r low (sym e ∙ h))) u

  pub own-return : node ≡ 17 → TypedIn tree text c s (head_types tree text r) s' → TypedIn tree text c s (own_types tree text r) s'
  unfolding typed_own
  own-return h u = as_own (ap typed_own (statement_return tree text good r low (sym e ∙ h))) u
