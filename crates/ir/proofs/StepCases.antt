-- A step put another way: equal at every state, or the branch that is taken of a choice. What the one owes the other owes.
-- By the equation at the tables' state; a choice by cases of its test or of the type. Assumes nothing.
use mathlib.Core.Path.{◌≡◌, refl, sym, ap, ◌∙◌, subst}
use mathlib.Core.Bool.{Bool, false, false≢true}
use mathlib.Core.List.{List}
use Prim.Native.Nat.{ℕ}
use Rattle.syntax.specs.Syntax.{Ty, TInt, TFloat, TBool, TChar, TByte, TAddress, TArray, TCustom, TNull}
use Rattle.conversion.specs.ConvertError.{ConvertErrorKind}
use Rattle.conversion.specs.Ir.{State, Out, M}
use Rattle.conversion.specs.Types.{on_int, on_float, is_int, is_float}
use Rattle.ir.specs.declared.structs.Counters.{Counters}
use Rattle.ir.specs.Arena.{NumberedTexts}
use Rattle.ir.specs.Steps.{Stands, NextIn, StopsIn}

-- ---- equal at every state

module _ {A : Type 0} {texts : NumberedTexts} {m m' : M A} {k : Counters} {l : List ℕ} where
  pub next-by : {a : A} {k' : Counters} {l' : List ℕ} → ((s : State) → m s ≡ m' s) → NextIn texts m k l a k' l' → NextIn texts m' k l a k' l'
  next-by {a = a} {k' = k'} {l' = l'} e n = record {
    room = n.room;
    records = n.records;
    stands = λ t h. subst (λ (o : Out A). Stands o a texts t k' l') (e t.state) (n.stands t h);
  }

  pub stop-by : {e : ConvertErrorKind} {r : ℕ} → ((s : State) → m s ≡ m' s) → StopsIn texts m k l e r → StopsIn texts m' k l e r
  stop-by q n = record { stops = λ t h. sym (q t.state) ∙ n.stops t h }

-- ---- choices: which branch is taken

pub on_int_lem : {X : Type 0} (t : Ty) (d : X) (f : Bool → Bool → X) (short unsigned : Bool) → t ≡ TInt short unsigned → on_int t d f ≡ f short unsigned
unfolding on_int
on_int_lem t d f short unsigned e = ap (λ (u : Ty). on_int u d f) e

pub on_float_lem : {X : Type 0} (t : Ty) (d : X) (f : Bool → X) (short : Bool) → t ≡ TFloat short → on_float t d f ≡ f short
unfolding on_float
on_float_lem t d f short e = ap (λ (u : Ty). on_float u d f) e

pub no_int : {X : Type 0} (t : Ty) (d : X) (f : Bool → Bool → X) → is_int t ≡ false → on_int t d f ≡ d
unfolding on_int is_int
no_int (TInt s u) d f e = absurd (false≢true (sym e))
no_int (TFloat s) d f e = refl
no_int TBool d f e = refl
no_int TChar d f e = refl
no_int TByte d f e = refl
no_int (TAddress y) d f e = refl
no_int (TArray y n) d f e = refl
no_int (TCustom t) d f e = refl
no_int TNull d f e = refl

pub no_float_lem : {X : Type 0} (t : Ty) (d : X) (f : Bool → X) → is_float t ≡ false → on_float t d f ≡ d
unfolding on_float is_float
no_float_lem (TFloat s) d f e = absurd (false≢true (sym e))
no_float_lem (TInt s u) d f e = refl
no_float_lem TBool d f e = refl
no_float_lem TChar d f e = refl
no_float_lem TByte d f e = refl
no_float_lem (TAddress y) d f e = refl
no_float_lem (TArray y n) d f e = refl
no_float_lem (TCustom t) d f e = refl
no_float_lem TNull d f e = refl

-- ---- a step that is equal to one that is known: what it owes

module _ {A : Type 0} {texts : NumberedTexts} {m m' : M A} {k : Counters} {l : List ℕ} where
  pub next_of : {a : A} {k' : Counters} {l' : List ℕ} → m' ≡ m → NextIn texts m k l a k' l' → NextIn texts m' k l a k' l'
  next_of e n = next-by (λ s. ap (λ (x : M A). x s) (sym e)) n

  pub stop-of : {d : ConvertErrorKind} {r : ℕ} → m' ≡ m → StopsIn texts m k l d r → StopsIn texts m' k l d r
  stop-of e n = stop-by (λ s. ap (λ (x : M A). x s) (sym e)) n
