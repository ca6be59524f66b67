-- Steps in a row, as the code answers them: a step that goes on and then the rest, a step that stops, amounts that add up.
-- By the laws of steps; the two answers are told apart by their constructor. Assumes nothing.
use mathlib.Core.Path.{◌≡◌, refl, ◌∙◌, subst}
use mathlib.Core.List.{List}
use Prim.Native.Nat.{ℕ, ◌≤◌}
use native.Mathlib.Omega.{arith}
use lib.ListN.{length}
use Rattle.records.specs.declared.convert_error.ConvertError.{ConvertError}
use Rattle.conversion.specs.ConvertError.{Result, ok, err}
use Rattle.conversion.specs.Ir.{M, ◌>>=◌, ◌>>◌, pure, lift}
use Rattle.conversion.proofs.MonadLaws.{regroup, seq_is, pure-first}
use Rattle.ir.specs.declared.structs.Counters.{Counters}
use Rattle.ir.specs.Arena.{NumberedTexts, Room}
use Rattle.ir.specs.Amounts.{Amount, amount, both, Spent}
use Rattle.ir.specs.Steps.{StopsIn}
use Rattle.ir.proofs.AmountLaws.{nothing_spent, both-spent}
use Rattle.ir.proofs.StepLaws.{next_in, then_in, then_next, seq_next, pure-next, lift-next, lift-stops, stop-first, then_stop}
use Rattle.statements.specs.Meets.{StepAnswer, gave, refused, Adds, AddsIn, Meets}

-- ---- amounts

-- at most as much
pub record Most (a b : Amount) : Type 0 where
  pub instructions : a.instructions ≤ b.instructions
  pub variables : a.variables ≤ b.variables
  pub labels : a.labels ≤ b.labels
  pub strings : a.strings ≤ b.strings
  pub floats : a.floats ≤ b.floats

pub spent-most : {k k' : Counters} {a b : Amount} → Spent k k' a → Most a b → Spent k k' b
spent-most p q = omega (arith, p, q)

-- ---- one step after another that goes on

pub adds_in : {A : Type 0} {m : M A} {n : Amount} {k k' : Counters} {l l' : List ℕ} {a : A} (texts : NumberedTexts) → Adds m n k l a k' l' → AddsIn texts m n k l a k' l'
adds_in texts p = record { next = next_in texts p.next; spent = p.spent }

module _ {A B : Type 0} {n₁ n₂ : Amount} {k k₁ k₂ : Counters} {l l₁ l₂ : List ℕ} {a : A} {b : B} {m : M A} where
  pub adds_then : (f : A → M B) → Adds m n₁ k l a k₁ l₁ → Adds (f a) n₂ k₁ l₁ b k₂ l₂ → Adds (m >>= f) (both n₁ n₂) k l b k₂ l₂
  adds_then f p q = record { next = then_next f p.next q.next; spent = both-spent p.spent q.spent; long = q.long ∙ p.long }

  pub adds_seq : (f : M B) → Adds m n₁ k l a k₁ l₁ → Adds f n₂ k₁ l₁ b k₂ l₂ → Adds (m >> f) (both n₁ n₂) k l b k₂ l₂
  adds_seq f p q = record { next = seq_next f p.next q.next; spent = both-spent p.spent q.spent; long = q.long ∙ p.long }

  pub adds_in_then : (texts : NumberedTexts) (f : A → M B) → AddsIn texts m n₁ k l a k₁ l₁ → AddsIn texts (f a) n₂ k₁ l₁ b k₂ l₂ → AddsIn texts (m >>= f) (both n₁ n₂) k l b k₂ l₂
  adds_in_then texts f p q = record { next = then_in texts f p.next q.next; spent = both-spent p.spent q.spent }

pub adds-pure : {A : Type 0} (a : A) (k : Counters) (l : List ℕ) → Room k l → Adds (pure a) (amount 0 0 0 0 0) k l a k l
adds-pure a k l room = record { next = pure-next a k l room; spent = nothing_spent; long = refl }

pub adds-most : {A : Type 0} {m : M A} {n n' : Amount} {k k' : Counters} {l l' : List ℕ} {a : A} → Adds m n k l a k' l' → Most n n' → Adds m n' k l a k' l'
adds-most p q = record { next = p.next; spent = spent-most p.spent q; long = p.long }

pub adds_same : {A : Type 0} {m m' : M A} {n : Amount} {k k' : Counters} {l l' : List ℕ} {a : A} → m ≡ m' → Adds m n k l a k' l' → Adds m' n k l a k' l'
adds_same {n = n} {k = k} {k' = k'} {l = l} {l' = l'} {a = a} e p = subst (λ (x : M _). Adds x n k l a k' l') e p

-- ---- answers

module _ {A : Type 0} {m : M A} {n : Amount} {k : Counters} {l l' : List ℕ} (texts : NumberedTexts) where
  pub meets-gave : {x : A} {k' : Counters} → length l' ≡ length l → AddsIn texts m n k l x k' l' → Meets texts m n k l l' (gave x k')
  meets-gave {x} {k'} e p = record {
    long = e;
    gives = λ y k'' q.
        let ey : x ≡ y = cc in
        let ek : k' ≡ k'' = cc in
        subst (λ (z : A). AddsIn texts m n k l z k'' l') ey (subst (λ (z : Counters). AddsIn texts m n k l x z l') ek p);
    stops = λ e' q. let z : ◌≡◌ {A = ℕ} 0 1 = cc in absurd (omega arith);
  }

  pub meets-refused : {e : ConvertError} → length l' ≡ length l → StopsIn texts m k l e.kind e.place → Meets texts m n k l l' (refused e)
  meets-refused {e} h p = record {
    long = h;
    gives = λ y k'' q. let z : ◌≡◌ {A = ℕ} 0 1 = cc in absurd (omega arith);
    stops = λ e' q. let d : e ≡ e' = cc in subst (λ (z : ConvertError). StopsIn texts m k l z.kind z.place) d p;
  }

  pub meets-same : {m' : M A} {a : StepAnswer A} → m ≡ m' → Meets texts m n k l l' a → Meets texts m' n k l l' a
  meets-same {a = a} e p = subst (λ (x : M A). Meets texts x n k l l' a) e p

  pub meets-most : {n' : Amount} {a : StepAnswer A} → Meets texts m n k l l' a → Most n n' → Meets texts m n' k l l' a
  meets-most p q = record {
    long = p.long;
    gives = λ x k' e. record { next = (p.gives x k' e).next; spent = spent-most (p.gives x k' e).spent q };
    stops = p.stops;
  }

-- a step that goes on, then the rest
pub meets_then : {A B : Type 0} {m : M A} {n₁ n₂ : Amount} {k k₁ : Counters} {l l₁ l₂ : List ℕ} {x : A} {a : StepAnswer B} (texts : NumberedTexts) (f : A → M B)
    → length l₁ ≡ length l → AddsIn texts m n₁ k l x k₁ l₁ → Meets texts (f x) n₂ k₁ l₁ l₂ a → Meets texts (m >>= f) (both n₁ n₂) k l l₂ a
meets_then texts f h p q = record {
  long = q.long ∙ h;
  gives = λ y k' e. adds_in_then texts f p (q.gives y k' e);
  stops = λ e d. then_stop texts f p.next (q.stops e d);
}

-- a step that stops
pub meets-stop : {A B : Type 0} {m : M A} {n : Amount} {k : Counters} {l l' : List ℕ} {e : ConvertError} (texts : NumberedTexts) (f : A → M B)
    → length l' ≡ length l → StopsIn texts m k l e.kind e.place → Meets texts (m >>= f) n k l l' (refused e)
meets-stop texts f h p = meets-refused texts h (stop-first texts f p)

-- what changes nothing but may fail: typing
pub meets-lift : {A B : Type 0} {x : Result A} {y : A} {n : Amount} {k : Counters} {l l' : List ℕ} {a : StepAnswer B} (texts : NumberedTexts) (f : A → M B)
    → Room k l → x ≡ ok y → Meets texts (f y) n k l l' a → Meets texts (lift x >>= f) n k l l' a
meets-lift {x = x} {y = y} {k = k} {l = l} texts f room e q =
    meets-most texts (meets_then texts f refl (record { next = next_in texts (lift-next x y k l e room); spent = nothing_spent }) q) (omega arith)

pub meets-lift-stop : {A B : Type 0} {x : Result A} {n : Amount} {k : Counters} {l l' : List ℕ} {e : ConvertError} (texts : NumberedTexts) (f : A → M B)
    → length l' ≡ length l → x ≡ err e.kind e.place → Meets texts (lift x >>= f) n k l l' (refused e)
meets-lift-stop {x = x} {k = k} {l = l} {e = e} texts f h q = meets-stop texts f h (lift-stops texts x k l e.kind e.place q)

-- a result that is dropped: `m` and then the rest, where `m` was met without its result
pub meets-drop : {A B : Type 0} {n₁ n₂ : Amount} {k k₁ : Counters} {l l₁ l₂ : List ℕ} {a : StepAnswer B} (texts : NumberedTexts) (m : M A) (f : M B)
    → length l₁ ≡ length l → AddsIn texts (m >> pure (tt {0})) n₁ k l tt k₁ l₁ → Meets texts f n₂ k₁ l₁ l₂ a → Meets texts (m >> f) (both n₁ n₂) k l l₂ a
meets-drop texts m f h p q = meets-same texts (simp (seq_is, regroup, pure-first)) (meets_then texts (λ (x : Unit {0}). f) h p q)
