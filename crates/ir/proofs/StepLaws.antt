-- Steps in a row: what two steps owe one after the other is what the definition's `>>=` owes, and an error ends both.
-- By cases of what the first step gives; the code of both is one list. Assumes nothing.
use mathlib.Core.Path.{◌≡◌, refl, sym, ap, ◌∙◌, subst}
use mathlib.Core.List.{List, append_assoc}
use Prim.Native.Nat.{ℕ}
use Rattle.conversion.specs.ConvertError.{ConvertErrorKind, Result, ok, err}
use Rattle.conversion.specs.Ir as Ir
use Rattle.conversion.specs.Ir.{State, Out, made, failed, M, after, bind, ◌>>=◌, ◌>>◌, pure, fail, lift}
use Rattle.ir.specs.declared.structs.Counters.{Counters}
use Rattle.ir.specs.Arena.{NumberedTexts, TablesSoFar, Holds, Room}
use Rattle.ir.specs.Steps.{grown, Stands, Next, NextIn, StopsIn}
use Rattle.ir.proofs.Kept.{no_code}

-- a step that owes it for all texts owes it for these
pub next_in : {A : Type 0} {m : M A} {k : Counters} {l : List ℕ} {a : A} {k' : Counters} {l' : List ℕ} (texts : NumberedTexts) → Next m k l a k' l' → NextIn texts m k l a k' l'
next_in texts n = record { room = n.room; records = n.records; stands = n.stands texts }

-- ---- the second step's code stands behind the first's

after-stands : {B : Type 0} (texts : NumberedTexts) (t : TablesSoFar) (c : List Ir.Instr) (s : State) (o : Out B) (b : B) (k : Counters) (l : List ℕ)
    → Stands o b texts (grown t c s) k l → Stands (after c o) b texts t k l
unfolding Stands after
after-stands texts t c s (made b' d s') b k l h = (
  h.0,
  subst (λ (x : List Ir.Instr). Holds texts (record { done = t.done; code = x; state = s' }) k l) (append_assoc t.code c d) h.1,
)
after-stands texts t c s (failed e r) b k l h = h

-- by what the first step gives
bind-stands : {A B : Type 0} (texts : NumberedTexts) (t : TablesSoFar) (o : Out A) (f : A → M B) (a : A) (b : B) (k k' : Counters) (l l' : List ℕ)
    → Stands o a texts t k l → NextIn texts (f a) k l b k' l' → Stands (bind o f) b texts t k' l'
unfolding Stands bind
bind-stands texts t (made a' c s) f a b k k' l l' h n =
    subst (λ (x : _). Stands (after c (f x s)) b texts t k' l') h.0 (after-stands texts t c s (f a s) b k' l' (n.stands (grown t c s) h.1))
bind-stands texts t (failed e r) f a b k k' l l' h n = absurd h

-- ---- two steps in a row

module _ {A B : Type 0} {k k₁ k₂ : Counters} {l l₁ l₂ : List ℕ} {a : A} {b : B} {m : M A} where
  pub then_in : (texts : NumberedTexts) (f : A → M B) → NextIn texts m k l a k₁ l₁ → NextIn texts (f a) k₁ l₁ b k₂ l₂ → NextIn texts (m >>= f) k l b k₂ l₂
  unfolding ◌>>=◌
  then_in texts f p q = record {
    room = q.room;
    records = q.records ∙ p.records;
    stands = λ t h. bind-stands texts t (m t.state) f a b k₁ k₂ l₁ l₂ (p.stands t h) q;
  }

  pub then_next : (f : A → M B) → Next m k l a k₁ l₁ → Next (f a) k₁ l₁ b k₂ l₂ → Next (m >>= f) k l b k₂ l₂
  then_next f p q = record {
    room = q.room;
    records = q.records ∙ p.records;
    stands = λ texts t h. (then_in texts f (next_in texts p) (next_in texts q)).stands t h;
  }

  -- where the first step's result is not used
  pub seq_in : (texts : NumberedTexts) (f : M B) → NextIn texts m k l a k₁ l₁ → NextIn texts f k₁ l₁ b k₂ l₂ → NextIn texts (m >> f) k l b k₂ l₂
  unfolding ◌>>=◌ ◌>>◌
  seq_in texts f p q = then_in texts (λ (x : A). f) p q

  pub seq_next : (f : M B) → Next m k l a k₁ l₁ → Next f k₁ l₁ b k₂ l₂ → Next (m >> f) k l b k₂ l₂
  unfolding ◌>>=◌ ◌>>◌
  seq_next f p q = then_next (λ (x : A). f) p q

-- ---- nothing is done

pub pure-next : {A : Type 0} (a : A) (k : Counters) (l : List ℕ) → Room k l → Next (pure a) k l a k l
unfolding Stands pure
pure-next a k l room = record {
  room = room;
  records = refl;
  stands = λ texts t h. (refl, no_code texts t k l room h t.state k l h);
}

-- what changes nothing but may fail, where it does not
pub lift-next : {A : Type 0} (x : Result A) (a : A) (k : Counters) (l : List ℕ) → x ≡ ok a → Room k l → Next (lift x) k l a k l
unfolding lift pure
lift-next x a k l e room = subst (λ (y : Result _). Next (lift y) k l a k l) (sym e) (pure-next a k l room)

-- ---- errors

pub lift-stops : {A : Type 0} (texts : NumberedTexts) (x : Result A) (k : Counters) (l : List ℕ) (e : ConvertErrorKind) (r : ℕ) → x ≡ err e r → StopsIn texts (lift x) k l e r
unfolding lift
lift-stops texts x k l e r q = record { stops = λ t h. ap (λ (y : Result _). lift y t.state) q }

pub fail-stops : {A : Type 0} (texts : NumberedTexts) (k : Counters) (l : List ℕ) (e : ConvertErrorKind) (r : ℕ) → StopsIn {A = A} texts (fail e r) k l e r
unfolding fail
fail-stops texts k l e r = record { stops = λ t h. refl }

bind_stops : {A B : Type 0} (texts : NumberedTexts) (t : TablesSoFar) (o : Out A) (f : A → M B) (a : A) (k : Counters) (l : List ℕ) (e : ConvertErrorKind) (r : ℕ)
    → Stands o a texts t k l → StopsIn texts (f a) k l e r → bind o f ≡ failed e r
unfolding Stands bind after
bind_stops texts t (made a' c s) f a k l e r h n =
    ap (λ (x : _). after c (f x s)) (sym h.0) ∙ ap (after c) (n.stops (grown t c s) h.1)
bind_stops texts t (failed e' r') f a k l e r h n = absurd h

module _ {A B : Type 0} {k : Counters} {l : List ℕ} {e : ConvertErrorKind} {r : ℕ} {m : M A} (texts : NumberedTexts) where
  -- the first step stops, and the second is not made
  pub stop-first : (f : A → M B) → StopsIn texts m k l e r → StopsIn texts (m >>= f) k l e r
  unfolding ◌>>=◌ bind
  stop-first f p = record { stops = λ t h. ap (λ (o : Out A). bind o f) (p.stops t h) }

  pub stop_seq : (f : M B) → StopsIn texts m k l e r → StopsIn texts (m >> f) k l e r
  unfolding ◌>>=◌ ◌>>◌
  stop_seq f p = stop-first (λ (x : A). f) p

  -- the first goes on, and the second stops
  module _ {k₁ : Counters} {l₁ : List ℕ} {a : A} where
    pub then_stop : (f : A → M B) → NextIn texts m k l a k₁ l₁ → StopsIn texts (f a) k₁ l₁ e r → StopsIn texts (m >>= f) k l e r
    unfolding ◌>>=◌
    then_stop f p q = record { stops = λ t h. bind_stops texts t (m t.state) f a k₁ l₁ e r (p.stands t h) q }

    pub seq_stop : (f : M B) → NextIn texts m k l a k₁ l₁ → StopsIn texts f k₁ l₁ e r → StopsIn texts (m >> f) k l e r
    unfolding ◌>>=◌ ◌>>◌
    seq_stop f p q = then_stop (λ (x : A). f) p q
