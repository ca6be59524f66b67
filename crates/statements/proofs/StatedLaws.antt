-- What a statement, a block and a part of them owe, from their answers, and one part after another: typing first, an operand first, a step first.
-- By the laws of steps in a row; the answers are told apart by their constructor, and the scope is the same as long as its names stay. Assumes nothing.
use Rattle.std.specs.Prelude.{Ok, Err}
use mathlib.Core.Path.{◌≡◌, refl, sym, ap, ◌∙◌, subst}
use mathlib.Core.List.{List}
use Prim.Native.Nat.{ℕ, ◌≤◌}
use native.Mathlib.Omega.{arith}
use lib.ListN.{length}
use Rattle.records.specs.declared.convert_error.ConvertError.{ConvertError}
use Rattle.syntax.specs.Decode.{program}
use Rattle.syntax.specs.Places.{expr_at}
use Rattle.conversion.specs.ConvertError.{ConvertErrorKind, ok, err}
use Rattle.conversion.specs.Ir as Ir
use Rattle.conversion.specs.Ir.{M, ◌>>=◌, ◌>>◌, fail, lift}
use Rattle.conversion.specs.Scope as Def
use Rattle.conversion.specs.Expressions.{get_type}
use Rattle.conversion.proofs.MonadLaws.{seq_is}
use Rattle.ir.specs.declared.structs.Counters.{Counters}
use Rattle.ir.specs.declared.structs.Operand.{Operand}
use Rattle.ir.specs.Instructions.{operand_of}
use Rattle.ir.specs.Arena.{NumberedTexts, Room}
use Rattle.ir.specs.Amounts.{Amount, both}
use Rattle.ir.specs.Steps.{StopsIn}
use Rattle.ir.proofs.StepLaws.{fail-stops, stop-first}
use Rattle.scope.specs.declared.Scope.{Scope}
use Rattle.scope.specs.Open.{scope_at}
use Rattle.keys.specs.Keys.{all_keys}
use Rattle.expressions.specs.Slots.{type_in}
use Rattle.expressions.specs.Answers.{OrRefused, refusal, outcome_of, TypeMeets}
use Rattle.expressions.proofs.TypingLaws.{type-ok, type-refused}
use Rattle.statements.specs.Lent.{Converter, Converted, Stated, Finished}
use Rattle.statements.specs.Meets.{StepAnswer, gave, refused, AddsIn, Meets, texts_of}
use Rattle.statements.specs.Converting.{Converting, with_counters, StaysFor}
use Rattle.statements.specs.Answers.{converted_of, finished_of, Converts, Leaves, States, Finishes}
use Rattle.statements.proofs.MeetLaws.{Most, meets-gave, meets-refused, meets-same, meets-most, meets_then, meets-lift, meets-lift-stop}
use Rattle.statements.proofs.StayLaws.{frame-stays, scope-stays, ready-stays, converting_next, converting_frame}
use Rattle.statements.proofs.ConvertLaws.{converted-next}

-- ---- a statement's answer

module _ {tree text l l' s s' : List ℕ} {m : M Def.Scope} {n : Amount} {q : ℕ} {c : Converter} where
  -- from what it meets
  pub states_done : {sc : Scope} {k : Counters} → Meets (texts_of tree text) m n c.counters l l' (gave (scope_at tree text s' sc) k) → Leaves tree text q c s' sc
      → StaysFor tree c s s' → States tree text m n q c l s (Stated.Done sc k) l' s'
  states_done {sc = sc} p h stays = record {
    meets = p;
    leaves = λ sc' k' e. let d : sc ≡ sc' = cc in subst (λ (x : Scope). Leaves tree text q c s' x) d h;
    stays = stays;
  }

  pub states_stop : {e : ConvertError} → Meets (texts_of tree text) m n c.counters l l' (refused e) → StaysFor tree c s s' → States tree text m n q c l s (Stated.Refused e) l' s'
  states_stop p stays = record {
    meets = p;
    leaves = λ sc k e. let z : ◌≡◌ {A = ℕ} 0 1 = cc in absurd (omega arith);
    stays = stays;
  }

  -- from what its steps add, or where they stop
  pub states_gave : {sc : Scope} {k : Counters} → length l' ≡ length l → AddsIn (texts_of tree text) m n c.counters l (scope_at tree text s' sc) k l' → Leaves tree text q c s' sc
      → StaysFor tree c s s' → States tree text m n q c l s (Stated.Done sc k) l' s'
  states_gave long p h stays = states_done (meets-gave (texts_of tree text) long p) h stays

  pub states_refused : {e : ConvertError} → length l' ≡ length l → StopsIn (texts_of tree text) m c.counters l e.kind e.place
      → StaysFor tree c s s' → States tree text m n q c l s (Stated.Refused e) l' s'
  states_refused long p stays = states_stop (meets-refused (texts_of tree text) long p) stays

  pub states_same : {m' : M Def.Scope} {a : Stated} → m ≡ m' → States tree text m n q c l s a l' s' → States tree text m' n q c l s a l' s'
  states_same {a = a} e p = subst (λ (x : M Def.Scope). States tree text x n q c l s a l' s') e p

  pub states_most : {n' : Amount} {q' : ℕ} {a : Stated} → Most n n' → q ≤ q' → States tree text m n q c l s a l' s' → States tree text m n' q' c l s a l' s'
  states_most h i p = record {
    meets = meets-most (texts_of tree text) p.meets h;
    leaves = λ sc k e. let x = p.leaves sc k e in record { ready = x.ready; function = x.function; inner = x.inner; least = x.least; most = omega (arith, i, x.most) };
    stays = p.stays;
  }

-- ---- the answer of a block or of a part that leaves the scope

module _ {X : Type 0} {tree text l l' s s' : List ℕ} {m : M X} {x : X} {n : Amount} {c : Converter} where
  pub finishes_refused : {e : ConvertError} → length l' ≡ length l → StopsIn (texts_of tree text) m c.counters l e.kind e.place → StaysFor tree c s s'
      → Finishes tree text m x n c l s (Finished.Refused e) l' s'
  finishes_refused long p stays = record { meets = meets-refused (texts_of tree text) long p; stays = stays }

  pub finishes_most : {n' : Amount} {a : Finished} → Most n n' → Finishes tree text m x n c l s a l' s' → Finishes tree text m x n' c l s a l' s'
  finishes_most h p = record { meets = meets-most (texts_of tree text) p.meets h; stays = p.stays }

  -- what it added, and its refusal
  module _ {a : Finished} (p : Finishes tree text m x n c l s a l' s') where
    pub finished-next : {k : Counters} → a ≡ Finished.Done k → AddsIn (texts_of tree text) m n c.counters l x k l'
    finished-next {k = k} e = p.meets.gives x k (ap (finished_of x) e)

    pub finished-stop : {z : ConvertError} → a ≡ Finished.Refused z → StopsIn (texts_of tree text) m c.counters l z.kind z.place
    finished-stop {z = z} e = p.meets.stops z (ap (finished_of x) e)

    pub finished_converting : {k : Counters} → a ≡ Finished.Done k → Converting tree text l s c → Converting tree text l' s' (with_counters c k)
    finished_converting e h = converting_next h (finished-next e).next p.stays

-- ---- the scope as it was

module _ {tree text l s s' : List ℕ} {c : Converter} (p : Converting tree text l s c) (st : StaysFor tree c s s') where
  pub scope_later : scope_at tree text s' c.scope ≡ scope_at tree text s c.scope
  scope_later = scope-stays tree st text c.scope p.ready.scoped (omega arith)

  pub leaves-same : {q : ℕ} → Leaves tree text q c s' c.scope
  leaves-same = record {
    ready = ready-stays tree st text c.scope (omega arith) p.ready;
    function = refl;
    inner = refl;
    least = omega arith;
    most = omega arith;
  }

  pub states_kept : {m : M Def.Scope} {n : Amount} {q : ℕ} {k : Counters} {l' : List ℕ} → Meets (texts_of tree text) m n c.counters l l' (gave (scope_at tree text s c.scope) k)
      → States tree text m n q c l s (Stated.Done c.scope k) l' s'
  states_kept {m = m} {n = n} {k = k} {l' = l'} i =
      states_done (subst (λ (S : Def.Scope). Meets (texts_of tree text) m n c.counters l l' (gave S k)) (sym scope_later) i) leaves-same st

-- ---- typing first: the step of the expression e's type, which writes no table

module _ {tree text l s : List ℕ} {c : Converter} {e : ℕ} (p : Converting tree text l s c) {ty : OrRefused ℕ} {s₁ : List ℕ} (t : TypeMeets tree text s c.scope c.turn e ty s₁) where
  pub type_converting : Converting tree text l s₁ c
  type_converting = converting_frame p t.frame

  pub type-stays : StaysFor tree c s s₁
  type-stays = frame-stays c.scope.names c.operands t.frame

  -- the type is y
  pub type-known : {y : ℕ} → ty ≡ Ok y
      → get_type (program tree text) (all_keys tree text) (expr_at tree text e) (scope_at tree text s c.scope) ≡ ok y
  unfolding type_in
  type-known {y = y} w = type-ok (type_in tree text (scope_at tree text s c.scope) e) ty y t.meets w

  pub type-error : {z : ConvertError} → ty ≡ Err z
      → get_type (program tree text) (all_keys tree text) (expr_at tree text e) (scope_at tree text s c.scope) ≡ err z.kind z.place
  unfolding type_in refusal
  type-error {z = z} w = type-refused (type_in tree text (scope_at tree text s c.scope) e) ty z t.meets w

  module _ {X : Type 0} {n : Amount} (f : ℕ → M X) where
    pub typed_then_lem : {y : ℕ} {l' : List ℕ} {a : StepAnswer X} → ty ≡ Ok y → Meets (texts_of tree text) (f y) n c.counters l l' a
        → Meets (texts_of tree text) (lift (get_type (program tree text) (all_keys tree text) (expr_at tree text e) (scope_at tree text s c.scope)) >>= f) n c.counters l l' a
    typed_then_lem w i = meets-lift (texts_of tree text) f p.room (type-known w) i

    pub typed-not : {z : ConvertError} → ty ≡ Err z
        → Meets (texts_of tree text) (lift (get_type (program tree text) (all_keys tree text) (expr_at tree text e) (scope_at tree text s c.scope)) >>= f) n c.counters l l (refused z)
    typed-not w = meets-lift-stop (texts_of tree text) f refl (type-error w)

-- ---- an operand first

module _ {tree text l l₁ s s₁ : List ℕ} {m : M Ir.Operand} {n₁ : Amount} {c : Converter} {a : Converted} (p : Converts tree text m n₁ c l s a l₁ s₁) {X : Type 0} (f : Ir.Operand → M X) where
  pub operand_then : {n₂ : Amount} {l₂ : List ℕ} {b : StepAnswer X} {o : Operand} {k : Counters} → a ≡ Converted.Is o k → Meets (texts_of tree text) (f (operand_of o)) n₂ k l₁ l₂ b
      → Meets (texts_of tree text) (m >>= f) (both n₁ n₂) c.counters l l₂ b
  operand_then q i = meets_then (texts_of tree text) f p.meets.long (converted-next p q) i

  pub operand-not : {n : Amount} {e : ConvertError} → a ≡ Converted.Refused e → Meets (texts_of tree text) (m >>= f) n c.counters l l₁ (refused e)
  operand-not {e = e} q = meets-refused (texts_of tree text) p.meets.long (stop-first (texts_of tree text) f (p.meets.stops e (ap converted_of q)))

-- ---- a step first that is dropped: `m >> f`

module _ {X Y : Type 0} {n₁ n₂ : Amount} {k k₁ : Counters} {l l₁ l₂ : List ℕ} {x : X} {m : M X} {a : StepAnswer Y} (texts : NumberedTexts) (f : M Y) where
  pub seq_then : length l₁ ≡ length l → AddsIn texts m n₁ k l x k₁ l₁ → Meets texts f n₂ k₁ l₁ l₂ a → Meets texts (m >> f) (both n₁ n₂) k l l₂ a
  seq_then h p q = meets-same texts (sym (seq_is m f)) (meets_then texts (λ (y : X). f) h p q)

pub seq_not : {X Y : Type 0} {n : Amount} {k : Counters} {l l₁ : List ℕ} {e : ConvertError} {m : M X} (texts : NumberedTexts) (f : M Y)
    → length l₁ ≡ length l → StopsIn texts m k l e.kind e.place → Meets texts (m >> f) n k l l₁ (refused e)
seq_not {X = X} {m = m} texts f h p = meets-same texts (sym (seq_is m f)) (meets-refused texts h (stop-first texts (λ (y : X). f) p))

-- ---- an error that the code makes; a check before the rest

pub fails_as : {X : Type 0} {k : Counters} {l : List ℕ} {kind : ConvertErrorKind} {r : ℕ} {z : ConvertError} (texts : NumberedTexts) → z ≡ record { kind = kind; place = r }
    → StopsIn {A = X} texts (fail kind r) k l z.kind z.place
fails_as {X = X} {k = k} {l = l} {kind = kind} {r = r} texts q =
    subst (λ (v : ConvertError). StopsIn {A = X} texts (fail kind r) k l v.kind v.place) (sym q) (fail-stops texts k l kind r)

module _ {X : Type 0} {m : M (Unit {0})} (o : OrRefused (Unit {0})) (q : m ≡ lift (outcome_of o)) (f : M X) where
  as_lift : lift (outcome_of o) >>= (λ (u : Unit {0}). f) ≡ m >> f
  as_lift = sym (seq_is (lift (outcome_of o)) f) ∙ ap (λ (z : M (Unit {0})). z >> f) (sym q)

  pub checked_then_lem : {n : Amount} {k : Counters} {l l' : List ℕ} {a : StepAnswer X} (texts : NumberedTexts) → o ≡ Ok tt → Room k l → Meets texts f n k l l' a → Meets texts (m >> f) n k l l' a
  unfolding outcome_of
  checked_then_lem texts w room i = meets-same texts as_lift (meets-lift texts (λ (u : Unit {0}). f) room (ap outcome_of w) i)

  pub checked_not : {n : Amount} {k : Counters} {l : List ℕ} {z : ConvertError} (texts : NumberedTexts) → o ≡ Err z → Meets texts (m >> f) n k l l (refused z)
  unfolding outcome_of refusal
  checked_not texts w = meets-same texts as_lift (meets-lift-stop texts (λ (u : Unit {0}). f) refl (ap outcome_of w))
