-- What an expression owes, from its answer: an operand with what was added, or a refusal; and one part of it after another.
-- By the laws of steps in a row; the two answers are told apart by their constructor. Assumes nothing.
use mathlib.Core.Path.{◌≡◌, sym, ap, ◌∙◌, subst}
use mathlib.Core.List.{List}
use Prim.Native.Nat.{ℕ}
use native.Mathlib.Omega.{arith}
use lib.ListN.{length}
use Rattle.records.specs.declared.convert_error.ConvertError.{ConvertError}
use Rattle.conversion.specs.Ir as Ir
use Rattle.conversion.specs.Ir.{M, ◌>>=◌, ◌>>◌}
use Rattle.conversion.proofs.MonadLaws.{seq_is}
use Rattle.ir.specs.declared.structs.Counters.{Counters}
use Rattle.ir.specs.declared.structs.Operand.{Operand}
use Rattle.ir.specs.Instructions.{operand_of}
use Rattle.ir.specs.Amounts.{Amount, both}
use Rattle.ir.specs.Steps.{StopsIn}
use Rattle.ir.proofs.StepLaws.{stop-first}
use Rattle.statements.specs.Lent.{Converter, Converted, Fitted}
use Rattle.statements.specs.Meets.{Adds, AddsIn, texts_of}
use Rattle.statements.specs.Converting.{Converting, with_counters, OperandIn, StaysFor, NamesStay}
use Rattle.statements.specs.Answers.{converted_of, Converts, FitAdds}
use Rattle.statements.proofs.MeetLaws.{Most, adds_in, adds_in_then, meets-gave, meets-refused, meets-most, meets_then}
use Rattle.statements.proofs.StayLaws.{stays_then, names_then, converting_next}

module _ {tree text l l' s s' : List ℕ} {m : M Ir.Operand} {n : Amount} {c : Converter} where
  pub converts-gave : {o : Operand} {k : Counters} → length l' ≡ length l → AddsIn (texts_of tree text) m n c.counters l (operand_of o) k l' → OperandIn tree (operand_of o)
      → StaysFor tree c s s' → NamesStay tree s s' → Converts tree text m n c l s (Converted.Is o k) l' s'
  converts-gave {o = o} long p i stays names = record {
    meets = meets-gave (texts_of tree text) long p;
    operand = λ o' k' q. let e : o ≡ o' = cc in subst (λ (x : Operand). OperandIn tree (operand_of x)) e i;
    stays = stays;
    names = names;
  }

  pub converts-refused : {e : ConvertError} → length l' ≡ length l → StopsIn (texts_of tree text) m c.counters l e.kind e.place
      → StaysFor tree c s s' → NamesStay tree s s' → Converts tree text m n c l s (Converted.Refused e) l' s'
  converts-refused long p stays names = record {
    meets = meets-refused (texts_of tree text) long p;
    operand = λ o k q. let z : ◌≡◌ {A = ℕ} 0 1 = cc in absurd (omega arith);
    stays = stays;
    names = names;
  }

  pub converts-same : {m' : M Ir.Operand} {a : Converted} → m ≡ m' → Converts tree text m n c l s a l' s' → Converts tree text m' n c l s a l' s'
  converts-same {a = a} e p = subst (λ (x : M Ir.Operand). Converts tree text x n c l s a l' s') e p

  pub converts-most : {n' : Amount} {a : Converted} → Most n n' → Converts tree text m n c l s a l' s' → Converts tree text m n' c l s a l' s'
  converts-most q p = record { meets = meets-most (texts_of tree text) p.meets q; operand = p.operand; stays = p.stays; names = p.names }

-- a step that goes on, then the rest
pub converts-after : {X : Type 0} {tree text l l₁ l₂ s s' : List ℕ} {m : M X} {n₁ n₂ : Amount} {c : Converter} {k : Counters} {x : X} {a : Converted} (f : X → M Ir.Operand)
    → Adds m n₁ c.counters l x k l₁ → Converts tree text (f x) n₂ (with_counters c k) l₁ s a l₂ s' → Converts tree text (m >>= f) (both n₁ n₂) c l s a l₂ s'
converts-after {tree = tree} {text = text} f p q = record { meets = meets_then (texts_of tree text) f p.long (adds_in (texts_of tree text) p) q.meets; operand = q.operand; stays = q.stays; names = q.names }

pub converts_seq : {X : Type 0} {tree text l l₁ l₂ s s' : List ℕ} {m : M X} {n₁ n₂ : Amount} {c : Converter} {k : Counters} {x : X} {a : Converted} (f : M Ir.Operand)
    → Adds m n₁ c.counters l x k l₁ → Converts tree text f n₂ (with_counters c k) l₁ s a l₂ s' → Converts tree text (m >> f) (both n₁ n₂) c l s a l₂ s'
converts_seq {X = X} {m = m} f p q = converts-same (sym (seq_is m f)) (converts-after (λ (x : X). f) p q)

-- a part that is converted: it is refused, or its operand goes on
module _ {tree text l l₁ s s₁ : List ℕ} {m : M Ir.Operand} {n₁ : Amount} {c : Converter} {a : Converted} (p : Converts tree text m n₁ c l s a l₁ s₁) where
  pub converted-next : {o : Operand} {k : Counters} → a ≡ Converted.Is o k → AddsIn (texts_of tree text) m n₁ c.counters l (operand_of o) k l₁
  converted-next {o = o} {k = k} q = p.meets.gives (operand_of o) k (ap converted_of q)

  pub converting_after : {o : Operand} {k : Counters} → a ≡ Converted.Is o k → Converting tree text l s c → Converting tree text l₁ s₁ (with_counters c k)
  converting_after q h = converting_next h (converted-next q).next p.stays

  pub converts-stop : {n : Amount} {e : ConvertError} (f : Ir.Operand → M Ir.Operand) → a ≡ Converted.Refused e → Converts tree text (m >>= f) n c l s (Converted.Refused e) l₁ s₁
  converts-stop {e = e} f q = converts-refused p.meets.long (stop-first (texts_of tree text) f (p.meets.stops e (ap converted_of q))) p.stays p.names

  pub converts-next : {n₂ : Amount} {l₂ s₂ : List ℕ} {b : Converted} {o : Operand} {k : Counters} (f : Ir.Operand → M Ir.Operand) → a ≡ Converted.Is o k
      → Converts tree text (f (operand_of o)) n₂ (with_counters c k) l₁ s₁ b l₂ s₂ → Converts tree text (m >>= f) (both n₁ n₂) c l s b l₂ s₂
  converts-next f q i = record {
    meets = meets_then (texts_of tree text) f p.meets.long (converted-next q) i.meets;
    operand = i.operand;
    stays = stays_then (omega arith) (omega arith) p.stays i.stays;
    names = names_then p.names i.names;
  }

  pub converts-fit : {n₂ : Amount} {l₂ : List ℕ} {b : Converted} {o : Operand} {k : Counters} {r : Fitted} (f : Ir.Operand → M Ir.Operand) → a ≡ Converted.Is o k
      → FitAdds tree (f (operand_of o)) n₂ k l₁ r l₂ → b ≡ Converted.Is r.operand r.counters → Converts tree text (m >>= f) (both n₁ n₂) c l s b l₂ s₁
  converts-fit {n₂ = n₂} {l₂ = l₂} f q i e =
      subst (λ (z : Converted). Converts tree text (m >>= f) (both n₁ n₂) c l s z l₂ s₁) (sym e)
      (converts-gave (i.adds.long ∙ p.meets.long) (adds_in_then (texts_of tree text) f (converted-next q) (adds_in (texts_of tree text) i.adds)) i.operand p.stays p.names)
