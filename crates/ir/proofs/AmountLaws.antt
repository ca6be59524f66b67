-- Amounts: what a step spends is taken away from what is afforded, and what a definition adds at most its step spends at most.
-- The counters count the tables, whose lengths the definition's bounds are about; the rest is arithmetic. Assumes nothing.
use mathlib.Core.Path.{◌≡◌, sym, ◌∙◌}
use mathlib.Core.List.{List, ◌++◌}
use Prim.Native.Nat.{ℕ, ◌≤◌}
use native.Mathlib.Omega.{arith}
use lib.ListN.{length-append}
use Rattle.conversion.specs.Ir.{Out, made, failed, M}
use Rattle.conversion.specs.Written.{all_code, all_vars, all_labels}
use Rattle.conversion.proofs.Within.{Grown, grew, fell, Within}
use Rattle.ir.specs.declared.structs.Counters.{Counters}
use Rattle.ir.specs.Amounts.{Amount, amount, both, Affords, Spent}
use Rattle.ir.specs.Arena.{NumberedTexts, TablesSoFar, Holds}
use Rattle.ir.specs.Steps.{grown, Stands, NextIn}

-- ---- sums and differences

-- what is left when a is spent
pub left : {k k' : Counters} {a b : Amount} → Affords k (both a b) → Spent k k' a → Affords k' b
left h s = omega (arith, h, s)

-- less than what is afforded
pub less : {k : Counters} {a b : Amount} → Affords k a
    → (b.instructions ≤ a.instructions) × (b.variables ≤ a.variables) × (b.labels ≤ a.labels) × (b.strings ≤ a.strings) × (b.floats ≤ a.floats)
    → Affords k b
less h e = omega (arith, h, e)

-- nothing, and one step after another
pub nothing_spent : {k : Counters} → Spent k k (amount 0 0 0 0 0)
nothing_spent = omega arith

pub both-spent : {k k₁ k₂ : Counters} {a b : Amount} → Spent k k₁ a → Spent k₁ k₂ b → Spent k k₂ (both a b)
both-spent p q = omega (arith, p, q)

-- ---- what the definition adds at most

module _ {A : Type 0} {Q : A → Type 0} {i v l s f : ℕ} (texts : NumberedTexts) (t : TablesSoFar) (k k' : Counters) (b b' : List ℕ) (h : Holds texts t k b) where
  spent-by : {o : Out A} (a : A) → Grown Q i v l s f t.state o → Stands o a texts t k' b' → k'.records ≡ k.records → Spent k k' (amount i v l s f)
  unfolding Stands
  spent-by a (grew x c st q g) z e =
      let h' = z.1 in
      record {
        records = e;
        instructions = omega (
          arith,
          g.code,
          h.instructions_hold.count,
          h'.instructions_hold.count,
          length-append (all_code t.done) t.code,
          length-append (all_code t.done) (t.code ++ c),
          length-append t.code c,
        );
        instructions_stay = omega (
          arith,
          h.instructions_hold.count,
          h'.instructions_hold.count,
          length-append (all_code t.done) t.code,
          length-append (all_code t.done) (t.code ++ c),
          length-append t.code c,
        );
        variables = omega (arith, g.vars, h.variables_hold.count, h'.variables_hold.count, length-append (all_vars t.done) t.state.vars, length-append (all_vars t.done) st.vars);
        labels = omega (arith, g.labels, h.labels_hold.count, h'.labels_hold.count, length-append (all_labels t.done) t.state.labels, length-append (all_labels t.done) st.labels);
        strings = omega (arith, g.strings, h.strings_hold.count, h'.strings_hold.count);
        floats = omega (arith, g.floats, h.floats_hold.count, h'.floats_hold.count);
        functions = h'.before.functions_count ∙ sym h.before.functions_count;
        instructions_before = h'.before.instructions_before ∙ sym h.before.instructions_before;
        variables_before = h'.before.variables_before ∙ sym h.before.variables_before;
        labels_before = h'.before.labels_before ∙ sym h.before.labels_before;
      }
  spent-by a (fell d r) z e = absurd z

-- some tables stand there
pub record Held (texts : NumberedTexts) (k : Counters) (l : List ℕ) : Type 0 where
  pub tables : TablesSoFar
  pub holds : Holds texts tables k l

pub spent : {A : Type 0} {Q : A → Type 0} {i v l s f : ℕ} {m : M A} {texts : NumberedTexts} {k k' : Counters} {b b' : List ℕ} {a : A}
    → Within Q i v l s f m → NextIn texts m k b a k' b' → Held texts k b → Spent k k' (amount i v l s f)
spent {texts = texts} {k = k} {k' = k'} {b = b} {b' = b'} {a = a} w n h =
    spent-by texts h.tables k k' b b' h.holds a (w.holds h.tables.state) (n.stands h.tables h.holds) n.records

-- ---- tables stand there still

stand : {A : Type 0} (o : Out A) (a : A) (texts : NumberedTexts) (t : TablesSoFar) (k : Counters) (l : List ℕ) → Stands o a texts t k l → Held texts k l
unfolding Stands
stand (made x c s) a texts t k l z = record { tables = grown t c s; holds = z.1 }
stand (failed e r) a texts t k l z = absurd z

pub held : {A : Type 0} {texts : NumberedTexts} {m : M A} {k k' : Counters} {l l' : List ℕ} {a : A} → NextIn texts m k l a k' l' → Held texts k l → Held texts k' l'
held {texts = texts} {m = m} {k' = k'} {l' = l'} {a = a} n h = stand (m h.tables.state) a texts h.tables k' l' (n.stands h.tables h.holds)
