-- What stays of the scratch keeps the scope, the functions by key and the operands that wait; typing and an operand more leave the rest.
-- Byte by byte: each writer stays in its own region. Assumes nothing.
use mathlib.Core.Path.{◌≡◌, refl, sym, ap, ◌∙◌, subst}
use mathlib.Core.Logic.{◌⊎◌, inl, inr}
use mathlib.Core.Bool.{Bool, true, false}
use mathlib.Core.List.{List}
use mathlib.Core.Option.{Option, none, some}
use Prim.Native.Nat.{ℕ, zero, suc, ◌+◌, ◌*◌, ◌/◌, ◌≤◌, ◌<◌}
use native.Mathlib.Omega.{arith}
use lib.Dec.{eqb}
use lib.ListN.{length, get_or}
use Rattle.laws.specs.Fix.{pick}
use Rattle.laws.specs.Splice.{splice}
use Rattle.laws.proofs.Splices.{length-splice}
use Rattle.records.specs.Words as Words
use Rattle.records.specs.Words.{byte_at, word_at, records}
use Rattle.syntax.specs.Places.{IsKind, TypeAt}
use Rattle.conversion.specs.Ir.{M}
use Rattle.ir.specs.declared.structs.Counters.{Counters}
use Rattle.ir.specs.Steps.{NextIn}
use Rattle.scope.specs.declared.Scope.{Scope}
use Rattle.scope.specs.Open.{loop_number, name_slot_at, scope_at}
use Rattle.records.proofs.Apart.{byte-apart, word-apart, word_same}
use Rattle.scope.proofs.ScopeLaws.{Kept, scope_kept}
use Rattle.keys.specs.Keys.{Keyed}
use Rattle.keys.proofs.ChainLaws.{keyed-kept}
use Rattle.texts.specs.Texts.{original_at}
use Rattle.expressions.specs.Slots.{original_of, original_word, Frame, Scoped, Ready}
use Rattle.expressions.proofs.OriginalLaws.{word-stays, original-stays}
use Rattle.expressions.proofs.SlotLaws.{original-frame, ready-frame}
use Rattle.statements.specs.Lent.{Converter}
use Rattle.statements.specs.Stack.{stack_entry_at, operand_at, stack_at}
use Rattle.statements.specs.Converting.{LoopIn, Converting, with_counters, Stays, StaysFor, NamesStay}
use Rattle.statements.specs.Meets.{texts_of}

-- ---- one writer after another

pub stays_refl : (tree : List ℕ) (names operands : ℕ) (s : List ℕ) → Stays tree names operands s s
stays_refl tree names operands s =
    record { long = refl; listed = λ i h. refl; names_open = λ i a b d. refl; stack = λ i a b d. refl; behind = λ i h j. refl; told = λ j h i x. x }

-- what stays of more stays of less
pub stays_then : {tree : List ℕ} {names operands names' operands' : ℕ} {s s₁ s₂ : List ℕ} → names ≤ names' → operands ≤ operands'
    → Stays tree names operands s s₁ → Stays tree names' operands' s₁ s₂ → Stays tree names operands s s₂
stays_then hn ho p q = record {
  long = q.long ∙ p.long;
  listed = λ i h. q.listed i h ∙ p.listed i h;
  names_open = λ i a b d. q.names_open i a (omega arith) d ∙ p.names_open i a b d;
  stack = λ i a b d. q.stack i a (omega arith) d ∙ p.stack i a b d;
  behind = λ i h j. q.behind i h j ∙ p.behind i h j;
  told = λ j h i x. q.told j (omega arith) i (p.told j h i x);
}

-- ---- writers: typing, an operand

pub frame-stays : {tree s s' : List ℕ} (names operands : ℕ) → Frame tree s s' → Stays tree names operands s s'
frame-stays {tree = tree} {s = s} {s' = s'} names operands f = record {
  long = f.same_length;
  listed = λ i h. f.outside i (inl h);
  names_open = λ i a b d. f.outside i (inr (a, omega arith));
  stack = λ i a b d. f.outside i (inr (omega arith, omega arith));
  behind = λ i h j. f.outside i (inr (omega arith, omega arith));
  told = λ j h i x. original-frame tree s s' f j i x;
}

-- the entry of an operand behind those that wait
module _ (tree : List ℕ) (names operands : ℕ) (s s' vs : List ℕ) (i : ℕ) (e : s' ≡ splice s i vs) (long : length vs ≡ 16) (fits : 72 * records tree ≤ length s) where
  pub operand-stays : (j : ℕ) → i ≡ stack_entry_at (records tree) j → operands ≤ j → j < records tree → Stays tree names operands s s'
  unfolding byte_at
  operand-stays x q h low = record {
    long = ap length e ∙ length-splice s i vs (omega arith);
    listed = λ j k. before j (omega arith);
    names_open = λ j a b d. before j (omega arith);
    stack = λ j a b d. before j (omega arith);
    behind = λ j k z. after j (omega arith);
    told = λ j k m y. original-stays tree s s' (λ r l. word (original_at (records tree) r) (inr (omega arith))) j y
        (word (8 * records tree + 16 * j) (inl (omega arith))) (word (8 * records tree + 16 * j + 4) (inl (omega arith)))
        (word (name_slot_at (records tree) (original_of tree s y.of)) (inr (omega arith)));
  }
    where
      before : (j : ℕ) → j < i → byte_at s' j ≡ byte_at s j
      before j k = ap (λ (x : List ℕ). get_or x j 0) e ∙ byte-apart s i vs (omega arith) j (inl k)

      after : (j : ℕ) → i + 16 ≤ j → byte_at s' j ≡ byte_at s j
      after j k = ap (λ (x : List ℕ). get_or x j 0) e ∙ byte-apart s i vs (omega arith) j (inr (omega arith))

      word : (p : ℕ) → (p + 4 ≤ i) ⊎ (i + 16 ≤ p) → word_at s' p ≡ word_at s p
      word p k = ap (λ (x : List ℕ). word_at x p) e ∙ word-apart s i vs (omega arith) p (rw long k)

-- ---- all names

pub names_refl : (tree s : List ℕ) → NamesStay tree s s
names_refl tree s = record { bytes = λ i a b. refl; told = λ j h x. x }

pub names_then : {tree s s₁ s₂ : List ℕ} → NamesStay tree s s₁ → NamesStay tree s₁ s₂ → NamesStay tree s s₂
names_then p q = record { bytes = λ i a b. q.bytes i a b ∙ p.bytes i a b; told = λ j h x. q.told j h (p.told j h x) }

pub names_of : {tree s s' : List ℕ} {operands : ℕ} → Stays tree (records tree) operands s s' → NamesStay tree s s'
names_of p = record { bytes = λ i a b. p.names_open i a (omega arith) b; told = λ j h x. p.told j h h x }

pub frame-names : {tree s s' : List ℕ} → Frame tree s s' → NamesStay tree s s'
frame-names {tree = tree} f = names_of (frame-stays (records tree) 0 f)

-- so a name more
pub stays-more : {tree s s' : List ℕ} {names operands : ℕ} (more : ℕ) → Stays tree names operands s s' → NamesStay tree s s' → Stays tree more operands s s'
stays-more more p q = record {
  long = p.long;
  listed = p.listed;
  names_open = λ i a b d. q.bytes i a d;
  stack = p.stack;
  behind = p.behind;
  told = λ j h i x. q.told j i x;
}

-- ---- what is kept

module _ (tree : List ℕ) {s s' : List ℕ} {names operands : ℕ} (f : Stays tree names operands s s') where
  byte_word : (p : ℕ) → ((j q : ℕ) → q ≡ p + j → j < 4 → byte_at s' q ≡ byte_at s q) → word_at s' p ≡ word_at s p
  unfolding byte_at
  byte_word p at = word_same s' p s p
      (at 0 p (omega arith) (omega arith))
      (at 1 (p + 1) refl (omega arith))
      (at 2 (p + 2) refl (omega arith))
      (at 3 (p + 3) refl (omega arith))

  pub listed-word : (p : ℕ) → p + 4 ≤ 4 * records tree → word_at s' p ≡ word_at s p
  listed-word p h = byte_word p (λ j q e k. f.listed q (omega arith))

  pub name-word : (p : ℕ) → 8 * records tree ≤ p → p + 4 ≤ 8 * records tree + 16 * names → p + 4 ≤ 24 * records tree → word_at s' p ≡ word_at s p
  name-word p a b d = byte_word p (λ j q e k. f.names_open q (omega arith) (omega arith) (omega arith))

  pub stack-word : (p : ℕ) → 24 * records tree ≤ p → p + 4 ≤ 24 * records tree + 16 * operands → p + 4 ≤ 40 * records tree → word_at s' p ≡ word_at s p
  stack-word p a b d = byte_word p (λ j q e k. f.stack q (omega arith) (omega arith) (omega arith))

  pub names-kept : (sc : Scope) → sc.records ≡ records tree → sc.names ≤ names → sc.names ≤ sc.records → Kept sc.records sc.names s s'
  unfolding byte_at
  names-kept sc e h i = record { bytes = λ j a b. f.names_open j (omega arith) (omega arith) (omega arith); long = f.long }

  -- the scope is the same, also that of a block which is left
  pub scope-stays : (text : List ℕ) (sc : Scope) → Scoped tree s sc → sc.names ≤ names → scope_at tree text s' sc ≡ scope_at tree text s sc
  scope-stays text sc k h = scope_kept tree text s s' sc (names-kept sc k.records_are h k.room.names_in)

  pub number_word : (r : ℕ) → r < records tree → word_at s' (original_at (records tree) r) ≡ word_at s (original_at (records tree) r)
  number_word r h = byte_word (original_at (records tree) r) (λ j q e k. f.behind q (omega arith) (omega arith))

  -- words A and B of the lowest record with a text
  pub original_word_lem : (r k : ℕ) → r < records tree → original_word tree s' r k ≡ original_word tree s r k
  original_word_lem = word-stays tree s s' number_word

  pub keyed_stays : (text : List ℕ) → Keyed tree text s → Keyed tree text s'
  keyed_stays text =
      keyed-kept tree text s s' f.long listed-word (λ p a b. byte_word p (λ j q e k. f.behind q (omega arith) (omega arith)))

  pub scoped_stays : (sc : Scope) → sc.names ≤ names → Scoped tree s sc → Scoped tree s' sc
  scoped_stays sc h r = record {
    records_are = r.records_are;
    room = record { scratch = omega (arith, r.room.scratch, f.long); names_in = r.room.names_in };
    types = λ j q. subst (λ (w : ℕ). TypeAt tree (w / 2)) (sym (name-word (8 * records tree + 16 * j + 12) (omega arith) (omega arith) (omega (arith, low j q)))) (r.types j q);
    named = λ j q. f.told j (omega arith) (low j q) (r.named j q);
  }
    where
      low : (j : ℕ) → j < sc.names → j < records tree
      low j q = omega (arith, q, r.room.names_in, r.records_are)

  pub ready-stays : (text : List ℕ) (sc : Scope) → sc.names ≤ names → Ready tree text s sc → Ready tree text s' sc
  ready-stays text sc h r = record { keyed = keyed_stays text r.keyed; scoped = scoped_stays sc h r.scoped }

  pub operand-kept : (j : ℕ) → j < operands → j < records tree → operand_at s' (records tree) j ≡ operand_at s (records tree) j
  unfolding operand_at
  operand-kept j h i =
      let p : ℕ = stack_entry_at (records tree) j in
      rw (
        stack-word p (omega arith) (omega arith) (omega arith),
        stack-word (p + 4) (omega arith) (omega arith) (omega arith),
        stack-word (p + 8) (omega arith) (omega arith) (omega arith),
        stack-word (p + 12) (omega arith) (omega arith) (omega arith),
      )

  pub stack-kept : (count j : ℕ) → j + count ≤ operands → j + count ≤ records tree → stack_at s' (records tree) j count ≡ stack_at s (records tree) j count
  unfolding stack_at
  stack-kept zero j h i = refl
  stack-kept (suc count) j h i = rw (operand-kept j (omega arith) (omega arith), stack-kept count (suc j) (omega arith) (omega arith))

-- a record of the tree is one of those that the tables count
pub record_counted : {tree text l s : List ℕ} {c : Converter} {kind r n : ℕ} → Converting tree text l s c → IsKind tree kind r → n ≡ c.counters.records → r < n
record_counted p x e = omega (arith, x.below, p.records_are, e)

-- ---- the innermost loop

-- a loop's record, and what stands for none
pub loop-within : (tree : List ℕ) (w : ℕ) → w < records tree → LoopIn tree w
unfolding loop_number pick
loop-within tree w h r = go (eqb w Words.none)
  where
    go : (b : Bool) → pick b none (some w) ≡ some r → r < records tree
    go true e = let z : ◌≡◌ {A = ℕ} 0 1 = cc in absurd (omega arith)
    go false e = let z : w ≡ r = cc in omega arith

pub loop-outside : (tree : List ℕ) (w : ℕ) → w ≡ Words.none → LoopIn tree w
unfolding loop_number pick
loop-outside tree w e r q =
    let y : ◌≡◌ {A = Option ℕ} none (some r) = sym (ap loop_number e) ∙ q in
    let z : ◌≡◌ {A = ℕ} 0 1 = cc in absurd (omega arith)

-- ---- further on in the tables, with what stays

pub converting_next : {A : Type 0} {tree text l s l' s' : List ℕ} {c : Converter} {k : Counters} {m : M A} {a : A}
    → Converting tree text l s c → NextIn (texts_of tree text) m c.counters l a k l' → StaysFor tree c s s' → Converting tree text l' s' (with_counters c k)
converting_next {tree = tree} {text = text} {c = c} p q f = record {
  ready = ready-stays tree f text c.scope (omega arith) p.ready;
  function = p.function;
  loop = p.loop;
  records_are = q.records ∙ p.records_are;
  room = q.room;
}

-- what writes slots of types alone, and no table
pub converting_frame : {tree text l s s' : List ℕ} {c : Converter} → Converting tree text l s c → Frame tree s s' → Converting tree text l s' c
converting_frame {tree = tree} {text = text} {s = s} {s' = s'} {c = c} p f = record {
  ready = ready-frame tree s s' f text c.scope p.ready;
  function = p.function;
  loop = p.loop;
  records_are = p.records_are;
  room = p.room;
}
