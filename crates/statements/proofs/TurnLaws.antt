-- Turns over statements: what was typed part by part in one turn, a turn that begins, one that is over, and visits one after the other.
-- By the bytes that stay, the laws of what a turn remembers, and sums. Assumes nothing.
use mathlib.Core.Path.{◌≡◌, refl, sym, ap, ◌∙◌, subst}
use mathlib.Core.Logic.{inl, inr}
use mathlib.Core.Bool.{Bool, true, false, ◌||◌}
use mathlib.Core.List.{List, [], ◌++◌, append-nil}
use Prim.Native.Nat.{ℕ, suc, ◌+◌, ◌*◌, ◌≤◌, ◌<◌}
use native.Mathlib.Omega.{arith}
use native.Mathlib.Nat.{mul_comm, mul-le-mul_left}
use lib.ListN.{length, get_or}
use borrow.Author.Tests.{ne_eqb}
use Rattle.laws.specs.Fix.{pick}
use Rattle.laws.specs.Splice.{splice}
use Rattle.laws.specs.Different.{has, different}
use Rattle.laws.proofs.Sums.{sum_same, sum-zero}
use Rattle.laws.proofs.DifferentLaws.{different-most}
use Rattle.records.specs.Words.{byte_at, word_at, records, most_records}
use Rattle.records.proofs.Apart.{byte-apart, word_same}
use Rattle.conversion.specs.Scope as Def
use Rattle.ir.specs.declared.structs.Counters.{Counters}
use Rattle.scope.specs.Open.{scope_at}
use Rattle.expressions.specs.Slots.{slot_at, turn_at, visits_at, beside_at, in_turn, made, RightAt, Remembers, Typed}
use Rattle.expressions.proofs.TurnLaws.{right_moved, typed-both}
use Rattle.statements.specs.Lent.{Converter}
use Rattle.statements.specs.Turns.{Turns, Visited, Fresh, InTurn, TypedIn, TurnsStay}

-- ---- nothing typed

pub turns_refl : (tree s : List ℕ) → TurnsStay tree s s
turns_refl tree s = record { slots = λ i a b. refl; behind = λ i a. refl }

pub turns_then : {tree s s₁ s₂ : List ℕ} → TurnsStay tree s s₁ → TurnsStay tree s₁ s₂ → TurnsStay tree s s₂
turns_then f g = record { slots = λ i a b. g.slots i a b ∙ f.slots i a b; behind = λ i a. g.behind i a ∙ f.behind i a }

-- an entry of sixteen bytes among the names or the operands
pub turns-entry : (tree s s' vs : List ℕ) (i : ℕ) → s' ≡ splice s i vs → length vs ≡ 16 → 8 * records tree ≤ i → i + 16 ≤ 64 * records tree → i + 16 ≤ length s
    → TurnsStay tree s s'
unfolding byte_at
turns-entry tree s s' vs i e long low high room = record {
  slots = λ j a b. ap (λ (x : List ℕ). get_or x j 0) e ∙ byte-apart s i vs (omega arith) j (inl (omega arith));
  behind = λ j a. ap (λ (x : List ℕ). get_or x j 0) e ∙ byte-apart s i vs (omega arith) j (inr (omega arith));
}

module _ {tree s s' : List ℕ} (f : TurnsStay tree s s') where
  same_word : (p : ℕ) → ((j q : ℕ) → q ≡ p + j → j < 4 → byte_at s' q ≡ byte_at s q) → word_at s' p ≡ word_at s p
  unfolding byte_at
  same_word p at = word_same s' p s p
      (at 0 p (omega arith) (omega arith))
      (at 1 (p + 1) refl (omega arith))
      (at 2 (p + 2) refl (omega arith))
      (at 3 (p + 3) refl (omega arith))

  slot-stays : (e : ℕ) → e < records tree → slot_at tree s' e ≡ slot_at tree s e
  unfolding slot_at
  slot-stays e h = same_word (4 * records tree + 4 * e) (λ j q p k. f.slots q (omega arith) (omega arith))

  turn-stays : (e : ℕ) → e < records tree → turn_at tree s' e ≡ turn_at tree s e
  unfolding turn_at
  turn-stays e h = same_word (64 * records tree + 4 * e) (λ j q p k. f.behind q (omega arith))

  beside-stays : (e : ℕ) → e < records tree → beside_at tree s' e ≡ beside_at tree s e
  unfolding beside_at
  beside-stays e h = same_word (68 * records tree + 4 * e) (λ j q p k. f.behind q (omega arith))

  pub visits_stay : visits_at tree s' ≡ visits_at tree s
  unfolding visits_at
  visits_stay = same_word (68 * records tree) (λ j q p k. f.behind q (omega arith))

  in_stays : (turn r : ℕ) → r < records tree → in_turn tree turn s' r ≡ in_turn tree turn s r
  unfolding in_turn
  in_stays turn r h = rw (turn-stays r h)

  made-stays : (turn : ℕ) → made tree turn s' ≡ made tree turn s
  unfolding made
  made-stays turn = sum_same (records tree) (λ e. pick (in_turn tree turn s' e) 1 0) (λ e. pick (in_turn tree turn s e) 1 0) (λ e h. rw (in_stays turn e h))

  module _ (text : List ℕ) (S : Def.Scope) (turn : ℕ) (m : Remembers tree text S turn s) where
    right-stays : (e : ℕ) → e < records tree → RightAt tree text S s e → RightAt tree text S s' e
    right-stays e h r =
        right_moved tree text S s' e (slot_at tree s e) (beside_at tree s e) r.expression (slot-stays e h) (beside-stays e h) r.is r.type r.beside

    pub remembers_stay : Remembers tree text S turn s'
    remembers_stay = record {
      right = λ e h q. right-stays e h (m.right e h (sym (turn-stays e h) ∙ q));
      below = λ e h q r l k. turn-stays r l ∙ m.below e h (sym (turn-stays e h) ∙ q) r l k;
      latest = λ e h. omega (arith, turn-stays e h, m.latest e h);
      countable = omega (arith, m.countable, visits_stay, made-stays turn);
    }

    pub stay_typed : Typed tree text S turn s [] s'
    unfolding has
    stay_typed = record {
      remembers = remembers_stay;
      adds = λ r h. in_stays turn r h ∙ or-none (in_turn tree turn s r);
      counts = omega (arith, visits_stay, made-stays turn);
    }
      where
        or-none : (b : Bool) → b ≡ (b || false)
        or-none true = refl
        or-none false = refl

  pub turns_stay : {k : Counters} → Turns tree s k → Turns tree s' k
  turns_stay {k = k} t = record {
    latest = λ e h. omega (arith, turn-stays e h, t.latest e h);
    few = subst (λ (z : ℕ). z ≤ k.instructions * records tree) (sym visits_stay) t.few;
  }

  pub visited_stay : {k : Counters} → Turns tree s k → Visited tree s 0 k s'
  visited_stay t = record { turns = turns_stay t; visits = omega (arith, visits_stay) }

-- ---- one part of a turn after another, in the same scope

module _ {tree text s s₁ : List ℕ} (c : Converter) (same : scope_at tree text s₁ c.scope ≡ scope_at tree text s c.scope) {a : List ℕ} (t : TypedIn tree text c s a s₁) where
  pub in_turn-next : InTurn tree text s₁ c
  in_turn-next = subst (λ (S : Def.Scope). Remembers tree text S c.turn s₁) (sym same) t.remembers

  pub typed-next : {b s₂ : List ℕ} → TypedIn tree text c s₁ b s₂ → TypedIn tree text c s (a ++ b) s₂
  typed-next {b = b} {s₂ = s₂} u =
      typed-both tree text (scope_at tree text s c.scope) c.turn s s₁ s₂ a b t (subst (λ (S : Def.Scope). Typed tree text S c.turn s₁ b s₂) same u)

  -- behind which nothing is typed
  pub typed-last : {s₂ : List ℕ} → TypedIn tree text c s₁ [] s₂ → TypedIn tree text c s a s₂
  typed-last {s₂ = s₂} u = subst (λ (l : List ℕ). TypedIn tree text c s l s₂) (append-nil a) (typed-next u)

-- and then nothing
pub typed_stay : {tree text s s₁ s₂ a : List ℕ} (c : Converter) → TypedIn tree text c s a s₁ → TurnsStay tree s₁ s₂ → TypedIn tree text c s a s₂
typed_stay {tree = tree} {text = text} {s = s} {s₁ = s₁} {s₂ = s₂} {a = a} c t f =
    let S : Def.Scope = scope_at tree text s c.scope in
    subst (λ (l : List ℕ). Typed tree text S c.turn s l s₂) (append-nil a)
    (typed-both tree text S c.turn s s₁ s₂ a [] t (stay_typed f text S c.turn t.remembers))

-- ---- a turn begins

more_times : (a b n : ℕ) → a ≤ b → a * n ≤ b * n
more_times a b n h = rw (mul_comm a n, mul_comm b n) (mul-le-mul_left n h)

pub fresh_begins : {tree s : List ℕ} (k : Counters) (c : Converter) → Turns tree s k → c.counters.instructions ≡ suc k.instructions → c.turn ≡ c.counters.instructions → Fresh tree s c
fresh_begins {tree = tree} k c t e q = record {
  begun = omega (arith, q);
  earlier = λ r h. omega (arith, t.latest r h, e, q);
  few = rw (q ∙ e) (omega (arith, t.few));
}

module _ {tree s : List ℕ} {c : Converter} (f : Fresh tree s c) where
  none_in : (r : ℕ) → r < records tree → in_turn tree c.turn s r ≡ false
  unfolding in_turn
  none_in r h = ne_eqb (turn_at tree s r) c.turn (λ q. omega (arith, q, f.earlier r h))

  none_made : made tree c.turn s ≡ 0
  unfolding made
  none_made =
      sum_same (records tree) (λ e. pick (in_turn tree c.turn s e) 1 0) (λ e. 0) (λ e h. rw (none_in e h))
      ∙ sum-zero (records tree)

  -- nothing was typed in it, so all of it is right
  pub fresh_in_turn : (text : List ℕ) → records tree ≤ most_records → c.turn ≤ 4 * records tree → InTurn tree text s c
  fresh_in_turn text few most = record {
    right = λ e h q. absurd (omega (arith, q, f.earlier e h));
    below = λ e h q. absurd (omega (arith, q, f.earlier e h));
    latest = λ e h. omega (arith, f.earlier e h);
    countable = omega (arith, few, f.few, none_made, more_times c.turn (4 * most_records) (records tree) (omega (arith, few, most)));
  }

  -- a turn is over
  module _ {text : List ℕ} {l s' : List ℕ} (t : TypedIn tree text c s l s') where
    all_made : made tree c.turn s' ≡ different (records tree) l
    unfolding made different
    all_made = sum_same (records tree) (λ e. pick (in_turn tree c.turn s' e) 1 0) (λ e. pick (has e l) 1 0) (λ e h. rw (t.adds e h, none_in e h))

    visits-made : visits_at tree s' ≡ visits_at tree s + different (records tree) l
    visits-made = omega (arith, t.counts, none_made, all_made)

    pub turn-over : {k : Counters} → c.turn ≤ k.instructions → Visited tree s (different (records tree) l) k s'
    turn-over {k = k} h = record {
      turns = record {
        latest = λ e low. omega (arith, t.remembers.latest e low, h);
        few = omega (arith, visits-made, f.few, different-most (records tree) l, more_times c.turn k.instructions (records tree) h);
      };
      visits = visits-made;
    }

-- ---- visits one after the other

pub turns_later : {tree s : List ℕ} (k k' : Counters) → k.instructions ≤ k'.instructions → Turns tree s k → Turns tree s k'
turns_later {tree = tree} k k' h t = record {
  latest = λ e low. omega (arith, t.latest e low, h);
  few = omega (arith, t.few, more_times k.instructions k'.instructions (records tree) h);
}

pub visited_later : {tree s s' : List ℕ} {v : ℕ} (k k' : Counters) → k.instructions ≤ k'.instructions → Visited tree s v k s' → Visited tree s v k' s'
visited_later k k' h t = record { turns = turns_later k k' h t.turns; visits = t.visits }

pub visited-next : {tree s s₁ s₂ : List ℕ} {v w : ℕ} {k k₂ : Counters} → Visited tree s v k s₁ → Visited tree s₁ w k₂ s₂ → Visited tree s (v + w) k₂ s₂
visited-next p q = record { turns = q.turns; visits = omega (arith, p.visits, q.visits) }
