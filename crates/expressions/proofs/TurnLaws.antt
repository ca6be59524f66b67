-- What a turn remembers: nothing typed, one list of records typed after another, a type that was remembered, and a visit.
-- By the words of scratch that a visit writes, and by sums over all records. Assumes nothing.
use Rattle.std.specs.Prelude.{Ok}
use Rattle.expressions.specs.Answers.{OrRefused}
use mathlib.Core.Path.{◌≡◌, refl, sym, ap, ◌∙◌, subst}
use mathlib.Core.Logic.{◌⊎◌, inl, inr}
use mathlib.Core.Bool.{Bool, true, false, ◌||◌}
use mathlib.Core.List.{List, [], ◌++◌}
use Prim.Native.Nat.{ℕ, zero, suc, ◌+◌, ◌*◌, ◌^◌, ◌≤◌, ◌<◌}
use native.Mathlib.Omega.{arith}
use lib.Dec.{eqb, ltb}
use lib.ListN.{length}
use borrow.Author.Tests.{eq-eqb, ne_eqb, eqb-true, eqb-false, ltb-true, ltb-false}
use Rattle.laws.specs.Fix.{pick}
use Rattle.laws.specs.Below.{sum_below}
use Rattle.laws.specs.Splice.{splice}
use Rattle.laws.specs.Different.{has}
use Rattle.laws.proofs.Tests.{tested}
use Rattle.laws.proofs.Sums.{sum-le, sum_same, sum_one}
use Rattle.laws.proofs.DifferentLaws.{or_assoc, has-append}
use Rattle.records.specs.Words.{word_at, records}
use Rattle.records.specs.Good.{Good}
use Rattle.conversion.specs.ConvertError.{ok}
use Rattle.conversion.specs.Scope as Def
use Rattle.conversion.specs.Written.{word}
use Rattle.syntax.specs.Exprs.{exprs, parts_exprs}
use Rattle.syntax.specs.Places.{IsExpr, TypeAt, expr_at}
use Rattle.scope.specs.declared.Scope.{Scope}
use Rattle.scope.specs.Open.{scope_at}
use Rattle.expressions.specs.Slots.{slot_at, turn_at, visits_at, beside_at, in_turn, made, after_visit, Frame, type_in, Beside, RightAt, Remembers, Typed, Typing}
use Rattle.expressions.specs.Answers.{type_result, TypeMeets}
use Rattle.expressions.proofs.SlotLaws.{put_long, put_byte, put_other, put_here, scope-frame, ready-frame}
use Rattle.expressions.proofs.PartLaws.{expr-low, expr-behind, own-exprs, own-apart}

-- ---- tests and sums

or-true : (b : Bool) → (b || true) ≡ true
or-true true = refl
or-true false = refl

or_false : (b : Bool) → (b || false) ≡ b
or_false true = refl
or_false false = refl

abbrev count : (ℕ → Bool) → ℕ → ℕ
count f i = pick (f i) 1 0

-- numbers that pass no test of f other than g's are counted alike
count_same : (n : ℕ) (f g : ℕ → Bool) → ((r : ℕ) → r < n → f r ≡ g r) → sum_below n (count f) ≡ sum_below n (count g)
count_same n f g h = sum_same n (count f) (count g) (λ r l. ap (λ (b : Bool). pick b 1 0) (h r l))

-- where g passes one number more than f, it counts one more
count-more : (n e : ℕ) (f g : ℕ → Bool) → e < n → f e ≡ false → g e ≡ true → ((r : ℕ) → r < n → (r ≡ e → ⊥) → g r ≡ f r)
    → sum_below n (count g) ≡ sum_below n (count f) + 1
unfolding sum_below pick
count-more zero e f g h a b c = absurd (omega arith)
count-more (suc n) e f g h a b c =
    tested (ltb e n) (λ q. before (ltb-true e n q) (count-more n e f g (ltb-true e n q) a b (λ r l. c r (omega arith)))) (λ q. here (omega (arith, ltb-false e n q)))
  where
    before : e < n → sum_below n (count g) ≡ sum_below n (count f) + 1 → sum_below n (count g) + count g n ≡ sum_below n (count f) + count f n + 1
    before l z = rw (c n (omega arith) (λ q. omega arith)) (omega arith)

    here : n ≡ e → sum_below n (count g) + count g n ≡ sum_below n (count f) + count f n + 1
    here q =
        let gn : g n ≡ true = ap g q ∙ b in
        let fn : f n ≡ false = ap f q ∙ a in
        rw (gn, fn) (omega (arith, count_same n g f (λ r l. c r (omega arith) (λ z. omega arith))))

one-most : (b : Bool) → pick b 1 0 ≤ 1
unfolding pick
one-most true = omega arith
one-most false = omega arith

count_most : (n : ℕ) (f : ℕ → Bool) → sum_below n (count f) ≤ n
count_most n f = omega (arith, sum-le n (count f) (λ i. 1) (λ i l. one-most (f i)), sum_one n)

-- where one number is not counted, there is room for one more
count_room : (n e : ℕ) (f : ℕ → Bool) → e < n → f e ≡ false → sum_below n (count f) + 1 ≤ n
count_room n e f h a =
    omega (arith, count_most n with_one, count-more n e f with_one h a (rw (a, eq-eqb e e refl)) (λ r l q. rw (ne_eqb r e q) (or_false (f r))))
  where
    with_one : ℕ → Bool
    with_one r = f r || eqb r e

-- ---- a visit

side : (d e : ℕ) → (d ≡ e → ⊥) → (d < e) ⊎ (e < d)
side d e n = tested (ltb d e) (λ q. inl (ltb-true d e q)) (λ q. inr (omega (arith, ltb-false d e q, n)))

module _ (tree s : List ℕ) (turn e y b : ℕ) (low : e < records tree) (room : 72 * records tree ≤ length s) where
  abbrev slot_place : ℕ
  slot_place = 4 * records tree + 4 * e

  abbrev turn_place : ℕ
  turn_place = 64 * records tree + 4 * e

  abbrev beside_place : ℕ
  beside_place = 68 * records tree + 4 * e

  abbrev s₁ : List ℕ
  s₁ = splice s slot_place (word y)

  abbrev s₂ : List ℕ
  s₂ = splice s₁ turn_place (word turn)

  abbrev s₃ : List ℕ
  s₃ = splice s₂ beside_place (word b)

  room₀ : slot_place + 4 ≤ length s
  room₀ = omega arith

  room₁ : turn_place + 4 ≤ length s₁
  room₁ = rw (put_long s slot_place y room₀) (omega arith)

  long₂ : length s₂ ≡ length s
  long₂ = put_long s₁ turn_place turn room₁ ∙ put_long s slot_place y room₀

  room₂ : beside_place + 4 ≤ length s₂
  room₂ = rw long₂ (omega arith)

  long₃ : length s₃ ≡ length s
  long₃ = put_long s₂ beside_place b room₂ ∙ long₂

  room₃ : 68 * records tree + 4 ≤ length s₃
  room₃ = rw long₃ (omega arith)

  pub visited-frame : Frame tree s (after_visit tree turn e y b s)
  unfolding after_visit
  visited-frame = record {
    same_length = put_long s₃ (68 * records tree) (visits_at tree s + 1) room₃ ∙ long₃;
    outside = λ i h.
        put_byte s₃ (68 * records tree) (visits_at tree s + 1) room₃ i (inl (omega (arith, behind i h)))
        ∙ put_byte s₂ beside_place b room₂ i (inl (omega (arith, behind i h)))
        ∙ put_byte s₁ turn_place turn room₁ i (inl (omega (arith, behind i h)))
        ∙ put_byte s slot_place y room₀ i (away i h);
  }
    where
      behind : (i : ℕ) → (i < 4 * records tree) ⊎ ((8 * records tree ≤ i) × (i < 64 * records tree)) → i < 64 * records tree
      behind i (inl h) = omega arith
      behind i (inr h) = h.1

      away : (i : ℕ) → (i < 4 * records tree) ⊎ ((8 * records tree ≤ i) × (i < 64 * records tree)) → (i < slot_place) ⊎ (slot_place + 4 ≤ i)
      away i (inl h) = inl (omega arith)
      away i (inr h) = inr (omega (arith, h.0))

  -- a word before the count's region, and one before the turns
  in_turns : (q : ℕ) → q + 4 ≤ 68 * records tree → word_at (after_visit tree turn e y b s) q ≡ word_at s₂ q
  unfolding after_visit
  in_turns q h =
      put_other s₃ (68 * records tree) (visits_at tree s + 1) room₃ q (inl (omega arith))
      ∙ put_other s₂ beside_place b room₂ q (inl (omega arith))

  in_slots : (q : ℕ) → q + 4 ≤ 64 * records tree → word_at (after_visit tree turn e y b s) q ≡ word_at s₁ q
  in_slots q h = in_turns q (omega arith) ∙ put_other s₁ turn_place turn room₁ q (inl (omega arith))

  pub visited-slot : y < 2 ^ 32 → slot_at tree (after_visit tree turn e y b s) e ≡ y
  unfolding slot_at
  visited-slot h = in_slots slot_place (omega arith) ∙ put_here s slot_place y room₀ h

  pub visited-turn : turn < 2 ^ 32 → turn_at tree (after_visit tree turn e y b s) e ≡ turn
  unfolding turn_at
  visited-turn h = in_turns turn_place (omega arith) ∙ put_here s₁ turn_place turn room₁ h

  -- the count has record 0's slot
  pub visited-beside : 0 < e → b < 2 ^ 32 → beside_at tree (after_visit tree turn e y b s) e ≡ b
  unfolding beside_at after_visit
  visited-beside g h =
      put_other s₃ (68 * records tree) (visits_at tree s + 1) room₃ beside_place (inr (omega arith))
      ∙ put_here s₂ beside_place b room₂ h

  pub visited-visits : visits_at tree s + 1 < 2 ^ 32 → visits_at tree (after_visit tree turn e y b s) ≡ visits_at tree s + 1
  unfolding after_visit visits_at
  visited-visits h = put_here s₃ (68 * records tree) (visits_at tree s + 1) room₃ h

  module _ (d : ℕ) (inside : d < records tree) (apart : d ≡ e → ⊥) where
    pub other-slot : slot_at tree (after_visit tree turn e y b s) d ≡ slot_at tree s d
    unfolding slot_at
    other-slot = in_slots (4 * records tree + 4 * d) (omega arith) ∙ put_other s slot_place y room₀ (4 * records tree + 4 * d) (away (side d e apart))
      where
        away : (d < e) ⊎ (e < d) → (4 * records tree + 4 * d + 4 ≤ slot_place) ⊎ (slot_place + 4 ≤ 4 * records tree + 4 * d)
        away (inl h) = inl (omega arith)
        away (inr h) = inr (omega arith)

    pub other-turn : turn_at tree (after_visit tree turn e y b s) d ≡ turn_at tree s d
    unfolding turn_at
    other-turn =
        in_turns (64 * records tree + 4 * d) (omega arith)
        ∙ put_other s₁ turn_place turn room₁ (64 * records tree + 4 * d) (away (side d e apart))
        ∙ put_other s slot_place y room₀ (64 * records tree + 4 * d) (inr (omega arith))
      where
        away : (d < e) ⊎ (e < d) → (64 * records tree + 4 * d + 4 ≤ turn_place) ⊎ (turn_place + 4 ≤ 64 * records tree + 4 * d)
        away (inl h) = inl (omega arith)
        away (inr h) = inr (omega arith)

    pub other-beside : 0 < d → beside_at tree (after_visit tree turn e y b s) d ≡ beside_at tree s d
    unfolding beside_at after_visit
    other-beside g =
        put_other s₃ (68 * records tree) (visits_at tree s + 1) room₃ (68 * records tree + 4 * d) (inr (omega arith))
        ∙ put_other s₂ beside_place b room₂ (68 * records tree + 4 * d) (away (side d e apart))
        ∙ put_other s₁ turn_place turn room₁ (68 * records tree + 4 * d) (inr (omega arith))
        ∙ put_other s slot_place y room₀ (68 * records tree + 4 * d) (inr (omega arith))
      where
        away : (d < e) ⊎ (e < d) → (68 * records tree + 4 * d + 4 ≤ beside_place) ⊎ (beside_place + 4 ≤ 68 * records tree + 4 * d)
        away (inl h) = inl (omega arith)
        away (inr h) = inr (omega arith)

-- the four words one after the other
pub visit_is : (tree s : List ℕ) (turn e y b v : ℕ) → v ≡ visits_at tree s → (s₁ s₂ s₃ s₄ : List ℕ) → s₁ ≡ splice s (4 * records tree + 4 * e) (word y)
    → s₂ ≡ splice s₁ (64 * records tree + 4 * e) (word turn) → s₃ ≡ splice s₂ (68 * records tree + 4 * e) (word b)
    → s₄ ≡ splice s₃ (68 * records tree) (word (v + 1)) → s₄ ≡ after_visit tree turn e y b s
unfolding after_visit
visit_is tree s turn e y b v ev s₁ s₂ s₃ s₄ e₁ e₂ e₃ e₄ = rw (e₄, e₃, e₂, e₁, ev)

-- what stands at the slot of an expression and beside it, once it is known to be right
pub right_moved : (tree text : List ℕ) (S : Def.Scope) (s : List ℕ) (e y b : ℕ) → IsExpr tree e → slot_at tree s e ≡ y → beside_at tree s e ≡ b → type_in tree text S e ≡ ok y
    → TypeAt tree y → Beside tree text S e b → RightAt tree text S s e
right_moved tree text S s e y b x q p is at held = record {
  expression = x;
  is = is ∙ ap (λ (z : ℕ). ok z) (sym q);
  type = subst (λ (z : ℕ). TypeAt tree z) (sym q) at;
  beside = subst (Beside tree text S e) (sym p) held;
}

-- ---- what was typed

module _ (tree text : List ℕ) (S : Def.Scope) (turn : ℕ) where
  in_turn_lem : (s : List ℕ) (r : ℕ) → turn_at tree s r ≡ turn → in_turn tree turn s r ≡ true
  unfolding in_turn
  in_turn_lem s r q = eq-eqb (turn_at tree s r) turn q

  turn_in : (s : List ℕ) (r : ℕ) → in_turn tree turn s r ≡ true → turn_at tree s r ≡ turn
  unfolding in_turn
  turn_in s r q = eqb-true (turn_at tree s r) turn q

  -- nothing, and one list after another
  pub typed-none : (s : List ℕ) → Remembers tree text S turn s → Typed tree text S turn s [] s
  unfolding has
  typed-none s m = record { remembers = m; adds = λ r h. sym (or_false (in_turn tree turn s r)); counts = refl }

  pub typed-both : (s s₁ s₂ a b : List ℕ) → Typed tree text S turn s a s₁ → Typed tree text S turn s₁ b s₂ → Typed tree text S turn s (a ++ b) s₂
  typed-both s s₁ s₂ a b f g = record {
    remembers = g.remembers;
    adds = λ r h. g.adds r h ∙ rw (f.adds r h, has-append r a b) (sym (or_assoc (in_turn tree turn s r) (has r a) (has r b)));
    counts = omega (arith, f.counts, g.counts);
  }

  -- a list with the same members
  pub typed-same : (s s₁ a b : List ℕ) → ((r : ℕ) → r < records tree → has r a ≡ has r b) → Typed tree text S turn s a s₁ → Typed tree text S turn s b s₁
  typed-same s s₁ a b same f = record {
    remembers = f.remembers;
    adds = λ r h. f.adds r h ∙ ap (λ (z : Bool). in_turn tree turn s r || z) (same r h);
    counts = f.counts;
  }

  -- the type of a record that was typed stands at its slot
  module _ (s l s₁ : List ℕ) (t : Typed tree text S turn s l s₁) (r : ℕ) (h : r < records tree) where
    typed_in : has r l ≡ true → turn_at tree s₁ r ≡ turn
    typed_in q = turn_in s₁ r (t.adds r h ∙ rw q (or-true (in_turn tree turn s r)))

    pub typed-right : has r l ≡ true → RightAt tree text S s₁ r
    typed-right q = t.remembers.right r h (typed_in q)

  -- a type that the turn remembers: its parts are remembered too
  module _ (s : List ℕ) (m : Remembers tree text S turn s) (e : ℕ) (h : e < records tree) (q : in_turn tree turn s e ≡ true) where
    pub hit_right : RightAt tree text S s e
    hit_right = m.right e h (turn_in s e q)

    hit_some : (l : List ℕ) → ((r : ℕ) → has r l ≡ true → has r (exprs (expr_at tree text e)) ≡ true) → Typed tree text S turn s l s
    hit_some l some = record {
      remembers = m;
      adds = λ r i. tested (has r l)
          (λ z. rw (z, in_turn_lem s r (m.below e h (turn_in s e q) r i (some r z))))
          (λ z. rw z (sym (or_false (in_turn tree turn s r))));
      counts = refl;
    }

    pub hit_typed : Typed tree text S turn s (exprs (expr_at tree text e)) s
    hit_typed = hit_some (exprs (expr_at tree text e)) (λ r z. z)

    pub hit_parts : Good tree text → IsExpr tree e → Typed tree text S turn s (parts_exprs (expr_at tree text e)) s
    unfolding has
    hit_parts good x = hit_some (parts_exprs (expr_at tree text e)) (λ r z. rw (own-exprs tree text good e x, z) (or-true (eqb r e)))

  -- a visit, once the parts are typed
  module _ (good : Good tree text) (s s₁ : List ℕ) (e : ℕ) (x : IsExpr tree e) (room : 72 * records tree ≤ length s₁)
      (new : in_turn tree turn s e ≡ false) (t : Typed tree text S turn s (parts_exprs (expr_at tree text e)) s₁) where
    low : e < records tree
    low = expr-low tree text good e x

    not_yet : in_turn tree turn s₁ e ≡ false
    not_yet = t.adds e low ∙ rw (new, own-apart tree text good e x)

    pub visit_fits : visits_at tree s₁ + 1 < 4294967296
    unfolding made
    visit_fits = omega (arith, t.remembers.countable, count_room (records tree) e (in_turn tree turn s₁) low not_yet)

    module _ (y b : ℕ) (fit : turn < 4294967296) (is : type_in tree text S e ≡ ok y) (at : TypeAt tree y) (held : (b < 4294967296) × Beside tree text S e b) where
      abbrev after : List ℕ
      after = after_visit tree turn e y b s₁

      here-slot : slot_at tree after e ≡ y
      here-slot = visited-slot tree s₁ turn e y b low room (omega (arith, at.below, good.few))

      here-turn : turn_at tree after e ≡ turn
      here-turn = visited-turn tree s₁ turn e y b low room fit

      here-beside : beside_at tree after e ≡ b
      here-beside = visited-beside tree s₁ turn e y b low room (expr-behind tree text good e x) held.0

      slot-other : (r : ℕ) → r < records tree → (r ≡ e → ⊥) → slot_at tree after r ≡ slot_at tree s₁ r
      slot-other = other-slot tree s₁ turn e y b low room

      turn-other : (r : ℕ) → r < records tree → (r ≡ e → ⊥) → turn_at tree after r ≡ turn_at tree s₁ r
      turn-other = other-turn tree s₁ turn e y b low room

      in_other : (r : ℕ) → r < records tree → (r ≡ e → ⊥) → in_turn tree turn after r ≡ in_turn tree turn s₁ r
      unfolding in_turn
      in_other r h n = rw (turn-other r h n)

      one_more : made tree turn after ≡ made tree turn s₁ + 1
      unfolding made
      one_more = count-more (records tree) e (in_turn tree turn s₁) (in_turn tree turn after) low not_yet (in_turn_lem after e here-turn) in_other

      one_visit : visits_at tree after ≡ visits_at tree s₁ + 1
      one_visit = visited-visits tree s₁ turn e y b low room visit_fits

      by : {P : Type 0} (r : ℕ) → (r ≡ e → P) → ((r ≡ e → ⊥) → P) → P
      by r same other = tested (eqb r e) (λ q. same (eqb-true r e q)) (λ q. other (eqb-false r e q))

      -- what was in the turn stays in it
      stays : (r : ℕ) → r < records tree → turn_at tree s₁ r ≡ turn → turn_at tree after r ≡ turn
      stays r h q = by r (λ z. ap (turn_at tree after) z ∙ here-turn) (λ n. turn-other r h n ∙ q)

      right-here : RightAt tree text S after e
      right-here = right_moved tree text S after e y b x here-slot here-beside is at held.1

      right-other : (r : ℕ) → r < records tree → (r ≡ e → ⊥) → RightAt tree text S s₁ r → RightAt tree text S after r
      right-other r h n g = right_moved tree text S after r (slot_at tree s₁ r) (beside_at tree s₁ r) g.expression (slot-other r h n)
          (other-beside tree s₁ turn e y b low room r h n (expr-behind tree text good r g.expression)) g.is g.type g.beside

      part_in : (r : ℕ) → r < records tree → has r (parts_exprs (expr_at tree text e)) ≡ true → turn_at tree after r ≡ turn
      part_in r h q = stays r h (typed_in s (parts_exprs (expr_at tree text e)) s₁ t r h q)

      below-here : (r : ℕ) → r < records tree → has r (exprs (expr_at tree text e)) ≡ true → turn_at tree after r ≡ turn
      unfolding has
      below-here r h q = by r (λ z. ap (turn_at tree after) z ∙ here-turn)
          (λ n. part_in r h (rw (own-exprs tree text good e x, ne_eqb r e n) at q))

      visit_remembers : Remembers tree text S turn after
      visit_remembers = record {
        right = λ d h q. by d (λ z. subst (RightAt tree text S after) (sym z) right-here)
            (λ n. right-other d h n (t.remembers.right d h (sym (turn-other d h n) ∙ q)));
        below = λ d h q r l k. by d (λ z. below-here r l (rw (← z) k))
            (λ n. stays r l (t.remembers.below d h (sym (turn-other d h n) ∙ q) r l k));
        latest = λ d h. by d (λ z. omega (arith, ap (turn_at tree after) z, here-turn)) (λ n. omega (arith, turn-other d h n, t.remembers.latest d h));
        countable = omega (arith, t.remembers.countable, one_more, one_visit);
      }

      pub visit_typed : Typed tree text S turn s (exprs (expr_at tree text e)) after
      unfolding has
      visit_typed = record {
        remembers = visit_remembers;
        adds = λ r h. by r (λ z. rw (z, in_turn_lem after e here-turn, own-exprs tree text good e x, eq-eqb e e refl) (sym (or-true (in_turn tree turn s e))))
            (λ n. in_other r h n ∙ t.adds r h ∙ rw (own-exprs tree text good e x, ne_eqb r e n));
        counts = omega (arith, t.counts, one_more, one_visit);
      }

-- ---- in the scope of the open names

module _ (tree text s : List ℕ) (sc : Scope) (turn : ℕ) (k : Typing tree text s sc turn) (s₁ : List ℕ) (f : Frame tree s s₁) where
  -- the scope is still the one from before
  pub same-scope : scope_at tree text s₁ sc ≡ scope_at tree text s sc
  same-scope = scope-frame tree s s₁ f text sc k.ready.scoped

  pub typing_next : (l : List ℕ) → Typed tree text (scope_at tree text s sc) turn s l s₁ → Typing tree text s₁ sc turn
  typing_next l t = record {
    ready = ready-frame tree s s₁ f text sc k.ready;
    remembers = subst (λ (S : Def.Scope). Remembers tree text S turn s₁) (sym same-scope) t.remembers;
  }

  -- so what typing owes after an earlier typing it owes in the scope before that
  module _ (e : ℕ) (a : OrRefused ℕ) (s₂ : List ℕ) (m : TypeMeets tree text s₁ sc turn e a s₂) where
    pub later_type : type_in tree text (scope_at tree text s sc) e ≡ type_result a
    later_type = rw (← same-scope) m.meets

    pub later_adds : (y : ℕ) → a ≡ Ok y → Typed tree text (scope_at tree text s sc) turn s₁ (exprs (expr_at tree text e)) s₂
    later_adds y q = rw (← same-scope) (m.adds y q)
