-- Laws of `position`, and of what a search answers: what is found is in the list, and is the only one that can be found; and how the code tells a label.
-- By recursion over the list. Assumes nothing.
use mathlib.Core.Path.{◌≡◌, refl, sym, ap, ◌∙◌, subst}
use mathlib.Core.Bool.{Bool, true, false, ◌&&◌, false≢true}
use mathlib.Core.List.{List, [], ◌∷◌, ◌++◌}
use mathlib.Core.Option.{Option, none, some}
use Prim.Native.Nat.{ℕ, zero, suc, ◌+◌, ◌-◌, ◌*◌, ◌≤◌, ◌<◌}
use native.Mathlib.Omega.{arith}
use lib.ListN.{length, get_or, length-append, get_or-append}
use lib.Seq.{get_or-append-add}
use borrow.Author.Count.{below_more}
use borrow.Author.Tests.{lt-ltb, le-ltb}
use Rattle.conversion.specs.Ir.{position}
use Rattle.std.specs.Prelude.{Option as StdOption, Some, None}
use Rattle.ir.specs.declared.structs.Counters.{Counters}
use Rattle.ir.specs.Search.{found_of, label_words_at, label_is}

-- the position, by the first element
position-by : {X : Type 0} (p : X → Bool) (x : X) (xs : List X) (b : Bool) → p x ≡ b
    → position p (x ∷ xs) ≡ elim b [ true ↦ some 0 | false ↦ elim (position p xs) [ none ↦ none | some j ↦ some (suc j) ] ]
unfolding position
position-by p x xs b q = ap (λ (z : Bool). elim z [ true ↦ some 0 | false ↦ elim (position p xs) [ none ↦ none | some j ↦ some (suc j) ] ]) q

-- a property of each entry and its number, and of one more
pub numbered_more : {X : Type 0} (d : X) (xs : List X) (x : X) (P : X → ℕ → Type 0) → ((j : ℕ) → j < length xs → P (get_or xs j d) j) → P x (length xs)
    → (j : ℕ) → j < length (xs ++ (x ∷ [])) → P (get_or (xs ++ (x ∷ [])) j d) j
numbered_more d xs x P p q j hj =
    let z : length xs ≡ length xs + 0 = omega arith in
    below_more (λ (i : ℕ). P (get_or (xs ++ (x ∷ [])) i d) i) (length xs)
    (λ i h. subst (λ (y : _). P y i) (sym (get_or-append xs (x ∷ []) d i h)) (p i h))
    (subst (λ (y : _). P y (length xs)) (sym (ap (λ (i : ℕ). get_or (xs ++ (x ∷ [])) i d) z ∙ get_or-append-add xs (x ∷ []) 0 d)) q)
    j (omega (arith, length-append xs (x ∷ [])))

-- what is found is in the list, and the test holds of it
pub record Hit {X : Type 0} (p : X → Bool) (d : X) (xs : List X) (i : ℕ) : Type 0 where
  pub below : i < length xs
  pub holds : p (get_or xs i d) ≡ true

later : {X : Type 0} (p : X → Bool) (d x : X) (xs : List X) (i : ℕ) (o : Option ℕ) → ((j : ℕ) → o ≡ some j → Hit p d xs j)
    → elim o [ none ↦ none | some j ↦ some (suc j) ] ≡ some i → Hit p d (x ∷ xs) i
later p d x xs i none rest e = absurd (let z : ◌≡◌ {A = ℕ} 0 1 = cc in omega arith)
later p d x xs i (some j) rest e =
    let z : suc j ≡ i = cc in
    subst (Hit p d (x ∷ xs)) z (record { below = omega (arith, (rest j refl).below); holds = (rest j refl).holds })

hit_by : {X : Type 0} (p : X → Bool) (d x : X) (xs : List X) (i : ℕ) → ((j : ℕ) → position p xs ≡ some j → Hit p d xs j) → (b : Bool) → p x ≡ b
    → position p (x ∷ xs) ≡ some i → Hit p d (x ∷ xs) i
hit_by p d x xs i rest true q e =
    let w : some 0 ≡ some i = sym (position-by p x xs true q) ∙ e in
    let z : 0 ≡ i = cc in
    subst (Hit p d (x ∷ xs)) z (record { below = omega arith; holds = q })
hit_by p d x xs i rest false q e = later p d x xs i (position p xs) rest (sym (position-by p x xs false q) ∙ e)

pub position_hit : {X : Type 0} (p : X → Bool) (d : X) (xs : List X) (i : ℕ) → position p xs ≡ some i → Hit p d xs i
unfolding position
position_hit p d [] i e = absurd (let z : ◌≡◌ {A = ℕ} 0 1 = cc in omega arith)
position_hit p d (x ∷ xs) i e = hit_by p d x xs i (position_hit p d xs) (p x) refl e

-- nothing is found where the test holds of nothing
rest-none : (o : Option ℕ) → ◌≡◌ {A = Option ℕ} (elim o [ none ↦ none | some j ↦ some (suc j) ]) none → o ≡ none
rest-none none e = refl
rest-none (some j) e = absurd (let z : ◌≡◌ {A = ℕ} 0 1 = cc in omega arith)

none-by : {X : Type 0} (p : X → Bool) (d x : X) (xs : List X) → (position p xs ≡ none → (j : ℕ) → j < length xs → p (get_or xs j d) ≡ false) → (b : Bool) → p x ≡ b
    → position p (x ∷ xs) ≡ none → (j : ℕ) → j < length (x ∷ xs) → p (get_or (x ∷ xs) j d) ≡ false
none-by p d x xs rest true q e j h =
    let w : ◌≡◌ {A = Option ℕ} (some 0) none = sym (position-by p x xs true q) ∙ e in
    absurd (let z : ◌≡◌ {A = ℕ} 0 1 = cc in omega arith)
none-by p d x xs rest false q e zero h = q
none-by p d x xs rest false q e (suc j) h = rest (rest-none (position p xs) (sym (position-by p x xs false q) ∙ e)) j (omega arith)

pub position-none : {X : Type 0} (p : X → Bool) (d : X) (xs : List X) → position p xs ≡ none → (j : ℕ) → j < length xs → p (get_or xs j d) ≡ false
position-none p d [] e j h = absurd (omega arith)
position-none p d (x ∷ xs) e j h = none-by p d x xs (position-none p d xs) (p x) refl e j h

-- the position of the only element of which the test holds; and none where it holds of none
pub position-only : {X : Type 0} (p : X → Bool) (d : X) (xs : List X) (i : ℕ) → i < length xs → p (get_or xs i d) ≡ true
    → ((j : ℕ) → j < length xs → p (get_or xs j d) ≡ true → j ≡ i) → position p xs ≡ some i
position-only p d xs i h q only = go (position p xs) refl
  where
    go : (o : Option ℕ) → position p xs ≡ o → position p xs ≡ some i
    go none e = absurd (false≢true (sym (position-none p d xs e i h) ∙ q))
    go (some j) e = let hit = position_hit p d xs j e in e ∙ ap some (only j hit.below hit.holds)

pub position_nowhere : {X : Type 0} (p : X → Bool) (d : X) (xs : List X) → ((j : ℕ) → j < length xs → p (get_or xs j d) ≡ true → ⊥) → position p xs ≡ none
position_nowhere p d xs never = go (position p xs) refl
  where
    go : (o : Option ℕ) → position p xs ≡ o → position p xs ≡ none
    go none e = e
    go (some j) e = let hit = position_hit p d xs j e in absurd (never j hit.below hit.holds)

-- the answer at a hit, and at none
pub found_some : (o : Option ℕ) (r : ℕ) (a : StdOption ℕ) → a ≡ found_of o → a ≡ Some r → o ≡ some r
found_some none r a e q = absurd (let z : ◌≡◌ {A = ℕ} 0 1 = cc in omega arith)
found_some (some j) r a e q = let z : j ≡ r = cc in ap some z

pub found_none : (o : Option ℕ) (a : StdOption ℕ) → a ≡ found_of o → a ≡ None → o ≡ none
found_none none a e q = refl
found_none (some j) a e q = absurd (let z : ◌≡◌ {A = ℕ} 0 1 = cc in omega arith)

-- ---- a label by its number

module _ (l : List ℕ) (k : Counters) (kind opener j i : ℕ) (e : i ≡ j) where
  pub label_beyond : k.labels - k.labels_before ≤ i → false ≡ label_is l k kind opener j
  unfolding label_is
  label_beyond h =
      ap (λ (b : Bool). b && label_words_at l (140 * k.records + 8 * k.labels_before) kind opener j) (sym (le-ltb j (k.labels - k.labels_before) (omega arith)))

  pub label_within : i < k.labels - k.labels_before → (b : Bool) → b ≡ label_words_at l (140 * k.records + 8 * k.labels_before) kind opener i
      → b ≡ label_is l k kind opener j
  unfolding label_is
  label_within h b eb =
      eb ∙ ap (label_words_at l (140 * k.records + 8 * k.labels_before) kind opener) e
      ∙ ap (λ (c : Bool). c && label_words_at l (140 * k.records + 8 * k.labels_before) kind opener j) (sym (lt-ltb j (k.labels - k.labels_before) (omega arith)))
