-- A number placed in a chain: the order stays, what all entries have they keep, a text that an entry has is found, and the chain of a bucket has the first number with each text.
-- By induction on the chain, by the laws of common beginnings. Assumes nothing.
use mathlib.Core.Path.{◌≡◌, refl, sym, ap, ◌∙◌}
use mathlib.Core.Bool.{Bool, true, false}
use mathlib.Core.List.{List, [], ◌∷◌}
use mathlib.Core.Logic.{◌⊎◌, inl, inr, ⊎_elim}
use Prim.Native.Nat.{ℕ, zero, suc, ◌+◌, ◌≤◌, ◌<◌}
use native.Mathlib.Nat.{eq-or-lt_of_le}
use native.Mathlib.Omega.{arith}
use lib.Dec.{eqb, ltb}
use lib.ListN.{length}
use borrow.Author.Tests.{eqb-true, eqb-false, ltb-true, ltb-false, eq-eqb, ne_eqb}
use Rattle.laws.specs.All.{All}
use Rattle.laws.specs.Fix.{pick}
use Rattle.laws.proofs.FixLaws.{pick_yes, pick_no}
use Rattle.laws.proofs.Tests.{tested}
use Rattle.records.specs.Chains.{entry_at}
use Rattle.records.specs.Words.{same_text}
use Rattle.records.specs.Order.{common, placed_in, chain_of, first_with, link_place, text_before, Ordered}
use Rattle.records.proofs.CommonLaws.{common-other}
use Rattle.records.proofs.DigestLaws.{same-equal}

pub all_map : {P Q : ℕ → Type 0} (l : List ℕ) → ((e : ℕ) → P e → Q e) → All P l → All Q l
all_map [] f a = tt
all_map (e ∷ l) f a = (f e a.0, all_map l f a.1)

pub all-and : (P Q : ℕ → Type 0) (l : List ℕ) → All P l → All Q l → All (λ e. P e × Q e) l
all-and P Q [] a b = tt
all-and P Q (e ∷ l) a b = ((a.0, b.0), all-and P Q l a.1 b.1)

-- no number stands twice
abbrev pub Distinct : List ℕ → Type 0
Distinct [] = Unit {0}
Distinct (e ∷ l) = All (λ g. g ≡ e → ⊥) l × Distinct l

module _ (t : ℕ → List ℕ) (r : ℕ) where
  -- an entry has r's text, r goes before it, or further on
  module _ (before : List ℕ) (e : ℕ) (l : List ℕ) where
    abbrev less : Bool
    less = ltb (common before (t e)) (common before (t r))

    pub placed_same : same_text (t e) (t r) ≡ true → placed_in t r before (e ∷ l) ≡ e ∷ l
    unfolding placed_in pick
    placed_same y = rw y refl

    pub placed-here : same_text (t e) (t r) ≡ false → less ≡ true → placed_in t r before (e ∷ l) ≡ r ∷ e ∷ l
    unfolding placed_in pick
    placed-here n y = rw (n, y) refl

    pub placed_on : same_text (t e) (t r) ≡ false → less ≡ false → placed_in t r before (e ∷ l) ≡ e ∷ placed_in t r (t e) l
    unfolding placed_in pick
    placed_on n m = rw (n, m) refl

    pub first-same : same_text (t e) (t r) ≡ true → first_with t r (e ∷ l) ≡ e
    unfolding first_with pick
    first-same y = rw y refl

    pub first_on : same_text (t e) (t r) ≡ false → first_with t r (e ∷ l) ≡ first_with t r l
    unfolding first_with pick
    first_on n = rw n refl

    pub place_here : (n at : ℕ) → less ≡ true → link_place t n r before at (e ∷ l) ≡ at
    unfolding link_place pick
    place_here n at y = rw y refl

    pub place-on : (n at : ℕ) → less ≡ false → link_place t n r before at (e ∷ l) ≡ link_place t n r (t e) (entry_at n e + 4) l
    unfolding link_place pick
    place-on n at m = rw m refl

    pub text-here : less ≡ true → text_before t r before (e ∷ l) ≡ before
    unfolding text_before pick
    text-here y = rw y refl

    pub text-on : less ≡ false → text_before t r before (e ∷ l) ≡ text_before t r (t e) l
    unfolding text_before pick
    text-on m = rw m refl

  -- the cases of a chain that is not empty, each with what it gives
  pub placed_case : (P : List ℕ → Type 0) (before : List ℕ) (e : ℕ) (l : List ℕ) → (same_text (t e) (t r) ≡ true → P (e ∷ l))
      → (same_text (t e) (t r) ≡ false → common before (t e) < common before (t r) → P (r ∷ e ∷ l))
      → (same_text (t e) (t r) ≡ false → common before (t r) ≤ common before (t e) → P (e ∷ placed_in t r (t e) l)) → P (placed_in t r before (e ∷ l))
  placed_case P before e l same here on =
      tested (same_text (t e) (t r))
      (λ y. rw (placed_same before e l y) (same y))
      (λ n.
      tested (less before e l)
      (λ y. rw (placed-here before e l n y) (here n (ltb-true _ _ y)))
      (λ m. rw (placed_on before e l n m) (on n (ltb-false _ _ m))))

  -- ---- what all have

  pub placed-all : (P : ℕ → Type 0) (before l : List ℕ) → P r → All P l → All P (placed_in t r before l)
  unfolding placed_in
  placed-all P before [] p a = (p, tt)
  placed-all P before (e ∷ l) p a =
      placed_case (All P) before e l (λ y. a) (λ n y. (p, a)) (λ n m. (a.0, placed-all P (t e) l p a.1))

  pub placed-long : (before l : List ℕ) → length (placed_in t r before l) ≤ length l + 1
  unfolding placed_in
  placed-long before [] = omega arith
  placed-long before (e ∷ l) =
      placed_case (λ x. length x ≤ length (e ∷ l) + 1) before e l (λ y. omega arith) (λ n y. omega arith) (λ n m. omega (arith, placed-long (t e) l))

  -- what the texts of all have after, they had before, and r's has
  pub placed_had : (Q : List ℕ → Type 0) (before l : List ℕ) → All (λ e. Q (t e)) (placed_in t r before l) → All (λ e. Q (t e)) l × Q (t r)
  unfolding placed_in
  placed_had Q before [] = λ a. (tt, a.0)
  placed_had Q before (e ∷ l) =
      placed_case (λ x. All (λ g. Q (t g)) x → All (λ g. Q (t g)) (e ∷ l) × Q (t r)) before e l
      (λ y a. (a, rw (sym (same-equal (t e) (t r) y)) a.0))
      (λ n y a. (a.1, a.0))
      (λ n m a. let b : All (λ g. Q (t g)) l × Q (t r) = placed_had Q (t e) l a.1 in ((a.0, b.0), b.1))

  pub placed-distinct : (before l : List ℕ) → All (λ e. e < r) l → Distinct l → Distinct (placed_in t r before l)
  unfolding placed_in
  placed-distinct before [] a d = (tt, tt)
  placed-distinct before (e ∷ l) a d =
      placed_case Distinct before e l (λ y. d)
      (λ n y. (all_map (e ∷ l) (λ g h q. omega arith) a, d))
      (λ n m. (placed-all (λ g. g ≡ e → ⊥) (t e) l (λ q. omega (arith, a.0)) d.0, placed-distinct (t e) l a.1 d.1))

  -- ---- the order

  pub placed-ordered : (before l : List ℕ) → Ordered t before l → Ordered t before (placed_in t r before l)
  unfolding placed_in
  placed-ordered before [] o = (tt, tt)
  placed-ordered before (e ∷ l) o =
      placed_case (Ordered t before) before e l (λ y. o)
      (λ n y. (
        (omega arith, all_map l (λ g h. omega arith) o.0),
        (
          all_map l
              (λ g h. omega (arith, common-other before (t g) (t r) (omega arith), common-other before (t e) (t r) y))
              o.0,
          o.1,
        ),
      ))
      (λ n m. (placed-all (λ g. common before (t g) ≤ common before (t e)) (t e) l m o.0, placed-ordered (t e) l o.1))

  -- ---- whether an entry has r's text

  -- none has, where all from here on share less with the entry before
  differs : (before : List ℕ) (e : ℕ) → common before (t e) < common before (t r) → same_text (t e) (t r) ≡ false
  differs before e h =
      tested (same_text (t e) (t r)) (λ y. absurd (let z : common before (t e) ≡ common before (t r) = ap (common before) (same-equal _ _ y) in omega arith)) (λ n. n)

  none_first : (l : List ℕ) → All (λ e. same_text (t e) (t r) ≡ false) l → first_with t r l ≡ r
  unfolding first_with
  none_first [] a = refl
  none_first (e ∷ l) a = first_on [] e l a.0 ∙ none_first l a.1

  pub first-none : (before : List ℕ) (e : ℕ) (l : List ℕ) → Ordered t before (e ∷ l) → common before (t e) < common before (t r) → first_with t r (e ∷ l) ≡ r
  first-none before e l o h =
      none_first (e ∷ l) (differs before e h, all_map l (λ g k. differs before g (omega arith)) o.0)

  -- r is not below r: no entry has its text
  pub first-not : (l : List ℕ) → All (λ e. e < r) l → first_with t r l ≡ r → All (λ e. same_text (t e) (t r) ≡ false) l
  unfolding first_with
  first-not [] a z = tt
  first-not (e ∷ l) a z =
      tested (same_text (t e) (t r))
      (λ y. absurd (omega (arith, a.0, first-same [] e l y)))
      (λ n. (n, first-not l a.1 (sym (first_on [] e l n) ∙ z)))

  -- it is r, or an entry with r's text
  pub first-is : (P : ℕ → Type 0) (l : List ℕ) → All P l → (first_with t r l ≡ r) ⊎ (P (first_with t r l) × (t (first_with t r l) ≡ t r))
  unfolding first_with
  first-is P [] a = inl refl
  first-is P (e ∷ l) a =
      tested (same_text (t e) (t r))
      (λ y. inr (rw (first-same [] e l y) (a.0, same-equal _ _ y)))
      (λ n. rw (first_on [] e l n) (first-is P l a.1))

  -- where an entry has it, nothing is placed
  pub placed-found : (before l : List ℕ) → Ordered t before l → first_with t r l < r → placed_in t r before l ≡ l
  unfolding placed_in first_with
  placed-found before [] o h = absurd (omega arith)
  placed-found before (e ∷ l) o h =
      placed_case (λ x. x ≡ e ∷ l) before e l (λ y. refl)
      (λ n y. absurd (omega (arith, first-none before e l o y)))
      (λ n m. ap (λ (x : List ℕ). e ∷ x) (placed-found (t e) l o.1 (omega (arith, first_on before e l n))))

-- ---- the chain of a bucket

module _ (t : ℕ → List ℕ) (bucket : ℕ → ℕ) (b : ℕ) where
  pub chain-here : (r : ℕ) → bucket r ≡ b → chain_of t bucket (suc r) b ≡ placed_in t r [] (chain_of t bucket r b)
  unfolding chain_of
  chain-here r e = pick_yes (eqb (bucket r) b) _ _ (eq-eqb _ _ e)

  pub chain-other : (r : ℕ) → (bucket r ≡ b → ⊥) → chain_of t bucket (suc r) b ≡ chain_of t bucket r b
  unfolding chain_of
  chain-other r n = pick_no (eqb (bucket r) b) _ _ (ne_eqb _ _ n)

  -- what holds of no chain's entries at first, and stays where a number is placed
  chain_by : (P : ℕ → List ℕ → Type 0) → P 0 [] → ((r : ℕ) (l : List ℕ) → P r l → P (suc r) l)
      → ((r : ℕ) → bucket r ≡ b → P r (chain_of t bucket r b) → P (suc r) (placed_in t r [] (chain_of t bucket r b))) → (r : ℕ) → P r (chain_of t bucket r b)
  unfolding chain_of
  chain_by P start past step zero = start
  chain_by P start past step (suc r) =
      tested (eqb (bucket r) b)
      (λ y. rw (chain-here r (eqb-true _ _ y)) (step r (eqb-true _ _ y) (chain_by P start past step r)))
      (λ n. rw (chain-other r (eqb-false _ _ n)) (past r _ (chain_by P start past step r)))

  pub chain-inside : (r : ℕ) → All (λ e. (e < r) × (bucket e ≡ b)) (chain_of t bucket r b)
  chain-inside =
      chain_by (λ r l. All (λ e. (e < r) × (bucket e ≡ b)) l) tt
      (λ r l a. all_map l (λ e h. (omega (arith, h.0), h.1)) a)
      (λ r z a. placed-all t r (λ e. (e < suc r) × (bucket e ≡ b)) [] (chain_of t bucket r b) (omega arith, z) (all_map (chain_of t bucket r b) (λ e h. (omega (arith, h.0), h.1)) a))

  pub chain-below : (r : ℕ) → All (λ e. e < r) (chain_of t bucket r b)
  chain-below r = all_map (chain_of t bucket r b) (λ e h. h.0) (chain-inside r)

  pub chain-ordered : (r : ℕ) → Ordered t [] (chain_of t bucket r b)
  chain-ordered = chain_by (λ r l. Ordered t [] l) tt (λ r l o. o) (λ r z o. placed-ordered t r [] (chain_of t bucket r b) o)

  pub chain-distinct : (r : ℕ) → Distinct (chain_of t bucket r b)
  chain-distinct = chain_by (λ r l. Distinct l) tt (λ r l d. d) (λ r z d. placed-distinct t r [] (chain_of t bucket r b) (chain-below r) d)

  pub chain-short : (r : ℕ) → length (chain_of t bucket r b) ≤ r
  chain-short =
      chain_by (λ r l. length l ≤ r) (omega arith) (λ r l h. omega arith) (λ r z h. omega (arith, placed-long t r [] (chain_of t bucket r b)))

  -- every text of the bucket is there
  pub chain-has : (Q : List ℕ → Type 0) (r k : ℕ) → All (λ e. Q (t e)) (chain_of t bucket r b) → k < r → bucket k ≡ b → Q (t k)
  unfolding chain_of
  chain-has Q zero k a h z = absurd (omega arith)
  chain-has Q (suc r) k a h z =
      tested (eqb (bucket r) b)
      (λ y.
      let c : All (λ e. Q (t e)) (placed_in t r [] (chain_of t bucket r b)) = rw (chain-here r (eqb-true _ _ y)) at a in
      let d : All (λ e. Q (t e)) (chain_of t bucket r b) × Q (t r) = placed_had t r Q [] (chain_of t bucket r b) c in
      let le : k ≤ r = omega arith in
      ⊎_elim (λ (q : k ≡ r). rw q d.1) (λ (l : k < r). chain-has Q r k d.0 l z) (eq-or-lt_of_le le))
      (λ n.
      let c : All (λ e. Q (t e)) (chain_of t bucket r b) = rw (chain-other r (eqb-false _ _ n)) at a in
      let le : k ≤ r = omega arith in
      ⊎_elim (λ (q : k ≡ r). absurd (eqb-false _ _ n (ap bucket (sym q) ∙ z))) (λ (l : k < r). chain-has Q r k c l z) (eq-or-lt_of_le le))

  -- no number below r in the bucket has its text
  pub chain-none : (r k : ℕ) → first_with t r (chain_of t bucket r b) ≡ r → k < r → bucket k ≡ b → same_text (t k) (t r) ≡ false
  chain-none r k z h q =
      chain-has (λ u. same_text u (t r) ≡ false) r k (first-not t r (chain_of t bucket r b) (chain-below r) z) h q

  -- an entry is the first with its text
  abbrev pub First : ℕ → Type 0
  First e = (k : ℕ) → k < e → bucket k ≡ b → same_text (t k) (t e) ≡ false

  pub chain_first : (r : ℕ) → All First (chain_of t bucket r b)
  chain_first =
      chain_by (λ r l. All First l) tt (λ r l a. a)
      (λ r z a.
      ⊎_elim
      (λ (n : first_with t r (chain_of t bucket r b) ≡ r). placed-all t r First [] (chain_of t bucket r b) (λ k h q. chain-none r k n h q) a)
      (λ (y : (first_with t r (chain_of t bucket r b) < r) × (t (first_with t r (chain_of t bucket r b)) ≡ t r)).
      rw (placed-found t r [] (chain_of t bucket r b) (chain-ordered r) y.0) a)
      (first-is t r (λ e. e < r) (chain_of t bucket r b) (chain-below r)))
