-- Laws of numbers in lists: membership and counts over ++, and how many different ones there are: by membership alone, and over two lists that share none.
-- By induction on the list; what is counted, number by number below the bound. Assumes nothing.
use mathlib.Core.Path.{◌≡◌, refl, sym, ◌∙◌}
use Prim.Native.Nat.{ℕ, ◌+◌, ◌≤◌, ◌<◌}
use mathlib.Core.Bool.{Bool, true, false, ◌||◌, false≢true}
use mathlib.Core.List.{List, [], ◌∷◌, ◌++◌}
use native.Mathlib.Omega.{arith}
use lib.Dec.{eqb}
use Rattle.laws.specs.Fix.{pick}
use Rattle.laws.specs.Different.{has, different, total, occurs}
use Rattle.laws.proofs.Sums.{sum-le, sum_same, sum-add, sum_one, sum-zero}

-- ---- over ++

pub or_assoc : (a b c : Bool) → (a || (b || c)) ≡ ((a || b) || c)
or_assoc true b c = refl
or_assoc false b c = refl

pub has-append : (q : ℕ) (a b : List ℕ) → has q (a ++ b) ≡ (has q a || has q b)
unfolding has
has-append q [] b = refl
has-append q (x ∷ a) b = rw (has-append q a b) (or_assoc (eqb q x) (has q a) (has q b))

pub total-append : (v : ℕ → ℕ) (a b : List ℕ) → total v (a ++ b) ≡ total v a + total v b
unfolding total
total-append v [] b = omega arith
total-append v (x ∷ a) b = omega (arith, total-append v a b)

pub occurs-append : (q : ℕ) (a b : List ℕ) → occurs q (a ++ b) ≡ occurs q a + occurs q b
unfolding occurs
occurs-append q a b = total-append (λ x. pick (eqb q x) 1 0) a b

-- what is in the list occurs in it
has_first : (b c : Bool) (n : ℕ) → (b || c) ≡ true → (c ≡ true → 1 ≤ n) → 1 ≤ pick b 1 0 + n
unfolding pick
has_first true c n e h = omega arith
has_first false c n e h = omega (arith, h e)

pub has-occurs : (q : ℕ) (l : List ℕ) → has q l ≡ true → 1 ≤ occurs q l
unfolding has occurs total
has-occurs q [] e = absurd (false≢true e)
has-occurs q (x ∷ l) e = has_first (eqb q x) (has q l) _ e (has-occurs q l)

-- ---- one list within another

abbrev pub Within : List ℕ → List ℕ → Type 0
Within a b = (q : ℕ) → has q a ≡ true → has q b ≡ true

or-both : (a b c : Bool) → (a || b) ≡ true → (a ≡ true → c ≡ true) → (b ≡ true → c ≡ true) → c ≡ true
or-both true b c e f g = f refl
or-both false b c e f g = g e

or_left : (a b : Bool) → a ≡ true → (a || b) ≡ true
or_left true b e = refl
or_left false b e = absurd (false≢true e)

or_right : (a b : Bool) → b ≡ true → (a || b) ≡ true
or_right true b e = refl
or_right false b e = e

pub within_none : (b : List ℕ) → Within [] b
unfolding has
within_none b q e = absurd (false≢true e)

pub within_both : (a b c : List ℕ) → Within a c → Within b c → Within (a ++ b) c
within_both a b c f g q e = or-both (has q a) (has q b) (has q c) (sym (has-append q a b) ∙ e) (f q) (g q)

pub within_again : (a b : List ℕ) → Within b a → Within (a ++ b) a
within_again a b f = within_both a b a (λ q e. e) f

pub within-left : (a b c : List ℕ) → Within a b → Within a (b ++ c)
within-left a b c f q e = has-append q b c ∙ or_left (has q b) (has q c) (f q e)

pub within-right : (a b c : List ℕ) → Within a c → Within a (b ++ c)
within-right a b c f q e = has-append q b c ∙ or_right (has q b) (has q c) (f q e)

pub within_parts : (a b c d : List ℕ) → Within a c → Within b d → Within (a ++ b) (c ++ d)
within_parts a b c d f g = within_both a b (c ++ d) (within-left a c d f) (within-right b c d g)

pub within_more : (a b : List ℕ) (x : ℕ) → Within a b → Within a (x ∷ b)
unfolding has
within_more a b x f q e = or_right (eqb q x) (has q b) (f q e)

-- ---- how many different numbers below n

pick-le : (a b : Bool) → (a ≡ true → b ≡ true) → pick a 1 0 ≤ pick b 1 0
unfolding pick
pick-le true true h = omega arith
pick-le true false h = absurd (false≢true (h refl))
pick-le false true h = omega arith
pick-le false false h = omega arith

pub different-le : (n : ℕ) (a b : List ℕ) → ((q : ℕ) → q < n → has q a ≡ true → has q b ≡ true) → different n a ≤ different n b
unfolding different
different-le n a b h = sum-le n (λ r. pick (has r a) 1 0) (λ r. pick (has r b) 1 0) (λ q l. pick-le (has q a) (has q b) (h q l))

pub different-same : (n : ℕ) (a b : List ℕ) → ((q : ℕ) → q < n → has q a ≡ has q b) → different n a ≡ different n b
different-same n a b h = omega (
  arith,
  different-le n a b (λ q l e. sym (h q l) ∙ e),
  different-le n b a (λ q l e. h q l ∙ e),
)

pub different-none : (n : ℕ) → different n [] ≡ 0
unfolding different has pick
different-none n = sum-zero n

pub different-most : (n : ℕ) (l : List ℕ) → different n l ≤ n
unfolding different pick
different-most n l = omega (arith, sum_one n, sum-le n (λ r. pick (has r l) 1 0) (λ r. 1) (λ q h. pick-le (has q l) true (λ e. refl)))

-- where no number is in both
pick-or : (a b : Bool) → (a ≡ true → b ≡ false) → pick (a || b) 1 0 ≡ pick a 1 0 + pick b 1 0
unfolding pick
pick-or true b h = rw (h refl) (omega arith)
pick-or false b h = omega arith

pub different-append : (n : ℕ) (a b : List ℕ) → ((q : ℕ) → q < n → has q a ≡ true → has q b ≡ false)
    → different n (a ++ b) ≡ different n a + different n b
unfolding different
different-append n a b h =
    sum_same n (λ r. pick (has r (a ++ b)) 1 0) (λ r. pick (has r a) 1 0 + pick (has r b) 1 0)
    (λ q l. rw (has-append q a b) (pick-or (has q a) (has q b) (h q l)))
    ∙ sum-add n (λ r. pick (has r a) 1 0) (λ r. pick (has r b) 1 0)

-- ---- a list in which no number occurs twice

abbrev pub Single : List ℕ → Type 0
Single l = (q : ℕ) → occurs q l ≤ 1

pub single_left : (a b : List ℕ) → Single (a ++ b) → Single a
single_left a b h q = omega (arith, h q, occurs-append q a b)

pub single_right : (a b : List ℕ) → Single (a ++ b) → Single b
single_right a b h q = omega (arith, h q, occurs-append q a b)

-- two lists within its parts share no number
apart : (b : Bool) (x y : ℕ) → (b ≡ true → 1 ≤ y) → 1 ≤ x → x + y ≤ 1 → b ≡ false
apart true x y h k l = absurd (omega (arith, h refl))
apart false x y h k l = refl

pub different_parts : (n : ℕ) (a b c d : List ℕ) → Within a c → Within b d → Single (c ++ d) → different n (a ++ b) ≡ different n a + different n b
different_parts n a b c d f g h = different-append n a b (λ q l e. apart (has q b) (occurs q c) (occurs q d)
    (λ k. has-occurs q d (g q k)) (has-occurs q c (f q e)) (omega (arith, h q, occurs-append q c d)))
