-- How far two texts agree: at most to the end of either, as far with a third as with the second where that agrees further; from a known beginning on; of parts of a buffer.
-- By induction on the texts. Assumes nothing.
use mathlib.Core.Path.{◌≡◌, refl, sym, ap, ◌∙◌}
use mathlib.Core.List.{List, [], ◌∷◌}
use Prim.Native.Nat.{ℕ, zero, suc, ◌+◌, ◌≤◌, ◌<◌}
use native.Mathlib.Omega.{arith}
use lib.Dec.{eqb}
use lib.ListN.{length, drop}
use borrow.Author.Tests.{eq-eqb, ne_eqb, eqb-true, eqb-false}
use Rattle.laws.specs.Fix.{pick}
use Rattle.laws.proofs.Tests.{tested}
use Rattle.records.specs.Order.{common}

-- ---- one byte more

pub more : (a b : ℕ) (t u : List ℕ) → a ≡ b → common (a ∷ t) (b ∷ u) ≡ suc (common t u)
unfolding common pick
more a b t u e = rw (eq-eqb a b e) refl

pub none : (a b : ℕ) (t u : List ℕ) → (a ≡ b → ⊥) → common (a ∷ t) (b ∷ u) ≡ 0
unfolding common pick
none a b t u n = rw (ne_eqb a b n) refl

-- texts that share a byte share the first
pub byte-same : (a b k : ℕ) (t u : List ℕ) → k < common (a ∷ t) (b ∷ u) → a ≡ b
byte-same a b k t u h = tested (eqb a b) (λ y. eqb-true a b y) (λ n. absurd (omega (arith, none a b t u (eqb-false a b n))))

-- ---- two texts

pub common-left : (t u : List ℕ) → common t u ≤ length t
unfolding common
common-left [] u = omega arith
common-left (a ∷ t) [] = omega arith
common-left (a ∷ t) (b ∷ u) =
    tested (eqb a b)
    (λ y. omega (arith, more a b t u (eqb-true a b y), common-left t u))
    (λ n. omega (arith, none a b t u (eqb-false a b n)))

pub common-right : (t u : List ℕ) → common t u ≤ length u
unfolding common
common-right [] u = omega arith
common-right (a ∷ t) [] = omega arith
common-right (a ∷ t) (b ∷ u) =
    tested (eqb a b)
    (λ y. omega (arith, more a b t u (eqb-true a b y), common-right t u))
    (λ n. omega (arith, none a b t u (eqb-false a b n)))

pub common_self : (t : List ℕ) → common t t ≡ length t
unfolding common
common_self [] = refl
common_self (a ∷ t) = more a a t t refl ∙ ap suc (common_self t)

-- a text of no bytes shares none
pub common_empty : (u : List ℕ) → common [] u ≡ 0
unfolding common
common_empty u = refl

-- from a known beginning on
pub common-from : (k : ℕ) (t u : List ℕ) → k ≤ common t u → common t u ≡ k + common (drop k t) (drop k u)
unfolding common
common-from zero t u h = omega arith
common-from (suc k) [] u h = absurd (omega arith)
common-from (suc k) (a ∷ t) [] h = absurd (omega arith)
common-from (suc k) (a ∷ t) (b ∷ u) h =
    let z : common (a ∷ t) (b ∷ u) ≡ suc (common t u) = more a b t u (byte-same a b k t u (omega arith)) in
    omega (arith, z, common-from k t u (omega arith))

-- ---- three texts

-- x shares less with y than with z: z shares as much with y
pub common-other : (x y z : List ℕ) → common x y < common x z → common z y ≡ common x y
unfolding common
common-other [] y z h = absurd (omega arith)
common-other (a ∷ x) y [] h = absurd (omega arith)
common-other (a ∷ x) [] (c ∷ z) h = refl
common-other (a ∷ x) (b ∷ y) (c ∷ z) h =
    let ac : a ≡ c = byte-same a c (common (a ∷ x) (b ∷ y)) x z h in
    tested (eqb a b)
    (λ q.
    let ab : a ≡ b = eqb-true a b q in
    let cb : c ≡ b = sym ac ∙ ab in
    more c b z y cb ∙ ap suc (common-other x y z (omega (arith, more a b x y ab, more a c x z ac))) ∙ sym (more a b x y ab))
    (λ q.
    let ab : a ≡ b → ⊥ = eqb-false a b q in
    none c b z y (λ e. ab (ac ∙ e)) ∙ sym (none a b x y ab))

-- what x shares with y and with z, these share
pub common-least : (k : ℕ) (x y z : List ℕ) → k ≤ common x y → k ≤ common x z → k ≤ common z y
unfolding common
common-least zero x y z h i = omega arith
common-least (suc k) [] y z h i = absurd (omega arith)
common-least (suc k) (a ∷ x) [] z h i = absurd (omega arith)
common-least (suc k) (a ∷ x) (b ∷ y) [] h i = absurd (omega arith)
common-least (suc k) (a ∷ x) (b ∷ y) (c ∷ z) h i =
    let ab : a ≡ b = byte-same a b k x y (omega arith) in
    let ac : a ≡ c = byte-same a c k x z (omega arith) in
    omega (arith, more c b z y (sym ac ∙ ab), common-least k x y z (omega (arith, more a b x y ab)) (omega (arith, more a c x z ac)))
