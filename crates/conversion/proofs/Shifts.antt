-- A left shift folds exactly where its count is 0 to 127 and the true product by the power of two lies within 128 bits, and then to that product.
-- The bits that are kept are those of the value's rest by 2 ^ (128 - n), so what is taken back is that rest: it is the old value only where nothing was lost.
use mathlib.Core.Path.{◌≡◌, refl, sym, ap, ap₂, ◌∙◌, subst}
use mathlib.Core.Bool.{Bool, cond}
use mathlib.Core.Logic.{⊎_elim}
use mathlib.Core.Option.{Option, none, some}
use Prim.Native.Nat.{ℕ, suc, ◌+◌, ◌-◌, ◌*◌, ◌/◌, ◌%◌, ◌^◌, ◌≤◌, ◌<◌}
use native.Mathlib.Nat.{lt_of_le_of_lt, not-le_of_lt, mod-lt, mul_comm, mul-one, suc-mul, mul-add, add-mul, mod-eq_of_lt, mul-mod_left, mul-div_cancel, add-zero, div-mul-le_self, lt_of_mul-lt-mul_right, eq-sub_of_add-eq, sub-add_cancel}
use native.Mathlib.Omega.{arith}
use lib.Dec.{ltb, lit<}
use lib.Arith.{digits_div, digits_mod}
use lib.Pow.{pow_pos, pow-add, mod-pow-add}
use lib.IntN.{ℤ, pos, negsuc, neg_ℤ, ◌*ℤ◌}
use lib.Signed.{mag, shr_z}
use mir.Syntax.{w128}
use mir.Val.{to_z, of_z}
use mir.ValLaws.{to_z_pos, to_z-neg}
use borrow.Author.Tests.{lt-ltb, le-ltb, eq-eqb, ne_eqb}
use Rattle.laws.specs.Fix.{pick}
use Rattle.int128.specs.Ops.{exact, shl_of, shr_of, by_count}
use Rattle.int128.proofs.Range.{exact_yes, exact-no}
use Rattle.int128.proofs.Difference.{lt-or_ge}
use Rattle.int128.proofs.Small.{negative}
use Rattle.conversion.specs.Types.{same_int, kept_if, taken_back, shl_kept}

-- the true product by the power of two, where it lies within 128 bits
abbrev pub times_power : ℤ → ℕ → Option ℤ
times_power a n = cond (ltb n 128) (exact (a *ℤ pos (2 ^ n))) none

-- ---- what is taken back is the old value, or not

kept_same : (a v : ℤ) → kept_if a v (some a) ≡ some v
unfolding kept_if same_int pick
kept_same (pos n) v = ap (λ (t : Bool). pick t (some v) none) (eq-eqb n n refl)
kept_same (negsuc n) v = ap (λ (t : Bool). pick t (some v) none) (eq-eqb n n refl)

kept_pos : (m k : ℕ) (v : ℤ) → (k ≡ m → ⊥) → kept_if (pos m) v (some (pos k)) ≡ none
unfolding kept_if same_int pick
kept_pos m k v d = ap (λ (t : Bool). pick t (some v) none) (ne_eqb k m d)

kept_neg : (m k : ℕ) (v : ℤ) → (k ≡ m → ⊥) → kept_if (negsuc m) v (some (negsuc k)) ≡ none
unfolding kept_if same_int pick
kept_neg m k v d = ap (λ (t : Bool). pick t (some v) none) (ne_eqb k m d)

kept_down : (m k : ℕ) (v : ℤ) → kept_if (pos m) v (some (negsuc k)) ≡ none
unfolding kept_if same_int pick
kept_down m k v = refl

kept_up : (m k : ℕ) (v : ℤ) → kept_if (negsuc m) v (some (pos k)) ≡ none
unfolding kept_if same_int pick
kept_up m k v = refl

-- ---- multiples of P

module _ (P : ℕ) (hp : 0 < P) where
  -- the number below a multiple
  abbrev before : ℕ → ℕ
  before k = k * P + (P - 1)

  before-suc : (k : ℕ) → suc k * P ≡ suc (before k)
  before-suc k = go (k * P) (suc k * P) (suc-mul k P) hp
    where
      go : (x y : ℕ) → y ≡ x + P → 0 < P → y ≡ suc (x + (P - 1))
      go x y e h = omega arith

  before-div : (k : ℕ) → before k / P ≡ k
  before-div k = digits_div k (short hp)
    where
      short : 0 < P → P - 1 < P
      short h = omega arith

-- ---- a count below 128

module _ (n : ℕ) (h : n < 128) where
  abbrev P : ℕ
  P = 2 ^ n

  abbrev Q : ℕ
  Q = 2 ^ (128 - n)

  hp : 0 < P
  hp = pow_pos n

  hq : 0 < Q
  hq = pow_pos (128 - n)

  whole : Q * P ≡ 2 ^ 128
  whole = sym (pow-add 2 (128 - n) n) ∙ ap (λ (k : ℕ). 2 ^ k) (go h)
    where
      go : n < 128 → 128 - n + n ≡ 128
      go l = omega arith

  -- the bits that are kept are the rest by Q
  bits : (u : ℕ) → u * P % 2 ^ 128 ≡ u % Q * P
  bits u =
      ap (λ (k : ℕ). u * P % k) (sym whole ∙ sym (pow-add 2 (128 - n) n))
      ∙ mod-pow-add (u * P) (128 - n) n
      ∙ ap₂ (λ (x y : ℕ). x % Q * P + y) (mul-div_cancel u hp) (mul-mod_left u P)
      ∙ add-zero (u % Q * P)

  -- what a shift of a answers, where v are the bits that are kept
  module _ (a : ℤ) (v : ℕ) (e : of_z w128 a * 2 ^ n % 2 ^ 128 ≡ v) where
    shifted : shl_of a n ≡ some (to_z w128 v)
    shifted = simp (lt-ltb n 128 h) (ap (λ (k : ℕ). some (to_z w128 k)) e)

    back : (z : ℤ) → shr_of z n ≡ some (shr_z z P)
    back z = simp (lt-ltb n 128 h)

    answers : shl_kept a (pos n) ≡ kept_if a (to_z w128 v) (some (shr_z (to_z w128 v) P))
    unfolding shl_kept taken_back
    answers = ap (taken_back a (pos n)) shifted ∙ ap (kept_if a (to_z w128 v)) (back (to_z w128 v))

    low : v < 2 ^ 127 → shl_kept a (pos n) ≡ kept_if a (pos v) (some (pos (v / P)))
    low l = answers ∙ ap (λ (z : ℤ). kept_if a z (some (shr_z z P))) (to_z_pos w128 v l)

    high : (j : ℕ) → to_z w128 v ≡ negsuc j → shl_kept a (pos n) ≡ kept_if a (negsuc j) (some (negsuc (j / P)))
    high j q = answers ∙ ap (λ (z : ℤ). kept_if a z (some (shr_z z P))) q

  -- ---- from 0 on
  module _ (m : ℕ) where
    positive_yes : m * P < 2 ^ 127 → shl_kept (pos m) (pos n) ≡ some (pos (m * P))
    positive_yes l =
        low (pos m) (m * P) (mod-eq_of_lt (wider (2 ^ 127) (2 ^ 128) refl l)) l
        ∙ ap (λ (k : ℕ). kept_if (pos m) (pos (m * P)) (some (pos k))) (mul-div_cancel m hp)
        ∙ kept_same (pos m) (pos (m * P))
      where
        wider : (H M : ℕ) → M ≡ H + H → m * P < H → m * P < M
        wider H M e l = omega arith

    positive_no : 2 ^ 127 ≤ m * P → shl_kept (pos m) (pos n) ≡ none
    positive_no g =
        ⊎_elim
        (λ (l : m % Q * P < 2 ^ 127).
        low (pos m) (m % Q * P) (bits m) l ∙ kept_pos m (m % Q * P / P) (pos (m % Q * P)) (λ e. not-le_of_lt (lt_of_le_of_lt (div-mul-le_self (m % Q * P) P) l) (subst (λ (k : ℕ). 2 ^ 127 ≤ k * P) (sym e) g)))
        (λ (l : 2 ^ 127 ≤ m % Q * P).
        high (pos m) (m % Q * P) (bits m) (2 ^ 128 - suc (m % Q * P)) (negative (m % Q * P) l)
        ∙ kept_down m ((2 ^ 128 - suc (m % Q * P)) / P) (negsuc (2 ^ 128 - suc (m % Q * P))))
        (lt-or_ge (m % Q * P) (2 ^ 127))

  -- ---- below 0
  module _ (k : ℕ) (f : k < 2 ^ 127) where
    -- the bits of -(k + 1), and those that are kept where c of Q are left
    rest : (M : ℕ) → M ≡ Q * P → suc k ≤ Q → (M - suc k) % Q ≡ Q - suc k
    rest M e l = ap (λ (x : ℕ). x % Q) (go (Q * P) (P - 1) ((P - 1) * Q) e (ap (λ (x : ℕ). Q * x) (pred hp) ∙ (mul-add Q (P - 1) 1 ∙ ap₂ ◌+◌ (mul_comm Q (P - 1)) (mul-one Q))) l) ∙ digits_mod (P - 1) (short Q hq)
      where
        pred : 0 < P → P ≡ P - 1 + 1
        pred l = omega arith

        go : (W p x : ℕ) → M ≡ W → W ≡ x + Q → suc k ≤ Q → M - suc k ≡ x + (Q - suc k)
        go W p x e g l = omega arith

        short : (q : ℕ) → 0 < q → q - suc k < q
        short q l = omega arith

    kept-bits : (c : ℕ) → c ≤ Q → (Q - c) * P ≡ Q * P - c * P
    kept-bits c l = eq-sub_of_add-eq ((Q - c) * P) (c * P) (sym (add-mul (Q - c) c P) ∙ ap (λ (x : ℕ). x * P) (sub-add_cancel l))

    abbrev below : ℕ
    below = before P hp k

    negative_yes : suc k * P ≤ 2 ^ 127 → shl_kept (negsuc k) (pos n) ≡ some (negsuc below)
    negative_yes g =
        high (negsuc k) (2 ^ 128 - suc below)
        (bits (2 ^ 128 - suc k) ∙ ap (λ (x : ℕ). x * P) (rest (2 ^ 128) (sym whole) fewer) ∙ kept-bits (suc k) fewer ∙ ap₂ ◌-◌ whole (before-suc P hp k)) below (to_z-neg w128 below short)
        ∙ ap (λ (x : ℕ). kept_if (negsuc k) (negsuc below) (some (negsuc x))) (before-div P hp k)
        ∙ kept_same (negsuc k) (negsuc below)
      where
        short : below < 2 ^ 127
        short = subst (λ (x : ℕ). x ≤ 2 ^ 127) (before-suc P hp k) g

        lt-le : suc k < Q → suc k ≤ Q
        lt-le l = omega arith

        fewer : suc k ≤ Q
        fewer = lt-le (lt_of_mul-lt-mul_right P (lt_of_le_of_lt g (subst (λ (x : ℕ). 2 ^ 127 < x) (sym whole) (lit< tt))))

    -- the bits, their rest by Q, what is kept, and what the rest lacks of Q, less 1
    abbrev u : ℕ
    u = 2 ^ 128 - suc k

    abbrev t : ℕ
    t = u % Q

    abbrev v : ℕ
    v = t * P

    abbrev lack : ℕ
    lack = Q - suc t

    all : suc lack * P + v ≡ 2 ^ 128
    all = sym (add-mul (suc lack) t P) ∙ ap (λ (x : ℕ). x * P) (parts Q t (mod-lt u hq)) ∙ whole
      where
        parts : (q s : ℕ) → s < q → suc (q - suc s) + s ≡ q
        parts q s l = omega arith

    taken : (2 ^ 128 - suc v) / P ≡ lack
    taken = ap (λ (x : ℕ). x / P) (go (2 ^ 128) v (before P hp lack) (ap (λ (x : ℕ). x + v) (sym (before-suc P hp lack)) ∙ all)) ∙ before-div P hp lack
      where
        go : (M w b : ℕ) → suc b + w ≡ M → M - suc w ≡ b
        go M w b e = omega arith

    negative_no : 2 ^ 127 < suc k * P → shl_kept (negsuc k) (pos n) ≡ none
    negative_no g =
        ⊎_elim
        (λ (l : v < 2 ^ 127). low (negsuc k) v (bits u) l ∙ kept_up k (v / P) (pos v))
        (λ (l : 2 ^ 127 ≤ v).
        high (negsuc k) v (bits u) (2 ^ 128 - suc v) (negative v l)
        ∙ kept_neg k ((2 ^ 128 - suc v) / P) (negsuc (2 ^ 128 - suc v)) (λ e. over (2 ^ 127) (2 ^ 128) (suc k * P) v refl l g (ap (λ (x : ℕ). suc x * P + v) (sym e ∙ taken) ∙ all)))
        (lt-or_ge v (2 ^ 127))
      where
        over : (H M x w : ℕ) → M ≡ H + H → H ≤ w → H < x → x + w ≡ M → ⊥
        over H M x w e l g q = omega arith

  -- ---- both
  product : (a : ℤ) → mag a < 2 ^ 127 → shl_kept a (pos n) ≡ exact (a *ℤ pos (2 ^ n))
  product (pos m) f =
      ⊎_elim (λ (l : m * P < 2 ^ 127). positive_yes m l ∙ sym (exact_yes (pos (m * P)) l))
      (λ (l : 2 ^ 127 ≤ m * P). positive_no m l ∙ sym (exact-no (pos (m * P)) l)) (lt-or_ge (m * P) (2 ^ 127))
  product (negsuc k) f =
      ⊎_elim
      (λ (l : before P hp k < 2 ^ 127). negative_yes k f (subst (λ (x : ℕ). x ≤ 2 ^ 127) (sym (before-suc P hp k)) l) ∙ sym (ap exact minus ∙ exact_yes (negsuc (before P hp k)) l))
      (λ (l : 2 ^ 127 ≤ before P hp k).
      negative_no k f (subst (λ (x : ℕ). 2 ^ 127 < x) (sym (before-suc P hp k)) (above (2 ^ 127) (before P hp k) l)) ∙ sym (ap exact minus ∙ exact-no (negsuc (before P hp k)) l))
      (lt-or_ge (before P hp k) (2 ^ 127))
    where
      minus : negsuc k *ℤ pos P ≡ negsuc (before P hp k)
      minus = ap (λ (x : ℕ). neg_ℤ (pos x)) (before-suc P hp k)

      above : (H b : ℕ) → H ≤ b → H < suc b
      above H b l = omega arith

no_shift : (a : ℤ) (n : ℕ) → 128 ≤ n → shl_of a n ≡ none
no_shift a n l = simp (le-ltb n 128 l)

no-count : (a : ℤ) (n : ℕ) → 128 ≤ n → shl_kept a (pos n) ≡ none
unfolding shl_kept taken_back
no-count a n l = ap (taken_back a (pos n)) (no_shift a n l)

-- a number within 128 bits, and any count
pub shift_is_product : (a b : ℤ) → mag a < 2 ^ 127 → shl_kept a b ≡ by_count (times_power a) b
unfolding shl_kept taken_back
shift_is_product a (pos n) f =
    ⊎_elim (λ (l : n < 128). product n l a f ∙ sym (simp (lt-ltb n 128 l)))
    (λ (l : 128 ≤ n). no-count a n l ∙ sym (simp (le-ltb n 128 l))) (lt-or_ge n 128)
shift_is_product a (negsuc n) f = refl
