-- Floats: x - x is a number exactly where x is finite; between -l and l is |x| at most l; and `float_fits` from these.
-- By the cases of IEEE 754's sum: no rounding gives a NaN. Assumes nothing.
use mathlib.Core.Path.{◌≡◌, refl, sym, ap, ◌∙◌, subst}
use mathlib.Core.Bool.{Bool, true, false, not, ◌&&◌, cond, beq}
use mathlib.Core.Option.{some}
use Prim.Native.Nat.{ℕ, zero, suc, ◌+◌, ◌*◌, ◌-◌, ◌/◌, ◌%◌, ◌^◌, ◌<◌, compare}
use native.Mathlib.Nat.{mul-pos, lt_of_lt_of_le, le-add_left, le-add_right}
use native.Mathlib.Omega.{arith}
use lib.Dec.{T, eqb, ltb}
use lib.IntN.{ℤ, pos}
use lib.Ieee.{Float, nan, inf, fin, Format, binary64, is_nan, eq, ne, neg, add, sub, le, lt, sum, round, units, odd, nan_bits, of_bits, up, down, low, prec, emax, size, nearest}
use lib.Ieee.Bits.{nan_bits_is}
use lib.Ieee.Compare.{differs_from_itself}
use lib.Ieee.Fits.{up_pos, down_pos}
use borrow.Author.Tests.{lt-ltb, eq-eqb, ne_eqb, eqb-true, eqb-false}
use denote.Floats.{passes}
use Rattle.conversion.specs.Types.{float_fits}
use Rattle.types.specs.declared.float_value.FloatValue.TheVariants as F
use Rattle.std.specs.Prelude.{Some}
use Rattle.types.specs.Floats.{float_of, finite, small}

-- what is no NaN equals itself
self : (x : Float) → is_nan x ≡ false → eq x x ≡ true
unfolding ne is_nan
self x e = flip (eq x x) (λ t. absurd (subst T (sym (ap is_nan (differs_from_itself x (passes (not (eq x x)) (ap not t)))) ∙ e) tt))
  where
    flip : (b : Bool) → (b ≡ false → ⊥) → b ≡ true
    flip true h = refl
    flip false h = absurd (h refl)

-- no rounding gives a NaN
odd_num : (d : ℕ) (s : Bool) (q k l : ℕ) → is_nan (odd d s q k l) ≡ false
unfolding odd is_nan
odd_num d s zero k l = refl
odd_num d s (suc q) k l = refl

cond_num : (b : Bool) (x y : Float) → is_nan x ≡ false → is_nan y ≡ false → is_nan (cond b x y) ≡ false
cond_num true x y p q = p
cond_num false x y p q = q

inf_num : (s : Bool) → is_nan (inf s) ≡ false
unfolding is_nan
inf_num s = refl

units_num : (f : Format) (s : Bool) (q k : ℕ) → is_nan (units f s q k) ≡ false
unfolding units
units_num f s q k =
    cond_num (ltb (q * 2 ^ k) (2 ^ (low f + suc (emax f)))) (odd (suc (prec f)) s q k (low f)) (inf s) (odd_num (suc (prec f)) s q k (low f)) (inf_num s)

-- it is some number of units
round_num : (f : Format) (s : Bool) (a b : ℕ) → is_nan (round f s a b) ≡ false
unfolding round
round_num f s a b =
    let n = a * 2 ^ low f in
    let k = size (n / b) - prec f in
    let u = b * 2 ^ k in
    units_num f s (nearest (n / u) (compare (n % u * 2) u)) k

sum_num : (f : Format) (s : Bool) (a : ℕ) (t : Bool) (b c : ℕ) → is_nan (sum f s a t b c) ≡ false
unfolding sum
sum_num f s a t b c =
    cond_num (beq s t) (round f s (a + b) c) (cond (ltb a b) (round f t (b - a) c) (round f (s && ltb b a) (a - b) c)) (round_num f s (a + b) c)
    (cond_num (ltb a b) (round f t (b - a) c) (round f (s && ltb b a) (a - b) c) (round_num f t (b - a) c) (round_num f (s && ltb b a) (a - b) c))

-- x - x is a number exactly where x is finite
pub finite-is : (x : Float) → eq (sub binary64 x x) (sub binary64 x x) ≡ finite x
unfolding finite sub add neg eq
finite-is nan = refl
finite-is (inf true) = refl
finite-is (inf false) = refl
finite-is (fin s m e) = self (sub binary64 (fin s m e) (fin s m e)) (sum_num binary64 s (m * up e * down e) (not s) (m * up e * down e) (down e * down e))

-- |x|
abs : Float → Float
abs nan = nan
abs (inf s) = inf false
abs (fin s m e) = fin false m e

and_yes : (a : Bool) → (a && true) ≡ a
and_yes true = refl
and_yes false = refl

eqb_sym : (a b : ℕ) → eqb a b ≡ eqb b a
eqb_sym a b = go (eqb a b) refl
  where
    go : (t : Bool) → eqb a b ≡ t → eqb a b ≡ eqb b a
    go true e = e ∙ sym (eq-eqb b a (sym (eqb-true a b e)))
    go false e = e ∙ sym (ne_eqb b a (λ q. eqb-false a b e (sym q)))

module _ (l : ℕ) (g : ℤ) (some-l : 0 < l) where
  positive : (e : ℤ) → 0 < l * up g * down e
  positive e = mul-pos (mul-pos some-l (up_pos g)) (down_pos e)

  between : (x : Float) → (le x (fin false l g) && le (neg (fin false l g)) x) ≡ le (abs x) (fin false l g)
  unfolding le lt eq neg abs
  between nan = refl
  between (inf true) = refl
  between (inf false) = refl
  between (fin true m e) =
      let p : 0 < m * up e * down g + l * up g * down e = lt_of_lt_of_le (positive e) (le-add_left (l * up g * down e) (m * up e * down g)) in
      rw (lt-ltb 0 (m * up e * down g + l * up g * down e) p, eqb_sym (l * up g * down e) (m * up e * down g)) refl
  between (fin false m e) =
      let p : 0 < l * up g * down e + m * up e * down g = lt_of_lt_of_le (positive e) (le-add_right (l * up g * down e) (m * up e * down g)) in
      rw (lt-ltb 0 (l * up g * down e + m * up e * down g) p) (and_yes (le (fin false m e) (fin false l g)))

-- the limit is (2 ^ 24 - 1) * 2 ^ 104
limit_is : of_bits binary64 0x47EFFFFFE0000000 ≡ fin false 16777215 (pos 104)
unfolding of_bits
limit_is = refl

small_is : (x : Float) → small x ≡ le (abs x) (of_bits binary64 0x47EFFFFFE0000000)
unfolding small
small_is x = rw limit_is (between 16777215 (pos 104) (omega arith) x)

and_no : (a : Bool) → (a && false) ≡ false
and_no true = refl
and_no false = refl

-- the two tests of `small`, the lower limit first
module _ (x : Float) (r : Bool) (e : le (neg (of_bits binary64 0x47EFFFFFE0000000)) x ≡ r) where
  pub small_above : r ≡ true → le x (of_bits binary64 0x47EFFFFFE0000000) ≡ small x
  unfolding small
  small_above h = rw (e, h) (sym (and_yes (le x (of_bits binary64 0x47EFFFFFE0000000))))

  pub small_below : r ≡ false → r ≡ small x
  unfolding small
  small_below h = rw (e, h) (sym (and_no (le x (of_bits binary64 0x47EFFFFFE0000000))))

-- ---- float_fits

pub fits-small : (x : Float) (s : Bool) → finite x ≡ true → s ≡ true → small x ≡ float_fits x s
unfolding float_fits finite abs
fits-small nan s f e = absurd (subst T (sym f) tt)
fits-small (inf t) s f e = absurd (subst T (sym f) tt)
fits-small (fin t m k) s f e = small_is (fin t m k) ∙ rw e

pub fits-long : (x : Float) (s : Bool) → finite x ≡ true → s ≡ false → true ≡ float_fits x s
unfolding float_fits finite
fits-long nan s f e = absurd (subst T (sym f) tt)
fits-long (inf t) s f e = absurd (subst T (sym f) tt)
fits-long (fin t m k) s f e = rw e

pub fits_not : (x : Float) (s : Bool) → finite x ≡ false → false ≡ float_fits x s
unfolding float_fits finite
fits_not nan s f = refl
fits_not (inf t) s f = refl
fits_not (fin t m k) s f = absurd (subst T f tt)

-- ---- a NaN set apart

nan_is : (x : Float) → is_nan x ≡ true → nan ≡ x
unfolding is_nan
nan_is nan e = refl
nan_is (inf s) e = absurd (subst T (sym e) tt)
nan_is (fin s m k) e = absurd (subst T (sym e) tt)

pub bits_nan : (b : ℕ) → nan_bits binary64 b ≡ true → float_of (Some F.Nan) ≡ some (of_bits binary64 b)
unfolding float_of
bits_nan b e = ap some (nan_is (of_bits binary64 b) (sym (nan_bits_is binary64 b) ∙ e))

pub told_nan : (x : Float) → eq x x ≡ false → float_of (Some F.Nan) ≡ some x
unfolding float_of ne
told_nan x e = ap some (sym (differs_from_itself x (passes (not (eq x x)) (ap not e))))
