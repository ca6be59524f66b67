-- The digest that goes on: over two texts one behind the other, over four, eight and sixteen bytes at once, and over what is left of a run.
-- A number's remainder is that of its parts' remainders; 2^32 less 5 is the modulus, and steps of two widths make one of both. Assumes nothing.
use mathlib.Core.Path.{◌≡◌, refl, sym, ap, ◌∙◌}
use mathlib.Core.List.{List, [], ◌∷◌, ◌++◌}
use Prim.Native.Nat.{ℕ, ◌+◌, ◌-◌, ◌*◌, ◌/◌, ◌%◌, ◌≤◌, ◌<◌}
use native.Mathlib.Nat.{add-mul, mul_assoc, mul-add-mod_self_right}
use native.Mathlib.Omega.{arith}
use lib.ListN.{length, take, drop, get_or}
use lib.Seq.{drop-drop, take-add}
use Rattle.records.specs.Words.{byte_at, text_at}
use Rattle.records.specs.Digest.{roll_step, roll_from, high_first}
use Rattle.records.proofs.TextLaws.{first_byte}
use Rattle.records.proofs.EightLaws.{four_bytes}

-- one text, and another behind it
pub roll_append : (h : ℕ) (a b : List ℕ) → roll_from h (a ++ b) ≡ roll_from (roll_from h a) b
unfolding roll_from
roll_append h [] b = refl
roll_append h (x ∷ a) b = roll_append (roll_step h x) a b

-- it stays below 2^32 - 5
pub roll_small : (h : ℕ) (t : List ℕ) → h < 4294967291 → roll_from h t < 4294967291
unfolding roll_from roll_step
roll_small h [] e = e
roll_small h (b ∷ t) e = roll_small (roll_step h b) t (omega arith)

-- the first n bytes from `at` on, and m behind them
pub text_split : (t : List ℕ) (o n m : ℕ) → text_at t o (n + m) ≡ text_at t o n ++ text_at t (o + n) m
unfolding text_at
text_split t o n m = take-add n m (drop o t) ∙ ap (λ (l : List ℕ). take n (drop o t) ++ take m l) (drop-drop n o t)

-- a byte more
pub step-exact : (y b : ℕ) → roll_step (y % 4294967291) b ≡ (y * 256 + b) % 4294967291
unfolding roll_step
step-exact y b =
    let z : y * 256 + b ≡ y / 4294967291 * 256 * 4294967291 + (y % 4294967291 * 256 + b) = omega arith in
    sym (ap (λ (n : ℕ). n % 4294967291) z ∙ mul-add-mod_self_right (y / 4294967291 * 256) 4294967291 (y % 4294967291 * 256 + b))

-- ---- several bytes at once

-- over the w bytes from i on any digest is multiplied by k, and g is added
abbrev pub RollOver : List ℕ → ℕ → ℕ → ℕ → ℕ → Type 0
RollOver t i w k g = (y : ℕ) → roll_from (y % 4294967291) (text_at t i w) ≡ (y * k + g) % 4294967291

-- w bytes, and v behind them
over-both : (t : List ℕ) (i w v k m g h : ℕ) → RollOver t i w k g → RollOver t (i + w) v m h → RollOver t i (w + v) (k * m) (g * m + h)
over-both t i w v k m g h first second y =
    let z : (y * k + g) * m + h ≡ y * (k * m) + (g * m + h) = omega (arith, add-mul (y * k) g m, mul_assoc y k m) in
    ap (roll_from (y % 4294967291)) (text_split t i w v)
    ∙ roll_append (y % 4294967291) (text_at t i w) (text_at t (i + w) v)
    ∙ ap (λ (x : ℕ). roll_from x (text_at t (i + w) v)) (first y)
    ∙ second (y * k + g)
    ∙ ap (λ (n : ℕ). n % 4294967291) z

abbrev more : ℕ → ℕ → ℕ
more y b = y * 256 + b

four_exact : (y a b c d : ℕ) → roll_from (y % 4294967291) (a ∷ b ∷ c ∷ d ∷ []) ≡ more (more (more (more y a) b) c) d % 4294967291
unfolding roll_from
four_exact y a b c d =
    rw (step-exact y a, step-exact (more y a) b, step-exact (more (more y a) b) c, step-exact (more (more (more y a) b) c) d) refl

-- four bytes: 2^32 is 5
pub over_four : (t : List ℕ) (i : ℕ) → i + 4 ≤ length t → RollOver t i 4 5 (high_first t i)
unfolding high_first
over_four t i h y =
    let z : more (more (more (more y (byte_at t i)) (byte_at t (i + 1))) (byte_at t (i + 2))) (byte_at t (i + 3)) ≡ y * 4294967291 + (y * 5 + high_first t i) =
    omega arith in
    ap (roll_from (y % 4294967291)) (four_bytes t i h)
    ∙ four_exact y (byte_at t i) (byte_at t (i + 1)) (byte_at t (i + 2)) (byte_at t (i + 3))
    ∙ ap (λ (n : ℕ). n % 4294967291) z
    ∙ mul-add-mod_self_right y 4294967291 (y * 5 + high_first t i)

-- eight, and sixteen, by their halves
abbrev eight : List ℕ → ℕ → ℕ
eight t i = high_first t i * 5 + high_first t (i + 4)

pub over_eight : (t : List ℕ) (i : ℕ) → i + 8 ≤ length t → RollOver t i 8 25 (eight t i)
over_eight t i h = over-both t i 4 4 5 5 (high_first t i) (high_first t (i + 4)) (over_four t i (omega arith)) (over_four t (i + 4) (omega arith))

pub over_sixteen : (t : List ℕ) (i : ℕ) → i + 16 ≤ length t → RollOver t i 16 625 (eight t i * 25 + eight t (i + 8))
over_sixteen t i h = over-both t i 8 8 25 25 (eight t i) (eight t (i + 8)) (over_eight t i (omega arith)) (over_eight t (i + 8) (omega arith))

-- as the code adds them
pub over-told : (t : List ℕ) (i w k g x s r : ℕ) → RollOver t i w k g → r % 4294967291 ≡ s % 4294967291 → s ≡ x * k + g
    → r % 4294967291 ≡ roll_from (x % 4294967291) (text_at t i w)
over-told t i w k g x s r over e z = e ∙ ap (λ (n : ℕ). n % 4294967291) z ∙ sym (over x)

-- ---- a run of n bytes from `at` on: what was asked is what is left from i on

abbrev pub RollLeft : List ℕ → ℕ → ℕ → ℕ → ℕ → ℕ → Type 0
RollLeft t d at n x i = (i ≤ n) × (x < 8589934592) × (roll_from d (text_at t at n) ≡ roll_from (x % 4294967291) (text_at t (at + i) (n - i)))

-- the same by other names, where two ways meet
pub roll_met : (t : List ℕ) (d at n x i y j : ℕ) → y ≡ x → j ≡ i → RollLeft t d at n x i → RollLeft t d at n y j
roll_met t d at n x i y j ey ej w = rw (ey, ej) w

module _ (t : List ℕ) (d at n : ℕ) (fit : at + n ≤ length t) where
  pub roll_on : (w x r i : ℕ) → RollLeft t d at n x i → w ≤ n - i → (r % 4294967291 ≡ roll_from (x % 4294967291) (text_at t (at + i) w)) × (r < 8589934592) → RollLeft t d at n r (i + w)
  roll_on w x r i left h e =
      let z : n - i ≡ w + (n - (i + w)) = omega (arith, left.0) in
      let y : at + i + w ≡ at + (i + w) = omega arith in (
        omega (arith, left.0),
        e.1,
        left.2
            ∙ ap (λ (m : ℕ). roll_from (x % 4294967291) (text_at t (at + i) m)) z
            ∙ ap (roll_from (x % 4294967291)) (text_split t (at + i) w (n - (i + w)))
            ∙ roll_append (x % 4294967291) (text_at t (at + i) w) (text_at t (at + i + w) (n - (i + w)))
            ∙ ap (λ (v : ℕ). roll_from v (text_at t (at + i + w) (n - (i + w)))) (sym e.0)
            ∙ ap (λ (o : ℕ). roll_from (r % 4294967291) (text_at t o (n - (i + w)))) y,
      )

  pub roll_one : (x r i b : ℕ) → RollLeft t d at n x i → i < n → b ≡ get_or t (at + i) 0 → (r % 4294967291 ≡ (x * 256 + b) % 4294967291) × (r < 8589934592) → RollLeft t d at n r (i + 1)
  unfolding roll_from
  roll_one x r i b w h eb e = (
    omega arith,
    e.1,
    w.2
        ∙ ap (roll_from (x % 4294967291)) (first_byte t at n i h fit)
        ∙ ap (λ (v : ℕ). roll_from v (text_at t (at + (i + 1)) (n - (i + 1)))) (step-exact x (get_or t (at + i) 0) ∙ ap (λ (y : ℕ). (x * 256 + y) % 4294967291) (sym eb) ∙ sym e.0),
  )

  pub roll_end : (x i : ℕ) → RollLeft t d at n x i → n ≤ i → (x % 4294967291 ≡ roll_from d (text_at t at n)) × (x % 4294967291 < 4294967291)
  unfolding roll_from text_at
  roll_end x i w h =
      let z : n - i ≡ 0 = omega arith in
      (sym (w.2 ∙ ap (λ (m : ℕ). roll_from (x % 4294967291) (text_at t (at + i) m)) z), omega arith)
