-- Samples of a text: a digest over a run of bytes shifts with where it begins, so that the digests at the run's ends and its power give it; and how samples are written.
-- By induction over the bytes, and the laws of remainders. Assumes nothing.
use mathlib.Core.Path.{◌≡◌, refl, sym, ap, ap₂, ◌∙◌}
use mathlib.Core.Logic.{inl, inr}
use mathlib.Core.List.{List, [], ◌∷◌, ◌++◌}
use Prim.Native.Nat.{ℕ, zero, suc, ◌+◌, ◌-◌, ◌*◌, ◌/◌, ◌%◌, ◌≤◌, ◌<◌}
use native.Mathlib.Nat.{mul-zero, zero-mul, mul_comm, mul_assoc, mul-add, mod-add-mod, add-mul, one-mul, mul-one, suc-add, mul-le-mul, lt_of_mul-lt-mul_right, lt-mul-div-succ, div-mul-le_self, lt-div-mul-add, le-div_iff_mul-le}
use native.Mathlib.Numerals.{add-one}
use native.Mathlib.Omega.{arith}
use lib.ListN.{length, get_or}
use borrow.Author.Count.{below_more}
use Rattle.laws.specs.Splice.{splice}
use Rattle.laws.proofs.Splices.{length-splice}
use Rattle.records.specs.Words.{byte_at, word_at, text_at, word, bytes_of}
use Rattle.records.specs.Digest.{roll_step, roll_from, roll_of}
use Rattle.records.specs.Samples.{roll_power, roll_across, roll_between, sample_at, SampleRoom, Sampled, Samples}
use Rattle.records.proofs.Apart.{word_same, byte-apart, word-apart, word-there, word_back}
use Rattle.records.proofs.TextLaws.{reach_whole}
use Rattle.records.proofs.RollLaws.{roll_append, roll_small, text_split, step-exact}

-- ---- products and remainders

pub product_small : (a b : ℕ) → a < 4294967296 → b < 4294967296 → a * b ≤ 18446744065119617025
product_small a b ha hb = let x : a ≤ 4294967295 = omega arith in let y : b ≤ 4294967295 = omega arith in mul-le-mul x y

-- a factor may be replaced by its remainder
factor_left : (a y z : ℕ) → (a + y * (z % 4294967291)) % 4294967291 ≡ (a + y * z) % 4294967291
factor_left a y z =
    let q : ℕ = z / 4294967291 in
    let r : ℕ = z % 4294967291 in
    let e : z ≡ q * 4294967291 + r = omega arith in
    let m : y * z ≡ y * q * 4294967291 + y * r = ap (λ (x : ℕ). y * x) e ∙ mul-add y (q * 4294967291) r ∙ ap (λ (x : ℕ). x + y * r) (sym (mul_assoc y q 4294967291)) in
    omega (arith, m)

factor : (y z : ℕ) → y * (z % 4294967291) % 4294967291 ≡ y * z % 4294967291
factor y z = omega (arith, factor_left 0 y z)

-- ---- a digest's power

pub power_small : (n : ℕ) → roll_power n < 4294967291
unfolding roll_power roll_step
power_small zero = omega arith
power_small (suc n) = omega arith

-- over a byte more
pub power_one : (i x r : ℕ) → x ≡ roll_power i → r ≡ roll_step x 0 → r ≡ roll_power (i + 1)
unfolding roll_power
power_one i x r ex er = er ∙ ap (λ (v : ℕ). roll_step v 0) ex ∙ ap roll_power (sym (add-one i))

-- over n bytes and m more
pub power_add : (n m : ℕ) → roll_power n * roll_power m % 4294967291 ≡ roll_power (n + m)
unfolding roll_power roll_step
power_add zero m = let z : 0 + m ≡ m = omega arith in ap (λ (x : ℕ). x % 4294967291) (one-mul (roll_power m)) ∙ rw z (omega (arith, power_small m))
power_add (suc n) m =
    let x : ℕ = roll_power n in
    let y : ℕ = roll_power m in
    let e : y * (x * 256 + 0) ≡ x * y * 256 + 0 = mul-add y (x * 256) 0 ∙ ap₂ ◌+◌ (sym (mul_assoc y x 256) ∙ ap (λ (v : ℕ). v * 256) (mul_comm y x)) (mul-zero y) in
    ap (λ (v : ℕ). v % 4294967291) (mul_comm ((x * 256 + 0) % 4294967291) y)
    ∙ factor y (x * 256 + 0)
    ∙ ap (λ (v : ℕ). v % 4294967291) e
    ∙ sym (step-exact (x * y) 0)
    ∙ ap (λ (v : ℕ). roll_step v 0) (power_add n m)
    ∙ ap roll_power (sym (suc-add n m))

-- ---- the shift

shift : (t : List ℕ) (x y : ℕ) → roll_from ((x + y) % 4294967291) t ≡ (roll_from x t + y * roll_power (length t)) % 4294967291
unfolding roll_from roll_power roll_step
shift [] x y = ap (λ (z : ℕ). (x + z) % 4294967291) (sym (mul-one y))
shift (b ∷ t) x y =
    let p : ℕ = roll_power (length t) in
    let z : (x + y) * 256 + b ≡ x * 256 + b + y * 256 = omega arith in
    let e : y * 256 * p ≡ y * (p * 256 + 0) = mul_assoc y 256 p ∙ ap (λ (v : ℕ). y * v) (omega arith) in
    ap (λ (h : ℕ). roll_from h t) (step-exact (x + y) b ∙ ap (λ (v : ℕ). v % 4294967291) z ∙ sym (mod-add-mod (x * 256 + b) 4294967291 (y * 256)))
    ∙ shift t (roll_step x b) (y * 256)
    ∙ ap (λ (v : ℕ). (roll_from (roll_step x b) t + v) % 4294967291) e
    ∙ sym (factor_left (roll_from (roll_step x b) t) y (p * 256 + 0))

-- over a run from i on, by the digests at its ends and its power
module _ (text : List ℕ) where
  abbrev beginning : ℕ → ℕ
  beginning i = roll_of (text_at text 0 i)

  beginning_on : (i n : ℕ) → beginning (i + n) ≡ roll_from (beginning i) (text_at text i n)
  beginning_on i n =
      let z : 0 + i ≡ i = omega arith in
      ap roll_of (text_split text 0 i n) ∙ roll_append 1 (text_at text 0 i) (text_at text (0 + i) n) ∙ ap (λ (o : ℕ). roll_from (beginning i) (text_at text o n)) z

  pub across : (h i n : ℕ) → h < 4294967291 → i + n ≤ length text → roll_across h (beginning i) (beginning (i + n)) (roll_power n) ≡ roll_from h (text_at text i n)
  unfolding roll_across
  across h i n small fit =
      let from : ℕ = beginning i in
      let more : ℕ = (h + 4294967291 - from) % 4294967291 in
      let below : from < 4294967291 = roll_small 1 (text_at text 0 i) (omega arith) in
      let back : (from + more) % 4294967291 ≡ h = omega arith in
      let long : n ≡ length (text_at text i n) = reach_whole text i n (omega arith) in
      ap (λ (v : ℕ). (v + more * roll_power n) % 4294967291) (beginning_on i n)
      ∙ ap (λ (m : ℕ). (roll_from from (text_at text i n) + more * roll_power m) % 4294967291) long
      ∙ sym (shift (text_at text i n) from more)
      ∙ ap (λ (v : ℕ). roll_from v (text_at text i n)) back

  -- a part in three: x bytes from i on, m from a on, and e from b on
  in_three : (i a b x m e : ℕ) → i + x ≡ a → a + m ≡ b → roll_from (roll_from (roll_of (text_at text i x)) (text_at text a m)) (text_at text b e) ≡ roll_of (text_at text i (x + (m + e)))
  in_three i a b x m e ea eb =
      rw (← eb, ← ea)
      (sym
      (ap roll_of (text_split text i x (m + e))
      ∙ roll_append 1 (text_at text i x) (text_at text (i + x) (m + e))
      ∙ ap (roll_from (roll_of (text_at text i x))) (text_split text (i + x) m e)
      ∙ roll_append (roll_of (text_at text i x)) (text_at text (i + x) m) (text_at text (i + x + m) e)))

-- what the code reads of two samples
pub between-told : (l : List ℕ) (at h first last from to power r : ℕ) → from ≡ word_at l (sample_at at first) → to ≡ word_at l (sample_at at last)
    → power ≡ word_at l (sample_at at (last - first) + 4) → r ≡ roll_across h from to power → r ≡ roll_between l at h first last
between-told l at h first last from to power r ef et ep er = er ∙ rw (ef, et, ep) refl

-- ---- n bytes from i on, more than a stride: the first sample behind i, and the last before the end

module _ (i n stride : ℕ) (some : 0 < stride) (more : stride < n) where
  abbrev first : ℕ
  first = i / stride + 1

  abbrev last : ℕ
  last = (i + n) / stride

  first-place : first * stride ≡ i / stride * stride + stride
  first-place = add-mul (i / stride) 1 stride ∙ ap (λ (v : ℕ). i / stride * stride + v) (one-mul stride)

  pub first-behind : i < first * stride
  first-behind = omega (arith, first-place, lt-div-mul-add {a = i} some)

  pub first_near : first * stride ≤ i + stride
  first_near = omega (arith, first-place, div-mul-le_self i stride)

  pub last-before : last * stride ≤ i + n
  last-before = div-mul-le_self (i + n) stride

  pub in_order : first ≤ last
  in_order = (le-div_iff_mul-le some).1 (omega (arith, first_near))

  run_between : last * stride ≡ first * stride + (last - first) * stride
  run_between = let z : last ≡ first + (last - first) = omega (arith, in_order) in ap (λ (v : ℕ). v * stride) z ∙ add-mul first (last - first) stride

  module _ (text l : List ℕ) (at : ℕ) (s : Sampled text stride at l) (fit : i + n ≤ length text) where
    pub first_small : word_at l (sample_at at first) < 4294967291
    first_small = rw (s.rolls some first (omega (arith, first_near))) (roll_small 1 (text_at text 0 (first * stride)) (omega arith))

    pub last-room : sample_at at (last + 1) ≤ length l
    last-room = s.room some last (omega (arith, last-before))

    between : (d : ℕ) → d < 4294967291 → roll_between l at d first last ≡ roll_from d (text_at text (first * stride) ((last - first) * stride))
    between d small =
        let e : beginning text (last * stride) ≡ beginning text (first * stride + (last - first) * stride) = ap (beginning text) run_between in
        rw (s.rolls some first (omega (arith, first_near)), s.rolls some last (omega (arith, last-before)), s.powers some (last - first) (omega (arith, last-before, run_between)), e)
        (across text d (first * stride) ((last - first) * stride) small (omega (arith, last-before, run_between)))

    pub long-told : (d h r : ℕ) → (d ≡ roll_of (text_at text i (first * stride - i))) × (d < 4294967291) → h ≡ roll_between l at d first last
        → r ≡ roll_from h (text_at text (last * stride) (i + n - last * stride)) → r ≡ roll_of (text_at text i n)
    long-told d h r ed eh er =
        let x : ℕ = first * stride - i in
        let m : ℕ = (last - first) * stride in
        let e : ℕ = i + n - last * stride in
        let a : i + x ≡ first * stride = omega (arith, first-behind) in
        let b : first * stride + m ≡ last * stride = omega (arith, run_between) in
        let all : x + (m + e) ≡ n = omega (arith, a, b, last-before) in
        er
        ∙ ap (λ (v : ℕ). roll_from v (text_at text (last * stride) e)) (eh ∙ between d ed.1 ∙ ap (λ (v : ℕ). roll_from v (text_at text (first * stride) m)) ed.0)
        ∙ in_three text i (first * stride) (last * stride) x m e a b
        ∙ ap (λ (v : ℕ). roll_of (text_at text i v)) all

-- ---- the samples are written one after the other: those below k, and the other bytes are as they were

pub record Filled (text : List ℕ) (stride at : ℕ) (l₀ : List ℕ) (k : ℕ) (l : List ℕ) : Type 0 where
  pub rolls : (j : ℕ) → j < k → word_at l (sample_at at j) ≡ roll_of (text_at text 0 (j * stride))
  pub powers : (j : ℕ) → j < k → word_at l (sample_at at j + 4) ≡ roll_power (j * stride)
  pub before : (i : ℕ) → i < at → get_or l i 0 ≡ get_or l₀ i 0
  pub behind : (i : ℕ) → SampleRoom (length text) stride at i → get_or l i 0 ≡ get_or l₀ i 0
  pub long : length l ≡ length l₀

-- none yet, and none at all
pub filled_none : (text : List ℕ) (stride at : ℕ) (l : List ℕ) → Filled text stride at l 0 l
filled_none text stride at l =
    record { rolls = λ j h. absurd (omega arith); powers = λ j h. absurd (omega arith); before = λ i h. refl; behind = λ i h. refl; long = refl }

pub samples_none : (text : List ℕ) (stride at : ℕ) (l : List ℕ) → stride ≡ 0 → Samples text stride at l l
samples_none text stride at l e =
    record {
      sampled = record { room = λ h. absurd (omega arith); rolls = λ h. absurd (omega arith); powers = λ h. absurd (omega arith) };
      before = λ i h. refl;
      behind = λ i h. refl;
      long = refl;
    }

-- the text up to sample k has this digest and power, and those below m are written
pub record Sampling (text : List ℕ) (stride at : ℕ) (l₀ : List ℕ) (k m d power : ℕ) (l : List ℕ) : Type 0 where
  pub within : k * stride ≤ length text
  pub digest : d ≡ roll_of (text_at text 0 (k * stride))
  pub powered : power ≡ roll_power (k * stride)
  pub filled : Filled text stride at l₀ m l

pub sampling_none : (text : List ℕ) (stride at : ℕ) (l : List ℕ) → Sampling text stride at l 0 0 1 1 l
unfolding roll_from roll_power text_at
sampling_none text stride at l =
    let z : 0 * stride ≡ 0 = zero-mul stride in
    record { within = omega (arith, z); digest = rw z refl; powered = rw z refl; filled = filled_none text stride at l }

pub digest-small : (text : List ℕ) (stride at : ℕ) (l₀ : List ℕ) (k m d power : ℕ) (l : List ℕ) → Sampling text stride at l₀ k m d power l → d < 4294967291
digest-small text stride at l₀ k m d power l s = rw s.digest (roll_small 1 (text_at text 0 (k * stride)) (omega arith))

-- sample k is written
module _ (text : List ℕ) (stride at : ℕ) (l₀ : List ℕ) (room : SampleRoom (length text) stride at (length l₀)) (some : 0 < stride)
    (k d power : ℕ) (l : List ℕ) (s : Sampling text stride at l₀ k k d power l) where
  pub sample_fits : sample_at at (k + 1) ≤ length l
  sample_fits = omega (arith, room some k s.within, s.filled.long)

  vs : List ℕ
  vs = word d ++ word power

  vs_fit : sample_at at k + length vs ≤ length l
  unfolding vs word bytes_of
  vs_fit = omega (arith, sample_fits)

  roll_written : word_at (splice l (sample_at at k) vs) (sample_at at k) ≡ roll_of (text_at text 0 (k * stride))
  unfolding vs word bytes_of word_at byte_at
  roll_written =
      word-there l (sample_at at k) vs vs_fit 0 (sample_at at k) (omega arith) (omega arith)
      ∙ word_back d (omega (arith, digest-small text stride at l₀ k k d power l s))
      ∙ s.digest

  power_written : word_at (splice l (sample_at at k) vs) (sample_at at k + 4) ≡ roll_power (k * stride)
  unfolding vs word bytes_of word_at byte_at
  power_written =
      word-there l (sample_at at k) vs vs_fit 4 (sample_at at k + 4) refl (omega arith)
      ∙ word_back power (omega (arith, s.powered, power_small (k * stride)))
      ∙ s.powered

  stays : (j : ℕ) → j + 4 ≤ sample_at at k → word_at (splice l (sample_at at k) vs) j ≡ word_at l j
  stays j h = word-apart l (sample_at at k) vs vs_fit j (inl h)

  written : Filled text stride at l₀ (k + 1) (splice l (sample_at at k) vs)
  unfolding vs word bytes_of
  written =
      record {
        rolls =
            below_more (λ (j : ℕ). word_at (splice l (sample_at at k) vs) (sample_at at j) ≡ roll_of (text_at text 0 (j * stride))) k
            (λ j h. stays (sample_at at j) (omega arith) ∙ s.filled.rolls j h)
            roll_written;
        powers =
            below_more (λ (j : ℕ). word_at (splice l (sample_at at k) vs) (sample_at at j + 4) ≡ roll_power (j * stride)) k
            (λ j h. stays (sample_at at j + 4) (omega arith) ∙ s.filled.powers j h)
            power_written;
        before = λ j h. byte-apart l (sample_at at k) vs vs_fit j (inl (omega arith)) ∙ s.filled.before j h;
        behind =
            λ j h.
            byte-apart l (sample_at at k) vs vs_fit j (inr (omega (arith, h some k s.within)))
            ∙ s.filled.behind j h;
        long = length-splice l (sample_at at k) vs vs_fit ∙ s.filled.long;
      }

  pub sampling_written : (p : ℕ) (l' : List ℕ) → p ≡ sample_at at k → l' ≡ splice l p (word d ++ word power) → Sampling text stride at l₀ k (k + 1) d power l'
  unfolding vs
  sampling_written p l' ep e = record { within = s.within; digest = s.digest; powered = s.powered; filled = rw (e, ep) written }

module _ (text : List ℕ) (stride at : ℕ) (l₀ : List ℕ) (some : 0 < stride) (k d power : ℕ) (l : List ℕ) (s : Sampling text stride at l₀ k (k + 1) d power l) where
  next_place : (k + 1) * stride ≡ k * stride + stride
  next_place = add-mul k 1 stride ∙ ap (λ (v : ℕ). k * stride + v) (one-mul stride)

  -- there is another
  pub stride_fits : k < length text / stride → k * stride + stride ≤ length text
  stride_fits h = omega (arith, next_place, (le-div_iff_mul-le {x = k + 1} {y = length text} some).0 (omega arith))

  pub sampling_more : (f d' power' : ℕ) → k < length text / stride → f ≡ roll_power stride → d' ≡ roll_from d (text_at text (k * stride) stride)
      → power' ≡ power * f % 4294967291 → Sampling text stride at l₀ (k + 1) (k + 1) d' power' l
  sampling_more f d' power' h ef ed ep =
      record {
        within = omega (arith, next_place, stride_fits h);
        digest = ed ∙ ap (λ (v : ℕ). roll_from v (text_at text (k * stride) stride)) s.digest ∙ sym (beginning_on text (k * stride) stride) ∙ ap (beginning text) (sym next_place);
        powered = ep ∙ ap₂ (λ (x y : ℕ). x * y % 4294967291) s.powered ef ∙ power_add (k * stride) stride ∙ ap roll_power (sym next_place);
        filled = s.filled;
      }

  -- or it was the last
  pub samples-all : SampleRoom (length text) stride at (length l₀) → length text / stride ≤ k → Samples text stride at l₀ l
  samples-all room last =
      let passed : (j : ℕ) → j * stride ≤ length text → j < k + 1 = λ j h. omega (arith, (le-div_iff_mul-le {x = j} some).1 h) in
      record {
        sampled =
            record {
              room = λ z j h. omega (arith, room z j h, s.filled.long);
              rolls = λ z j h. s.filled.rolls j (passed j h);
              powers = λ z j h. s.filled.powers j (passed j h);
            };
        before = s.filled.before;
        behind = s.filled.behind;
        long = s.filled.long;
      }

-- ---- a stride for which the samples have room, and samples that stay

-- by sixteens, as near as so many bytes allow
pub stride_room : (bytes room : ℕ) → 0 < room / 8 → SampleRoom bytes ((bytes / 16 / (room / 8) + 1) * 16) 0 room
stride_room bytes room some z k h =
    let entries : ℕ = room / 8 in
    let c : ℕ = bytes / 16 / entries + 1 in
    let q : k * c < entries * c = omega (arith, mul_assoc k c 16, lt-mul-div-succ (bytes / 16) some) in
    omega (arith, lt_of_mul-lt-mul_right c q)

-- the bytes up to one before which all samples have room are as they were
pub sampled-stays : (text : List ℕ) (stride at end : ℕ) (l l' : List ℕ) → SampleRoom (length text) stride at end → ((p : ℕ) → at ≤ p → p < end → get_or l' p 0 ≡ get_or l p 0)
    → length l' ≡ length l → Sampled text stride at l → Sampled text stride at l'
sampled-stays text stride at end l l' fit same long s =
    let word_kept : (p : ℕ) → at ≤ p → p + 4 ≤ end → word_at l' p ≡ word_at l p =
    λ p h e. word_same l' p l p (same p h (omega arith)) (same (p + 1) (omega arith) (omega arith)) (same (p + 2) (omega arith) (omega arith)) (same (p + 3) (omega arith) (omega arith)) in
    record {
      room = λ z k h. omega (arith, s.room z k h);
      rolls = λ z k h. word_kept (sample_at at k) (omega arith) (omega (arith, fit z k h)) ∙ s.rolls z k h;
      powers = λ z k h. word_kept (sample_at at k + 4) (omega arith) (omega (arith, fit z k h)) ∙ s.powers z k h;
    }

-- and so are all bytes from the first sample on
pub sampled-kept : (text : List ℕ) (stride at : ℕ) (l l' : List ℕ) → ((p : ℕ) → at ≤ p → get_or l' p 0 ≡ get_or l p 0) → length l' ≡ length l
    → Sampled text stride at l → Sampled text stride at l'
sampled-kept text stride at l l' same long s = sampled-stays text stride at (length l) l l' s.room (λ p h e. same p h) long s
