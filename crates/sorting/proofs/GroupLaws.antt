-- What sorted entries tell: any two are in order, those with one key stand together, the lower first; so which repeat a key, and which is the first with one.
-- By the laws of the order, and by induction on how far entries lie apart. Assumes nothing.
use mathlib.Core.Path.{◌≡◌, refl, sym, ap, subst, ◌∙◌}
use mathlib.Core.Logic.{◌⊎◌, inl, inr}
use mathlib.Core.Bool.{Bool, true, false, ◌&&◌, false≢true}
use mathlib.Core.List.{List}
use Prim.Native.Nat.{ℕ, zero, suc, ◌+◌, ◌-◌, ◌*◌, ◌≤◌, ◌<◌, min}
use native.Mathlib.Omega.{arith}
use lib.Dec.{eqb, ltb}
use lib.ListN.{length, get_or}
use borrow.Author.Tests.{eq-eqb, eqb-true, lt-ltb, ltb-true, ltb-false}
use Rattle.laws.specs.Splice.{splice}
use Rattle.laws.proofs.Splices.{length-splice}
use Rattle.laws.proofs.Tests.{tested, and_left, and_right}
use Rattle.records.specs.Words.{byte_at, word_at, bytes_of, word, same_text}
use Rattle.records.specs.Order.{common}
use Rattle.records.proofs.Apart.{byte-apart, word-apart, word-there, word_back}
use Rattle.records.proofs.CommonLaws.{common_self}
use Rattle.records.proofs.TextLaws.{same-texts}
use Rattle.records.proofs.DigestLaws.{same-equal}
use Rattle.sorting.specs.Sorted.{ahead, Precedes, record_in, shared_in, same_next, HasEntry, SortedRecords, Repeated, RepeatedBehind, FirstRepeated, FirstOfKey, FirstUpTo, NumbersApart, NumberedUpTo}
use Rattle.sorting.proofs.AheadLaws.{ahead_weak, ahead_self, ahead_trans, ahead-both, whole}
use Rattle.sorting.proofs.MergeLaws.{SameEntries, entries-kept, sorted-kept}

-- two keys are the same just if they agree to the end of both
pub same_whole : (x y : List ℕ) (shared a b : ℕ) → shared ≡ common x y → a ≡ length x → b ≡ length y → (eqb shared a && eqb shared b) ≡ same_text x y
same_whole x y shared a b es ea eb =
    tested (same_text x y)
    (λ q.
    let e : x ≡ y = same-equal x y q in
    let l : shared ≡ a = es ∙ ap (common x) (sym e) ∙ common_self x ∙ sym ea in
    let r : shared ≡ b = l ∙ ea ∙ ap length e ∙ sym eb in
    both (eqb shared a) (eqb shared b) (eq-eqb shared a l) (eq-eqb shared b r) ∙ sym q)
    (λ q.
    tested (eqb shared a && eqb shared b)
    (λ p.
    let l : shared ≡ a = eqb-true shared a (and_left (eqb shared a) (eqb shared b) p) in
    let r : shared ≡ b = eqb-true shared b (and_right (eqb shared a) (eqb shared b) p) in
    absurd (false≢true (sym q ∙ same-texts x y (whole x y (sym es ∙ l ∙ ea) (sym es ∙ r ∙ eb)))))
    (λ p. p ∙ sym q))
  where
    both : (p q : Bool) → p ≡ true → q ≡ true → (p && q) ≡ true
    both true q h k = k
    both false q h k = h

precedes_trans : (t : ℕ → List ℕ) (a b c : ℕ) → Precedes t a b → Precedes t b c → Precedes t a c
precedes_trans t a b c h k =
    ahead_trans (t a) (t b) (t c) (ltb a b) (ltb b c) (ltb a c) h k (λ p q. lt-ltb a c (omega (arith, ltb-true a b p, ltb-true b c q)))

-- the entries below i are looked at: v is the lowest of their records that repeat a key, or the bound
abbrev pub Looked : (ℕ → List ℕ) → List ℕ → ℕ → ℕ → ℕ → ℕ → ℕ → Type 0
Looked t s at m bound i v =
    ((v ≡ bound) ⊎ Repeated t s at m v) × ((q : ℕ) → q + 1 < i → t (record_in s at q) ≡ t (record_in s at (q + 1)) → v ≤ record_in s at (q + 1))

module _ (t : ℕ → List ℕ) (n at m : ℕ) (s : List ℕ) (w : SortedRecords t n at m s) where
  pub same-told : (i shared a b x y : ℕ) → i + 1 < m → shared ≡ shared_in s at (i + 1) → a ≡ record_in s at i → b ≡ record_in s at (i + 1) → x ≡ length (t a) → y ≡ length (t b)
      → (eqb shared x && eqb shared y) ≡ same_next t s at i
  same-told i shared a b x y h es ea eb ex ey =
      same_whole (t (record_in s at i)) (t (record_in s at (i + 1))) shared x y
      (es ∙ (w.sorted i (omega arith) h).shares)
      (ex ∙ ap (λ (q : ℕ). length (t q)) ea)
      (ey ∙ ap (λ (q : ℕ). length (t q)) eb)

  -- so are the first k of them
  pub fewer : (k : ℕ) → k ≤ m → SortedRecords t n at k s
  fewer k h = record { room = omega (arith, w.room); inside = λ i z. w.inside i (omega arith); sorted = λ i z y. w.sorted i z (omega arith) }

  -- ---- any two

  far : (d i : ℕ) → i + (d + 1) < m → Precedes t (record_in s at i) (record_in s at (i + (d + 1)))
  far zero i h =
      let e : i + 1 ≡ i + (0 + 1) = omega arith in
      subst (λ (q : ℕ). Precedes t (record_in s at i) (record_in s at q)) e (w.sorted i (omega arith) (omega arith)).order
  far (suc d) i h =
      let e : i + (d + 1) + 1 ≡ i + (suc d + 1) = omega arith in
      subst (λ (q : ℕ). Precedes t (record_in s at i) (record_in s at q)) e
      (precedes_trans t (record_in s at i) (record_in s at (i + (d + 1))) (record_in s at (i + (d + 1) + 1))
      (far d i (omega arith))
      (w.sorted (i + (d + 1)) (omega arith) (omega arith)).order)

  in_order : (i j : ℕ) → i < j → j < m → Precedes t (record_in s at i) (record_in s at j)
  in_order i j h k =
      let e : i + (j - i - 1 + 1) ≡ j = omega arith in
      subst (λ (q : ℕ). Precedes t (record_in s at i) (record_in s at q)) e (far (j - i - 1) i (omega arith))

  -- of those with one key the lower is the first
  pub lower-first : (i j : ℕ) → i < j → j < m → t (record_in s at i) ≡ t (record_in s at j) → record_in s at i < record_in s at j
  lower-first i j h k e =
      let a : ℕ = record_in s at i in
      let b : ℕ = record_in s at j in
      ltb-true a b (sym (ahead_self (t a) (ltb a b)) ∙ ap (λ (u : List ℕ). ahead (t a) u (ltb a b)) e ∙ in_order i j h k)

  distinct : (i j : ℕ) → i < j → j < m → record_in s at i ≡ record_in s at j → ⊥
  distinct i j h k e = let z : record_in s at i < record_in s at j = lower-first i j h k (ap t e) in omega arith

  weakly : (i j : ℕ) → i ≤ j → j < m → ahead (t (record_in s at i)) (t (record_in s at j)) true ≡ true
  weakly i j h k =
      tested (ltb i j)
      (λ y. ahead_weak _ _ _ (in_order i j (ltb-true i j y) k))
      (λ y.
      let e : i ≡ j = omega (arith, ltb-false i j y) in
      subst (λ (q : ℕ). ahead (t (record_in s at i)) (t (record_in s at q)) true ≡ true) e (ahead_self (t (record_in s at i)) true))

  -- those with one key stand together
  together : (i k j : ℕ) → i ≤ k → k ≤ j → j < m → t (record_in s at i) ≡ t (record_in s at j) → t (record_in s at k) ≡ t (record_in s at j)
  together i k j a b c e =
      ahead-both (t (record_in s at k)) (t (record_in s at j)) (weakly k j b c)
      (subst (λ (u : List ℕ). ahead u (t (record_in s at k)) true ≡ true) e (weakly i k a (omega arith)))

  -- ---- which repeat a key

  pub repeated_here : (i bound v : ℕ) (b : Bool) → b ≡ same_next t s at i → b ≡ true → v ≡ record_in s at (i + 1)
      → RepeatedBehind t s at i bound v
  repeated_here i bound v b e y ev = record { found = inr (ev, same-equal _ _ (sym e ∙ y)); least = λ z. ev }

  pub repeated_not : (i bound : ℕ) (b : Bool) → b ≡ same_next t s at i → b ≡ false → RepeatedBehind t s at i bound bound
  repeated_not i bound b e y = record { found = inl refl; least = λ z. absurd (false≢true (sym y ∙ e ∙ same-texts _ _ z)) }

  pub looked_none : (bound : ℕ) → Looked t s at m bound 1 bound
  looked_none bound = (inl refl, λ q h e. absurd (omega arith))

  pub looked_more : (bound i q v r v' : ℕ) → q + 1 ≡ i → i < m → Looked t s at m bound i v → RepeatedBehind t s at q bound r → v' ≡ min v r → Looked t s at m bound (i + 1) v'
  looked_more bound i q v r v' e h l b ev = (
    tested (ltb r v)
        (λ y. let z : r ≡ v' = omega (arith, ltb-true r v y) in its z b.found)
        (λ y. let z : v ≡ v' = omega (arith, ltb-false r v y) in subst (λ (x : ℕ). (x ≡ bound) ⊎ Repeated t s at m x) z l.0),
    λ p g f.
        tested (ltb (p + 1) i)
        (λ y. omega (arith, l.1 p (ltb-true (p + 1) i y) f))
        (λ y.
        let z : p ≡ q = omega (arith, ltb-false (p + 1) i y) in
        let here : r ≡ record_in s at (p + 1) = subst (λ (x : ℕ). t (record_in s at x) ≡ t (record_in s at (x + 1)) → r ≡ record_in s at (x + 1)) (sym z) b.least f in
        omega arith),
  )
    where
      its : r ≡ v' → (r ≡ bound) ⊎ ((r ≡ record_in s at (q + 1)) × (t (record_in s at q) ≡ t (record_in s at (q + 1)))) → (v' ≡ bound) ⊎ Repeated t s at m v'
      its z (inl x) = inl (sym z ∙ x)
      its z (inr x) =
          let there : record_in s at (q + 1) ≡ v' = sym x.0 ∙ z in
          inr
          (record {
            here = record { place = q + 1; low = omega arith; high = omega arith; there = there };
            lower = record_in s at q;
            there = record { place = q; low = omega arith; high = omega arith; there = refl };
            less = omega (arith, there, lower-first q (q + 1) (omega arith) (omega arith) x.1);
            same = x.1 ∙ ap t there;
          })

  pub looked_all : (bound i v : ℕ) → m ≤ i → Looked t s at m bound i v → FirstRepeated t s at m bound v
  looked_all bound i v h l = record { found = l.0; least = λ r w. least r w w.here w.there }
    where
      least : (r : ℕ) (w : Repeated t s at m r) → HasEntry s at 0 m r → HasEntry s at 0 m w.lower → v ≤ r
      least r w a b =
          let j : ℕ = a.place in
          let k : ℕ = b.place in
          let e : t (record_in s at k) ≡ t (record_in s at j) = ap t b.there ∙ w.same ∙ sym (ap t a.there) in
          tested (ltb k j)
          (λ y.
          let less : k < j = ltb-true k j y in
          let q : ℕ = j - 1 in
          let z : q + 1 ≡ j = omega arith in
          let same : t (record_in s at q) ≡ t (record_in s at j) = together k q j (omega arith) (omega arith) a.high e in
          let here : v ≤ record_in s at j =
          subst (λ (x : ℕ). t (record_in s at q) ≡ t (record_in s at x) → v ≤ record_in s at x) z (l.1 q (omega (arith, a.high))) same in
          omega (arith, a.there))
          (λ y.
          let more : j ≤ k = ltb-false k j y in
          absurd
          (tested (ltb j k)
          (λ x. omega (arith, lower-first j k (ltb-true j k x) b.high (sym e), a.there, b.there, w.less))
          (λ x.
          let z : j ≡ k = omega (arith, ltb-false j k x) in
          omega (arith, ap (record_in s at) z, a.there, b.there, w.less))))

  -- ---- the first with a key

  pub first_begins : (i v : ℕ) → ((q : ℕ) → q + 1 ≡ i → t (record_in s at q) ≡ t (record_in s at i) → ⊥) → v ≡ record_in s at i → FirstUpTo t s at i v
  first_begins i v f e = record { place = i; high = omega arith; there = sym e; same = ap t e; new = λ q z k. f q z (k ∙ ap t e) }

  pub first-at-all : (i v : ℕ) → i ≡ 0 → v ≡ record_in s at i → FirstUpTo t s at i v
  first-at-all i v z e = first_begins i v (λ q h k. omega arith) e

  module _ (i q : ℕ) (b : Bool) (eq : q + 1 ≡ i) (eb : b ≡ same_next t s at q) where
    pub first_goes_on : (v : ℕ) → b ≡ true → ((p : ℕ) → p + 1 ≡ i → FirstUpTo t s at p v) → FirstUpTo t s at i v
    first_goes_on v y g =
        let f : FirstUpTo t s at q v = g q eq in
        record {
          place = f.place;
          high = omega (arith, f.high);
          there = f.there;
          same = f.same ∙ same-equal _ _ (sym eb ∙ y) ∙ ap (λ (x : ℕ). t (record_in s at x)) eq;
          new = f.new;
        }

    pub first-new : (v : ℕ) → b ≡ false → v ≡ record_in s at i → FirstUpTo t s at i v
    first-new v y e =
        first_begins i v
        (λ p z k.
        let x : p ≡ q = omega arith in
        false≢true
        (sym y ∙ eb
        ∙ same-texts _ _ (subst (λ (g : ℕ). t (record_in s at g) ≡ t (record_in s at (q + 1))) x (k ∙ ap (λ (g : ℕ). t (record_in s at g)) (sym eq)))))
        e

  pub first_of : (i v : ℕ) → i < m → FirstUpTo t s at i v → FirstOfKey t s at m (record_in s at i) v
  first_of i v h f =
      record {
        stands = record { place = f.place; low = omega arith; high = omega (arith, f.high); there = f.there };
        same = f.same;
        least = λ j k e.
            let x : t (record_in s at j) ≡ t (record_in s at f.place) = e ∙ sym f.same ∙ sym (ap t f.there) in
            tested (ltb j f.place)
            (λ y.
            let less : j < f.place = ltb-true j f.place y in
            let q : ℕ = f.place - 1 in
            absurd
            (f.new q (omega arith) (together j q f.place (omega arith) (omega arith) (omega (arith, f.high)) x ∙ ap t f.there)))
            (λ y.
            tested (ltb f.place j)
            (λ z. omega (arith, f.there, lower-first f.place j (ltb-true f.place j z) k (sym x)))
            (λ z.
            let g : f.place ≡ j = omega (arith, ltb-false j f.place y, ltb-false f.place j z) in
            omega (arith, f.there, ap (record_in s at) g)));
      }

-- ---- numbers written

same_back : (s s' : List ℕ) (at lo hi : ℕ) → SameEntries s s' at lo hi → SameEntries s' s at lo hi
same_back s s' at lo hi k i a b = (sym (k i a b).0, sym (k i a b).1)

up_to-kept : (t : ℕ → List ℕ) (at m : ℕ) (s s' : List ℕ) → SameEntries s s' at 0 m → (i v : ℕ) → i < m → FirstUpTo t s at i v → FirstUpTo t s' at i v
up_to-kept t at m s s' k i v h f =
    record {
      place = f.place;
      high = f.high;
      there = (k f.place (omega arith) (omega (arith, f.high))).0 ∙ f.there;
      same = f.same ∙ ap t (sym (k i (omega arith) h).0);
      new = λ q z x. f.new q z (ap t (sym (k q (omega arith) (omega (arith, f.high))).0) ∙ x);
    }

module _ (t : ℕ → List ℕ) (n at m to : ℕ) (s₀ : List ℕ) (w : SortedRecords t n at m s₀) (a : NumbersApart n at m to s₀) where
  pub numbered-none : NumberedUpTo t n at m to 0 s₀ s₀
  numbered-none = record { long = refl; bytes = λ p o. refl; number = λ q h. absurd (omega arith) }

  pub numbered-whole : (i : ℕ) (s : List ℕ) → m ≤ i → NumberedUpTo t n at m to i s₀ s → NumberedUpTo t n at m to m s₀ s
  numbered-whole i s h u = record { long = u.long; bytes = u.bytes; number = λ q k. u.number q (omega arith) }

  module _ (i : ℕ) (s : List ℕ) (u : NumberedUpTo t n at m to i s₀ s) where
    entries : SameEntries s₀ s at 0 m
    entries = entries-kept s₀ s at 0 m (λ p c d. u.bytes p (out p c d a.apart))
      where
        out : (p : ℕ) → at + 8 * 0 ≤ p → p < at + 8 * m → (at + 8 * m ≤ to) ⊎ (to + 4 * n ≤ at) → (p < to) ⊎ (to + 4 * n ≤ p)
        out p c d (inl h) = inl (omega arith)
        out p c d (inr h) = inr (omega arith)

    pub sorted_still : SortedRecords t n at m s
    sorted_still =
        record {
          room = omega (arith, u.long, w.room);
          inside = λ q h. omega (arith, (entries q (omega arith) h).0, w.inside q h);
          sorted = sorted-kept s₀ s at 0 m entries t w.sorted;
        }

    pub up_to_now : (first : ℕ) → i < m → ((q : ℕ) → q + 1 ≡ i → FirstUpTo t s₀ at q first) → (q : ℕ) → q + 1 ≡ i → FirstUpTo t s at q first
    up_to_now first h f q e = up_to-kept t at m s₀ s entries q first (omega arith) (f q e)

    module _ (h : i < m) (first : ℕ) (f : FirstUpTo t s at i first) where
      pub up_to_then : (q : ℕ) → q + 1 ≡ i + 1 → FirstUpTo t s₀ at q first
      up_to_then q e =
          let z : i ≡ q = omega arith in
          subst (λ (x : ℕ). FirstUpTo t s₀ at x first) z (up_to-kept t at m s s₀ (same_back s₀ s at 0 m entries) i first h f)

      module _ (r : ℕ) (er : r ≡ record_in s at i) where
        pub number_fits : to + 4 * r + 4 ≤ length s
        number_fits = omega (arith, u.long, a.room, sorted_still.inside i h)

        pub numbered_more : (s' : List ℕ) → first < 4294967296 → s' ≡ splice s (to + 4 * r) (word first) → NumberedUpTo t n at m to (i + 1) s₀ s'
        unfolding word bytes_of word_at byte_at
        numbered_more s' hf e =
            record {
              long = ap length e ∙ length-splice s (to + 4 * r) (word first) number_fits ∙ u.long;
              bytes = λ p o. ap (λ (x : List ℕ). get_or x p 0) e ∙ byte-apart s (to + 4 * r) (word first) number_fits p (out p o) ∙ u.bytes p o;
              number = λ q g.
                  tested (ltb q i)
                  (λ y.
                  let y' : q < i = ltb-true q i y in
                  subst (λ (v : ℕ). FirstOfKey t s₀ at m (record_in s₀ at q) v)
                  (sym
                  (ap (λ (x : List ℕ). word_at x (to + 4 * record_in s₀ at q)) e
                  ∙ word-apart s (to + 4 * r) (word first) number_fits (to + 4 * record_in s₀ at q) (other q y')))
                  (u.number q y'))
                  (λ y.
                  let z : i ≡ q = omega (arith, ltb-false q i y) in
                  subst (λ (x : ℕ). FirstOfKey t s₀ at m (record_in s₀ at x) (word_at s' (to + 4 * record_in s₀ at x))) z
                  (subst (λ (v : ℕ). FirstOfKey t s₀ at m (record_in s₀ at i) v)
                  (sym
                  (ap (λ (x : List ℕ). word_at x (to + 4 * record_in s₀ at i)) e
                  ∙ word-there s (to + 4 * r) (word first) number_fits 0 (to + 4 * record_in s₀ at i) (omega (arith, its)) (omega arith)
                  ∙ word_back first hf))
                  (first_of t n at m s₀ w i first h (up_to-kept t at m s s₀ (same_back s₀ s at 0 m entries) i first h f))));
            }
          where
            its : r ≡ record_in s₀ at i
            its = er ∙ (entries i (omega arith) h).0

            out : (p : ℕ) → (p < to) ⊎ (to + 4 * n ≤ p) → (p < to + 4 * r) ⊎ (to + 4 * r + 4 ≤ p)
            out p (inl x) = inl (omega arith)
            out p (inr x) = inr (omega (arith, er, sorted_still.inside i h))

            other : (q : ℕ) → q < i → (to + 4 * record_in s₀ at q + 4 ≤ to + 4 * r) ⊎ (to + 4 * r + 4 ≤ to + 4 * record_in s₀ at q)
            other q x =
                tested (ltb (record_in s₀ at q) r)
                (λ y. inl (omega (arith, ltb-true (record_in s₀ at q) r y)))
                (λ y.
                let ne : record_in s₀ at q ≡ record_in s₀ at i → ⊥ = distinct t n at m s₀ w q i x h in
                inr (omega (arith, ltb-false (record_in s₀ at q) r y, its)))
