-- Entries that are sorted: kept where their bytes are, one more, and two runs of them merged, from the start through each entry put out to the end.
-- Word for word, and by the laws of which record is next. Assumes nothing.
use mathlib.Core.Path.{◌≡◌, refl, sym, ap, ap₂, subst, ◌∙◌}
use mathlib.Core.Logic.{◌⊎◌, inl, inr}
use mathlib.Core.Bool.{Bool, true, false, false≢true}
use mathlib.Core.List.{List, [], ◌++◌}
use Prim.Native.Nat.{ℕ, ◌+◌, ◌-◌, ◌*◌, ◌≤◌, ◌<◌}
use native.Mathlib.Omega.{arith}
use lib.Dec.{eqb, ltb}
use lib.ListN.{length, get_or}
use borrow.Author.Tests.{eqb-true, eqb-false, ltb-true, ltb-false}
use Rattle.laws.specs.Splice.{splice}
use Rattle.laws.proofs.Splices.{length-splice}
use Rattle.laws.proofs.Tests.{tested}
use Rattle.records.specs.Words.{byte_at, word_at, bytes_of, word}
use Rattle.records.specs.Order.{common}
use Rattle.records.proofs.Apart.{byte-apart, word_same, word-there, word_back}
use Rattle.records.proofs.CommonLaws.{common_empty}
use Rattle.sorting.specs.Sorted.{ahead, Precedes, record_in, shared_in, Follows, Sorted, HasEntry, Arranged, Outside, OnlyThere, TwoPlaces, BehindOne, Chosen, HeadChosen, TwoRuns, Behind, Merging}
use Rattle.sorting.specs.declared.sorted.Runs.{Runs}
use Rattle.sorting.specs.declared.sorted.Heads.{Heads}
use Rattle.sorting.proofs.AheadLaws.{ahead_empty, ahead_weak, left_precedes, right_precedes, right_shares_lem}

-- ---- entries whose bytes are kept

pub word_kept : (s s' : List ℕ) (q : ℕ) → ((p : ℕ) → q ≤ p → p < q + 4 → get_or s' p 0 ≡ get_or s p 0) → word_at s' q ≡ word_at s q
word_kept s s' q h =
    word_same s' q s q
    (h q (omega arith) (omega arith))
    (h (q + 1) (omega arith) (omega arith))
    (h (q + 2) (omega arith) (omega arith))
    (h (q + 3) (omega arith) (omega arith))

abbrev pub SameEntries : List ℕ → List ℕ → ℕ → ℕ → ℕ → Type 0
SameEntries s s' at lo hi = (i : ℕ) → lo ≤ i → i < hi → (record_in s' at i ≡ record_in s at i) × (shared_in s' at i ≡ shared_in s at i)

pub entries-kept : (s s' : List ℕ) (at lo hi : ℕ) → ((p : ℕ) → at + 8 * lo ≤ p → p < at + 8 * hi → get_or s' p 0 ≡ get_or s p 0) → SameEntries s s' at lo hi
entries-kept s s' at lo hi h i a b =
    (word_kept s s' (at + 8 * i) (λ p c d. h p (omega arith) (omega arith)), word_kept s s' (at + 8 * i + 4) (λ p c d. h p (omega arith) (omega arith)))

module _ (s s' : List ℕ) (at lo hi : ℕ) (k : SameEntries s s' at lo hi) where
  pub sorted-kept : (t : ℕ → List ℕ) → Sorted t s at lo hi → Sorted t s' at lo hi
  sorted-kept t f i a b =
      let e : record_in s' at i ≡ record_in s at i = (k i a (omega arith)).0 in
      let g : record_in s' at (i + 1) ≡ record_in s at (i + 1) = (k (i + 1) (omega arith) b).0 in
      record {
        order = ap₂ (λ (x y : ℕ). ahead (t x) (t y) (ltb x y)) e g ∙ (f i a b).order;
        shares = (k (i + 1) (omega arith) b).1 ∙ (f i a b).shares ∙ ap₂ (λ (x y : ℕ). common (t x) (t y)) (sym e) (sym g);
      }

  pub stands_back : (r : ℕ) → HasEntry s' at lo hi r → HasEntry s at lo hi r
  stands_back r u = record { place = u.place; low = u.low; high = u.high; there = sym (k u.place u.low u.high).0 ∙ u.there }

  pub stands-kept : (r : ℕ) → HasEntry s at lo hi r → HasEntry s' at lo hi r
  stands-kept r w = record { place = w.place; low = w.low; high = w.high; there = (k w.place w.low w.high).0 ∙ w.there }

pub stands-is : (s : List ℕ) (at lo hi r r' : ℕ) → r ≡ r' → HasEntry s at lo hi r → HasEntry s at lo hi r'
stands-is s at lo hi r r' e w = record { place = w.place; low = w.low; high = w.high; there = w.there ∙ e }

pub stands_wider : (s : List ℕ) (at lo hi lo' hi' r : ℕ) → lo' ≤ lo → hi ≤ hi' → HasEntry s at lo hi r → HasEntry s at lo' hi' r
stands_wider s at lo hi lo' hi' r a b w =
    record { place = w.place; low = omega (arith, w.low); high = omega (arith, w.high); there = w.there }

sorted_more : (t : ℕ → List ℕ) (s : List ℕ) (to lo k : ℕ) → Sorted t s to lo k → ((i : ℕ) → lo ≤ i → i + 1 ≡ k → Follows t s to i k) → Sorted t s to lo (k + 1)
sorted_more t s to lo k f last i a b =
    tested (ltb (i + 1) k)
    (λ y. f i a (ltb-true (i + 1) k y))
    (λ n. let e : i + 1 ≡ k = omega (arith, ltb-false (i + 1) k n) in subst (λ (q : ℕ). Follows t s to i q) (sym e) (last i a e))

-- ---- an entry written

module _ (s s' : List ℕ) (to k a b : ℕ) (fit : to + 8 * k + 8 ≤ length s) (e : s' ≡ splice s (to + 8 * k) (word a ++ word b)) where
  fits : to + 8 * k + length (word a ++ word b) ≤ length s
  unfolding word bytes_of
  fits = omega arith

  pub put_there : OnlyThere to k (k + 1) s s'
  unfolding word bytes_of
  put_there =
      record {
        long = ap length e ∙ length-splice s (to + 8 * k) (word a ++ word b) fits;
        bytes = λ p o. ap (λ (x : List ℕ). get_or x p 0) e ∙ byte-apart s (to + 8 * k) (word a ++ word b) fits p (out p o);
      }
    where
      out : (p : ℕ) → Outside to k (k + 1) p → (p < to + 8 * k) ⊎ (to + 8 * k + 8 ≤ p)
      out p (inl h) = inl h
      out p (inr h) = inr (omega arith)

  pub put_record : a < 4294967296 → record_in s' to k ≡ a
  unfolding word bytes_of word_at byte_at
  put_record h =
      ap (λ (x : List ℕ). word_at x (to + 8 * k)) e
      ∙ word-there s (to + 8 * k) (word a ++ word b) fits 0 (to + 8 * k) (omega arith) (omega arith)
      ∙ word_back a h

  pub put_shared : b < 4294967296 → shared_in s' to k ≡ b
  unfolding word bytes_of word_at byte_at
  put_shared h =
      ap (λ (x : List ℕ). word_at x (to + 8 * k + 4)) e
      ∙ word-there s (to + 8 * k) (word a ++ word b) fits 4 (to + 8 * k + 4) refl (omega arith)
      ∙ word_back b h

-- ---- bytes kept elsewhere

pub only_none : (to lo hi : ℕ) (s : List ℕ) → OnlyThere to lo hi s s
only_none to lo hi s = record { long = refl; bytes = λ p o. refl }

pub only-on : (to lo hi : ℕ) (s s' s'' : List ℕ) → OnlyThere to lo hi s s' → OnlyThere to lo hi s' s'' → OnlyThere to lo hi s s''
only-on to lo hi s s' s'' a b = record { long = b.long ∙ a.long; bytes = λ p o. b.bytes p o ∙ a.bytes p o }

pub only_wider : (to k lo hi : ℕ) (s s' : List ℕ) → lo ≤ k → k < hi → OnlyThere to k (k + 1) s s' → OnlyThere to lo hi s s'
only_wider to k lo hi s s' a b o = record { long = o.long; bytes = λ p x. o.bytes p (out p x) }
  where
    out : (p : ℕ) → Outside to lo hi p → Outside to k (k + 1) p
    out p (inl h) = inl (omega arith)
    out p (inr h) = inr (omega arith)

-- what is written from `to` on keeps the entries from `at` on
pub source_kept : (at to lo hi k k' : ℕ) (s s' : List ℕ) → TwoPlaces at to lo hi s → lo ≤ k → k' ≤ hi → OnlyThere to k k' s s' → SameEntries s s' at lo hi
source_kept at to lo hi k k' s s' w a b o = entries-kept s s' at lo hi (λ p c d. o.bytes p (out p c d w.apart))
  where
    out : (p : ℕ) → at + 8 * lo ≤ p → p < at + 8 * hi → (at + 8 * hi ≤ to + 8 * lo) ⊎ (to + 8 * hi ≤ at + 8 * lo) → Outside to k k' p
    out p c d (inl h) = inl (omega arith)
    out p c d (inr h) = inr (omega arith)

-- ---- merging

module _ (t : ℕ → List ℕ) (n : ℕ) (two : Runs) where
  abbrev at : ℕ
  at = two.at

  abbrev to : ℕ
  to = two.to

  abbrev lo : ℕ
  lo = two.lo

  abbrev mid : ℕ
  mid = two.mid

  abbrev hi : ℕ
  hi = two.hi

  pub merging_start : (s : List ℕ) → TwoRuns t n two s → Merging t n two lo (record { left = lo; right = mid; left_shared = 0; right_shared = 0 }) s
  merging_start s w =
      record {
        runs = w;
        left_low = omega arith;
        left_high = w.rises;
        right_low = omega arith;
        right_high = w.ends;
        count = refl;
        out = λ i a b. absurd (omega arith);
        left_next = λ h. record { first = λ e. refl; order = λ i a e. absurd (omega arith); shares = λ i a e. absurd (omega arith) };
        right_next = λ h. record { first = λ e. refl; order = λ i a e. absurd (omega arith); shares = λ i a e. absurd (omega arith) };
        left_out = λ q a b. absurd (omega arith);
        right_out = λ q a b. absurd (omega arith);
        only = λ q a b. absurd (omega arith);
      }

  module _ (k : ℕ) (heads : Heads) (s : List ℕ) (m : Merging t n two k heads s) where
    abbrev i : ℕ
    i = heads.left

    abbrev j : ℕ
    j = heads.right

    abbrev left : ℕ
    left = heads.left_shared

    abbrev right : ℕ
    right = heads.right_shared

    -- the heads tell how many are put out
    pub heads-placed : k < hi → Merging t n two (i + j - mid) heads s × (i + j < mid + hi)
    heads-placed h =
        let e : k ≡ i + j - mid = omega (arith, m.count) in (subst (λ (x : ℕ). Merging t n two x heads s) e m, omega (arith, m.count))

    pub heads-behind : i < mid → j < hi → BehindOne (t (record_in s at i)) (t (record_in s at j)) left right
    heads-behind hi' hj =
        let l : Behind t s to lo k (record_in s at i) left = m.left_next hi' in
        let r : Behind t s to lo k (record_in s at j) right = m.right_next hj in
        tested (eqb k lo)
        (λ y.
        let e : k ≡ lo = eqb-true k lo y in
        record {
          before = [];
          left_behind = ahead_empty (t (record_in s at i));
          right_behind = ahead_empty (t (record_in s at j));
          left_shares = l.first e ∙ sym (common_empty (t (record_in s at i)));
          right_shares = r.first e ∙ sym (common_empty (t (record_in s at j)));
        })
        (λ y.
        let x : ℕ = k - 1 in
        let low : lo < k = omega (arith, eqb-false k lo y, m.count, m.left_low, m.right_low) in
        let a : lo ≤ x = omega arith in
        let e : x + 1 ≡ k = omega arith in
        record {
          before = t (record_in s to x);
          left_behind = ahead_weak _ _ _ (l.order x a e);
          right_behind = ahead_weak _ _ _ (r.order x a e);
          left_shares = l.shares x a e;
          right_shares = r.shares x a e;
        })

    -- what the choice of the next is given, and what it tells, of the heads' records
    module _ (a b : ℕ) (ea : a ≡ record_in s at i) (eb : b ≡ record_in s at j) (not_left : i ≡ mid → ⊥) (not_right : j ≡ hi → ⊥) where
      pub heads-asked : ((a < n) × (b < n)) × BehindOne (t a) (t b) left right
      heads-asked =
          let hl : i < mid = omega (arith, m.left_high) in
          let hr : j < hi = omega (arith, m.right_high) in (
            (
              omega (arith, m.runs.inside i m.left_low (omega (arith, m.runs.ends))),
              omega (arith, m.runs.inside j (omega (arith, m.right_low, m.runs.rises)) hr),
            ),
            rw (ea, eb) (heads-behind hl hr),
          )

      pub heads-told : (is-left : Bool) (shared : ℕ) → Chosen (t a) (t b) is-left shared → HeadChosen t s two heads is-left shared
      heads-told is-left shared c =
          record {
            left_is = λ e. omega (arith, m.left_high);
            right_is = λ e. omega (arith, m.right_high);
            both = λ x y. rw (ea, eb) at c;
          }

    pub left_ended : i + j < mid + hi → i ≡ mid → HeadChosen t s two heads false 0
    left_ended h e = record { left_is = λ z. absurd (false≢true z); right_is = λ z. omega arith; both = λ x y. absurd (omega arith) }

    pub right-ended : (i ≡ mid → ⊥) → j ≡ hi → HeadChosen t s two heads true 0
    right-ended n e = record { left_is = λ z. omega (arith, m.left_high); right_is = λ z. absurd (false≢true (sym z)); both = λ x y. absurd (omega arith) }

    -- one more is put out: entry c, which is next
    module _ (s' : List ℕ) (c shared : ℕ) (below : k < hi) (low : lo ≤ c) (high : c < hi) (o : OnlyThere to k (k + 1) s s')
        (er : record_in s' to k ≡ record_in s at c) (es : shared_in s' to k ≡ shared) (b : Behind t s to lo k (record_in s at c) shared) where
      out-low : lo ≤ k
      out-low = omega (arith, m.count, m.left_low, m.right_low)

      source : SameEntries s s' at lo hi
      source = source_kept at to lo hi k (k + 1) s s' m.runs.places out-low (omega arith) o

      before : SameEntries s s' to lo k
      before = entries-kept s s' to lo k (λ p x y. o.bytes p (inl y))

      chosen : record_in s' to k ≡ record_in s' at c
      chosen = er ∙ sym (source c low high).0

      runs-kept : TwoRuns t n two s'
      runs-kept =
          record {
            places =
                record {
                  rises = m.runs.places.rises;
                  first = omega (arith, o.long, m.runs.places.first);
                  second = omega (arith, o.long, m.runs.places.second);
                  apart = m.runs.places.apart;
                };
            rises = m.runs.rises;
            ends = m.runs.ends;
            inside = λ q x y. omega (arith, (source q x y).0, m.runs.inside q x y);
            lower = λ q r x y z w.
                omega (
                  arith,
                  (source q x (omega (arith, m.runs.ends))).0,
                  (source r (omega (arith, m.runs.rises)) w).0,
                  m.runs.lower q r x y z w,
                );
            left = sorted-kept s s' at lo mid (λ q x y. source q x (omega (arith, m.runs.ends))) t m.runs.left;
            right = sorted-kept s s' at mid hi (λ q x y. source q (omega (arith, m.runs.rises)) y) t m.runs.right;
          }

      out-more : Sorted t s' to lo (k + 1)
      out-more =
          sorted_more t s' to lo k (sorted-kept s s' to lo k before t m.out)
          (λ x a e.
          let g : record_in s' to x ≡ record_in s to x = (before x a (omega arith)).0 in
          record {
            order = ap₂ (λ (y z : ℕ). ahead (t y) (t z) (ltb y z)) g er ∙ b.order x a e;
            shares = es ∙ b.shares x a e ∙ ap₂ (λ (y z : ℕ). common (t y) (t z)) (sym g) (sym er);
          })

      still_out : (q : ℕ) → lo ≤ q → q < hi → HasEntry s to lo k (record_in s at q) → HasEntry s' to lo (k + 1) (record_in s' at q)
      still_out q x y w =
          stands-is s' to lo (k + 1) (record_in s at q) (record_in s' at q) (sym (source q x y).0)
          (stands_wider s' to lo k lo (k + 1) (record_in s at q) (omega arith) (omega arith) (stands-kept s s' to lo k before (record_in s at q) w))

      new-out : (q : ℕ) → q ≡ c → HasEntry s' to lo (k + 1) (record_in s' at q)
      new-out q e = record { place = k; low = out-low; high = omega arith; there = chosen ∙ ap (record_in s' at) (sym e) }

      only-more : (q : ℕ) → lo ≤ q → q < k + 1 → HasEntry s' at lo hi (record_in s' to q)
      only-more q x y =
          tested (ltb q k)
          (λ l.
          let l' : q < k = ltb-true q k l in
          stands-is s' at lo hi (record_in s to q) (record_in s' to q) (sym (before q x l').0) (stands-kept s s' at lo hi source (record_in s to q) (m.only q x l')))
          (λ l.
          let e : k ≡ q = omega (arith, ltb-false q k l) in
          record { place = c; low = low; high = high; there = sym chosen ∙ ap (record_in s' to) e })

      behind_it : (r shares : ℕ) → Precedes t (record_in s' at c) r → shares ≡ common (t (record_in s' at c)) (t r) → Behind t s' to lo (k + 1) r shares
      behind_it r shares p e =
          record {
            first = λ z. absurd (omega (arith, out-low));
            order = λ x a z. let g : record_in s' to x ≡ record_in s' at c = ap (record_in s' to) (there x z) ∙ chosen in ap (λ (y : ℕ). ahead (t y) (t r) (ltb y r)) g ∙ p;
            shares = λ x a z. let g : record_in s' to x ≡ record_in s' at c = ap (record_in s' to) (there x z) ∙ chosen in e ∙ ap (λ (y : ℕ). common (t y) (t r)) (sym g);
          }
        where
          there : (x : ℕ) → x + 1 ≡ k + 1 → x ≡ k
          there x z = omega arith

    -- the head of the left run, or of the right, is put out
    module _ (s' : List ℕ) (is-left : Bool) (shared after record-word : ℕ) (below : k < hi) (h : HeadChosen t s two heads is-left shared) where
      chosen-kept : (q : SameEntries s s' at lo hi) → (hl : i < mid) → (hr : j < hi) → Chosen (t (record_in s' at i)) (t (record_in s' at j)) is-left shared
      chosen-kept q hl hr =
          let a : record_in s' at i ≡ record_in s at i = (q i m.left_low (omega (arith, m.runs.ends))).0 in
          let b : record_in s' at j ≡ record_in s at j = (q j (omega (arith, m.right_low, m.runs.rises)) hr).0 in
          record {
            next = (h.both hl hr).next ∙ ap₂ (λ (x y : ℕ). ahead (t x) (t y) true) (sym a) (sym b);
            shares = (h.both hl hr).shares ∙ ap₂ (λ (x y : ℕ). common (t x) (t y)) (sym a) (sym b);
          }

      pub put_fits : to + 8 * k + 8 ≤ length s
      put_fits = omega (arith, m.runs.places.second)

      pub left_put : is-left ≡ true → record-word < 4294967296 → left < 4294967296 → record-word ≡ record_in s at i
          → s' ≡ splice s (to + 8 * k) (word record-word ++ word left) → (i + 1 < mid → after ≡ shared_in s at (i + 1))
          → Merging t n two (k + 1) (record { left = i + 1; right = j; left_shared = after; right_shared = shared }) s'
      left_put z hw hl er e ea =
          let hi' : i < mid = h.left_is z in
          let high : i < hi = omega (arith, m.runs.ends) in
          let o : OnlyThere to k (k + 1) s s' = put_there s s' to k record-word left put_fits e in
          let rec : record_in s' to k ≡ record_in s at i = put_record s s' to k record-word left put_fits e hw ∙ er in
          let sha : shared_in s' to k ≡ left = put_shared s s' to k record-word left put_fits e hl in
          let b : Behind t s to lo k (record_in s at i) left = m.left_next hi' in
          let src : SameEntries s s' at lo hi = source s' i left below m.left_low high o rec sha b in
          let runs : TwoRuns t n two s' = runs-kept s' i left below m.left_low high o rec sha b in
          record {
            runs = runs;
            left_low = omega (arith, m.left_low);
            left_high = omega arith;
            right_low = m.right_low;
            right_high = m.right_high;
            count = omega (arith, m.count);
            out = out-more s' i left below m.left_low high o rec sha b;
            left_next = λ g.
                behind_it s' i left below m.left_low high o rec sha b (record_in s' at (i + 1)) after
                (runs.left i m.left_low g).order
                (ea g ∙ sym (src (i + 1) (omega (arith, m.left_low)) (omega (arith, m.runs.ends))).1 ∙ (runs.left i m.left_low g).shares);
            right_next = λ g.
                let both : Chosen (t (record_in s' at i)) (t (record_in s' at j)) is-left shared = chosen-kept src hi' g in
                behind_it s' i left below m.left_low high o rec sha b (record_in s' at j) shared
                (left_precedes t (record_in s' at i) (record_in s' at j) shared is-left (runs.lower i j m.left_low hi' m.right_low g) both z)
                both.shares;
            left_out = λ q x y.
                tested (ltb q i)
                (λ l. still_out s' i left below m.left_low high o rec sha b q x (omega arith) (m.left_out q x (ltb-true q i l)))
                (λ l. new-out s' i left below m.left_low high o rec sha b q (omega (arith, ltb-false q i l)));
            right_out = λ q x y.
                still_out s' i left below m.left_low high o rec sha b q (omega (arith, m.runs.rises)) (omega (arith, m.right_high)) (m.right_out q x y);
            only = only-more s' i left below m.left_low high o rec sha b;
          }

      pub right_put : is-left ≡ false → record-word < 4294967296 → right < 4294967296 → record-word ≡ record_in s at j
          → s' ≡ splice s (to + 8 * k) (word record-word ++ word right) → (j + 1 < hi → after ≡ shared_in s at (j + 1))
          → Merging t n two (k + 1) (record { left = i; right = j + 1; left_shared = shared; right_shared = after }) s'
      right_put z hw hl er e ea =
          let hj : j < hi = h.right_is z in
          let low : lo ≤ j = omega (arith, m.right_low, m.runs.rises) in
          let o : OnlyThere to k (k + 1) s s' = put_there s s' to k record-word right put_fits e in
          let rec : record_in s' to k ≡ record_in s at j = put_record s s' to k record-word right put_fits e hw ∙ er in
          let sha : shared_in s' to k ≡ right = put_shared s s' to k record-word right put_fits e hl in
          let b : Behind t s to lo k (record_in s at j) right = m.right_next hj in
          let src : SameEntries s s' at lo hi = source s' j right below low hj o rec sha b in
          let runs : TwoRuns t n two s' = runs-kept s' j right below low hj o rec sha b in
          record {
            runs = runs;
            left_low = m.left_low;
            left_high = m.left_high;
            right_low = omega (arith, m.right_low);
            right_high = omega arith;
            count = omega (arith, m.count);
            out = out-more s' j right below low hj o rec sha b;
            left_next = λ g.
                let both : Chosen (t (record_in s' at i)) (t (record_in s' at j)) is-left shared = chosen-kept src g hj in
                let less : record_in s' at i < record_in s' at j = runs.lower i j m.left_low g m.right_low hj in
                behind_it s' j right below low hj o rec sha b (record_in s' at i) shared
                (right_precedes t (record_in s' at i) (record_in s' at j) shared is-left less both z)
                (right_shares_lem t (record_in s' at i) (record_in s' at j) shared is-left less both);
            right_next = λ g.
                behind_it s' j right below low hj o rec sha b (record_in s' at (j + 1)) after
                (runs.right j m.right_low g).order
                (ea g ∙ sym (src (j + 1) (omega arith) g).1 ∙ (runs.right j m.right_low g).shares);
            left_out = λ q x y.
                still_out s' j right below low hj o rec sha b q x (omega (arith, m.left_high, m.runs.ends)) (m.left_out q x y);
            right_out = λ q x y.
                tested (ltb q j)
                (λ l. still_out s' j right below low hj o rec sha b q (omega (arith, m.runs.rises)) (omega arith) (m.right_out q x (ltb-true q j l)))
                (λ l. new-out s' j right below low hj o rec sha b q (omega (arith, ltb-false q j l)));
            only = only-more s' j right below low hj o rec sha b;
          }

      pub put_only : (a b : ℕ) → s' ≡ splice s (to + 8 * k) (word a ++ word b) → OnlyThere to lo hi s s'
      put_only a b e = only_wider to k lo hi s s' (omega (arith, m.count, m.left_low, m.right_low)) below (put_there s s' to k a b put_fits e)

    -- all are put out
    pub merging_end : hi ≤ k → k ≤ hi → (s₀ : List ℕ) → TwoPlaces at to lo hi s₀ → OnlyThere to lo hi s₀ s → Arranged t s₀ at s to lo hi
    merging_end h g s₀ w o =
        let e : k ≡ hi = omega arith in
        let kept : SameEntries s₀ s at lo hi = source_kept at to lo hi lo hi s₀ s w (omega arith) (omega arith) o in
        record {
          sorted = λ i x y. m.out i x (omega arith);
          all = λ q x y.
              stands_wider s to lo k lo hi (record_in s₀ at q) (omega arith) (omega arith)
              (stands-is s to lo k (record_in s at q) (record_in s₀ at q) (kept q x y).0
              (tested (ltb q mid)
              (λ l. m.left_out q x (omega (arith, ltb-true q mid l, m.count, m.left_high, m.right_high)))
              (λ l. m.right_out q (ltb-false q mid l) (omega (arith, m.count, m.left_high, m.right_high)))));
          only = λ q x y.
              stands_back s₀ s at lo hi kept (record_in s to q) (m.only q x (omega arith));
        }
