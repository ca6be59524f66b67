-- Entries sorted in halves: what each half and their merging are given, and that what comes out is what went in, sorted; and the records copied before.
-- Entry for entry, by the laws of entries kept. Assumes nothing.
use mathlib.Core.Path.{◌≡◌, refl, sym, ap, ◌∙◌}
use mathlib.Core.Logic.{◌⊎◌, inl, inr}
use mathlib.Core.List.{List, ◌++◌}
use Prim.Native.Nat.{ℕ, ◌+◌, ◌*◌, ◌≤◌, ◌<◌}
use native.Mathlib.Omega.{arith}
use lib.Dec.{ltb}
use lib.ListN.{length}
use borrow.Author.Tests.{ltb-true, ltb-false}
use Rattle.laws.specs.Splice.{splice}
use Rattle.laws.proofs.Tests.{tested}
use Rattle.records.specs.Words.{word}
use Rattle.sorting.specs.Sorted.{record_in, HasEntry, Arranged, Outside, OnlyThere, OnlyBoth, TwoPlaces, RecordsRise, Sortable, TwoRuns}
use Rattle.sorting.proofs.MergeLaws.{SameEntries, entries-kept, sorted-kept, stands-kept, stands_back, stands-is, stands_wider, put_there, put_record, only-on, only_wider, source_kept}

-- ---- what stands where

outside_narrower : (at lo hi lo' hi' p : ℕ) → lo ≤ lo' → hi' ≤ hi → Outside at lo hi p → Outside at lo' hi' p
outside_narrower at lo hi lo' hi' p a b (inl h) = inl (omega arith)
outside_narrower at lo hi lo' hi' p a b (inr h) = inr (omega arith)

-- the entries from lo to hi are in two places; those from lo' to hi' are written, and those from lo'' to hi'' are kept
module _ (at to lo hi : ℕ) (apart : (at + 8 * hi ≤ to + 8 * lo) ⊎ (to + 8 * hi ≤ at + 8 * lo)) (s s' : List ℕ) (lo' hi' lo'' hi'' : ℕ) (a : lo ≤ lo') (b : hi' ≤ hi)
    (a'' : lo ≤ lo'') (b'' : hi'' ≤ hi) (other : (hi'' ≤ lo') ⊎ (hi' ≤ lo'')) (o : OnlyBoth to at lo' hi' s s') where
  pub first-kept : SameEntries s s' at lo'' hi''
  first-kept = entries-kept s s' at lo'' hi'' (λ p c d. o.bytes p (across p c d apart) (beside p c d other))
    where
      across : (p : ℕ) → at + 8 * lo'' ≤ p → p < at + 8 * hi'' → (at + 8 * hi ≤ to + 8 * lo) ⊎ (to + 8 * hi ≤ at + 8 * lo) → Outside to lo' hi' p
      across p c d (inl h) = inl (omega arith)
      across p c d (inr h) = inr (omega arith)

      beside : (p : ℕ) → at + 8 * lo'' ≤ p → p < at + 8 * hi'' → (hi'' ≤ lo') ⊎ (hi' ≤ lo'') → Outside at lo' hi' p
      beside p c d (inl h) = inl (omega arith)
      beside p c d (inr h) = inr (omega arith)

  pub second-kept : SameEntries s s' to lo'' hi''
  second-kept = entries-kept s s' to lo'' hi'' (λ p c d. o.bytes p (beside p c d other) (across p c d apart))
    where
      across : (p : ℕ) → to + 8 * lo'' ≤ p → p < to + 8 * hi'' → (at + 8 * hi ≤ to + 8 * lo) ⊎ (to + 8 * hi ≤ at + 8 * lo) → Outside at lo' hi' p
      across p c d (inl h) = inr (omega arith)
      across p c d (inr h) = inl (omega arith)

      beside : (p : ℕ) → to + 8 * lo'' ≤ p → p < to + 8 * hi'' → (hi'' ≤ lo') ⊎ (hi' ≤ lo'') → Outside to lo' hi' p
      beside p c d (inl h) = inl (omega arith)
      beside p c d (inr h) = inr (omega arith)

-- a part of what can be sorted, the other way round
part_sortable : (n at to lo hi : ℕ) (s s' : List ℕ) → Sortable n at to lo hi s → (lo' hi' : ℕ) → lo ≤ lo' → lo' ≤ hi' → hi' ≤ hi → length s' ≡ length s
    → SameEntries s s' at lo' hi' → SameEntries s s' to lo' hi' → Sortable n to at lo' hi' s'
part_sortable n at to lo hi s s' w lo' hi' a b c long ka kt =
    record {
      places =
          record {
            rises = b;
            first = omega (arith, w.places.second);
            second = omega (arith, w.places.first);
            apart = turned w.places.apart;
          };
      records =
          record {
            inside = λ i x y. omega (arith, (kt i x y).0, w.twice i (omega arith) (omega arith), w.records.inside i (omega arith) (omega arith));
            rise = λ i j x y z.
                omega (
                  arith,
                  (kt i x (omega arith)).0,
                  (kt j (omega arith) z).0,
                  w.twice i (omega arith) (omega arith),
                  w.twice j (omega arith) (omega arith),
                  w.records.rise i j (omega arith) y (omega arith),
                );
          };
      twice = λ i x y. (ka i x y).0 ∙ sym (w.twice i (omega arith) (omega arith)) ∙ sym (kt i x y).0;
    }
  where
    turned : (at + 8 * hi ≤ to + 8 * lo) ⊎ (to + 8 * hi ≤ at + 8 * lo) → (to + 8 * hi' ≤ at + 8 * lo') ⊎ (at + 8 * hi' ≤ to + 8 * lo')
    turned (inl h) = inr (omega arith)
    turned (inr h) = inl (omega arith)

-- ---- two halves

-- fewer than two entries are sorted
pub few_arranged : (t : ℕ → List ℕ) (n at to lo hi : ℕ) (s : List ℕ) → Sortable n at to lo hi s → hi < lo + 2 → Arranged t s at s to lo hi
few_arranged t n at to lo hi s w h =
    record {
      sorted = λ i a b. absurd (omega arith);
      all = λ i a b. record { place = i; low = a; high = b; there = w.twice i a b };
      only = λ i a b. record { place = i; low = a; high = b; there = sym (w.twice i a b) };
    }

pub both-none : (at to lo hi : ℕ) (s : List ℕ) → OnlyBoth at to lo hi s s
both-none at to lo hi s = record { long = refl; bytes = λ p a b. refl }

module _ (n at to lo mid hi : ℕ) (s : List ℕ) (w : Sortable n at to lo hi s) (a : lo ≤ mid) (b : mid ≤ hi) where
  pub first_half : Sortable n to at lo mid s
  first_half = part_sortable n at to lo hi s s w lo mid (omega arith) a b refl (λ i x y. (refl, refl)) (λ i x y. (refl, refl))

  module _ (s₁ : List ℕ) (o₁ : OnlyBoth to at lo mid s s₁) where
    first-at : SameEntries s s₁ at mid hi
    first-at = first-kept at to lo hi w.places.apart s s₁ lo mid mid hi (omega arith) b a (omega arith) (inr (omega arith)) o₁

    first_to : SameEntries s s₁ to mid hi
    first_to = second-kept at to lo hi w.places.apart s s₁ lo mid mid hi (omega arith) b a (omega arith) (inr (omega arith)) o₁

    pub second_half : Sortable n to at mid hi s₁
    second_half = part_sortable n at to lo hi s s₁ w mid hi a b (omega arith) o₁.long first-at first_to

    module _ (t : ℕ → List ℕ) (s₂ : List ℕ) (o₂ : OnlyBoth to at mid hi s₁ s₂) (r₁ : Arranged t s to s₁ at lo mid) (r₂ : Arranged t s₁ to s₂ at mid hi) where
      second_at : SameEntries s₁ s₂ at lo mid
      second_at = first-kept at to lo hi w.places.apart s₁ s₂ mid hi lo mid a (omega arith) (omega arith) b (inl (omega arith)) o₂

      from-left : (i : ℕ) → lo ≤ i → i < mid → HasEntry s to lo mid (record_in s₂ at i)
      from-left i x y = stands-is s to lo mid (record_in s₁ at i) (record_in s₂ at i) (sym (second_at i x y).0) (r₁.only i x y)

      from-right : (i : ℕ) → mid ≤ i → i < hi → HasEntry s to mid hi (record_in s₂ at i)
      from-right i x y = stands_back s s₁ to mid hi first_to (record_in s₂ at i) (r₂.only i x y)

      -- what stands from `to` on stands from `at` on too
      there_too : (lo' hi' r : ℕ) → lo ≤ lo' → hi' ≤ hi → HasEntry s to lo' hi' r → HasEntry s at lo' hi' r
      there_too lo' hi' r x y u =
          record { place = u.place; low = u.low; high = u.high; there = sym (w.twice u.place (omega (arith, u.low)) (omega (arith, u.high))) ∙ u.there }

      from : (i : ℕ) → lo ≤ i → i < hi → HasEntry s at lo hi (record_in s₂ at i)
      from i x y =
          tested (ltb i mid)
          (λ l. stands_wider s at lo mid lo hi (record_in s₂ at i) (omega arith) b (there_too lo mid (record_in s₂ at i) (omega arith) b (from-left i x (ltb-true i mid l))))
          (λ l. stands_wider s at mid hi lo hi (record_in s₂ at i) a (omega arith) (there_too mid hi (record_in s₂ at i) a (omega arith) (from-right i (ltb-false i mid l) y)))

      pub two_runs : TwoRuns t n (record { at = at; to = to; lo = lo; mid = mid; hi = hi }) s₂
      two_runs =
          record {
            places =
                record {
                  rises = w.places.rises;
                  first = omega (arith, o₁.long, o₂.long, w.places.first);
                  second = omega (arith, o₁.long, o₂.long, w.places.second);
                  apart = w.places.apart;
                };
            rises = a;
            ends = b;
            inside = λ i x y.
                let u : HasEntry s at lo hi (record_in s₂ at i) = from i x y in
                omega (arith, u.there, w.records.inside u.place u.low u.high);
            lower = λ i j x y z v.
                let u : HasEntry s at lo mid (record_in s₂ at i) = there_too lo mid (record_in s₂ at i) (omega arith) b (from-left i x y) in
                let q : HasEntry s at mid hi (record_in s₂ at j) = there_too mid hi (record_in s₂ at j) a (omega arith) (from-right j z v) in
                omega (
                  arith,
                  u.there,
                  q.there,
                  w.records.rise u.place q.place u.low (omega (arith, u.high, q.low)) q.high,
                );
            left = sorted-kept s₁ s₂ at lo mid second_at t r₁.sorted;
            right = r₂.sorted;
          }

      into : (i : ℕ) → lo ≤ i → i < hi → HasEntry s₂ at lo hi (record_in s at i)
      into i x y =
          stands-is s₂ at lo hi (record_in s to i) (record_in s at i) (w.twice i x y)
          (tested (ltb i mid)
          (λ l. stands_wider s₂ at lo mid lo hi (record_in s to i) (omega arith) b (stands-kept s₁ s₂ at lo mid second_at (record_in s to i) (r₁.all i x (ltb-true i mid l))))
          (λ l.
          let l' : mid ≤ i = ltb-false i mid l in
          stands_wider s₂ at mid hi lo hi (record_in s to i) a (omega arith)
          (stands-is s₂ at mid hi (record_in s₁ to i) (record_in s to i) (first_to i l' y).0 (r₂.all i l' y))))

      module _ (s₃ : List ℕ) (r₃ : Arranged t s₂ at s₃ to lo hi) (o₃ : OnlyThere to lo hi s₂ s₃) where
        pub halves_arranged : Arranged t s at s₃ to lo hi
        halves_arranged =
            record {
              sorted = r₃.sorted;
              all = λ i x y.
                  let u : HasEntry s₂ at lo hi (record_in s at i) = into i x y in
                  stands-is s₃ to lo hi (record_in s₂ at u.place) (record_in s at i) u.there (r₃.all u.place u.low u.high);
              only = λ i x y.
                  let u : HasEntry s₂ at lo hi (record_in s₃ to i) = r₃.only i x y in
                  stands-is s at lo hi (record_in s₂ at u.place) (record_in s₃ to i) u.there (from u.place u.low u.high);
            }

        pub halves_only : OnlyBoth at to lo hi s s₃
        halves_only =
            record {
              long = o₃.long ∙ o₂.long ∙ o₁.long;
              bytes = λ p x y.
                  o₃.bytes p y
                  ∙ o₂.bytes p (outside_narrower to lo hi mid hi p a (omega arith) y) (outside_narrower at lo hi mid hi p a (omega arith) x)
                  ∙ o₁.bytes p (outside_narrower to lo hi lo mid p (omega arith) b y) (outside_narrower at lo hi lo mid p (omega arith) b x);
            }

-- ---- the records copied

-- the records of the entries below i are copied, and nothing else is written
abbrev pub Copied : ℕ → ℕ → ℕ → List ℕ → ℕ → List ℕ → Type 0
Copied at to m s₀ i s = ((q : ℕ) → q < i → record_in s to q ≡ record_in s₀ at q) × OnlyThere to 0 m s₀ s

pub copied_whole : (at to m : ℕ) (s₀ : List ℕ) (i : ℕ) (s : List ℕ) → i ≤ m → m ≤ i → Copied at to m s₀ i s → Copied at to m s₀ m s
copied_whole at to m s₀ i s a b c = (λ q h. c.0 q (omega arith), c.1)

module _ (at to m : ℕ) (s₀ : List ℕ) (w : TwoPlaces at to 0 m s₀) where
  pub copied_more : (i r : ℕ) (s s' : List ℕ) → i < m → Copied at to m s₀ i s → r < 4294967296 → r ≡ record_in s at i → s' ≡ splice s (to + 8 * i) (word r ++ word 0) → Copied at to m s₀ (i + 1) s'
  copied_more i r s s' h c hr er e =
      let fit : to + 8 * i + 8 ≤ length s = omega (arith, w.second, c.1.long) in
      let o : OnlyThere to i (i + 1) s s' = put_there s s' to i r 0 fit e in
      let here : SameEntries s s' to 0 i = entries-kept s s' to 0 i (λ p x y. o.bytes p (inl y)) in
      let source : SameEntries s₀ s at 0 m = source_kept at to 0 m 0 m s₀ s w (omega arith) (omega arith) c.1 in (
        λ q x.
            tested (ltb q i)
            (λ l. let l' : q < i = ltb-true q i l in (here q (omega arith) l').0 ∙ c.0 q l')
            (λ l.
            let z : q ≡ i = omega (arith, ltb-false q i l) in
            ap (record_in s' to) z ∙ put_record s s' to i r 0 fit e hr ∙ er ∙ (source i (omega arith) h).0 ∙ ap (record_in s₀ at) (sym z)),
        only-on to 0 m s₀ s s' c.1 (only_wider to i 0 m s s' (omega arith) h o),
      )

  module _ (n : ℕ) (s : List ℕ) (rise : RecordsRise n at 0 m s₀) (c : Copied at to m s₀ m s) where
    source : SameEntries s₀ s at 0 m
    source = source_kept at to 0 m 0 m s₀ s w (omega arith) (omega arith) c.1

    pub copied_sortable : Sortable n to at 0 m s
    copied_sortable =
        record {
          places =
              record {
                rises = w.rises;
                first = omega (arith, w.second, c.1.long);
                second = omega (arith, w.first, c.1.long);
                apart = turned w.apart;
              };
          records =
              record {
                inside = λ i x y. omega (arith, c.0 i y, rise.inside i x y);
                rise = λ i j x y z. omega (arith, c.0 i (omega arith), c.0 j z, rise.rise i j x y z);
              };
          twice = λ i x y. (source i x y).0 ∙ sym (c.0 i y);
        }
      where
        turned : (at + 8 * m ≤ to + 8 * 0) ⊎ (to + 8 * m ≤ at + 8 * 0) → (to + 8 * m ≤ at + 8 * 0) ⊎ (at + 8 * m ≤ to + 8 * 0)
        turned (inl h) = inr h
        turned (inr h) = inl h

    module _ (t : ℕ → List ℕ) (s' : List ℕ) (r : Arranged t s to s' at 0 m) (o : OnlyBoth to at 0 m s s') where
      pub copied_arranged : Arranged t s₀ at s' at 0 m
      copied_arranged =
          record {
            sorted = r.sorted;
            all = λ i x y. stands-is s' at 0 m (record_in s to i) (record_in s₀ at i) (c.0 i y) (r.all i x y);
            only = λ i x y.
                let u : HasEntry s to 0 m (record_in s' at i) = r.only i x y in
                record { place = u.place; low = u.low; high = u.high; there = sym (c.0 u.place u.high) ∙ u.there };
          }

      pub copied_only : OnlyBoth at to 0 m s₀ s'
      copied_only = record { long = o.long ∙ c.1.long; bytes = λ p x y. o.bytes p y x ∙ c.1.bytes p y }
