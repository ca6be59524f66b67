-- What sorting tells of the entries as they stood before: they are the records that are sorted, so the first with a key and those that repeat one are the same.
-- Entry for entry, there and back. Assumes nothing.
use mathlib.Core.Path.{◌≡◌, ap, subst, ◌∙◌}
use mathlib.Core.Logic.{◌⊎◌, inl, inr}
use mathlib.Core.List.{List}
use Prim.Native.Nat.{ℕ, ◌+◌, ◌*◌, ◌<◌}
use native.Mathlib.Omega.{arith}
use Rattle.records.specs.Words.{word_at}
use Rattle.sorting.specs.Sorted.{record_in, HasEntry, Arranged, OnlyBoth, TwoPlaces, RecordsRise, SortedRecords, Repeated, FirstRepeated, FirstOfKey, NumberedUpTo}
use Rattle.sorting.proofs.MergeLaws.{stands-is}

module _ (t : ℕ → List ℕ) (at m : ℕ) (s s' : List ℕ) (r : Arranged t s at s' at 0 m) where
  pub sorted-records : (n to : ℕ) → TwoPlaces at to 0 m s → RecordsRise n at 0 m s → OnlyBoth at to 0 m s s' → SortedRecords t n at m s'
  sorted-records n to p w o =
      record {
        room = omega (arith, p.first, o.long);
        inside = λ i h.
            let u : HasEntry s at 0 m (record_in s' at i) = r.only i (omega arith) h in
            omega (arith, u.there, w.inside u.place u.low u.high);
        sorted = r.sorted;
      }

  stood : (x : ℕ) → HasEntry s' at 0 m x → HasEntry s at 0 m x
  stood x u = stands-is s at 0 m (record_in s' at u.place) x u.there (r.only u.place u.low u.high)

  stands : (x : ℕ) → HasEntry s at 0 m x → HasEntry s' at 0 m x
  stands x u = stands-is s' at 0 m (record_in s at u.place) x u.there (r.all u.place u.low u.high)

  pub first-before : (x v : ℕ) → FirstOfKey t s' at m x v → FirstOfKey t s at m x v
  first-before x v f =
      record {
        stands = stood v f.stands;
        same = f.same;
        least = λ i h e.
            let u : HasEntry s' at 0 m (record_in s at i) = r.all i (omega arith) h in
            omega (arith, u.there, f.least u.place u.high (ap t u.there ∙ e));
      }

  pub numbers_before : (n to : ℕ) (s'' : List ℕ) → NumberedUpTo t n at m to m s' s'' → (i : ℕ) → i < m
      → FirstOfKey t s at m (record_in s at i) (word_at s'' (to + 4 * record_in s at i))
  numbers_before n to s'' w i h =
      let u : HasEntry s' at 0 m (record_in s at i) = r.all i (omega arith) h in
      subst (λ (x : ℕ). FirstOfKey t s at m x (word_at s'' (to + 4 * x))) u.there
      (first-before (record_in s' at u.place) (word_at s'' (to + 4 * record_in s' at u.place)) (w.number u.place u.high))

  pub repeated_before : (bound v : ℕ) → FirstRepeated t s' at m bound v → FirstRepeated t s at m bound v
  repeated_before bound v f = record { found = found f.found; least = λ x w. f.least x (again x w) }
    where
      found : (v ≡ bound) ⊎ Repeated t s' at m v → (v ≡ bound) ⊎ Repeated t s at m v
      found (inl e) = inl e
      found (inr w) = inr (record { here = stood v w.here; lower = w.lower; there = stood w.lower w.there; less = w.less; same = w.same })

      again : (x : ℕ) → Repeated t s at m x → Repeated t s' at m x
      again x w = record { here = stands x w.here; lower = w.lower; there = stands w.lower w.there; less = w.less; same = w.same }
