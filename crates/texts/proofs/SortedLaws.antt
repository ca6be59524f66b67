-- Texts numbered by sorting: digests are written record for record, the records that have a text become entries, and the first of the entries with a text is its number.
-- By the laws of the pass and of sorted entries. Assumes nothing.
use mathlib.Core.Path.{◌≡◌, sym, ap, subst, ◌∙◌}
use mathlib.Core.Logic.{◌⊎◌, inl, inr}
use Prim.Native.Nat.{ℕ, ◌+◌, ◌*◌, ◌≤◌, ◌<◌}
use mathlib.Core.Bool.{true, false, false≢true}
use mathlib.Core.List.{List, ◌++◌}
use mathlib.Core.Option.{Option}
use native.Mathlib.Omega.{arith}
use lib.Dec.{ltb}
use lib.ListN.{length, get_or}
use borrow.Author.Count.{below_more}
use borrow.Author.Tests.{ltb-true, ltb-false}
use Rattle.laws.specs.Splice.{splice}
use Rattle.laws.proofs.BelowLaws.{lowest_some}
use Rattle.laws.proofs.Tests.{tested, and_left, and_right}
use Rattle.records.specs.Digest.{roll_of}
use Rattle.records.specs.Words.{word_at, word, records}
use Rattle.records.proofs.Apart.{word_same}
use Rattle.records.proofs.DigestLaws.{same-equal}
use Rattle.sorting.specs.Sorted.{record_key, record_in, HasEntry, Arranged, OnlyThere, OnlyBoth, TwoPlaces, SortedRecords, NumbersApart, FirstOfKey, NumberedUpTo}
use Rattle.sorting.proofs.KeyLaws.{words-not, key_text}
use Rattle.sorting.proofs.MergeLaws.{entries-kept, put_there, put_record, only_wider}
use Rattle.sorting.proofs.ArrangedLaws.{sorted-records, numbers_before}
use Rattle.texts.specs.Texts.{has_text, has_own, own_text, same_own, number_or, original, original_at, text_digest_at, Numbered, Kept}
use Rattle.texts.specs.Pass.{Read, OnlySamples, Rolled, Collected}
use Rattle.texts.proofs.PassLaws.{put_long, put_bytes, put_words, put_read, behind-word, kept-sampled, kept_on, read_stays}
use Rattle.texts.proofs.TextLaws.{same_own_lem}

-- ---- the digests

module _ (tree text : List ℕ) where
  -- a record without a text
  pub rolled-over : (r : ℕ) (s : List ℕ) → Rolled tree text r s → has_own tree r ≡ false → Rolled tree text (r + 1) s
  rolled-over r s p m =
      below_more (λ (k : ℕ). has_own tree k ≡ true → word_at s (text_digest_at (records tree) k) ≡ roll_of (own_text tree text k)) r p
      (λ t. absurd (false≢true (sym m ∙ t)))

  -- a record with a text: s₁ is the scratch once samples are written, s₂ once its digest is
  module _ (r x : ℕ) (s s₁ s₂ : List ℕ) (room : 72 * records tree ≤ length s) (hr : r < records tree) (only : OnlySamples (records tree) s s₁)
      (e : s₂ ≡ splice s₁ (text_digest_at (records tree) r) (word x)) where
    fit : text_digest_at (records tree) r + 4 ≤ length s₁
    fit = omega (arith, only.long)

    byte : (i : ℕ) → (i < text_digest_at (records tree) r) ⊎ (text_digest_at (records tree) r + 4 ≤ i) → get_or s₂ i 0 ≡ get_or s₁ i 0
    byte = put_bytes s₁ s₂ (text_digest_at (records tree) r) x fit e

    kept : Kept (records tree) s₁ s₂
    kept =
        record {
          long = put_long s₁ s₂ (text_digest_at (records tree) r) x fit e;
          keys = λ i k m. byte i (inl (omega arith));
          behind = λ i k. byte i (inr (omega arith));
        }

    pub rolled-more : Rolled tree text r s → x ≡ roll_of (own_text tree text r) → x < 4294967296 → (stride long : ℕ) → Read text (records tree) (r + 1) stride long s₁
        → (Rolled tree text (r + 1) s₂ × Kept (records tree) s s₂) × Read text (records tree) (r + 1) stride long s₂
    rolled-more p ex hx stride long read = (
      (
        below_more (λ (k : ℕ). has_own tree k ≡ true → word_at s₂ (text_digest_at (records tree) k) ≡ roll_of (own_text tree text k)) r
            (λ k hk t.
            put_words s₁ s₂ (text_digest_at (records tree) r) x fit e (text_digest_at (records tree) k) (inl (omega arith)) ∙ behind-word (records tree) s s₁ only (text_digest_at (records tree) k) (omega arith) ∙ p k hk t)
            (λ t. put_read s₁ s₂ (text_digest_at (records tree) r) x fit e hx ∙ ex),
        kept_on (records tree) s s₁ s₂ (kept-sampled (records tree) s s₁ only) kept,
      ),
      read_stays text (records tree) (r + 1) stride long s₁ s₂ (λ i k m. byte i (inl (omega arith))) kept.long read,
    )

-- ---- the entries

module _ (tree : List ℕ) where
  pub collected_none : (s : List ℕ) → Collected tree 0 0 s
  collected_none s =
      record {
        few = omega arith;
        rises = record { inside = λ i a b. absurd (omega arith); rise = λ i j a b c. absurd (omega arith) };
        own = λ i h. absurd (omega arith);
        all = λ k h t. absurd (omega arith);
      }

  pub collected_over : (r m : ℕ) (s : List ℕ) → Collected tree r m s → has_own tree r ≡ false → Collected tree (r + 1) m s
  collected_over r m s c f =
      record {
        few = omega (arith, c.few);
        rises = record { inside = λ i a b. omega (arith, c.rises.inside i a b); rise = c.rises.rise };
        own = c.own;
        all = below_more (λ (k : ℕ). has_own tree k ≡ true → HasEntry s 0 0 m k) r c.all (λ t. absurd (false≢true (sym f ∙ t)));
      }

  module _ (r m : ℕ) (s s' : List ℕ) (c : Collected tree r m s) (has : has_own tree r ≡ true) (room : 0 + 8 * m + 8 ≤ length s) (hr : r < 4294967296)
      (e : s' ≡ splice s (0 + 8 * m) (word r ++ word 0)) where
    collected_only : OnlyThere 0 m (m + 1) s s'
    collected_only = put_there s s' 0 m r 0 room e

    new : record_in s' 0 m ≡ r
    new = put_record s s' 0 m r 0 room e hr

    old : (i : ℕ) → i < m → record_in s' 0 i ≡ record_in s 0 i
    old i h = (entries-kept s s' 0 0 m (λ p x y. collected_only.bytes p (inl y)) i (omega arith) h).0

    -- entry i is the new one, or one of those before
    of_entry : (P : ℕ → Type 0) → ((i : ℕ) → i < m → P (record_in s 0 i)) → P r → (i : ℕ) → i < m + 1 → P (record_in s' 0 i)
    of_entry P before here i h =
        tested (ltb i m)
        (λ l. subst P (sym (old i (ltb-true i m l))) (before i (ltb-true i m l)))
        (λ l. let z : i ≡ m = omega (arith, ltb-false i m l) in subst P (sym (ap (record_in s' 0) z ∙ new)) here)

    more : Collected tree (r + 1) (m + 1) s'
    more =
        record {
          few = omega (arith, c.few);
          rises =
              record {
                inside = λ i a. of_entry (λ (q : ℕ). q < r + 1) (λ j h. omega (arith, c.rises.inside j (omega arith) h)) (omega arith) i;
                rise = λ i j a b d.
                    let x : record_in s' 0 i ≡ record_in s 0 i = old i (omega arith) in
                    let y : record_in s 0 i < r = c.rises.inside i (omega arith) (omega arith) in
                    tested (ltb j m)
                    (λ l. omega (arith, x, old j (ltb-true j m l), c.rises.rise i j a b (ltb-true j m l)))
                    (λ l. let z : j ≡ m = omega (arith, ltb-false j m l) in omega (arith, x, y, ap (record_in s' 0) z, new));
              };
          own = of_entry (λ (q : ℕ). has_own tree q ≡ true) c.own has;
          all =
              below_more (λ (k : ℕ). has_own tree k ≡ true → HasEntry s' 0 0 (m + 1) k) r
              (λ k h t.
              let u : HasEntry s 0 0 m k = c.all k h t in
              record { place = u.place; low = u.low; high = omega (arith, u.high); there = old u.place u.high ∙ u.there })
              (λ t. record { place = m; low = omega arith; high = omega arith; there = new });
        }

    pub collected_more : r < records tree → Collected tree (r + 1) (m + 1) s' × OnlyThere 0 0 (records tree) s s'
    collected_more h = (more, only_wider 0 m 0 (records tree) s s' (omega arith) (omega (arith, c.few)) collected_only)

  pub collected_all : (r m : ℕ) (s : List ℕ) → r ≤ records tree → records tree ≤ r → Collected tree r m s → Collected tree (records tree) m s
  collected_all r m s a b c = let z : r ≡ records tree = omega arith in subst (λ (x : ℕ). Collected tree x m s) z c

  -- all are entries: there is room for as many once more
  pub collected_places : (m : ℕ) (s s₁ : List ℕ) → Collected tree (records tree) m s → 72 * records tree ≤ length s₁ → OnlyThere 0 0 (records tree) s₁ s
      → TwoPlaces 0 (0 + 8 * records tree) 0 m s
  collected_places m s s₁ c room o =
      record {
        rises = omega arith;
        first = omega (arith, c.few, o.long);
        second = omega (arith, c.few, o.long);
        apart = inl (omega (arith, c.few));
      }

-- ---- the numbers

-- a record that has a text is no type, and is sorted by it
own_key : (tree text : List ℕ) (k : ℕ) → has_own tree k ≡ true → record_key tree text k ≡ own_text tree text k
unfolding has_text
own_key tree text k h = key_text tree text k (words-not tree k (λ e. false≢true (sym (ap has_text e) ∙ h)))

module _ (tree text : List ℕ) (m : ℕ) (s : List ℕ) (c : Collected tree (records tree) m s) where
  number-first : (r v : ℕ) → has_own tree r ≡ true → FirstOfKey (record_key tree text) s 0 m r v → original tree text r ≡ v
  unfolding original number_or same_own
  number-first r v own f =
      let u : HasEntry s 0 0 m v = f.stands in
      let has : has_own tree v ≡ true = ap (has_own tree) (sym u.there) ∙ c.own u.place u.high in
      ap (λ (o : Option ℕ). number_or o r)
      (lowest_some (records tree) (same_own tree text r) v (omega (arith, u.there, c.rises.inside u.place u.low u.high))
      (λ k h.
      tested (same_own tree text r k)
      (λ y.
      let w : HasEntry s 0 0 m k = c.all k (omega (arith, u.there, c.rises.inside u.place u.low u.high)) (and_left (has_own tree k) _ y) in
      let same : record_key tree text k ≡ record_key tree text r =
      own_key tree text k (and_left (has_own tree k) _ y) ∙ same-equal _ _ (and_right (has_own tree k) _ y) ∙ sym (own_key tree text r own) in
      absurd (omega (arith, w.there, f.least w.place w.high (ap (record_key tree text) w.there ∙ same))))
      (λ n. n))
      (same_own_lem tree text r v has (sym (own_key tree text v has) ∙ f.same ∙ own_key tree text r own)))

  -- s₁ is the scratch before the entries were written, s₃ once they are sorted, s₄ once the numbers are written
  module _ (s₁ : List ℕ) (room : 72 * records tree ≤ length s₁) (o : OnlyThere 0 0 (records tree) s₁ s) where
    module _ (s₃ : List ℕ) (a : Arranged (record_key tree text) s 0 s₃ 0 0 m) (b : OnlyBoth 0 (0 + 8 * records tree) 0 m s s₃) where
      pub collected_sorted : SortedRecords (record_key tree text) (records tree) 0 m s₃
      collected_sorted = sorted-records (record_key tree text) 0 m s s₃ a (records tree) (0 + 8 * records tree) (collected_places tree m s s₁ c room o) c.rises b

      pub collected_apart : NumbersApart (records tree) 0 m (40 * records tree) s₃
      collected_apart = record { room = omega (arith, o.long, b.long); apart = inl (omega (arith, c.few)) }

      module _ (s₄ : List ℕ) (n : NumberedUpTo (record_key tree text) (records tree) 0 m (40 * records tree) m s₃ s₄) where
        behind : (p : ℕ) → 44 * records tree ≤ p → get_or s₄ p 0 ≡ get_or s₁ p 0
        behind p h =
            n.bytes p (inr (omega arith)) ∙ b.bytes p (inr (omega (arith, c.few))) (inr (omega (arith, c.few))) ∙ o.bytes p (inr (omega arith))

        pub sorted-kept : (s₀ : List ℕ) → Kept (records tree) s₀ s₁ → Kept (records tree) s₀ s₄
        sorted-kept s₀ k =
            kept_on (records tree) s₀ s₁ s₄ k
            (record { long = n.long ∙ b.long ∙ o.long; keys = λ i x y. behind i (omega arith); behind = λ i x. behind i (omega arith) })

        pub sorted-numbered : Rolled tree text (records tree) s₁ → Numbered tree text s₄
        sorted-numbered p =
            record {
              number = λ r h t.
                  let u : HasEntry s 0 0 m r = c.all r h t in
                  sym
                  (number-first r (word_at s₄ (original_at (records tree) r)) t
                  (subst (λ (x : ℕ). FirstOfKey (record_key tree text) s 0 m x (word_at s₄ (original_at (records tree) x))) u.there
                  (numbers_before (record_key tree text) 0 m s s₃ a (records tree) (40 * records tree) s₄ n u.place u.high)));
              digest = λ r h t.
                  word_same s₄ (text_digest_at (records tree) r) s₁ (text_digest_at (records tree) r) (behind (text_digest_at (records tree) r) (omega arith))
                  (behind (text_digest_at (records tree) r + 1) (omega arith))
                  (behind (text_digest_at (records tree) r + 2) (omega arith))
                  (behind (text_digest_at (records tree) r + 3) (omega arith))
                  ∙ p r h t;
            }
