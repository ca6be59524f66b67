-- Equal types: what is alike shares a bucket; the digest of a type as the code reads it; where nothing is alike nothing is equal, and what types sorted by their
-- keys tell. By the laws of digests, of chains and of keys. Assumes nothing.
use mathlib.Core.Path.{◌≡◌, refl, sym, ap, ◌∙◌}
use mathlib.Core.Logic.{inl, ⊎_elim}
use Prim.Native.Nat.{ℕ, ◌+◌, ◌*◌, ◌≤◌, ◌<◌}
use mathlib.Core.Bool.{Bool, true, false, not, ◌&&◌, ◌||◌, false≢true}
use mathlib.Core.List.{List, ◌++◌}
use native.Mathlib.Omega.{arith}
use lib.Dec.{eqb}
use lib.ListN.{length, get_or}
use borrow.Author.Count.{below_more}
use borrow.Author.Tests.{eq-eqb, ne_eqb, eqb-true}
use Rattle.laws.specs.Chain.{Met}
use Rattle.laws.specs.Splice.{splice}
use Rattle.laws.proofs.AllBelow.{any_at, any_of}
use Rattle.laws.proofs.ChainLaws.{walk_end}
use Rattle.laws.proofs.Tests.{tested, and_left}
use Rattle.records.specs.Digest.{digest_of, digest_four, type_digest}
use Rattle.records.specs.Rules.{same_type, type_is_new}
use Rattle.records.specs.Words.{kind_of, detail_of, word_of, text_at, word, A, B, C}
use Rattle.records.proofs.ChainedLaws as chained
use Rattle.records.proofs.DigestLaws.{custom_digest, words-digest, same-digest}
use Rattle.records.proofs.TypeLaws.{equal_type, new-found, new_none}
use Rattle.sorting.specs.Sorted.{record_key, record_in, HasEntry, OnlyThere, TwoPlaces, RecordsRise, Repeated, FirstRepeated}
use Rattle.sorting.proofs.KeyLaws.{same_keys, one_key}
use Rattle.sorting.proofs.MergeLaws.{entries-kept, put_there, put_record}
use Rattle.judge.specs.Inner.{Lowest}
use Rattle.judge.specs.Equal.{is_custom, alike, like_earlier, every, type_bucket, TypesListed}

-- ---- what the code reads of a type

-- whether it is a Custom, as the code tests it
module _ (tree : List ℕ) (r x : ℕ) (ex : x ≡ detail_of tree r) where
  pub is-named : x ≡ 8 → is_custom tree r ≡ true
  is-named e = eq-eqb (detail_of tree r) 8 (sym ex ∙ e)

  pub is_unnamed : (x ≡ 8 → ⊥) → is_custom tree r ≡ false
  is_unnamed n = ne_eqb (detail_of tree r) 8 (λ e. n (ex ∙ e))

pub not_custom : (tree : List ℕ) (r : ℕ) → is_custom tree r ≡ false → detail_of tree r ≡ 8 → ⊥
not_custom tree r n e = false≢true (sym n ∙ eq-eqb (detail_of tree r) 8 e)

-- its digest
module _ (tree text : List ℕ) (r x a b : ℕ) where
  pub custom_told : (v : ℕ) → x ≡ detail_of tree r → x ≡ 8 → a ≡ word_of tree r A → b ≡ word_of tree r B → v ≡ digest_of (text_at text a b) → v ≡ type_digest tree text r
  custom_told v ex e ea eb ev = ev ∙ rw (ea, eb) (custom_digest tree text r (sym ex ∙ e))

  pub words-told : (y c v : ℕ) → x ≡ detail_of tree r → (x ≡ 8 → ⊥) → y ≡ x → a ≡ word_of tree r A → b ≡ word_of tree r B → c ≡ word_of tree r C
      → v ≡ digest_four y a b c → v ≡ type_digest tree text r
  words-told y c v ex n ey ea eb ec ev = ev ∙ rw (ey, ex, ea, eb, ec) (words-digest tree text r (λ e. n (ex ∙ e)))

-- ---- what is alike

or-true : (a b : Bool) → b ≡ true → (a || b) ≡ true
or-true true b e = refl
or-true false b e = e

third : (a m b v : Bool) → a ≡ true → m ≡ false → v ≡ b → v ≡ (a && (m || b))
third a m b v ea em ev = rw (ea, em) ev

module _ (tree text : List ℕ) (k r : ℕ) where
  alike-digest : alike tree text k r ≡ true → type_digest tree text k ≡ type_digest tree text r
  unfolding alike
  alike-digest e = eqb-true (type_digest tree text k) (type_digest tree text r) (and_left (eqb (type_digest tree text k) (type_digest tree text r)) _ e)

  same_alike : same_type tree text k r ≡ true → alike tree text k r ≡ true
  unfolding alike
  same_alike e =
      rw (eq-eqb (type_digest tree text k) (type_digest tree text r) (same-digest tree text k r e))
      (or-true (is_custom tree r) (same_type tree text k r) e)

  -- as the code finds it
  module _ (x d : ℕ) (ex : x ≡ type_digest tree text k) (ed : d ≡ type_digest tree text r) where
    pub digests-differ : (x ≡ d → ⊥) → false ≡ alike tree text k r
    digests-differ n =
        tested (alike tree text k r)
        (λ t. absurd (n (ex ∙ alike-digest t ∙ sym ed)))
        (λ t. sym t)

    module _ (e : x ≡ d) where
      shared : eqb (type_digest tree text k) (type_digest tree text r) ≡ true
      shared = eq-eqb (type_digest tree text k) (type_digest tree text r) (sym ex ∙ e ∙ ed)

      pub alike-named : is_custom tree r ≡ true → true ≡ alike tree text k r
      unfolding alike
      alike-named m = rw (shared, m) refl

      pub alike-words : (v : Bool) → is_custom tree r ≡ false → v ≡ same_type tree text k r → v ≡ alike tree text k r
      unfolding alike
      alike-words v m ev = third (eqb (type_digest tree text k) (type_digest tree text r)) (is_custom tree r) (same_type tree text k r) v shared m ev

-- a walk along the chain of its bucket, and what it shows
pub together : (tree text : List ℕ) (types j r : ℕ) → alike tree text j r ≡ true → type_bucket tree text types j ≡ type_bucket tree text types r
together tree text types j r e = chained.together every (type_digest tree text) types j r refl refl (alike-digest tree text j r e)

module _ (tree text : List ℕ) (r : ℕ) where
  pub like_none : (types v : ℕ) → v ≤ 0 → Met (alike tree text) (type_bucket tree text types) r v → false ≡ like_earlier tree text r
  like_none types v z m =
      sym (any_of (λ i. alike tree text i r) r (walk_end (alike tree text) (type_bucket tree text types) (together tree text types) r v z m))

-- ---- what is equal

module _ (tree text : List ℕ) (types r : ℕ) (kinds : (k : ℕ) → k < types → kind_of tree k ≡ 1) (hr : r < types) where
  is-equal : (k : ℕ) (s : Bool) → kind_of tree k ≡ 1 → same_type tree text k r ≡ s → equal_type tree text r k ≡ s
  unfolding equal_type
  is-equal k s e t = rw (eq-eqb (kind_of tree k) 1 e) t

  equal-found : (k : ℕ) → k < r → same_type tree text k r ≡ true → true ≡ not (type_is_new tree text r)
  equal-found k h t = ap not (new-found tree text r (kinds r hr) k h (is-equal k true (kinds k (omega arith)) t))

  equal-none : ((i : ℕ) → i < r → same_type tree text i r ≡ false) → false ≡ not (type_is_new tree text r)
  equal-none differ =
      ap not
      (new_none tree text r (kinds r hr) r
      (any_of (equal_type tree text r) r (λ i h. is-equal i false (kinds i (omega arith)) (differ i h)))
      (omega arith)
      (omega arith))

  -- nothing alike: nothing equal
  pub unlike_new : like_earlier tree text r ≡ false → not (type_is_new tree text r) ≡ false
  unlike_new n =
      sym
      (equal-none
      (λ i h.
      tested (same_type tree text i r)
      (λ t. absurd (false≢true (sym (any_at (λ j. alike tree text j r) r i n h) ∙ same_alike tree text i r t)))
      (λ t. t)))

-- ---- types sorted

-- one type more in its entry
module _ (r : ℕ) (s s' : List ℕ) (l : TypesListed r s) (room : 8 * r + 8 ≤ length s) (hr : r < 4294967296) (e : s' ≡ splice s (8 * r) (word r ++ word 0)) where
  fits : 0 + 8 * r + 8 ≤ length s
  fits = omega (arith, room)

  there : s' ≡ splice s (0 + 8 * r) (word r ++ word 0)
  there = e ∙ ap (λ (p : ℕ). splice s p (word r ++ word 0)) (omega arith)

  only : OnlyThere 0 r (r + 1) s s'
  only = put_there s s' 0 r r 0 fits there

  pub listed_more : TypesListed (r + 1) s'
  listed_more =
      below_more (λ (i : ℕ). record_in s' 0 i ≡ i) r
      (λ i h. (entries-kept s s' 0 0 r (λ p x y. only.bytes p (inl y)) i (omega arith) h).0 ∙ l i h)
      (put_record s s' 0 r r 0 fits there hr)

  pub listed-long : length s' ≡ length s
  listed-long = only.long

module _ (types : ℕ) (s : List ℕ) (l : TypesListed types s) where
  listed : (k : ℕ) → k < types → HasEntry s 0 0 types k
  listed k h = record { place = k; low = omega arith; high = h; there = l k h }

  is-listed : (k : ℕ) → HasEntry s 0 0 types k → k < types
  is-listed k u = omega (arith, u.there, u.high, l u.place u.high)

  pub listed-rise : (n : ℕ) → types ≤ n → RecordsRise n 0 0 types s
  listed-rise n h =
      record { inside = λ i a b. omega (arith, l i b); rise = λ i j a b d. omega (arith, l i (omega arith), l j d) }

  pub listed-places : 16 * types ≤ length s → TwoPlaces 0 (8 * types) 0 types s
  listed-places h = record { rises = omega arith; first = omega arith; second = omega arith; apart = inl (omega arith) }

  -- the first whose key is repeated is the lowest that equals an earlier one
  module _ (tree text : List ℕ) (kinds : (k : ℕ) → k < types → kind_of tree k ≡ 1) (bytes : (i : ℕ) → get_or text i 0 < 256) (v : ℕ)
      (first : FirstRepeated (record_key tree text) s 0 types types v) where
    inside : v ≤ types
    inside =
        ⊎_elim
        (λ (e : v ≡ types). omega arith)
        (λ (w : Repeated (record_key tree text) s 0 types v). omega (arith, is-listed v w.here))
        first.found

    none_before : (k : ℕ) → k < v → not (type_is_new tree text k) ≡ false
    none_before k h =
        let below : k < types = omega (arith, inside) in
        sym
        (equal-none tree text types k kinds below
        (λ i g.
        tested (same_type tree text i k)
        (λ t.
        let again : Repeated (record_key tree text) s 0 types k =
        record {
          here = listed k below;
          lower = i;
          there = listed i (omega arith);
          less = g;
          same = same_keys tree text i k (kinds i (omega arith)) (kinds k below) t;
        } in
        absurd (omega (arith, first.least k again)))
        (λ t. t)))

    again_there : v < types → not (type_is_new tree text v) ≡ true
    again_there h =
        ⊎_elim
        (λ (e : v ≡ types). absurd (omega arith))
        (λ (w : Repeated (record_key tree text) s 0 types v).
        sym
        (equal-found tree text types v kinds h w.lower w.less
        (one_key tree text w.lower v (kinds w.lower (omega (arith, w.less))) (kinds v h) bytes w.same)))
        first.found

    pub lowest-sorted : Lowest types (λ k. not (type_is_new tree text k)) v
    lowest-sorted = record { within = inside; before = none_before; found = again_there }
