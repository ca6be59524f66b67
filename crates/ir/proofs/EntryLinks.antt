-- Entries of a table linked by their buckets: which words they need, where a walk through an entry's bucket leads, and one entry more; and so floats.
-- By the laws of links: entries that are the same have one bucket, and no two of those written are the same. Assumes nothing.
use mathlib.Core.Path.{◌≡◌, refl, sym, ap, ap₂, ◌∙◌, subst}
use mathlib.Core.Logic.{inr}
use mathlib.Core.Bool.{Bool, true, false, ◌&&◌, beq, false≢true}
use mathlib.Core.List.{List, [], ◌∷◌, ◌++◌}
use mathlib.Core.Option.{none, some}
use Prim.Native.Nat.{ℕ, ◌+◌, ◌*◌, ◌≤◌, ◌<◌}
use native.Mathlib.Nat.{mod-lt}
use native.Mathlib.Omega.{arith}
use lib.Dec.{eqb, ltb}
use lib.ListN.{length, get_or, length-append, get_or-append}
use lib.Seq.{get_or-append-add}
use borrow.Author.Tests.{eqb-true, eq-eqb, ne_eqb, ltb-true, ltb-false, lt-ltb, le-ltb}
use Rattle.laws.specs.Fix.{pick}
use Rattle.laws.specs.Splice.{splice}
use Rattle.laws.proofs.Tests.{tested, and_left, and_right}
use Rattle.records.specs.Words.{word_at}
use Rattle.std.specs.Prelude.{Option as StdOption, Some, None}
use Rattle.records.proofs.Apart.{word-apart}
use Rattle.conversion.specs.Ir.{FloatEntry, position, same_float}
use Rattle.ir.specs.Arena.{Linked, LinkedEntries, float_bucket, float_entry_bucket}
use Rattle.ir.specs.Floats.{entry}
use Rattle.ir.specs.Search.{Walks, float_bucket_at, head_for}
use Rattle.ir.proofs.LinkLaws.{Start, start, start_same, Told, walk_tells, linked-words, linked-same, linked-more}
use Rattle.ir.proofs.SearchLaws.{numbered_more, position-none, position-only, position_nowhere}

-- the bucket of each entry
abbrev pub buckets : {X : Type 0} → (X → ℕ) → X → List X → ℕ → ℕ
buckets bucket past xs i = bucket (get_or xs i past)

-- entries that are the same have one bucket, and are the same as the same others
pub record Alike {X : Type 0} (bucket : X → ℕ) (same : X → X → Bool) : Type 0 where
  pub one_bucket : (a b : X) → same a b ≡ true → bucket b ≡ bucket a
  pub one-test : (a b c : X) → same a b ≡ true → same b c ≡ same a c

module _ {X : Type 0} {bucket : X → ℕ} {same : X → X → Bool} {past : X} {heads links : ℕ} {xs : List X} {l : List ℕ} (h : LinkedEntries bucket same past heads links xs l) where
  -- the links of the entries and the heads of their buckets are all that is needed
  pub links_stay : (l' : List ℕ) → ((i : ℕ) → i < length xs → word_at l' (heads + 4 * buckets bucket past xs i) ≡ word_at l (heads + 4 * buckets bucket past xs i))
      → ((i : ℕ) → i < length xs → word_at l' (links + 4 * i) ≡ word_at l (links + 4 * i)) → LinkedEntries bucket same past heads links xs l'
  links_stay l' eh el = record {
    linked = linked-words h.linked (λ a. word_at l' (heads + 4 * a)) (λ i. word_at l' (links + 4 * i)) eh el;
    distinct = h.distinct;
  }

  -- so a write before them leaves them
  pub links-behind : links ≤ heads → (i : ℕ) (vs l' : List ℕ) → l' ≡ splice l i vs → i + length vs ≤ length l → i + length vs ≤ links
      → LinkedEntries bucket same past heads links xs l'
  links-behind order i vs l' e fit b =
      let stays : (p : ℕ) → links ≤ p → word_at l' p ≡ word_at l p = λ p q. ap (λ (r : List ℕ). word_at r p) e ∙ word-apart l i vs fit p (inr (omega arith)) in
      links_stay l' (λ j hj. stays (heads + 4 * buckets bucket past xs j) (omega arith)) (λ j hj. stays (links + 4 * j) (omega arith))

  -- where a walk begins, with the buckets as they are read from the bytes
  module _ (m : ℕ) (count : m ≡ length xs) (read : ℕ → ℕ) (is : (i : ℕ) → i < length xs → read i ≡ buckets bucket past xs i) (b : ℕ) where
    head_tests : (i : ℕ) → (ltb i m && eqb (read i) b) ≡ (ltb i (length xs) && eqb (buckets bucket past xs i) b)
    head_tests i =
        ap (λ (c : ℕ). ltb i c && eqb (read i) b) count
        ∙ tested (ltb i (length xs))
        (λ q. ap (λ (z : ℕ). ltb i (length xs) && eqb z b) (is i (ltb-true i (length xs) q)))
        (λ q. ap (λ (c : Bool). c && eqb (read i) b) q ∙ sym (ap (λ (c : Bool). c && eqb (buckets bucket past xs i) b) q))

    pub entry_start : Start (buckets bucket past xs) (length xs) b (head_for read m b (word_at l (heads + 4 * b)))
    unfolding head_for
    entry_start =
        let i : ℕ = word_at l (heads + 4 * b) in
        start h.linked b i refl (ltb i m && eqb (read i) b) (head_tests i)

  module _ (alike : Alike bucket same) (e : X) where
    -- an entry is looked for from where a walk through its bucket begins
    module _ (f : ℕ → Bool) (told : (j : ℕ) → j < length xs → f j ≡ same e (get_or xs j past)) {v : ℕ} (s : Start (buckets bucket past xs) (length xs) (bucket e) v) where
      in_bucket_lem : (j : ℕ) → j < length xs → f j ≡ true → buckets bucket past xs j ≡ bucket e
      in_bucket_lem j hj q = alike.one_bucket e (get_or xs j past) (sym (told j hj) ∙ q)

      tells : {r : StdOption ℕ} → Walks (λ i. word_at l (links + 4 * i)) f v r → Told (length xs) f r
      tells w = walk_tells h.linked f (bucket e) in_bucket_lem w s.at (λ j hj q. s.all j hj (in_bucket_lem j hj q))

      twice : (i j : ℕ) → i < length xs → same e (get_or xs i past) ≡ true → same e (get_or xs j past) ≡ true → j < i → ⊥
      twice i j hi qi qj lt = false≢true (sym (h.distinct j i hi lt) ∙ alike.one-test e (get_or xs i past) (get_or xs j past) qi ∙ qj)

      once : (i j : ℕ) → i < length xs → j < length xs → same e (get_or xs i past) ≡ true → same e (get_or xs j past) ≡ true → j ≡ i
      once i j hi hj qi qj =
          tested (ltb j i) (λ t. absurd (twice i j hi qi qj (ltb-true j i t)))
          (λ t. let a : i ≤ j = ltb-false j i t in
          tested (ltb i j) (λ u. absurd (twice j i hj qj qi (ltb-true i j u))) (λ u. let b : j ≤ i = ltb-false i j u in omega arith))

      pub entry-there : (i : ℕ) → Walks (λ j. word_at l (links + 4 * j)) f v (Some i) → position (same e) xs ≡ some i
      entry-there i w =
          let t : (i < length xs) × (f i ≡ true) = tells w in
          let q : same e (get_or xs i past) ≡ true = sym (told i t.0) ∙ t.1 in
          position-only (same e) past xs i t.0 q (λ j hj p. once i j t.0 hj q p)

      pub entry_missing : Walks (λ j. word_at l (links + 4 * j)) f v None → position (same e) xs ≡ none
      entry_missing w =
          let t : (j : ℕ) → j < length xs → f j ≡ true → ⊥ = tells w in
          position_nowhere (same e) past xs (λ j hj p. t j hj (told j hj ∙ p))

  -- an entry more
  module _ (e : X) (l' : List ℕ) {v : ℕ} (s : Start (buckets bucket past xs) (length xs) (bucket e) v) (new : position (same e) xs ≡ none)
      (own : word_at l' (heads + 4 * bucket e) ≡ length xs) (others : (a : ℕ) → (a ≡ bucket e → ⊥) → word_at l' (heads + 4 * a) ≡ word_at l (heads + 4 * a))
      (last : word_at l' (links + 4 * length xs) ≡ v) (old : (i : ℕ) → i < length xs → word_at l' (links + 4 * i) ≡ word_at l (links + 4 * i)) where
    abbrev ys : List X
    ys = xs ++ (e ∷ [])

    before : (i : ℕ) → i < length xs → get_or ys i past ≡ get_or xs i past
    before i hi = get_or-append xs (e ∷ []) past i hi

    end : get_or ys (length xs) past ≡ e
    end =
        let z : length xs ≡ length xs + 0 = omega arith in
        ap (λ (i : ℕ). get_or ys i past) z ∙ get_or-append-add xs (e ∷ []) 0 past

    stays : (i : ℕ) → i < length xs → buckets bucket past ys i ≡ buckets bucket past xs i
    stays i hi = ap bucket (before i hi)

    count : length ys ≡ length xs + 1
    count = length-append xs (e ∷ [])

    pub links-grown : LinkedEntries bucket same past heads links (xs ++ (e ∷ [])) l'
    links-grown = record {
      linked = subst (λ (m : ℕ). Linked (λ a. word_at l' (heads + 4 * a)) (λ i. word_at l' (links + 4 * i)) (buckets bucket past ys) m) (sym count)
          (linked-more (linked-same h.linked (buckets bucket past ys) stays) (λ a. word_at l' (heads + 4 * a)) (λ i. word_at l' (links + 4 * i)) (bucket e) v
          (start_same (buckets bucket past ys) stays s) (ap bucket end) own others last old);
      distinct = λ i j hj. numbered_more past xs e (λ y j. (i : ℕ) → i < j → same y (get_or ys i past) ≡ false)
          (λ j hj i lt. ap (same (get_or xs j past)) (before i (omega arith)) ∙ h.distinct i j hj lt)
          (λ i lt. ap (same e) (before i lt) ∙ position-none (same e) past xs new i lt)
          j hj i;
    }

-- ---- where a walk begins, as the code reads it: the number i at the head, and p the bucket of entry i

module _ (read : ℕ → ℕ) (m b i head : ℕ) (e : i ≡ head) where
  head_test : (t : Bool) → (ltb i m && eqb (read i) b) ≡ t → head_for read m b head ≡ pick t (i + 1) 0
  unfolding head_for
  head_test t q = ap (λ (x : ℕ). pick (ltb x m && eqb (read x) b) (x + 1) 0) (sym e) ∙ ap (λ (u : Bool). pick u (i + 1) 0) q

  pub head_beyond : m ≤ i → 0 ≡ head_for read m b head
  unfolding pick
  head_beyond h = sym (head_test false (ap (λ (u : Bool). u && eqb (read i) b) (le-ltb i m h)))

  module _ (h : i < m) (p : ℕ) (ep : p ≡ read i) where
    pub head_other : (p ≡ b → ⊥) → 0 ≡ head_for read m b head
    unfolding pick
    head_other ne = sym (head_test false (ap₂ (λ (u v : Bool). u && v) (lt-ltb i m h) (ne_eqb (read i) b (λ q. ne (ep ∙ q)))))

    pub head_own : p ≡ b → i + 1 ≡ head_for read m b head
    unfolding pick
    head_own q = sym (head_test true (ap₂ (λ (u v : Bool). u && v) (lt-ltb i m h) (eq-eqb (read i) b (sym ep ∙ q))))

-- ---- floats: those that are the same are equal

same_mark : (a b : Bool) → beq a b ≡ true → a ≡ b
same_mark true true e = refl
same_mark true false e = absurd (let z : ◌≡◌ {A = ℕ} 0 1 = cc in omega arith)
same_mark false true e = absurd (let z : ◌≡◌ {A = ℕ} 0 1 = cc in omega arith)
same_mark false false e = refl

pub same-entry : (a b : FloatEntry) → same_float a b ≡ true → b ≡ a
unfolding same_float
same-entry a b e =
    ap₂ entry
    (sym (eqb-true a.bits b.bits (and_left (eqb a.bits b.bits) (beq a.short b.short) e)))
    (sym (same_mark a.short b.short (and_right (eqb a.bits b.bits) (beq a.short b.short) e)))

pub floats_alike : (n : ℕ) → Alike (float_entry_bucket n) same_float
floats_alike n = record {
  one_bucket = λ a b e. ap (float_entry_bucket n) (same-entry a b e);
  one-test = λ a b c e. ap (λ (x : FloatEntry). same_float x c) (same-entry a b e);
}

pub float_bucket_in : (n : ℕ) (x : FloatEntry) → 0 < n → float_entry_bucket n x < n
unfolding float_bucket
float_bucket_in n x most = mod-lt _ most

-- the bucket of float i, by its words as the code loads them
pub words_bucket : (l : List ℕ) (n i x y z p : ℕ) → x ≡ word_at l (204 * n + 16 * i) → y ≡ word_at l (204 * n + 16 * i + 4) → z ≡ word_at l (204 * n + 16 * i + 8)
    → (p ≡ float_bucket n x y z) × (p < n) → p ≡ float_bucket_at l n i
unfolding float_bucket_at
words_bucket l n i x y z p ex ey ez ep = ep.0 ∙ rw (ex, ey, ez) refl
