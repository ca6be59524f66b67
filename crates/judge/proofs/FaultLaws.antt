-- The lowest record that breaks a rule, from three lowest ones: of equal types, of records that break another rule, and of those that are not referred to once.
-- Below the lowest fault every reference goes down, so the references from behind are all of them. Assumes nothing.
use mathlib.Core.Path.{◌≡◌, refl, sym, ap, ◌∙◌}
use Prim.Native.Nat.{ℕ, ◌+◌, ◌*◌, ◌/◌, ◌%◌, ◌≤◌, ◌<◌}
use mathlib.Core.Bool.{Bool, true, false, not, ◌&&◌, ◌||◌}
use mathlib.Core.List.{List}
use native.Mathlib.Numerals.{add-one}
use native.Mathlib.Omega.{arith}
use lib.Dec.{eqb, ltb}
use lib.ListN.{length, get_or}
use borrow.Author.Tests.{lt-ltb, eq-eqb, eqb-true, eqb-false, ltb-true, ltb-false, not-true, not-false}
use Rattle.laws.specs.Below.{all_below, any_below, sum_below}
use Rattle.laws.proofs.AllBelow.{all-at, any_at}
use Rattle.laws.proofs.FixLaws.{pick_yes, pick_no}
use Rattle.laws.proofs.Sums.{sum_same}
use Rattle.laws.proofs.Tests.{tested, and_left, and_right}
use Rattle.records.specs.Words.{byte_at, word_at, kind_of, detail_of, pad_of, word_of, most_records, A, B, C, D, E}
use Rattle.records.specs.Shapes.{row_at}
use Rattle.records.specs.Rules.{word_ok, words_ok, form_ok, otherwise_marked, body_marked, is_first_type, types_first, type_is_new, refers_from, references, referred_once, record_ok}
use Rattle.judge.specs.Inner.{Lowest, LowestSoFar, TypesLead, capped, later_refs, count_in, kind_in, KnownBelow, Counting, miscounted_in, ReferenceCounts, other_rules}
use Rattle.judge.proofs.CapLaws.{cap_one}
use Rattle.judge.proofs.BadgeLaws.{refers_down}

-- ---- a lowest number, with one more

pub lowest_start : (n : ℕ) (f : ℕ → Bool) → LowestSoFar n 0 f n
lowest_start n f =
    record { before = λ k h g. absurd (omega arith); found = λ h. absurd (omega arith); unfound = λ h. refl }

module _ (n : ℕ) (f : ℕ → Bool) (r found : ℕ) (l : LowestSoFar n r f found) where
  pub lowest-stays : found < r → LowestSoFar n (r + 1) f found
  lowest-stays h =
      record { before = λ k hk g. l.before k (omega arith) g; found = λ _. l.found h; unfound = λ b. absurd (omega arith) }

  module _ (ok : Bool) (told : not ok ≡ f r) where
    pub lowest-here : ok ≡ false → r ≤ found → LowestSoFar n (r + 1) f r
    lowest-here e h =
        record { before = λ k hk g. l.before k g (omega arith); found = λ _. sym told ∙ ap not e; unfound = λ b. absurd (omega arith) }

    pub lowest-passes : ok ≡ true → r < n → LowestSoFar n (r + 1) f found
    lowest-passes e few =
        record {
          before = λ k hk g.
              tested (eqb k r)
              (λ t. ap f (eqb-true k r t) ∙ sym told ∙ ap not e)
              (λ t. let d : k ≡ r → ⊥ = eqb-false k r t in l.before k (omega arith) g);
          found = λ b.
              tested (ltb found r)
              (λ t. l.found (ltb-true found r t))
              (λ t. let last : found ≡ n = l.unfound (ltb-false found r t) in absurd (omega arith));
          unfound = λ b. l.unfound (omega arith);
        }

pub lowest-all : (n : ℕ) (f : ℕ → Bool) (x : ℕ) → LowestSoFar n n f x → Lowest n f x
lowest-all n f x l =
    let inside : x ≤ n = tested (ltb x n) (λ t. let h : x < n = ltb-true x n t in omega arith) (λ t. let last : x ≡ n = l.unfound (ltb-false x n t) in omega arith) in
    record { within = inside; before = λ k h. l.before k (omega arith) h; found = l.found }

-- ---- references of good records go down

module _ (tree : List ℕ) (bytes i k : ℕ) (h : i ≤ k) (few : k < most_records) (good : other_rules tree bytes i ≡ true) where
  words-good : words_ok tree bytes i (row_at tree i) ≡ true
  unfolding other_rules form_ok
  words-good =
      let form = form_ok tree bytes i in
      let first = form && otherwise_marked tree i && body_marked tree i in
      and_right (eqb (pad_of tree i) 0 && ltb (detail_of tree i) (row_at tree i).limit) (words_ok tree bytes i (row_at tree i))
      (and_left form (otherwise_marked tree i)
      (and_left (form && otherwise_marked tree i) (body_marked tree i) (and_left first (is_first_type tree i) (and_left (first && is_first_type tree i) (types_first tree i) good))))

  pub goes_down : refers_from tree k i ≡ 0
  unfolding refers_from words_ok
  goes_down =
      let row = row_at tree i in
      let a = word_ok tree bytes i row.a (word_of tree i A) (word_of tree i B) in
      let b = word_ok tree bytes i row.b (word_of tree i B) (word_of tree i C) in
      let c = word_ok tree bytes i row.c (word_of tree i C) (word_of tree i D) in
      let d = word_ok tree bytes i row.d (word_of tree i D) (word_of tree i E) in
      let e = word_ok tree bytes i row.e (word_of tree i E) 0 in
      let toD = and_left (a && b && c && d) e words-good in
      let to_c = and_left (a && b && c) d toD in
      let toB = and_left (a && b) c to_c in
      rw (
        refers_down tree bytes i row.a (word_of tree i A) (word_of tree i B) k (and_left a b toB) h few,
        refers_down tree bytes i row.b (word_of tree i B) (word_of tree i C) k (and_right a b toB) h few,
        refers_down tree bytes i row.c (word_of tree i C) (word_of tree i D) k (and_right (a && b) c to_c) h few,
        refers_down tree bytes i row.d (word_of tree i D) (word_of tree i E) k (and_right (a && b && c) d toD) h few,
        refers_down tree bytes i row.e (word_of tree i E) 0 k (and_right (a && b && c && d) e words-good) h few,
      ) refl

module _ (tree : List ℕ) (bytes n fault : ℕ) (whole : n * 32 ≡ length tree) (few : n ≤ most_records) (low : Lowest n (λ k. not (other_rules tree bytes k)) fault) where
  good : (k : ℕ) → k < fault → other_rules tree bytes k ≡ true
  good k h = not-false _ (low.before k h)

  later : (k : ℕ) → k < fault → (i : ℕ) → later_refs tree k i ≡ refers_from tree k i
  unfolding later_refs
  later k h i =
      tested (ltb k i)
      (λ t. pick_yes (ltb k i) (refers_from tree k i) 0 t)
      (λ t.
      let up : i ≤ k = ltb-false k i t in
      pick_no (ltb k i) (refers_from tree k i) 0 t
      ∙ sym (goes_down tree bytes i k up (omega (arith, low.within)) (good i (omega arith))))

  -- below the fault the counts are those of all references
  pub counts-told : (l : List ℕ) → KnownBelow tree n l → Counting tree n l → ReferenceCounts tree fault l
  unfolding references
  counts-told l known c =
      let q : length tree / 32 ≡ n = omega arith in
      record {
        kinds = λ k h. known.kinds k (omega (arith, low.within));
        counts = λ k h other.
            c.counts k (omega (arith, low.within)) other ∙ ap (capped 2) (sum_same n _ _ (λ i hi. later k h i) ∙ ap (λ (x : ℕ). sum_below x (refers_from tree k)) (sym q));
      }

  module _ (text : List ℕ) (bytesIs : bytes ≡ length text) (types : ℕ) (lead : TypesLead tree n types) (once equal : ℕ)
      (lowOnce : Lowest fault (λ k. not (referred_once tree k)) once) (lowEqual : Lowest types (λ k. not (type_is_new tree text k)) equal) where
    all : (k : ℕ) → record_ok tree text k ≡ (other_rules tree bytes k && type_is_new tree text k && referred_once tree k)
    unfolding record_ok other_rules
    all k = rw bytesIs refl

    -- a good type stands among those that lead
    leading : (k : ℕ) → k < fault → kind_of tree k ≡ 1 → k < types
    unfolding other_rules types_first
    leading k h e =
        let first : (not (eqb (kind_of tree k) 1) || all_below k (λ j. eqb (kind_of tree j) 1)) ≡ true =
        and_right (form_ok tree bytes k && otherwise_marked tree k && body_marked tree k && is_first_type tree k) (types_first tree k) (good k h) in
        let below : all_below k (λ j. eqb (kind_of tree j) 1) ≡ true = rw (eq-eqb (kind_of tree k) 1 e) at first in
        tested (ltb k types)
        (λ t. ltb-true k types t)
        (λ t.
        let past : types ≤ k = ltb-false k types t in
        let other : kind_of tree types ≡ 1 → ⊥ = lead.other (omega (arith, low.within)) in
        absurd
        (tested (eqb types k)
        (λ s. other (ap (kind_of tree) (eqb-true types k s) ∙ e))
        (λ s.
        let apart : types ≡ k → ⊥ = eqb-false types k s in
        other (eqb-true _ 1 (all-at (λ j. eqb (kind_of tree j) 1) k types below (omega arith))))))

    fresh : (k : ℕ) → k < fault → (k < types → k < equal) → type_is_new tree text k ≡ true
    unfolding type_is_new
    fresh k h under =
        tested (eqb (kind_of tree k) 1)
        (λ t. not-false _ (lowEqual.before k (under (leading k h (eqb-true (kind_of tree k) 1 t)))))
        (λ t. rw t refl)

    passes : (k : ℕ) → k < once → (k < types → k < equal) → not (record_ok tree text k) ≡ false
    passes k h under =
        rw (all k, good k (omega (arith, lowOnce.within)), fresh k (omega (arith, lowOnce.within)) under, not-false (referred_once tree k) (lowOnce.before k h)) refl

    pub lowest-equal : equal < types → equal < once → Lowest n (λ k. not (record_ok tree text k)) equal
    lowest-equal h o =
        record {
          within = omega (arith, lead.within);
          before = λ k hk. passes k (omega arith) (λ _. hk);
          found = λ _. rw (all equal, not-true (type_is_new tree text equal) (lowEqual.found h)) (absorbs (other_rules tree bytes equal) (referred_once tree equal));
        }
      where
        absorbs : (a b : Bool) → not (a && false && b) ≡ true
        absorbs true b = refl
        absorbs false b = refl

    pub lowest-other : (equal < types → once ≤ equal) → Lowest n (λ k. not (record_ok tree text k)) once
    lowest-other o =
        record {
          within = omega (arith, lowOnce.within, low.within);
          before = λ k hk. passes k hk (λ t. under k hk t);
          found = λ h. broken h;
        }
      where
        under : (k : ℕ) → k < once → k < types → k < equal
        under k hk t =
            tested (ltb equal types)
            (λ s. omega (arith, o (ltb-true equal types s)))
            (λ s. omega (arith, ltb-false equal types s))

        last : (a b : Bool) → not (a && b && false) ≡ true
        last true true = refl
        last true false = refl
        last false b = refl

        broken : once < n → not (record_ok tree text once) ≡ true
        broken h =
            tested (ltb once fault)
            (λ s. rw (all once, not-true (referred_once tree once) (lowOnce.found (ltb-true once fault s))) (last (other_rules tree bytes once) (type_is_new tree text once)))
            (λ s.
            let e : once ≡ fault = omega (arith, ltb-false once fault s, lowOnce.within) in
            let bad : other_rules tree bytes once ≡ false = ap (other_rules tree bytes) e ∙ not-true (other_rules tree bytes fault) (low.found (omega arith)) in
            rw (all once, bad) refl)

-- one record's count, as the code tests it
pub once-told : (tree : List ℕ) (n r k : ℕ) (l : List ℕ) → ReferenceCounts tree n l → r < n → k ≡ kind_of tree r
    → (eqb k 1 || eqb k 25 || eqb (count_in l r) 1) ≡ referred_once tree r
unfolding referred_once
once-told tree n r k l c h e =
    tested (eqb (kind_of tree r) 1)
    (λ t. rw (e, t) refl)
    (λ t. rw (e, sym (cap_one (count_in l r)), c.counts r h (eqb-false (kind_of tree r) 1 t), cap_one (references tree r)) refl)

-- no record is miscounted by its bytes
pub none_miscounted : (tree : List ℕ) (n : ℕ) (l : List ℕ) → ReferenceCounts tree n l → any_below n (miscounted_in l) ≡ false → Lowest n (λ k. not (referred_once tree k)) n
unfolding miscounted_in
none_miscounted tree n l c e =
    record {
      within = omega arith;
      before = λ k h. sym (ap not (once-told tree n k (kind_in l k) l c h (c.kinds k h))) ∙ any_at (miscounted_in l) n k e h;
      found = λ h. absurd (omega arith);
    }

-- one record more, its bytes read as a word
pub miscounted_more : (l : List ℕ) (r slot : ℕ) (some : Bool) → ((i : ℕ) → get_or l i 0 < 256) → slot ≡ word_at l (r * 4 + 4) → some ≡ any_below r (miscounted_in l)
    → (some || not (eqb (slot / 16777216) 1 || eqb (slot / 16777216) 25 || eqb (slot / 256 % 256) 1)) ≡ any_below (r + 1) (miscounted_in l)
unfolding any_below miscounted_in word_at byte_at
miscounted_more l r slot some bytes e before =
    let one : r * 4 + 4 + 1 ≡ r * 4 + 5 = omega arith in
    let three : r * 4 + 4 + 3 ≡ r * 4 + 7 = omega arith in
    let w : slot ≡ get_or l (r * 4 + 4) 0 + get_or l (r * 4 + 5) 0 * 256 + get_or l (r * 4 + 4 + 2) 0 * 65536 + get_or l (r * 4 + 7) 0 * 16777216 = rw (one, three) at e in
    let k : slot / 16777216 ≡ kind_in l r = omega (arith, w, bytes (r * 4 + 4), bytes (r * 4 + 5), bytes (r * 4 + 4 + 2)) in
    let count : slot / 256 % 256 ≡ count_in l r = omega (arith, w, bytes (r * 4 + 4), bytes (r * 4 + 5)) in
    rw (add-one r, before, k, count) refl

-- two tests of one number, as the code makes them
module _ (a b c : ℕ) where
  pub both_below : (ltb a b && ltb a c) ≡ true → (a < b) × (a < c)
  both_below e = (ltb-true a b (and_left (ltb a b) (ltb a c) e), ltb-true a c (and_right (ltb a b) (ltb a c) e))

  pub not-both : (ltb a b && ltb a c) ≡ false → a < b → c ≤ a
  not-both e h = let s : ltb a c ≡ false = rw (lt-ltb a b h) at e in ltb-false a c s
