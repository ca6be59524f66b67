-- Laws of counts that stop at 2: one word's count, counts one after the other, and the counts of all records that were passed.
-- Each count by itself: a count that stops may be taken in parts. The other bytes stay, since the four of a record are told apart. Assumes nothing.
use mathlib.Core.Path.{◌≡◌, refl, sym, ap, ◌∙◌}
use Prim.Native.Nat.{ℕ, zero, suc, ◌+◌, ◌*◌, ◌≤◌, ◌<◌}
use mathlib.Core.Bool.{true, false}
use mathlib.Core.List.{List}
use native.Mathlib.Omega.{arith}
use lib.Dec.{eqb, ltb}
use lib.ListN.{length, get_or, set, length-set}
use lib.Seq.{get_or-set_same, get_or-set_other}
use borrow.Author.Tests.{lt-ltb, le-ltb, eq-eqb, ne_eqb, eqb-true, eqb-false}
use Rattle.laws.specs.Fix.{pick, fix}
use Rattle.laws.specs.Below.{sum_below}
use Rattle.laws.proofs.BelowLaws.{sum_below-more}
use Rattle.laws.proofs.FixLaws.{pick_yes, pick_no}
use Rattle.laws.proofs.Tests.{tested}
use Rattle.records.specs.declared.shape.Role.{Role}
use Rattle.records.specs.declared.shape.Row.{Row}
use Rattle.records.specs.Words.{kind_of, detail_of, word_of, A, B, C, D, E}
use Rattle.records.specs.Shapes.{refers, shape_of, row_of, row_at}
use Rattle.records.specs.Rules.{list_step, refers_to, refers_from}
use Rattle.judge.specs.Inner.{capped, class_in, depth_in, count_in, kind_in, list_number, shallow_depth, stored, later_refs, KnownBelow, Counting, Counted}
use Rattle.judge.proofs.CapLaws.{cap_high, cap_cap}

-- a count that nothing is added to
pub cap_plus : (x z : ℕ) → z ≡ 0 → capped 2 x ≡ capped 2 (x + z)
cap_plus x z e = let s : x ≡ x + z = omega arith in ap (capped 2) s

pub refers-not : (role : Role) (w k : ℕ) → refers role ≡ false → refers_to role w k ≡ 0
unfolding refers_to pick
refers-not role w k e = rw e refl

pub refers-other : (role : Role) (w k : ℕ) → (w ≡ k → ⊥) → refers_to role w k ≡ 0
unfolding refers_to pick
refers-other role w k h = tested (refers role) (λ t. rw (t, ne_eqb w k h) refl) (λ t. rw t refl)

pub refers-same : (role : Role) (w : ℕ) → refers role ≡ true → refers_to role w w ≡ 1
unfolding refers_to pick
refers-same role w e = rw (e, eq-eqb w w refl) refl

-- nothing is counted
pub counted_none : (tree : List ℕ) (r : ℕ) (more : ℕ → ℕ) (l : List ℕ) → ((k : ℕ) → k < r → more k ≡ 0) → Counted tree r more l l
counted_none tree r more l z =
    record {
      same = refl;
      grown = λ k hk h. cap_plus (count_in l k) (more k) (z k hk);
      classes = λ k. refl;
      depths = λ k. refl;
      kinds = λ k. refl;
    }

-- one word that refers to record i
module _ (tree : List ℕ) (role : Role) (w r i : ℕ) (l : List ℕ) (same : i ≡ w) where
  pub word_out : r ≤ i → Counted tree r (refers_to role w) l l
  word_out h = counted_none tree r (refers_to role w) l (λ k hk. refers-other role w k (λ e. omega arith))

  module _ (yes : refers role ≡ true) where
    pub word_full : 2 ≤ count_in l i → Counted tree r (refers_to role w) l l
    word_full c =
        record {
          same = refl;
          grown = λ k hk h.
              tested (eqb w k)
              (λ t.
              let q : i ≡ k = same ∙ eqb-true w k t in
              let f : 2 ≤ count_in l k = rw q at c in
              cap_high 2 (count_in l k) f ∙ sym (cap_high 2 (count_in l k + refers_to role w k) (omega arith)))
              (λ t. cap_plus (count_in l k) (refers_to role w k) (refers-other role w k (eqb-false w k t)));
          classes = λ k. refl;
          depths = λ k. refl;
          kinds = λ k. refl;
        }

    pub word_more : i * 4 + 5 < length l → count_in l i < 2 → Counted tree r (refers_to role w) l (set l (i * 4 + 5) (count_in l i + 1))
    word_more hl c =
        let at = i * 4 + 5 in
        let v = count_in l i + 1 in
        record {
          same = length-set l at v;
          grown = λ k hk h.
              tested (eqb w k)
              (λ t.
              let q : k ≡ i = sym (same ∙ eqb-true w k t) in
              let once : refers_to role w i ≡ 1 = rw same (refers-same role w yes) in
              rw q
              (ap (capped 2) (get_or-set_same l at v 0 hl)
              ∙ sym (ap (λ (x : ℕ). capped 2 (count_in l i + x)) once)))
              (λ t.
              let n : w ≡ k → ⊥ = eqb-false w k t in
              ap (capped 2) (get_or-set_other l at (k * 4 + 5) v 0 (λ e. n (omega arith)))
              ∙ cap_plus (count_in l k) (refers_to role w k) (refers-other role w k n));
          classes = λ k. get_or-set_other l at (k * 4 + 6) v 0 (λ e. omega arith);
          depths = λ k. get_or-set_other l at (k * 4 + 4) v 0 (λ e. omega arith);
          kinds = λ k. get_or-set_other l at (k * 4 + 7) v 0 (λ e. omega arith);
        }

-- what is counted first, and then more
counted-more : (tree : List ℕ) (r : ℕ) (f g : ℕ → ℕ) (l m p : List ℕ) → Counted tree r f l m → Counted tree r g m p → Counted tree r (λ k. f k + g k) l p
counted-more tree r f g l m p a b =
    record {
      same = b.same ∙ a.same;
      grown = λ k hk h.
          let e : capped 2 (count_in m k) ≡ capped 2 (count_in l k + f k) = a.grown k hk h in
          b.grown k hk h
          ∙ sym (cap_cap 2 (count_in m k) (g k))
          ∙ ap (λ (x : ℕ). capped 2 (x + g k)) e
          ∙ cap_cap 2 (count_in l k + f k) (g k)
          ∙ ap (capped 2) (omega arith);
      classes = λ k. b.classes k ∙ a.classes k;
      depths = λ k. b.depths k ∙ a.depths k;
      kinds = λ k. b.kinds k ∙ a.kinds k;
    }

counted_as : (tree : List ℕ) (r : ℕ) (f g : ℕ → ℕ) (l m : List ℕ) → ((k : ℕ) → f k ≡ g k) → Counted tree r f l m → Counted tree r g l m
counted_as tree r f g l m e a =
    record {
      same = a.same;
      grown = λ k hk h. a.grown k hk h ∙ ap (λ (x : ℕ). capped 2 (count_in l k + x)) (e k);
      classes = a.classes;
      depths = a.depths;
      kinds = a.kinds;
    }

-- before any record is taken
pub known-none : (tree l : List ℕ) → KnownBelow tree 0 l
known-none tree l =
    record {
      lists = λ role k h. absurd (omega arith);
      small = λ k h. absurd (omega arith);
      cells = λ k h. absurd (omega arith);
      depths = λ k h. absurd (omega arith);
      kinds = λ k h. absurd (omega arith);
    }

pub counting-none : (tree l : List ℕ) → Counting tree 0 l
counting-none tree l = record { counts = λ k h. absurd (omega arith) }

-- counting changes nothing that is known
pub known-counted : (tree : List ℕ) (r : ℕ) (more : ℕ → ℕ) (l l' : List ℕ) → KnownBelow tree r l → Counted tree r more l l' → KnownBelow tree r l'
known-counted tree r more l l' k c =
    record {
      lists = λ role i h. k.lists role i h ∙ ap (λ (x : ℕ). eqb x (list_number role)) (sym (c.classes i));
      small = λ i h. rw (c.classes i) (k.small i h);
      cells = λ i h n. c.classes i ∙ k.cells i h n;
      depths = λ i h. c.depths i ∙ k.depths i h;
      kinds = λ i h. c.kinds i ∙ k.kinds i h;
    }

-- the row of a record, as the code looks it up
pub row_told : (tree : List ℕ) (r kind detail shape : ℕ) (row : Row)
    → kind ≡ kind_of tree r → detail ≡ detail_of tree r → shape ≡ shape_of kind detail → row ≡ row_of shape → row ≡ row_at tree r
unfolding row_at
row_told tree r kind detail shape row k d s e =
    e ∙ ap row_of (s ∙ ap (λ (x : ℕ). shape_of x detail) k ∙ ap (λ (x : ℕ). shape_of (kind_of tree r) x) d)

from-words : (tree : List ℕ) (r k : ℕ) (row : Row) (va vb vc vd ve : ℕ)
    → row ≡ row_at tree r
    → va ≡ word_of tree r A → vb ≡ word_of tree r B → vc ≡ word_of tree r C → vd ≡ word_of tree r D → ve ≡ word_of tree r E
    → refers_to row.a va k + refers_to row.b vb k + refers_to row.c vc k + refers_to row.d vd k + refers_to row.e ve k ≡ refers_from tree k r
unfolding refers_from
from-words tree r k row va vb vc vd ve w wa wb wc wd we = rw (wa, wb, wc, wd, we, w) refl

-- the five words of record r
pub counted_words : (tree : List ℕ) (r : ℕ) (row : Row) (va vb vc vd ve : ℕ) (l la lb lc ld le : List ℕ)
    → row ≡ row_at tree r
    → va ≡ word_of tree r A → vb ≡ word_of tree r B → vc ≡ word_of tree r C → vd ≡ word_of tree r D → ve ≡ word_of tree r E
    → Counted tree r (refers_to row.a va) l la
    → Counted tree r (refers_to row.b vb) la lb
    → Counted tree r (refers_to row.c vc) lb lc
    → Counted tree r (refers_to row.d vd) lc ld
    → Counted tree r (refers_to row.e ve) ld le
    → Counted tree r (λ k. refers_from tree k r) l le
counted_words tree r row va vb vc vd ve l la lb lc ld le w wa wb wc wd we a b c d e =
    counted_as tree r _ (λ k. refers_from tree k r) l le (λ k. from-words tree r k row va vb vc vd ve w wa wb wc wd we)
    (counted-more tree r _ _ l ld le (counted-more tree r _ _ l lc ld (counted-more tree r _ _ l lb lc (counted-more tree r _ _ l la lb a b) c) d) e)

-- no record up to k is behind k
none_later : (tree : List ℕ) (n k : ℕ) → n ≤ k + 1 → sum_below n (later_refs tree k) ≡ 0
unfolding sum_below later_refs
none_later tree zero k h = refl
none_later tree (suc n) k h =
    rw (none_later tree n k (omega arith), pick_no (ltb k n) (refers_from tree k n) 0 (le-ltb k n (omega arith))) refl

-- ---- the bytes of record r are written

module _ (l : List ℕ) (r class depth kind : ℕ) (room : r * 4 + 8 ≤ length l) where
  abbrev l₁ : List ℕ
  l₁ = set l (r * 4 + 4) depth

  abbrev l₂ : List ℕ
  l₂ = set l₁ (r * 4 + 5) 0

  abbrev l₃ : List ℕ
  l₃ = set l₂ (r * 4 + 6) class

  abbrev after : List ℕ
  after = stored l r class depth kind

  pub stored-length : length after ≡ length l
  stored-length = simp length-set

  one : length l₁ ≡ length l
  one = simp length-set

  two : length l₂ ≡ length l
  two = simp length-set

  three : length l₃ ≡ length l
  three = simp length-set

  -- what the last two stores leave
  kept : (x : ℕ) → (x ≡ r * 4 + 7 → ⊥) → (x ≡ r * 4 + 6 → ⊥) → get_or after x 0 ≡ get_or l₂ x 0
  kept x a b = get_or-set_other l₃ (r * 4 + 7) x kind 0 a ∙ get_or-set_other l₂ (r * 4 + 6) x class 0 b

  stored-below : (x : ℕ) → x < r * 4 + 4 → get_or after x 0 ≡ get_or l x 0
  stored-below x h =
      kept x (λ e. omega arith) (λ e. omega arith)
      ∙ get_or-set_other l₁ (r * 4 + 5) x 0 0 (λ e. omega arith)
      ∙ get_or-set_other l (r * 4 + 4) x depth 0 (λ e. omega arith)

  stored_class : class_in after r ≡ class
  stored_class =
      get_or-set_other l₃ (r * 4 + 7) (r * 4 + 6) kind 0 (λ e. omega arith) ∙ get_or-set_same l₂ (r * 4 + 6) class 0 (omega (arith, two))

  stored-depth : depth_in after r ≡ depth
  stored-depth =
      kept (r * 4 + 4) (λ e. omega arith) (λ e. omega arith)
      ∙ get_or-set_other l₁ (r * 4 + 5) (r * 4 + 4) 0 0 (λ e. omega arith)
      ∙ get_or-set_same l (r * 4 + 4) depth 0 (omega arith)

  stored-count : count_in after r ≡ 0
  stored-count =
      kept (r * 4 + 5) (λ e. omega arith) (λ e. omega arith) ∙ get_or-set_same l₁ (r * 4 + 5) 0 0 (omega (arith, one))

  stored-kind : kind_in after r ≡ kind
  stored-kind = get_or-set_same l₃ (r * 4 + 7) kind 0 (omega (arith, three))

  -- of each record below r + 1, where it holds of those below r and of r
  grow : (P : ℕ → Type 0) → ((k : ℕ) → k < r → P k) → P r → (k : ℕ) → k < r + 1 → P k
  grow P below here k h = tested (eqb k r) (λ t. let e : r ≡ k = sym (eqb-true k r t) in rw e at here) (λ t. let n : k ≡ r → ⊥ = eqb-false k r t in below k (omega arith))

  pub known-stored : (tree : List ℕ) → KnownBelow tree r l
      → ((role : _) → fix false (list_step tree role) r ≡ eqb class (list_number role))
      → class ≤ 3 → ((kind_of tree r ≡ 12 → ⊥) → class ≡ 0) → depth ≡ shallow_depth tree r → kind ≡ kind_of tree r
      → KnownBelow tree (r + 1) after
  known-stored tree k lists small cells deep is =
      record {
        lists = λ role. grow (λ i. fix false (list_step tree role) i ≡ eqb (class_in after i) (list_number role)) (λ i h. k.lists role i h ∙ ap (λ (x : ℕ). eqb x (list_number role)) (sym (stored-below (i * 4 + 6) (omega arith)))) (lists role ∙ ap (λ (x : ℕ). eqb x (list_number role)) (sym stored_class));
        small = grow (λ i. class_in after i ≤ 3) (λ i h. rw (stored-below (i * 4 + 6) (omega arith)) (k.small i h)) (rw stored_class small);
        cells = grow (λ i. (kind_of tree i ≡ 12 → ⊥) → class_in after i ≡ 0) (λ i h n. stored-below (i * 4 + 6) (omega arith) ∙ k.cells i h n) (λ n. stored_class ∙ cells n);
        depths = grow (λ i. depth_in after i ≡ shallow_depth tree i) (λ i h. stored-below (i * 4 + 4) (omega arith) ∙ k.depths i h) (stored-depth ∙ deep);
        kinds = grow (λ i. kind_in after i ≡ kind_of tree i) (λ i h. stored-below (i * 4 + 7) (omega arith) ∙ k.kinds i h) (stored-kind ∙ is);
      }

  -- the references of record r were counted before
  pub counting-stored : (tree l₀ : List ℕ) → Counting tree r l₀ → Counted tree r (λ k. refers_from tree k r) l₀ l → Counting tree (r + 1) after
  unfolding later_refs
  counting-stored tree l₀ before now =
      record {
        counts = grow (λ i. (kind_of tree i ≡ 1 → ⊥) → capped 2 (count_in after i) ≡ capped 2 (sum_below (r + 1) (later_refs tree i)))
            (λ i h n.
            ap (capped 2) (stored-below (i * 4 + 5) (omega arith))
            ∙ now.grown i h n
            ∙ sym (cap_cap 2 (count_in l₀ i) (refers_from tree i r))
            ∙ ap (λ (x : ℕ). capped 2 (x + refers_from tree i r)) (before.counts i h n)
            ∙ cap_cap 2 (sum_below r (later_refs tree i)) (refers_from tree i r)
            ∙ ap (λ (x : ℕ). capped 2 (sum_below r (later_refs tree i) + x)) (sym (pick_yes (ltb i r) (refers_from tree i r) 0 (lt-ltb i r h)))
            ∙ sym (ap (capped 2) (sum_below-more r (later_refs tree i))))
            (λ n. ap (capped 2) (stored-count ∙ sym (none_later tree (r + 1) r (omega arith))));
      }
