-- One of the twelve types that every tree begins with, taken by itself: it is right, as deep as what it refers to says, and refers to types alone, whose counts do not matter.
-- By the tables its row is that of the types without words of their own, or that of addresses; the rest is what holds of every record taken. Assumes nothing.
use mathlib.Core.Path.{◌≡◌, refl, sym, ap, ◌∙◌}
use Prim.Native.Nat.{ℕ, ◌+◌, ◌*◌, ◌≤◌, ◌<◌}
use mathlib.Core.Bool.{Bool, true, false, not, ◌&&◌, ◌||◌, false≢true}
use mathlib.Core.List.{List}
use native.Mathlib.Omega.{arith}
use lib.Dec.{eqb, leb, ltb}
use lib.ListN.{length, get_or}
use borrow.Author.Tests.{eq-eqb, eqb-true, le-leb, leb-true, lt-ltb, ltb-true, not-false}
use Rattle.laws.specs.Fix.{pick}
use Rattle.laws.specs.Below.{all_below}
use Rattle.laws.proofs.AllBelow.{all-at}
use Rattle.laws.proofs.FixLaws.{pick_yes, pick_no}
use Rattle.laws.proofs.Tests.{tested, and_left, and_right}
use Rattle.records.specs.declared.shape.Role.TheVariants.{Unused, Text, Length, TypeRef}
use Rattle.records.specs.declared.shape.Row.{Row}
use Rattle.records.specs.Words.{kind_of, detail_of, pad_of, word_of, A}
use Rattle.records.specs.Shapes.{plain_type, type_shape, shape_of, row_of, row_at}
use Rattle.records.specs.Rules.{kind_below, word_ok, words_ok, twelve_details, twelve_inner, is_first_type, refers_to}
use Rattle.records.proofs.TypeLaws.{first_twelve}
use Rattle.judge.specs.declared.pass.Words.{Words}
use Rattle.judge.specs.Inner.{TypesLead, capped, shallow_depth, depth_in, count_in, stored, class_at, KnownBelow, Counting, Took, WordsOf, TookRecord}
use Rattle.judge.specs.Plain.{TookPlain}
use Rattle.judge.proofs.CapLaws.{cap_small, larger-none}
use Rattle.judge.proofs.CountLaws.{cap_plus, refers-other}
use Rattle.judge.proofs.DepthLaws.{below-told}
use Rattle.judge.proofs.TakeLaws.{took_plain, unused_took, took-words, rules-told, bytes-told}

-- ---- the tables

-- the first type r has an allowed detail; and no word A, or it is an address of a lower record
first_fits : ℕ → Bool
first_fits r =
    ltb (get_or twelve_details r 0) 64
    && pick (eqb (get_or twelve_inner r 0) 0) (eqb (type_shape (get_or twelve_details r 0)) 1) (eqb (type_shape (get_or twelve_details r 0)) 26 && ltb (get_or twelve_inner r 0) r)

table : all_below 12 first_fits ≡ true
unfolding all_below first_fits pick type_shape plain_type
table = refl

-- a row whose B and C are unused, and whose D and E are the key's text
record FirstRow (row : Row) : Type 0 where
  limit : row.limit ≡ 64
  b : row.b ≡ Unused
  c : row.c ≡ Unused
  d : row.d ≡ Text
  e : row.e ≡ Length

module _ (tree : List ℕ) (r : ℕ) (early : r < 12) (first : is_first_type tree r ≡ true) where
  parts : (kind_of tree r ≡ 1) × (detail_of tree r ≡ get_or twelve_details r 0) × (word_of tree r A ≡ get_or twelve_inner r 0)
  parts =
      let k : Bool = eqb (kind_of tree r) 1 in
      let d : Bool = eqb (detail_of tree r) (get_or twelve_details r 0) in
      let a : Bool = eqb (word_of tree r A) (get_or twelve_inner r 0) in
      let all : (k && d && a) ≡ true = first_twelve tree r early ∙ first in
      let two : (k && d) ≡ true = and_left (k && d) a all in
      (eqb-true _ _ (and_left k d two), eqb-true _ _ (and_right k d two), eqb-true _ _ (and_right (k && d) a all))

  small : detail_of tree r < 64
  unfolding first_fits
  small = rw parts.1 (ltb-true _ _ (and_left (ltb (get_or twelve_details r 0) 64) _ (all-at first_fits 12 r table early)))

  shape_fits : pick (eqb (word_of tree r A) 0) (eqb (type_shape (detail_of tree r)) 1) (eqb (type_shape (detail_of tree r)) 26 && ltb (word_of tree r A) r) ≡ true
  unfolding first_fits
  shape_fits = rw (parts.1, parts.2) (and_right (ltb (get_or twelve_details r 0) 64) _ (all-at first_fits 12 r table early))

  row_is_lem : (shape : ℕ) → eqb (type_shape (detail_of tree r)) shape ≡ true → row_of shape ≡ row_at tree r
  unfolding row_at shape_of pick
  row_is_lem shape e = ap row_of (sym (ap (λ (x : ℕ). shape_of x (detail_of tree r)) parts.0 ∙ eqb-true (type_shape (detail_of tree r)) shape e))

  plain_first : eqb (word_of tree r A) 0 ≡ true → row_of 1 ≡ row_at tree r
  unfolding pick
  plain_first t = row_is_lem 1 (rw t at shape_fits)

  address_first : eqb (word_of tree r A) 0 ≡ false → (row_of 26 ≡ row_at tree r) × (word_of tree r A < r)
  unfolding pick
  address_first t =
      let both : (eqb (type_shape (detail_of tree r)) 26 && ltb (word_of tree r A) r) ≡ true = rw t at shape_fits in
      (row_is_lem 26 (and_left _ _ both), ltb-true _ _ (and_right (eqb (type_shape (detail_of tree r)) 26) _ both))

-- ---- what the code tests

pub record FirstRight (tree : List ℕ) (bytes r types : ℕ) (words : Words) : Type 0 where
  pub first : is_first_type tree r ≡ true
  pub zero_b : words.b ≡ 0
  pub zero_c : words.c ≡ 0
  pub pad : pad_of tree r ≡ 0
  pub text : words.d + words.e ≤ bytes
  pub inside : r < types

pub first-right : (tree : List ℕ) (bytes r types : ℕ) (words : Words) (b c p q d e : ℕ) (first : Bool)
    → b ≡ words.b → c ≡ words.c → p ≡ pad_of tree r → q ≡ p → d ≡ words.d → e ≡ words.e → first ≡ is_first_type tree r
    → not (eqb (b + c + q) 0 && leb (d + e) bytes && first && ltb r types) ≡ false → FirstRight tree bytes r types words
first-right tree bytes r types words b c p q d e first bIs cIs pIs qIs dIs eIs firstIs ok =
    let zero = eqb (b + c + q) 0 in
    let text = leb (d + e) bytes in
    let four : (zero && text && first && ltb r types) ≡ true = not-false _ ok in
    let three : (zero && text && first) ≡ true = and_left (zero && text && first) (ltb r types) four in
    let two : (zero && text) ≡ true = and_left (zero && text) first three in
    let none : b + c + q ≡ 0 = eqb-true _ _ (and_left zero text two) in
    let fits : d + e ≤ bytes = leb-true _ _ (and_right zero text two) in
    record {
      first = sym firstIs ∙ and_right (zero && text) first three;
      zero_b = omega arith;
      zero_c = omega arith;
      pad = omega arith;
      text = omega arith;
      inside = ltb-true r types (and_right (zero && text && first) (ltb r types) four);
    }

-- ---- the type that it refers to

module _ (tree : List ℕ) (r : ℕ) (early : r < 12) (first : is_first_type tree r ≡ true) (a : ℕ) (aIs : a ≡ word_of tree r A) where
  pub inner-low : a ≤ r
  inner-low =
      tested (eqb (word_of tree r A) 0)
      (λ t. omega (arith, eqb-true (word_of tree r A) 0 t))
      (λ t. omega (arith, (address_first tree r early first t).1))

  pub inner-shallow : (l : List ℕ) (below : ℕ) → KnownBelow tree r l → below ≡ pick (eqb a 0) 0 (depth_in l a) → below ≤ 65
  inner-shallow l below known e =
      tested (eqb (word_of tree r A) 0)
      (λ t. let z : below ≡ 0 = e ∙ pick_yes (eqb a 0) 0 (depth_in l a) (rw aIs t) in omega arith)
      (λ t.
      let lower : word_of tree r A < r = (address_first tree r early first t).1 in
      let q : below ≡ shallow_depth tree a = e ∙ pick_no (eqb a 0) 0 (depth_in l a) (rw aIs t) ∙ known.depths a (omega arith) in
      rw q (cap_small 65 _))

-- a word that refers to a lower type: nothing needs to be counted
type-took : (tree : List ℕ) (bytes r w next : ℕ) (l : List ℕ) → w < r → kind_of tree w ≡ 1 → KnownBelow tree r l → Took tree bytes r TypeRef w next l l true (depth_in l w)
unfolding word_ok kind_below
type-took tree bytes r w next l h e known =
    record {
      right = rw (pick_yes (ltb w r) (kind_of tree w) 0 (lt-ltb w r h), e) refl;
      depth = known.depths w h ∙ below-told (shallow_depth tree) r TypeRef w w refl refl h;
      counted = record {
        same = refl;
        grown = λ k hk other. cap_plus (count_in l k) (refers_to TypeRef w k) (refers-other TypeRef w k (λ q. other (ap (kind_of tree) (sym q) ∙ e)));
        classes = λ k. refl;
        depths = λ k. refl;
        kinds = λ k. refl;
      };
    }

-- ---- taken

module _ (tree : List ℕ) (n types r bytes : ℕ) (words : Words) (l : List ℕ) (early : r < 12) (h : r < n) (lead : TypesLead tree n types) (of : WordsOf tree r words)
    (right : FirstRight tree bytes r types words) (known : KnownBelow tree r l) (counting : Counting tree r l) (room : r * 4 + 8 ≤ length l) where
  row-took : (row : Row) → row ≡ row_at tree r → FirstRow row → (a : Bool) → a ≡ true → (below d : ℕ) → Took tree bytes r row.a words.a words.b l l a below
      → d ≡ pick (eqb 1 12) below (capped 65 (below + 1)) → (m : List ℕ) → m ≡ stored l r 0 d 1 → TookRecord tree bytes r l m true d
  unfolding word_ok class_at pick
  row-took row row_is f a aIs below d ta dIs m mIs =
      let td : Took tree bytes r row.d words.d words.e l l (leb (words.d + words.e) bytes) 0 = rw f.d (took_plain tree bytes r Text words.d words.e l refl _ refl) in
      let te : Took tree bytes r row.e words.e 0 l l true 0 = rw f.e (took_plain tree bytes r Length words.e 0 l refl true refl) in
      let t =
      took-words tree bytes r row words row_is of l l l a (eqb words.b 0) below 0 ta (unused_took tree bytes r row.b words.b words.c l f.b)
      l l l (eqb words.c 0) (leb (words.d + words.e) bytes) true 0 0 0 (unused_took tree bytes r row.c words.c words.d l f.c) td te
      0 0 0 below (sym (larger-none 0)) (sym (larger-none 0)) (sym (larger-none 0)) (sym (larger-none below)) in
      let kindIs : 1 ≡ kind_of tree r = sym (parts tree r early right.first).0 in
      let ok : true ≡ words_ok tree bytes r (row_at tree r) = rw (aIs, eq-eqb words.b 0 right.zero_b, eq-eqb words.c 0 right.zero_c, le-leb (words.d + words.e) bytes right.text) at t.right in
      let q : true ≡ ((eqb (pad_of tree r) 0 && ltb (detail_of tree r) row.limit && true) && true && true && (not (eqb 1 1) || ltb r types)) =
      rw (eq-eqb (pad_of tree r) 0 right.pad, f.limit, lt-ltb (detail_of tree r) 64 (small tree r early right.first), lt-ltb r types right.inside) refl in
      bytes-told tree n types r lead h bytes 1 (detail_of tree r) (pad_of tree r) row words kindIs refl row_is of refl
      l l m _ below 0 d known counting t refl dIs room mIs true
      (q ∙ rules-told tree n types r lead h bytes 1 (detail_of tree r) (pad_of tree r) row words kindIs refl row_is of refl true true true ok refl (sym right.first))

  record_took : (below d : ℕ) → below ≡ pick (eqb words.a 0) 0 (depth_in l words.a) → d ≡ pick (eqb 1 12) below (capped 65 (below + 1)) → (m : List ℕ) → m ≡ stored l r 0 d 1
      → TookRecord tree bytes r l m true d
  unfolding row_of
  record_took below d belowIs dIs m mIs =
      tested (eqb (word_of tree r A) 0)
      (λ t.
      let e : eqb words.a 0 ≡ true = rw of.a t in
      let z : below ≡ 0 = belowIs ∙ pick_yes (eqb words.a 0) 0 (depth_in l words.a) e in
      row-took (row_of 1) (plain_first tree r early right.first t) (record { limit = refl; b = refl; c = refl; d = refl; e = refl })
      (eqb words.a 0) e below d (rw z (unused_took tree bytes r Unused words.a words.b l refl)) dIs m mIs)
      (λ t.
      let e : eqb words.a 0 ≡ false = rw of.a t in
      let z : below ≡ depth_in l words.a = belowIs ∙ pick_no (eqb words.a 0) 0 (depth_in l words.a) e in
      let a = address_first tree r early right.first t in
      let lower : words.a < r = rw of.a a.1 in
      row-took (row_of 26) a.0 (record { limit = refl; b = refl; c = refl; d = refl; e = refl })
      true refl below d (rw z (type-took tree bytes r words.a words.b l lower (lead.types words.a (omega (arith, right.inside))) known)) dIs m mIs)

  -- as the code meets it
  pub first-took : (below d : ℕ) → below ≡ pick (eqb words.a 0) 0 (depth_in l words.a) → d ≡ pick (eqb 1 12) below (capped 65 (below + 1)) → (m : List ℕ) → m ≡ stored l r 0 d 1
      → TookPlain tree bytes r l m true d
  first-took below d belowIs dIs m mIs =
      let t = record_took below d belowIs dIs m mIs in
      record { took = λ e others count led within. t; left = λ e. absurd (false≢true (sym e)); same = t.same }
