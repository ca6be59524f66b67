-- A record that breaks no rule keeps each rule; a record of good form has each word right.
-- A passed conjunction is taken apart from the right. Assumes nothing.
use mathlib.Core.Path.{◌≡◌}
use Prim.Native.Nat.{ℕ}
use mathlib.Core.Bool.{Bool, true, ◌&&◌}
use mathlib.Core.List.{List}
use lib.Dec.{eqb, ltb}
use lib.ListN.{length}
use Rattle.laws.proofs.Tests.{and_left, and_right}
use Rattle.records.specs.declared.shape.Row.{Row}
use Rattle.records.specs.Words.{detail_of, pad_of, word_of, A, B, C, D, E}
use Rattle.records.specs.Shapes.{row_at}
use Rattle.records.specs.Rules.{word_ok, words_ok, form_ok, otherwise_marked, body_marked, is_first_type, types_first, type_is_new, referred_once, record_ok}

-- each rule for record r
pub record KeepsRules (tree text : List ℕ) (r : ℕ) : Type 0 where
  pub form : form_ok tree (length text) r ≡ true
  pub otherwise : otherwise_marked tree r ≡ true
  pub body : body_marked tree r ≡ true
  pub first : is_first_type tree r ≡ true
  pub lead : types_first tree r ≡ true
  pub new : type_is_new tree text r ≡ true
  pub once : referred_once tree r ≡ true

-- each part of the form of record r
pub record Formed (tree : List ℕ) (bytes r : ℕ) : Type 0 where
  pub pad : eqb (pad_of tree r) 0 ≡ true
  pub detail : ltb (detail_of tree r) (row_at tree r).limit ≡ true
  pub words : words_ok tree bytes r (row_at tree r) ≡ true

-- each word of record r
pub record WordsGood (tree : List ℕ) (bytes r : ℕ) (row : Row) : Type 0 where
  pub a : word_ok tree bytes r row.a (word_of tree r A) (word_of tree r B) ≡ true
  pub b : word_ok tree bytes r row.b (word_of tree r B) (word_of tree r C) ≡ true
  pub c : word_ok tree bytes r row.c (word_of tree r C) (word_of tree r D) ≡ true
  pub d : word_ok tree bytes r row.d (word_of tree r D) (word_of tree r E) ≡ true
  pub e : word_ok tree bytes r row.e (word_of tree r E) 0 ≡ true

and3 : (a b c : Bool) → (a && b && c) ≡ true → (a ≡ true) × (b ≡ true) × (c ≡ true)
and3 a b c h =
    let l : (a && b) ≡ true = and_left (a && b) c h in (and_left a b l, and_right a b l, and_right (a && b) c h)

and5 : (a b c d e : Bool) → (a && b && c && d && e) ≡ true → (a ≡ true) × (b ≡ true) × (c ≡ true) × (d ≡ true) × (e ≡ true)
and5 a b c d e h =
    let t : ((a && b && c) ≡ true) × (d ≡ true) × (e ≡ true) = and3 (a && b && c) d e h in
    let s : (a ≡ true) × (b ≡ true) × (c ≡ true) = and3 a b c t.0 in
    (s.0, s.1, s.2, t.1, t.2)

module _ (tree text : List ℕ) (r : ℕ) where
  pub good_of : record_ok tree text r ≡ true → KeepsRules tree text r
  unfolding record_ok
  good_of h =
      let t : ((form_ok tree (length text) r && otherwise_marked tree r && body_marked tree r) ≡ true) × (is_first_type tree r ≡ true) × (types_first tree r ≡ true) × (type_is_new tree text r ≡ true) × (referred_once tree r ≡ true) = and5 (form_ok tree (length text) r && otherwise_marked tree r && body_marked tree r) (is_first_type tree r) (types_first tree r) (type_is_new tree text r) (referred_once tree r) h in
      let s : (form_ok tree (length text) r ≡ true) × (otherwise_marked tree r ≡ true) × (body_marked tree r ≡ true) = and3 (form_ok tree (length text) r) (otherwise_marked tree r) (body_marked tree r) t.0 in
      record { form = s.0; otherwise = s.1; body = s.2; first = t.1; lead = t.2; new = t.3; once = t.4 }

module _ (tree : List ℕ) (bytes r : ℕ) where
  pub formed_of : form_ok tree bytes r ≡ true → Formed tree bytes r
  unfolding form_ok
  formed_of h =
      let t : (eqb (pad_of tree r) 0 ≡ true) × (ltb (detail_of tree r) (row_at tree r).limit ≡ true) × (words_ok tree bytes r (row_at tree r) ≡ true) = and3 (eqb (pad_of tree r) 0) (ltb (detail_of tree r) (row_at tree r).limit) (words_ok tree bytes r (row_at tree r)) h in
      record { pad = t.0; detail = t.1; words = t.2 }

  pub words_of : (row : Row) → words_ok tree bytes r row ≡ true → WordsGood tree bytes r row
  unfolding words_ok
  words_of row h =
      let t : (word_ok tree bytes r row.a (word_of tree r A) (word_of tree r B) ≡ true) × (word_ok tree bytes r row.b (word_of tree r B) (word_of tree r C) ≡ true) × (word_ok tree bytes r row.c (word_of tree r C) (word_of tree r D) ≡ true) × (word_ok tree bytes r row.d (word_of tree r D) (word_of tree r E) ≡ true) × (word_ok tree bytes r row.e (word_of tree r E) 0 ≡ true) = and5 (word_ok tree bytes r row.a (word_of tree r A) (word_of tree r B)) (word_ok tree bytes r row.b (word_of tree r B) (word_of tree r C)) (word_ok tree bytes r row.c (word_of tree r C) (word_of tree r D)) (word_ok tree bytes r row.d (word_of tree r D) (word_of tree r E)) (word_ok tree bytes r row.e (word_of tree r E) 0) h in
      record { a = t.0; b = t.1; c = t.2; d = t.3; e = t.4 }
