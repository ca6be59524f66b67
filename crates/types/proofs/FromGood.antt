-- What a good tree gives the functions on types: an expression's record, a type's record.
-- A type's detail is below its row's limit, so that it is a known one: one test over the details, computed. Assumes nothing.
use mathlib.Core.Path.{◌≡◌, refl}
use mathlib.Core.Bool.{Bool, true, false, cond}
use mathlib.Core.List.{List}
use Prim.Native.Nat.{ℕ, ◌%◌, ◌<◌, ◌≤◌}
use native.Mathlib.Omega.{arith}
use lib.Dec.{T, eqb, leb, ltb}
use lib.Ieee.Bits.{is_true}
use borrow.Author.Tests.{lt-ltb, leb-true}
use Rattle.laws.specs.Fix.{pick}
use Rattle.records.specs.Words.{kind_of, detail_of, records}
use Rattle.records.specs.Shapes.{plain_type, type_shape, shape_of, row_of, row_at}
use Rattle.records.specs.Rules.{is_expr}
use Rattle.records.specs.Good.{Good}
use Rattle.records.proofs.GoodLaws.{inside, detail_below}
use Rattle.syntax.specs.Places.{IsExpr}
use Rattle.types.specs.Fits.{IsType}
use Rattle.types.proofs.Tables.{both, both_left, both_right, upto, passes}

-- a detail below its row's limit has one of the nine forms
test : ℕ → Bool
unfolding row_of type_shape plain_type pick
test d = cond (ltb d (row_of (type_shape d)).limit) (both (leb 1 (d % 16)) (leb (d % 16) 9)) true

limit-most : (d : ℕ) → (row_of (type_shape d)).limit ≤ 64
unfolding row_of type_shape pick
limit-most d = go (plain_type d) (eqb d 6) (eqb d 7) (eqb d 8)
  where
    go : (a b c e : Bool) → (row_of (pick a 1 (pick b 26 (pick c 27 (pick e 28 0))))).limit ≤ 64
    go true b c e = omega arith
    go false true c e = omega arith
    go false false true e = omega arith
    go false false false true = omega arith
    go false false false false = omega arith

all_known : T (upto 64 test)
unfolding test
all_known = tt

known : (d : ℕ) → d < (row_of (type_shape d)).limit → (1 ≤ d % 16) × (d % 16 ≤ 9)
unfolding test
known d h =
    let l : d < 64 = omega (arith, limit-most d) in
    let t : T (both (leb 1 (d % 16)) (leb (d % 16) 9)) = rw (lt-ltb d (row_of (type_shape d)).limit h) at (passes 64 test all_known d l) in (
      leb-true 1 (d % 16) (is_true (leb 1 (d % 16)) (both_left (leb 1 (d % 16)) (leb (d % 16) 9) t)),
      leb-true (d % 16) 9 (is_true (leb (d % 16) 9) (both_right (leb 1 (d % 16)) (leb (d % 16) 9) t)),
    )

module _ (tree text : List ℕ) (good : Good tree text) (r : ℕ) (h : r < records tree) where
  pub is_expr_lem : is_expr (kind_of tree r) ≡ true → IsExpr tree r
  is_expr_lem e = record { inside = inside tree text good r h; expression = e }

  pub is-type : kind_of tree r ≡ 1 → IsType tree r
  unfolding row_at shape_of pick
  is-type e =
      let k = known (detail_of tree r) (rw e at (detail_below tree text good r h (row_at tree r) refl)) in
      record { inside = inside tree text good r h; least = k.0; most = k.1 }
