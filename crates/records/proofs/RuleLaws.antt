-- The kind of the record that a word refers to, as the code reads it.
-- Each picks its arm of `kind_below` by the test that was passed or left. Assumes nothing.
use mathlib.Core.Path.{◌≡◌, refl, sym}
use Prim.Native.Nat.{ℕ, ◌≤◌, ◌<◌}
use mathlib.Core.List.{List}
use borrow.Author.Tests.{lt-ltb, le-ltb}
use Rattle.laws.specs.Fix.{pick}
use Rattle.records.specs.Words.{kind_of}
use Rattle.records.specs.Rules.{kind_below}

module _ (tree : List ℕ) (r w i : ℕ) (e : i ≡ w) where
  pub kind-lower : (k : ℕ) → k ≡ kind_of tree i → i < r → k ≡ kind_below tree r w
  unfolding kind_below pick
  kind-lower k q h = rw (sym e, lt-ltb i r h) q

  pub kind-none : r ≤ i → 0 ≡ kind_below tree r w
  unfolding kind_below pick
  kind-none h = rw (sym e, le-ltb i r h) refl
