-- Forgetting: the bytes from 64n to 72n are 0, the others are as they were; so no turn and no visit is left.
-- By the laws of a part that is written. Assumes nothing.
use mathlib.Core.Path.{◌≡◌, ◌∙◌}
use mathlib.Core.List.{List, ◌++◌}
use Prim.Native.Nat.{ℕ, ◌+◌, ◌-◌, ◌*◌, ◌≤◌, ◌<◌}
use native.Mathlib.Omega.{arith}
use lib.ListN.{length, replicate, take, drop}
use borrow.Rule.Slice.PartMut.{put_mid, post_of}
use Rattle.std.proofs.lemmas.List.{get_or_append_left, get_or-append_right, get_or-take, get_or-replicate, length-take-le, length-replicate, length-append, length-drop}
use Rattle.records.specs.Words.{byte_at, word_at, records}
use Rattle.expressions.specs.Slots.{turn_at, visits_at, Forgets}

module _ (tree s₀ : List ℕ) (room : 72 * records tree ≤ length s₀) (k : ℕ) (whole : 64 * records tree + k ≡ 72 * records tree) where
  abbrev from : ℕ
  from = 64 * records tree

  abbrev cleared : List ℕ
  cleared = put_mid from k s₀ (replicate k 0)

  before_lem : length (take from s₀) ≡ from
  before_lem = length-take-le from s₀ (omega (arith, room))

  same : length cleared ≡ length s₀
  same =
      omega (
        arith,
        whole,
        room,
        before_lem,
        length-replicate {A = ℕ} k 0,
        length-append (take from s₀) (replicate k 0 ++ post_of from k s₀),
        length-append (replicate k 0) (post_of from k s₀),
        length-drop k (drop from s₀),
        length-drop from s₀,
      )

  below_lem : (j : ℕ) → j < from → byte_at cleared j ≡ byte_at s₀ j
  unfolding byte_at
  below_lem j h = get_or_append_left (take from s₀) (replicate k 0 ++ post_of from k s₀) 0 j (omega (arith, before_lem)) ∙ get_or-take from s₀ j 0 h

  zero_lem : (j : ℕ) → from ≤ j → j < 72 * records tree → byte_at cleared j ≡ 0
  unfolding byte_at
  zero_lem j a b =
      get_or-append_right (take from s₀) (replicate k 0 ++ post_of from k s₀) from j 0 before_lem a
      ∙ get_or_append_left (replicate k 0) (post_of from k s₀) 0 (j - from) (omega (arith, whole, length-replicate {A = ℕ} k 0))
      ∙ get_or-replicate k (j - from) 0 0 (omega (arith, whole))

  word-zero : (p : ℕ) → 64 * records tree ≤ p → p + 4 ≤ 72 * records tree → word_at cleared p ≡ 0
  unfolding word_at
  word-zero p a b =
      rw (zero_lem p a (omega arith), zero_lem (p + 1) (omega arith) (omega arith), zero_lem (p + 2) (omega arith) (omega arith), zero_lem (p + 3) (omega arith) (omega arith))

  part_lem : length (take k (drop from s₀)) ≡ k
  part_lem = length-take-le k (drop from s₀) (omega (arith, room, whole, length-drop from s₀))

  clear_lem : Forgets tree s₀ cleared
  unfolding turn_at visits_at
  clear_lem = record {
    same_length = same;
    below = below_lem;
    turns = λ e l. word-zero (64 * records tree + 4 * e) (omega arith) (omega arith);
    none_made = λ l. word-zero (68 * records tree) (omega arith) (omega arith);
  }

  pub forgotten : (ys : List ℕ) → ys ≡ replicate (length (take k (drop from s₀))) 0 → Forgets tree s₀ (put_mid from k s₀ ys)
  forgotten ys e = rw (e, part_lem) clear_lem
