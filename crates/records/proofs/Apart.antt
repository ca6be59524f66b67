-- A run of bytes written into a list: the bytes and words apart from it stay, those inside it are its own, and a word is read as it was written.
-- By the laws of `take` and `drop`, and byte for byte. Assumes nothing.
use mathlib.Core.Path.{◌≡◌, refl, sym, ap, ◌∙◌}
use mathlib.Core.Logic.{◌⊎◌, inl, inr}
use mathlib.Core.List.{List, [], ◌++◌}
use Prim.Native.Nat.{ℕ, ◌+◌, ◌-◌, ◌*◌, ◌/◌, ◌%◌, ◌^◌, ◌≤◌, ◌<◌}
use native.Mathlib.Omega.{arith}
use lib.ListN.{length, take, drop, get_or, length-append, get_or-append}
use lib.Seq.{get_or-take, get_or-drop, length-take-le}
use Rattle.laws.specs.Splice.{splice}
use Rattle.laws.proofs.Splices.{drop-splice, part-grown, part_element}
use Rattle.records.specs.Words.{byte_at, word_at}

-- two words are the same where their bytes are
pub word_same : (l : List ℕ) (p : ℕ) (r : List ℕ) (b : ℕ) → get_or l p 0 ≡ get_or r b 0 → get_or l (p + 1) 0 ≡ get_or r (b + 1) 0
    → get_or l (p + 2) 0 ≡ get_or r (b + 2) 0 → get_or l (p + 3) 0 ≡ get_or r (b + 3) 0 → word_at l p ≡ word_at r b
unfolding word_at byte_at
word_same l p r b e₀ e₁ e₂ e₃ = rw (e₀, e₁, e₂, e₃)

-- a word's four bytes make it again
pub word_back : (w : ℕ) → w < 2 ^ 32 → w % 256 + w / 256 % 256 * 256 + w / 256 / 256 % 256 * 65536 + w / 256 / 256 / 256 % 256 * 16777216 ≡ w
word_back w h = omega arith

module _ (l : List ℕ) (i : ℕ) (vs : List ℕ) (fit : i + length vs ≤ length l) where
  -- before the run, and behind it
  byte-before : (p : ℕ) → p < i → get_or (splice l i vs) p 0 ≡ get_or l p 0
  unfolding splice
  byte-before p k =
      let n : length (take i l) ≡ i = length-take-le i l (omega arith) in
      get_or-append (take i l ++ vs) (drop (i + length vs) l) 0 p (rw length-append (omega arith))
      ∙ get_or-append (take i l) vs 0 p (omega arith)
      ∙ get_or-take i l p 0 k

  byte-behind : (p : ℕ) → i + length vs ≤ p → get_or (splice l i vs) p 0 ≡ get_or l p 0
  byte-behind p k =
      let b : ℕ = i + length vs in
      let z : p ≡ b + (p - b) = omega arith in
      ap (λ (x : ℕ). get_or (splice l i vs) x 0) z
      ∙ sym (get_or-drop b (splice l i vs) (p - b) 0)
      ∙ ap (λ (x : List ℕ). get_or x (p - b) 0) (drop-splice l i vs fit)
      ∙ get_or-drop b l (p - b) 0
      ∙ ap (λ (x : ℕ). get_or l x 0) (sym z)

  pub byte-apart : (p : ℕ) → (p < i) ⊎ (i + length vs ≤ p) → get_or (splice l i vs) p 0 ≡ get_or l p 0
  byte-apart p (inl h) = byte-before p h
  byte-apart p (inr h) = byte-behind p h

  pub word-apart : (p : ℕ) → (p + 4 ≤ i) ⊎ (i + length vs ≤ p) → word_at (splice l i vs) p ≡ word_at l p
  word-apart p h =
      word_same (splice l i vs) p l p
      (byte-apart p (each h p (omega arith) (omega arith)))
      (byte-apart (p + 1) (each h (p + 1) (omega arith) (omega arith)))
      (byte-apart (p + 2) (each h (p + 2) (omega arith) (omega arith)))
      (byte-apart (p + 3) (each h (p + 3) (omega arith) (omega arith)))
    where
      each : (p + 4 ≤ i) ⊎ (i + length vs ≤ p) → (q : ℕ) → p ≤ q → q < p + 4 → (q < i) ⊎ (i + length vs ≤ q)
      each (inl k) q a b = inl (omega arith)
      each (inr k) q a b = inr (omega arith)

  -- inside the run
  byte-there : (j p : ℕ) → p ≡ i + j → j < length vs → get_or (splice l i vs) p 0 ≡ get_or vs j 0
  byte-there j p e h =
      ap (λ (q : ℕ). get_or (splice l i vs) q 0) e
      ∙ part_element (splice l i vs) i vs j (part-grown l i vs i [] fit (omega arith) refl) h

  pub word-there : (b p : ℕ) → p ≡ i + b → b + 4 ≤ length vs → word_at (splice l i vs) p ≡ word_at vs b
  word-there b p e h =
      word_same (splice l i vs) p vs b
      (byte-there b p e (omega arith))
      (byte-there (b + 1) (p + 1) (omega (arith, e)) (omega arith))
      (byte-there (b + 2) (p + 2) (omega (arith, e)) (omega arith))
      (byte-there (b + 3) (p + 3) (omega (arith, e)) (omega arith))
