-- A table of entries of any size: how long it is, what a write before, behind or at its end leaves of it, and its entries' words read back.
-- By the laws of `splice`, and by recursion over the entries. Assumes nothing.
use mathlib.Core.Path.{◌≡◌, refl, sym, ap, ◌∙◌}
use mathlib.Core.List.{List, [], ◌∷◌, ◌++◌, append-nil, append_assoc}
use Prim.Native.Nat.{ℕ, zero, suc, ◌+◌, ◌*◌, ◌^◌, ◌≤◌, ◌<◌}
use native.Mathlib.Nat.{mul-suc}
use native.Mathlib.Omega.{arith}
use lib.ListN.{length, get_or, length-append, get_or-append}
use lib.Seq.{get_or-append-add}
use Rattle.laws.specs.Splice.{splice}
use Rattle.laws.proofs.Splices.{length-splice, part-before, part-behind, part-grown, part_element}
use Rattle.records.specs.Words.{byte_at, word_at}
use Rattle.records.proofs.Apart.{word_back, word_same, word-there}
use Rattle.conversion.specs.Written.{bytes_of, word, encode_all}
use Rattle.ir.specs.Arena.{Has, Table}

-- ---- bytes at a place

module _ (l : List ℕ) (i : ℕ) (vs : List ℕ) (l' : List ℕ) (e : l' ≡ splice l i vs) (fit : i + length vs ≤ length l) where
  pub written-length : length l' ≡ length l
  written-length = ap length e ∙ length-splice l i vs fit

  pub has-before : (at : ℕ) (bs : List ℕ) → at + length bs ≤ i → Has l at bs → Has l' at bs
  has-before at bs h w = record { is = rw e (part-before l i vs at (length bs) fit h ∙ w.is) }

  pub has-behind : (at : ℕ) (bs : List ℕ) → i + length vs ≤ at → Has l at bs → Has l' at bs
  has-behind at bs h w = record { is = rw e (part-behind l i vs at (length bs) fit h ∙ w.is) }

  pub has-grown : (at : ℕ) (bs : List ℕ) → i ≡ at + length bs → Has l at bs → Has l' at (bs ++ vs)
  has-grown at bs h w = record { is = rw e (part-grown l i vs at bs fit h w.is) }

-- a word that was written
pub written-word : (w : ℕ) (l l' : List ℕ) (i : ℕ) → l' ≡ splice l i (word w) → i + 4 ≤ length l → w < 2 ^ 32 → word_at l' i ≡ w
unfolding word bytes_of word_at byte_at
written-word w l l' i e fit small =
    ap (λ (r : List ℕ). word_at r i) e ∙ word-there l i (word w) fit 0 i (omega arith) (omega arith) ∙ word_back w small

-- ---- entries

pub encode_append : {X : Type 0} (f : X → List ℕ) (xs ys : List X) → encode_all f (xs ++ ys) ≡ encode_all f xs ++ encode_all f ys
unfolding encode_all
encode_append f [] ys = refl
encode_append f (x ∷ xs) ys = rw (encode_append f xs ys) (sym (append_assoc (f x) (encode_all f xs) (encode_all f ys)))

encode_one : {X : Type 0} (f : X → List ℕ) (xs : List X) (x : X) → encode_all f (xs ++ (x ∷ [])) ≡ encode_all f xs ++ f x
unfolding encode_all
encode_one f xs x = encode_append f xs (x ∷ []) ∙ ap (λ (r : List ℕ). encode_all f xs ++ r) (append-nil (f x))

encode_length : {X : Type 0} (f : X → List ℕ) (w : ℕ) → ((x : X) → length (f x) ≡ w) → (xs : List X) → length (encode_all f xs) ≡ w * length xs
unfolding encode_all
encode_length f w h [] = omega arith
encode_length f w h (x ∷ xs) =
    length-append (f x) (encode_all f xs) ∙ rw (h x, encode_length f w h xs, mul-suc) (omega arith)

-- byte b of entry m
encode_byte : {X : Type 0} (f : X → List ℕ) (w : ℕ) → ((x : X) → length (f x) ≡ w) → (d : X) (xs : List X) (m b : ℕ) → m < length xs → b < w
    → get_or (encode_all f xs) (w * m + b) 0 ≡ get_or (f (get_or xs m d)) b 0
unfolding encode_all
encode_byte f w h d [] m b hm hb = absurd (omega arith)
encode_byte f w h d (x ∷ xs) zero b hm hb =
    let z : w * 0 + b ≡ b = omega arith in
    rw z (get_or-append (f x) (encode_all f xs) 0 b (rw (h x) hb))
encode_byte f w h d (x ∷ xs) (suc m) b hm hb =
    let z : w * suc m + b ≡ length (f x) + (w * m + b) = rw (mul-suc, h x) (omega arith) in
    rw z (get_or-append-add (f x) (encode_all f xs) (w * m + b) 0 ∙ encode_byte f w h d xs m b (omega arith) hb)

-- a place in entry m of k is below the end
below_product : (w m b k : ℕ) → b < w → m < k → w * m + b < w * k
below_product w m b zero hb h = absurd (omega arith)
below_product w zero b (suc k) hb h = rw mul-suc (omega arith)
below_product w (suc m) b (suc k) hb h = rw (mul-suc w m, mul-suc w k) (omega (arith, below_product w m b k hb (omega arith)))

module _ {X : Type 0} {f : X → List ℕ} {w : ℕ} {xs : List X} {at n : ℕ} {l : List ℕ} (t : Table f w xs at n l) where
  pub bytes-length : length (encode_all f xs) ≡ w * n
  bytes-length = encode_length f w t.width xs ∙ ap (λ (m : ℕ). w * m) (sym t.count)

  -- what a write outside leaves, and a write at its end
  pub table_before : (i : ℕ) (vs : List ℕ) (l' : List ℕ) → l' ≡ splice l i vs → i + length vs ≤ length l → at + w * n ≤ i → Table f w xs at n l'
  table_before i vs l' e fit h = record {
    bytes = has-before l i vs l' e fit at (encode_all f xs) (rw bytes-length h) t.bytes;
    width = t.width;
    count = t.count;
  }

  pub table-behind : (i : ℕ) (vs : List ℕ) (l' : List ℕ) → l' ≡ splice l i vs → i + length vs ≤ length l → i + length vs ≤ at → Table f w xs at n l'
  table-behind i vs l' e fit h = record {
    bytes = has-behind l i vs l' e fit at (encode_all f xs) h t.bytes;
    width = t.width;
    count = t.count;
  }

  pub table-grown : (x : X) (i : ℕ) (l' : List ℕ) → l' ≡ splice l i (f x) → i + length (f x) ≤ length l → i ≡ at + w * n
      → Table f w (xs ++ (x ∷ [])) at (n + 1) l'
  table-grown x i l' e fit h = record {
    bytes = rw (encode_one f xs x) (has-grown l i (f x) l' e fit at (encode_all f xs) (rw bytes-length h) t.bytes);
    width = t.width;
    count = simp length-append (omega (arith, t.count));
  }

  -- ---- read back

  table-byte : (d : X) (m b p : ℕ) → m < n → b < w → p ≡ at + (w * m + b) → get_or l p 0 ≡ get_or (f (get_or xs m d)) b 0
  table-byte d m b p hm hb e =
      ap (λ (q : ℕ). get_or l q 0) e
      ∙ part_element l at (encode_all f xs) (w * m + b) t.bytes.is
      (rw (encode_length f w t.width xs) (below_product w m b (length xs) hb (omega (arith, t.count))))
      ∙ encode_byte f w t.width d xs m b (omega (arith, t.count)) hb

  pub table-word : (d : X) (m b p : ℕ) → m < n → b + 4 ≤ w → p ≡ at + (w * m + b) → word_at l p ≡ word_at (f (get_or xs m d)) b
  table-word d m b p hm hb e =
      word_same l p (f (get_or xs m d)) b
      (table-byte d m b p hm (omega arith) e)
      (table-byte d m (b + 1) (p + 1) hm (omega arith) (omega (arith, e)))
      (table-byte d m (b + 2) (p + 2) hm (omega arith) (omega (arith, e)))
      (table-byte d m (b + 3) (p + 3) hm (omega arith) (omega (arith, e)))
