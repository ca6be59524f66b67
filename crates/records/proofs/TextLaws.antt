-- Texts: how long a text in the buffer is, and what a loop over two texts of one length shows of `same_text`.
-- By the laws of `take` and `drop`, one byte or one part at a time. Assumes nothing.
use mathlib.Core.Path.{◌≡◌, refl, sym, ap, ap₂, ◌∙◌}
use mathlib.Core.Bool.{Bool, true, false, ◌&&◌}
use mathlib.Core.List.{List, [], ◌∷◌}
use Prim.Native.Nat.{ℕ, zero, suc, ◌+◌, ◌-◌, ◌≤◌, ◌<◌, min}
use native.Mathlib.Nat.{zero-add, suc-add}
use native.Mathlib.Omega.{arith}
use lib.Dec.{eqb}
use lib.ListN.{length, take, drop, get_or, length-take, length-drop}
use lib.Seq.{drop-cons, take_all, take-nil, drop-drop}
use borrow.Author.Tests.{eq-eqb, ne_eqb}
use Rattle.laws.proofs.Tests.{and_right}
use Rattle.records.specs.Words.{text_at, same_text}

pub text-length : (t : List ℕ) (o n : ℕ) → length (text_at t o n) ≡ min n (length t - o)
unfolding text_at
text-length t o n = length-take n (drop o t) ∙ ap (min n) (length-drop o t)

min-left : (a b : ℕ) → a ≤ b → a ≡ min a b
min-left a b h = omega arith

pub reach_whole : (t : List ℕ) (o n : ℕ) → n ≤ length t - o → n ≡ length (text_at t o n)
reach_whole t o n h = min-left n (length t - o) h ∙ sym (text-length t o n)

-- a text that has bytes lies within the buffer
pub text-inside : (t : List ℕ) (o n x : ℕ) → x ≡ length (text_at t o n) → (x ≡ 0 → ⊥) → o + x ≤ length t
text-inside t o n x e h = omega (arith, e ∙ text-length t o n)

pub text-inside_too : (t : List ℕ) (o n x y : ℕ) → y ≡ length (text_at t o n) → x ≡ y → (x ≡ 0 → ⊥) → o + x ≤ length t
text-inside_too t o n x y e q h = text-inside t o n x (q ∙ e) h

-- a text is as many bytes of the buffer as it has
take-taken : (n : ℕ) (l : List ℕ) → take (length (take n l)) l ≡ take n l
take-taken zero l = refl
take-taken (suc n) [] = refl
take-taken (suc n) (x ∷ l) = ap (λ (r : List ℕ). x ∷ r) (take-taken n l)

pub text-taken : (t : List ℕ) (o n x : ℕ) → x ≡ length (text_at t o n) → text_at t o x ≡ text_at t o n
unfolding text_at
text-taken t o n x e = rw e (take-taken n (drop o t))

-- ---- a text is the same as itself

pub same_self : (t : List ℕ) → same_text t t ≡ true
unfolding same_text
same_self [] = refl
same_self (x ∷ t) = rw (eq-eqb x x refl) (same_self t)

pub same-texts : (a b : List ℕ) → a ≡ b → same_text a b ≡ true
same-texts a b e = rw e (same_self b)

-- ---- two texts of other lengths, of none, of one length

same-lengths : (a b : List ℕ) → same_text a b ≡ true → length a ≡ length b
unfolding same_text
same-lengths [] [] e = refl
same-lengths [] (y ∷ b) e = absurd (let z : ◌≡◌ {A = ℕ} 0 1 = cc in omega arith)
same-lengths (x ∷ a) [] e = absurd (let z : ◌≡◌ {A = ℕ} 0 1 = cc in omega arith)
same-lengths (x ∷ a) (y ∷ b) e = ap suc (same-lengths a b (and_right (eqb x y) (same_text a b) e))

pub other-lengths : (a b : List ℕ) (x y : ℕ) → x ≡ length a → y ≡ length b → (x ≡ y → ⊥) → false ≡ same_text a b
other-lengths a b x y ea eb h = by (same_text a b) refl
  where
    by : (r : Bool) → same_text a b ≡ r → false ≡ r
    by true e = absurd (h (ea ∙ same-lengths a b e ∙ sym eb))
    by false e = refl

pub no_lengths : (a b : List ℕ) (x y : ℕ) → x ≡ length a → y ≡ length b → x ≡ y → x ≡ 0 → true ≡ same_text a b
unfolding same_text
no_lengths [] [] x y ea eb e z = refl
no_lengths [] (v ∷ b) x y ea eb e z = absurd (omega arith)
no_lengths (u ∷ a) b x y ea eb e z = absurd (omega arith)

pub same_taken : (t : List ℕ) (a n b m x y : ℕ) (r : Bool) → x ≡ length (text_at t a n) → y ≡ length (text_at t b m) → x ≡ y
    → r ≡ same_text (text_at t a x) (text_at t b x) → r ≡ same_text (text_at t a n) (text_at t b m)
same_taken t a n b m x y r ex ey e q =
    q ∙ ap₂ same_text (text-taken t a n x ex) (text-taken t b m x (e ∙ ey))

-- the first byte of what is left from i on, and the rest
pub first_byte : (t : List ℕ) (o n i : ℕ) → i < n → o + n ≤ length t → text_at t (o + i) (n - i) ≡ get_or t (o + i) 0 ∷ text_at t (o + (i + 1)) (n - (i + 1))
unfolding text_at
first_byte t o n i h k =
    let e : n - i ≡ suc (n - (i + 1)) = omega arith in
    let d : drop (o + i) t ≡ get_or t (o + i) 0 ∷ drop (suc (o + i)) t = drop-cons t (o + i) 0 (omega arith) in
    let s : suc (o + i) ≡ o + (i + 1) = omega arith in
    rw (e, d, s) refl

-- a text that is its whole buffer
pub text-whole : (t : List ℕ) (n : ℕ) → n ≡ length t → text_at t 0 n ≡ t
unfolding text_at
text-whole t n e = take_all n t (omega (arith, e))

-- ---- two texts, part by part

and-and : (p q r : Bool) → (p && (q && r)) ≡ ((p && q) && r)
and-and true q r = refl
and-and false q r = refl

same_takes : (k m : ℕ) (x y : List ℕ)
    → same_text (take (k + m) x) (take (k + m) y) ≡ (same_text (take k x) (take k y) && same_text (take m (drop k x)) (take m (drop k y)))
unfolding same_text
same_takes zero m x y = rw (zero-add m) refl
same_takes (suc k) m [] [] = rw (take-nil m, take-nil (suc k + m)) refl
same_takes (suc k) m [] (y ∷ ys) = rw (suc-add k m) refl
same_takes (suc k) m (x ∷ xs) [] = rw (suc-add k m) refl
same_takes (suc k) m (x ∷ xs) (y ∷ ys) = rw (suc-add k m) (rw (same_takes k m xs ys) (and-and (eqb x y) _ _))

-- the first k bytes, and m behind them
pub same_split : (t u : List ℕ) (a b k m : ℕ)
    → same_text (text_at t a (k + m)) (text_at u b (k + m)) ≡ (same_text (text_at t a k) (text_at u b k) && same_text (text_at t (a + k) m) (text_at u (b + k) m))
unfolding text_at
same_split t u a b k m = same_takes k m (drop a t) (drop b u) ∙ rw (drop-drop k a t, drop-drop k b u) refl

-- k bytes, and m behind them, are n
pub same-joined : (t u : List ℕ) (i j k m n : ℕ) (p q : Bool) → n ≡ k + m → p ≡ same_text (text_at t i k) (text_at u j k)
    → q ≡ same_text (text_at t (i + k) m) (text_at u (j + k) m) → (p && q) ≡ same_text (text_at t i n) (text_at u j n)
same-joined t u i j k m n p q e ep eq = rw e (ap₂ ◌&&◌ ep eq ∙ sym (same_split t u i j k m))

-- where x is what is left of n bytes: k bytes more are the same, or not
module _ (t u : List ℕ) (i j n k : ℕ) (x r : Bool) (fit : k ≤ n) (e : r ≡ same_text (text_at t i k) (text_at u j k))
    (w : x ≡ same_text (text_at t i n) (text_at u j n)) where
  part : x ≡ (r && same_text (text_at t (i + k) (n - k)) (text_at u (j + k) (n - k)))
  part =
      let z : n ≡ k + (n - k) = omega arith in
      (rw z at w) ∙ same_split t u i j k (n - k) ∙ ap (λ (b : Bool). b && same_text (text_at t (i + k) (n - k)) (text_at u (j + k) (n - k))) (sym e)

  pub part-more : r ≡ true → x ≡ same_text (text_at t (i + k) (n - k)) (text_at u (j + k) (n - k))
  part-more y = part ∙ rw y refl

  pub part-other : r ≡ false → false ≡ x
  part-other y = sym (part ∙ rw y refl)

-- ---- two texts, byte by byte: what was asked equals what is left after k bytes, as far as there are so many

module _ (t u : List ℕ) (a b n : ℕ) where
  abbrev pub Same : ℕ → Type 0
  Same i = same_text (text_at t a n) (text_at u b n) ≡ same_text (text_at t (a + i) (n - i)) (text_at u (b + i) (n - i))

  pub byte_past : (k : ℕ) → n ≤ k → Same (min k n) → Same (min (k + 1) n)
  byte_past k h w = let z : min (k + 1) n ≡ min k n = omega arith in rw z w

  pub byte_last : (k : ℕ) → n ≤ k → Same (min k n) → true ≡ same_text (text_at t a n) (text_at u b n)
  unfolding same_text text_at
  byte_last k h w = let z : n - min k n ≡ 0 = omega arith in sym (w ∙ rw z refl)

  -- k bytes behind the first i are the same, or not
  pub same-on : (i k j : ℕ) (r : Bool) → j ≡ i + k → k ≤ n - i → r ≡ same_text (text_at t (a + i) k) (text_at u (b + i) k) → r ≡ true → Same i → Same j
  same-on i k j r ej h e y w =
      let za : a + i + k ≡ a + j = omega arith in
      let zb : b + i + k ≡ b + j = omega arith in
      let zn : n - i - k ≡ n - j = omega arith in
      part-more t u (a + i) (b + i) (n - i) k _ r h e w y ∙ rw (za, zb, zn) refl

  pub same-off : (i k : ℕ) (r : Bool) → k ≤ n - i → r ≡ same_text (text_at t (a + i) k) (text_at u (b + i) k) → r ≡ false → Same i
      → false ≡ same_text (text_at t a n) (text_at u b n)
  same-off i k r h e y w = part-other t u (a + i) (b + i) (n - i) k _ r h e w y

  pub same_met : (i j : ℕ) → j ≡ i → Same i → Same j
  same_met i j e w = rw e w

module _ (t u : List ℕ) (a b n k : ℕ) (ha : a + n ≤ length t) (hb : b + n ≤ length u) (h : k < n) (w : Same t u a b n (min k n)) where
  byte : same_text (text_at t a n) (text_at u b n)
      ≡ (eqb (get_or t (a + k) 0) (get_or u (b + k) 0) && same_text (text_at t (a + (k + 1)) (n - (k + 1))) (text_at u (b + (k + 1)) (n - (k + 1))))
  unfolding same_text
  byte = let z : min k n ≡ k = omega arith in (rw z at w) ∙ rw (first_byte t a n k h ha, first_byte u b n k h hb) refl

  pub byte_more : get_or t (a + k) 0 ≡ get_or u (b + k) 0 → Same t u a b n (min (k + 1) n)
  byte_more e = let z : min (k + 1) n ≡ k + 1 = omega arith in rw z (byte ∙ rw (eq-eqb (get_or t (a + k) 0) (get_or u (b + k) 0) e) refl)

  pub byte-other : (get_or t (a + k) 0 ≡ get_or u (b + k) 0 → ⊥) → false ≡ same_text (text_at t a n) (text_at u b n)
  byte-other e = sym (byte ∙ rw (ne_eqb (get_or t (a + k) 0) (get_or u (b + k) 0) e) refl)
