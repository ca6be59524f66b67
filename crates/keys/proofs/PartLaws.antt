-- Parts of the text against bytes, and whether a part is Latin: what std's test of bytes shows of `is_ascii`.
-- By the laws of texts, one byte at a time. Assumes nothing.
use mathlib.Core.Path.{◌≡◌, refl, sym, ap, ◌∙◌}
use mathlib.Core.Bool.{Bool, true, false, and-false}
use mathlib.Core.List.{List, [], ◌∷◌}
use Prim.Native.Nat.{ℕ, zero, suc, ◌+◌, ◌≤◌, ◌<◌}
use native.Mathlib.Omega.{arith}
use lib.Dec.{eqb, ltb}
use lib.ListN.{length, drop, get_or}
use lib.Seq.{get_or-take, get_or-drop}
use borrow.Author.Tests.{lt-ltb, le-ltb, ne_eqb}
use Rattle.std.specs.Bool.{MatchBool}
use Rattle.std.specs.Str.{IsAscii, IsNotAscii}
use Rattle.records.specs.Words.{text_at}
use Rattle.conversion.specs.Ir.{same_text}
use Rattle.conversion.specs.Functions.{is_ascii}
use Rattle.records.proofs.TextLaws.{reach_whole, text-whole, other-lengths}

-- ---- a part of the text, and bytes

pub other-bytes : (t b : List ℕ) (o n : ℕ) → o + n ≤ length t → (n ≡ length b → ⊥) → eqb n (length b) ≡ same_text (text_at t o n) b
other-bytes t b o n k h = ne_eqb n (length b) h ∙ other-lengths (text_at t o n) b n (length b) (reach_whole t o n (omega arith)) refl h

pub whole-bytes : (t b : List ℕ) (o n : ℕ) (r : Bool) → n ≡ length b → r ≡ same_text (text_at t o n) (text_at b 0 n) → r ≡ same_text (text_at t o n) b
whole-bytes t b o n r e h = h ∙ ap (same_text (text_at t o n)) (text-whole b n e)

-- ---- a part of the text: whether it is Latin

-- what std's test answers of bytes
all-latin : (x : List ℕ) → IsAscii x → true ≡ is_ascii x
unfolding is_ascii
all-latin [] h = refl
all-latin (b ∷ x) h = rw (lt-ltb b 128 (h 0)) (all-latin x (λ i. h (suc i)))

first-is : (t : List ℕ) (o n : ℕ) → 0 < n → 128 ≤ get_or t o 0 → 128 ≤ get_or (text_at t o n) 0 0
unfolding text_at
first-is t o n h b =
    let z : o + 0 ≡ o = omega arith in
    rw (get_or-take n (drop o t) 0 0 h, get_or-drop o t 0 0, z) b

some-other : (x : List ℕ) (i : ℕ) → 128 ≤ get_or x i 0 → false ≡ is_ascii x
unfolding is_ascii
some-other [] i h = absurd (omega (arith, h))
some-other (b ∷ x) zero h = rw (le-ltb b 128 h) refl
some-other (b ∷ x) (suc i) h = rw (← some-other x i h) (sym (and-false (ltb b 128)))

-- the first byte of a part is not Latin
pub first_other : (t : List ℕ) (o n : ℕ) → 0 < n → o + n ≤ length t → 128 ≤ get_or t o 0 → false ≡ is_ascii (text_at t o n)
first_other t o n h k b = some-other (text_at t o n) 0 (first-is t o n h b)

pub latin_told : (x : List ℕ) (r : Bool) → MatchBool r (IsAscii x) (IsNotAscii x) → r ≡ is_ascii x
latin_told x true h = all-latin x h
latin_told x false h = some-other x h.0 h.1
