-- Four bytes compared as a word: two words of 32 bits are the same exactly if their four bytes are. Four bytes of the rest, each by itself.
-- A word's bytes are its digits, each below 256. Assumes nothing.
use mathlib.Core.Path.{◌≡◌, refl, sym, ap, ◌∙◌}
use mathlib.Core.Bool.{Bool, true, false, ◌&&◌}
use mathlib.Core.List.{List, [], ◌∷◌}
use Prim.Native.Nat.{ℕ, ◌+◌, ◌≤◌, ◌<◌}
use native.Mathlib.Omega.{arith}
use lib.Dec.{eqb}
use lib.ListN.{length}
use borrow.Author.Tests.{eqb-true, eqb-false}
use Rattle.laws.proofs.Tests.{tested}
use Rattle.records.specs.Words.{byte_at, word_at, text_at, same_text, word}
use Rattle.records.proofs.TextLaws.{first_byte, same-texts}
use Rattle.records.proofs.DigestLaws.{same-equal}
use Rattle.records.proofs.WordLaws.{word_head}

pub four_bytes : (t : List ℕ) (i : ℕ) → i + 4 ≤ length t → text_at t i 4 ≡ byte_at t i ∷ byte_at t (i + 1) ∷ byte_at t (i + 2) ∷ byte_at t (i + 3) ∷ []
unfolding text_at byte_at
four_bytes t i h =
    let z : i + 0 ≡ i = omega arith in
    rw z at (first_byte t i 4 0 (omega arith) h)
    ∙ rw (first_byte t i 4 1 (omega arith) h, first_byte t i 4 2 (omega arith) h, first_byte t i 4 3 (omega arith) h) refl

all_four : (p q r s : Bool) → (((p && q) && r) && s) ≡ (p && (q && (r && (s && true))))
all_four false q r s = refl
all_four true false r s = refl
all_four true true false s = refl
all_four true true true false = refl
all_four true true true true = refl

pub four_singly : (t u : List ℕ) (i j : ℕ) → i + 4 ≤ length t → j + 4 ≤ length u
    → (((eqb (byte_at t i) (byte_at u j) && eqb (byte_at t (i + 1)) (byte_at u (j + 1))) && eqb (byte_at t (i + 2)) (byte_at u (j + 2)))
    && eqb (byte_at t (i + 3)) (byte_at u (j + 3)))
    ≡ same_text (text_at t i 4) (text_at u j 4)
unfolding same_text
four_singly t u i j ht hu = rw (four_bytes t i ht, four_bytes u j hu) (all_four (eqb (byte_at t i) (byte_at u j)) (eqb (byte_at t (i + 1)) (byte_at u (j + 1))) (eqb (byte_at t (i + 2)) (byte_at u (j + 2))) (eqb (byte_at t (i + 3)) (byte_at u (j + 3))))

text-word : (t : List ℕ) (i : ℕ) → i + 4 ≤ length t → ((k : ℕ) → byte_at t k < 256) → text_at t i 4 ≡ word (word_at t i)
unfolding word_at
text-word t i h b = four_bytes t i h ∙ sym (word_head _ _ _ _ (b i) (b (i + 1)) (b (i + 2)) (b (i + 3)))

module _ (t u : List ℕ) (i j : ℕ) (ht : i + 4 ≤ length t) (hu : j + 4 ≤ length u) (bt : (k : ℕ) → byte_at t k < 256) (bu : (k : ℕ) → byte_at u k < 256) where
  digits : word_at t i ≡ word_at u j → text_at t i 4 ≡ text_at u j 4
  digits e = text-word t i ht bt ∙ ap word e ∙ sym (text-word u j hu bu)

  number : text_at t i 4 ≡ text_at u j 4 → word_at t i ≡ word_at u j
  unfolding word_at
  number e = cc (sym (four_bytes t i ht) ∙ e ∙ four_bytes u j hu)

  pub four_same : eqb (word_at t i) (word_at u j) ≡ same_text (text_at t i 4) (text_at u j 4)
  four_same =
      tested (eqb (word_at t i) (word_at u j))
      (λ e. e ∙ sym (same-texts _ _ (digits (eqb-true _ _ e))))
      (λ e.
      tested (same_text (text_at t i 4) (text_at u j 4))
      (λ y. absurd (eqb-false _ _ e (number (same-equal _ _ y))))
      (λ n. e ∙ sym n))
