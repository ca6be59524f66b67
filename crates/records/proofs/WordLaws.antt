-- Words as bytes: four stores are a word, words one behind the other are one run, and eight bytes are two words.
-- Each byte by arithmetic, the runs by the laws of `splice`. Assumes nothing.
use mathlib.Core.Path.{◌≡◌, refl, ap₂, ◌∙◌}
use mathlib.Core.List.{List, [], ◌∷◌, ◌++◌}
use Prim.Native.Nat.{ℕ, ◌+◌, ◌*◌, ◌/◌, ◌%◌, ◌≤◌, ◌<◌}
use native.Mathlib.Omega.{arith}
use lib.ListN.{length}
use Rattle.std.specs.Int.{w32, to_le_bytes}
use Rattle.laws.specs.Splice.{splice}
use Rattle.laws.proofs.Splices.{splice-splice}
use Rattle.records.specs.Words.{bytes_of, word, wide}

pub four : {a b c d a' b' c' d' : ℕ} → a ≡ a' → b ≡ b' → c ≡ c' → d ≡ d'
    → ◌≡◌ {A = List ℕ} (a ∷ b ∷ c ∷ d ∷ []) (a' ∷ b' ∷ c' ∷ d' ∷ [])
four p q r s = cc

pub word-length : (w : ℕ) → length (word w) ≡ 4
unfolding word bytes_of
word-length w = refl

-- the four bytes of a word
pub word_bytes : (v : ℕ) → to_le_bytes w32 v ≡ word v
unfolding word bytes_of
word_bytes v = four refl refl (omega arith) (omega arith)

-- four bytes in one word
pub word_head : (k o a b : ℕ) → k < 256 → o < 256 → a < 256 → b < 256 → word (k + o * 256 + a * 65536 + b * 16777216) ≡ k ∷ o ∷ a ∷ b ∷ []
unfolding word bytes_of
word_head k o a b hk ho ha hb = four (omega arith) (omega arith) (omega arith) (omega arith)

-- eight bytes, the lower word first
pub wide-words : (w : ℕ) → wide w ≡ word (w % 4294967296) ++ word (w / 4294967296)
unfolding word wide bytes_of
wide-words w =
    ap₂ (λ (x y : List ℕ). x ++ y)
    (four (omega arith) (omega arith) (omega arith) (omega arith))
    (four (omega arith) (omega arith) (omega arith) (omega arith))

-- two runs, the second where the first ends
pub put_two : (l l₁ l₂ : List ℕ) (at j : ℕ) (vs ws : List ℕ) → at + length vs + length ws ≤ length l → j ≡ at + length vs
    → l₁ ≡ splice l at vs → l₂ ≡ splice l₁ j ws → l₂ ≡ splice l at (vs ++ ws)
put_two l l₁ l₂ at j vs ws room e e₁ e₂ = e₂ ∙ rw e₁ (splice-splice l at j vs ws e room)

pub put_pair : (l l₁ l₂ : List ℕ) (at a b : ℕ) → at + 8 ≤ length l → l₁ ≡ splice l at (word a) → l₂ ≡ splice l₁ (at + 4) (word b)
    → l₂ ≡ splice l at (word a ++ word b)
unfolding word bytes_of
put_pair l l₁ l₂ at a b room e₁ e₂ = put_two l l₁ l₂ at (at + 4) (word a) (word b) (omega arith) refl e₁ e₂

pub put_four : (l l₁ l₂ : List ℕ) (at a b c d : ℕ) → at + 16 ≤ length l → l₁ ≡ splice l at (word a ++ word b)
    → l₂ ≡ splice l₁ (at + 8) (word c ++ word d) → l₂ ≡ splice l at (word a ++ word b ++ word c ++ word d)
unfolding word bytes_of
put_four l l₁ l₂ at a b c d room e₁ e₂ = put_two l l₁ l₂ at (at + 8) (word a ++ word b) (word c ++ word d) (omega arith) refl e₁ e₂

pub put_eight : (l l₁ l₂ : List ℕ) (at a b c d e f g h : ℕ) → at + 32 ≤ length l → l₁ ≡ splice l at (word a ++ word b ++ word c ++ word d)
    → l₂ ≡ splice l₁ (at + 16) (word e ++ word f ++ word g ++ word h)
    → l₂ ≡ splice l at (word a ++ word b ++ word c ++ word d ++ word e ++ word f ++ word g ++ word h)
unfolding word bytes_of
put_eight l l₁ l₂ at a b c d e f g h room e₁ e₂ =
    put_two l l₁ l₂ at (at + 16) (word a ++ word b ++ word c ++ word d) (word e ++ word f ++ word g ++ word h) (omega arith) refl e₁ e₂
